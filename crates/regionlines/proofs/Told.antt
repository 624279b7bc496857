-- What the answers of the readers below say of the grammar, for the search. Assumes nothing.
use Rattle.fields.proofs.Laws.{field_got, field_bad, word_got, word_bad, either_got, either_bad, error_left, word_byte}
use Rattle.fields.proofs.Bounds.{decimal_small}

pub ruleset reads = (field_got, field_bad, word_got, word_bad, either_got, either_bad, error_left, word_byte, decimal_small)
