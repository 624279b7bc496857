-- The definitions computed, on bytes one short, exact and longer; and without a text. Assumes nothing.
use Rattle.a1writer.specs.declared.WriteError.{WriteError}
use Rattle.std.specs.Prelude.{Ok, Err}
use mathlib.Core.Path.{◌≡◌, refl}
use mathlib.Core.List.{[], ◌∷◌}
use mathlib.Core.Option.{none, some}
use Rattle.memory.specs.Memory.{all_or, page}
use Rattle.model.specs.Answer.{refusal}
use Rattle.a1writer.specs.Answers.{write_answer, write_bytes, summary_of}

-- the text A1
short : (write_answer (some (65 ∷ 49 ∷ [])) 1 ≡ Err WriteError.TextTooLong) × (write_bytes (some (65 ∷ 49 ∷ [])) 1 ≡ 0 ∷ [])
unfolding all_or page write_answer write_bytes
short = (refl, refl)

exact : (write_answer (some (65 ∷ 49 ∷ [])) 2 ≡ Ok 2) × (write_bytes (some (65 ∷ 49 ∷ [])) 2 ≡ 65 ∷ 49 ∷ [])
unfolding all_or page write_answer write_bytes
exact = (refl, refl)

longer : (write_answer (some (65 ∷ 49 ∷ [])) 3 ≡ Ok 2) × (write_bytes (some (65 ∷ 49 ∷ [])) 3 ≡ 65 ∷ 49 ∷ 0 ∷ [])
unfolding all_or page write_answer write_bytes
longer = (refl, refl)

no_text : (write_answer none 2 ≡ Err WriteError.NoReference) × (write_bytes none 2 ≡ 0 ∷ 0 ∷ [])
unfolding write_answer write_bytes
no_text = (refl, refl)

numbers : (summary_of (Err WriteError.NoReference) ≡ refusal 14 0 0 0) × (summary_of (Err WriteError.TextTooLong) ≡ refusal 15 0 0 0)
unfolding summary_of
numbers = (refl, refl)
