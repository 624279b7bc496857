-- What the readers of the first two lines answer for each result of the grammar, and what the sheet's name leaves in the pool.
-- Assumes nothing.
use Rattle.std.specs.Prelude.{ℕ, true, List, length, replicate, Result, Ok, Err}
use Rattle.memory.specs.Memory.{fits, page_of}
use Rattle.grammar.specs.Gram.{Got, Gram}
use Rattle.grammar.specs.Gram.Got.{got, bad}
use Rattle.grammar.specs.Parts.{both}
use Rattle.jobtext.specs.Fields.{count}
use Rattle.jobtext.specs.Text.{Head}
use Rattle.fields.specs.declared.Malformed.{Malformed}
use Rattle.headlines.specs.declared.Counts.{Counts}
use Rattle.headlines.specs.declared.ReadHead.{ReadHead}

-- the five numbers of the second line
abbrev pub counts_t : Type 0
counts_t = ℕ × (ℕ × (ℕ × (ℕ × ℕ)))

unfoldable pub counts : Gram counts_t
counts = both count (both count (both count (both count count)))

abbrev pub counts_of : Got counts_t → Result Counts Malformed
counts_of (got x q) =
    Ok (record {
      limit = x.0;
      start = x.1.0;
      cells = x.1.1.0;
      regions = x.1.1.1.0;
      rules = x.1.1.1.1;
      next = q;
    })
counts_of (bad p) = Err (record { at = p })

-- the name is told by its length: its bytes go to a pool of some size
abbrev pub head_of : Got Head → ℕ → Result ReadHead Malformed
head_of (got h q) size =
    Ok (record {
      fits = fits size 0 (length h.name);
      limit = h.limit;
      start = h.start;
      cells = h.cells;
      regions = h.regions;
      rules = h.rules;
      name = length h.name;
      next = q;
    })
head_of (bad p) size = Err (record { at = p })

-- the pool holds the name alone, or zeros from end to end
abbrev pub head_pooled : Got Head → ℕ → List ℕ
head_pooled (got h q) size = page_of true size h.name
head_pooled (bad p) size = replicate size 0
