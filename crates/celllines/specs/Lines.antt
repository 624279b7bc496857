-- What the readers of cell lines answer for each result of the grammar, and what they leave in the columns and in the pool.
-- Assumes nothing.
use Rattle.std.specs.Prelude.{ℕ, ◌+◌, ◌≤◌, List, ◌≡◌, length, Result, Ok, Err}
use Rattle.std.proofs.lemmas.List.Edits.{sets}
use Rattle.grammar.specs.Gram.{Got}
use Rattle.grammar.specs.Gram.Got.{got, bad}
use Rattle.jobtext.specs.Written.{Value, CellLine}
use Rattle.jobtext.specs.Laid.{value_bytes, kind_of, num_of, at_of, len_of}
use Rattle.fields.specs.declared.Malformed.{Malformed}
use Rattle.celllines.specs.declared.ReadValue.{ReadValue}
use Rattle.celllines.specs.declared.ReadCell.{ReadCell}

-- a value whose text, if it has one, goes to u in the pool
abbrev pub value_of : ℕ → Got Value → Result ReadValue Malformed
value_of u (got v q) =
    Ok (record { kind = kind_of v; num = num_of v; at = at_of u v; len = len_of v; next = q; used = u + length (value_bytes v) })
value_of u (bad p) = Err (record { at = p })

-- a pool with bytes at u, where they fit; nothing is said of it where they do not
abbrev pub Stored : List ℕ → ℕ → List ℕ → List ℕ → Type 0
Stored pool u bs after = u + length bs ≤ length pool → after ≡ sets pool u bs

abbrev pub ValueStored : Got Value → ℕ → List ℕ → List ℕ → Type 0
ValueStored (got v q) u pool after = Stored pool u (value_bytes v) after
ValueStored (bad p) u pool after = Unit {0}

abbrev pub cell_of : ℕ → Got CellLine → Result ReadCell Malformed
cell_of u (got c q) =
    Ok (record {
      row = c.row;
      col = c.col;
      kind = kind_of c.value;
      wraps = c.wraps;
      num = num_of c.value;
      at = at_of u c.value;
      len = len_of c.value;
      next = q;
      used = u + length (value_bytes c.value);
    })
cell_of u (bad p) = Err (record { at = p })

abbrev pub CellStored : Got CellLine → ℕ → List ℕ → List ℕ → Type 0
CellStored (got c q) u pool after = Stored pool u (value_bytes c.value) after
CellStored (bad p) u pool after = Unit {0}
