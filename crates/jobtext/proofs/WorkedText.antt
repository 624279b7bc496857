-- The worked text of document 01, computed on the definition: the job that it says, its text again, and the job as it is lent.
-- Assumes nothing.
use Rattle.std.specs.Prelude.{Some, None}
use Prim.Native.Nat.{ℕ}
use Prim.Native.String.{String}
use mathlib.Core.Path.{◌≡◌, refl}
use mathlib.Core.Bool.{true, false}
use mathlib.Core.List.{List, [], ◌∷◌, ◌++◌}
use Rattle.model.specs.declared.CellCoordinate.{CellCoordinate}
use Rattle.model.specs.declared.Range.{Range}
use Rattle.grammar.specs.Parts.{bytes}
use Rattle.jobtext.specs.Written.{Value, CellLine, Kind, JobText}
use Rattle.jobtext.specs.Text.{job}
use Rattle.jobtext.specs.Read.{ReadResult, read}
use Rattle.jobtext.proofs.Computing.{reading}

-- the bytes of some lines, each with its LF
unfoldable pub lines : List String → List ℕ
lines [] = []
lines (l ∷ ls) = bytes l ++ (10 ∷ lines ls)

-- the worked text with a second line
unfoldable pub worked_with : String → List ℕ
worked_with second =
    lines ("limit start cells regions rules name"
    ∷ second
    ∷ "row col wraps value"
    ∷ "0 0 0 n3ff0000000000000"
    ∷ "1 0 0 n4000000000000000"
    ∷ "2 0 0 n4008000000000000"
    ∷ "row col"
    ∷ "0 0"
    ∷ "1 0"
    ∷ "2 0"
    ∷ "top left bottom right priority stop imported rule p1 p2 p3 p4"
    ∷ "0 0 2 0 - 0 0 bar 00ff00 - - -"
    ∷ "0 0 2 0 0 1 0 mean above - - ff0000"
    ∷ [])

unfoldable pub worked_text : List ℕ
worked_text = worked_with "100 0 3 3 2 t53"

abbrev number_at : ℕ → ℕ → CellLine
number_at row bits = record { row = row; col = 0; wraps = 0; value = Value.number bits }

abbrev at : ℕ → CellCoordinate
at row = record { row = row; col = 0 }

abbrev up_to2 : Range
up_to2 = record { top = 0; left = 0; bottom = 2; right = 0 }

abbrev worked : JobText
worked =
    record {
      limit = 100;
      start = 0;
      name = 0x53 ∷ [];
      cells = number_at 0 0x3ff0000000000000 ∷ number_at 1 0x4000000000000000 ∷ number_at 2 0x4008000000000000 ∷ [];
      regions = at 0 ∷ at 1 ∷ at 2 ∷ [];
      rules =
          record {
            range = up_to2;
            priority = None;
            stop = false;
            imported = false;
            kind = Kind.bar (record { red = 0; green = 255; blue = 0 });
          }
          ∷ record {
            range = up_to2;
            priority = Some 0;
            stop = true;
            imported = false;
            kind = Kind.mean false (record { red = 255; green = 0; blue = 0 });
          }
          ∷ [];
    }

worked_read : read worked_text ≡ ReadResult.is worked
unfolding reading lines worked_text worked_with
worked_read = refl

worked_written : job.text worked ≡ worked_text
unfolding reading lines worked_text worked_with
worked_written = refl
