-- The section of rules computed: two rules with names of two bytes and of one, over a pool that is one byte short, exact and longer; and a
-- malformed section. Assumes nothing.
use Rattle.std.specs.Prelude.{None, Result, Ok, Err}
use Prim.Native.Nat.{ℕ}
use mathlib.Core.Path.{◌≡◌, refl}
use mathlib.Core.Bool.{Bool, true, false}
use mathlib.Core.List.{List, [], ◌∷◌}
use mathlib.Core.Option.{some}
use Rattle.memory.specs.Memory.{all_or}
use Rattle.model.specs.declared.DvOp.{DvOp}
use Rattle.model.specs.declared.Rgb.{Rgb}
use Rattle.grammar.specs.Gram.{Got}
use Rattle.grammar.specs.Gram.Got.{got, bad}
use Rattle.fields.specs.declared.Malformed.{Malformed}
use Rattle.jobtext.specs.Written.{Operand, Kind, RuleLine}
use Rattle.jobtext.specs.Laid.{name_bytes, operand_bytes, kind_bytes, rule_bytes}
use Rattle.rulelines.specs.declared.RuleSection.{RuleSection}
use Rattle.rulelines.specs.RuleSections.{section_of, pool_after}

abbrev black : Rgb
black = record { red = 0; green = 0; blue = 0 }

-- a cell above that of the sheet with this name
abbrev named : List ℕ → RuleLine
named bs =
    record {
      range = record { top = 0; left = 0; bottom = 9; right = 0 };
      priority = None;
      stop = false;
      imported = false;
      kind = Kind.cell_is DvOp.GreaterThan
          (Operand.reference (record { name = some bs; row = 0; col = 0; row_absolute = false; col_absolute = false })) Operand.unread black;
    }

abbrev lines : Got (List RuleLine)
lines = got (named (65 ∷ 66 ∷ []) ∷ named (67 ∷ []) ∷ []) 80

-- the pool had one byte in it, which stays where the names fit
abbrev over : List ℕ → List ℕ
over pool = pool_after 1 lines pool

abbrev fits : Result RuleSection Malformed → Bool
fits (Ok t) = t.fits
fits (Err e) = false

abbrev used_to : Result RuleSection Malformed → ℕ
used_to (Ok t) = t.used
used_to (Err e) = 0

abbrev fits_in : ℕ → Bool
fits_in size = fits (section_of 1 size lines)

short : (over (49 ∷ 7 ∷ 7 ∷ []) ≡ 0 ∷ 0 ∷ 0 ∷ []) × (fits_in 3 ≡ false)
unfolding all_or rule_bytes kind_bytes operand_bytes name_bytes
short = (refl, refl)

exact : (over (49 ∷ 7 ∷ 7 ∷ 7 ∷ []) ≡ 49 ∷ 65 ∷ 66 ∷ 67 ∷ []) × (fits_in 4 ≡ true)
unfolding all_or rule_bytes kind_bytes operand_bytes name_bytes
exact = (refl, refl)

longer : (over (49 ∷ 7 ∷ 7 ∷ 7 ∷ 7 ∷ []) ≡ 49 ∷ 65 ∷ 66 ∷ 67 ∷ 7 ∷ []) × (fits_in 5 ≡ true)
unfolding all_or rule_bytes kind_bytes operand_bytes name_bytes
longer = (refl, refl)

-- up to where the pool is used is told in each case
used : (used_to (section_of 1 3 lines) ≡ 4) × (used_to (section_of 1 5 lines) ≡ 4)
unfolding rule_bytes kind_bytes operand_bytes name_bytes
used = (refl, refl)

malformed : (pool_after 1 (bad 12) (49 ∷ 7 ∷ []) ≡ 0 ∷ 0 ∷ []) × (section_of 1 2 (bad 12) ≡ Err (record { at = 12 }))
malformed = (refl, refl)
