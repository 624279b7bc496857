-- A cell's value is decided on as it is said, for lent columns of any kind. Assumes nothing.
use Prim.Native.Nat.{ℕ}
use mathlib.Core.Path.{refl}
use mathlib.Core.Bool.{Bool, true, false, cond}
use mathlib.Core.List.{List}
use lib.Dec.{eqb}
use lib.Ieee.{binary64, of_bits}
use Rattle.model.specs.declared.CellValue.{CellValue}
use Rattle.model.specs.Sheet.{text_at, value_of}
use Rattle.jobtext.specs.Written.{Value}
use Rattle.jobtext.specs.Said.{value_said, Means}

pub seen_as_said : (pool : List ℕ) (kind bits at len : ℕ) → Means pool (value_said pool kind bits at len) (value_of kind bits at len)
unfolding value_said value_of
seen_as_said pool kind bits at len = by (eqb kind 1) (eqb kind 2) (eqb kind 3) (eqb kind 4)
  where
    -- by the tests on the kind
    by : (number date text bool : Bool)
        → Means pool
        (cond number (Value.number bits)
        (cond date (Value.date bits)
        (cond text (Value.text (text_at pool (record { at = at; len = len }))) (cond bool (Value.bool (eqb len 1)) Value.error))))
        (cond number (CellValue.Number (of_bits binary64 bits))
        (cond date (CellValue.Date (of_bits binary64 bits))
        (cond text (CellValue.Text (record { at = at; len = len })) (cond bool (CellValue.Bool (eqb len 1)) CellValue.Error))))
    by true date text bool = refl
    by false true text bool = refl
    by false false true bool = record { span = record { at = at; len = len }; is = refl; bytes = refl }
    by false false false true = refl
    by false false false false = refl
