-- The number of a cell as a float, told from the entries of its columns: by the kind, the wraps and the exponent's field of the bits.
-- Assumes nothing.
use Rattle.std.specs.Prelude.{Some, None}
use Prim.Native.Nat.{ℕ, zero, suc, ◌+◌, ◌/◌, ◌%◌}
use mathlib.Core.Path.{◌≡◌, refl, sym, ap, ◌∙◌}
use mathlib.Core.Bool.{Bool, true, false, cond, not, ◌&&◌, ◌||◌, false≢true}
use lib.Dec.{T, leb, eqb}
use lib.Ieee.{Float, nan, inf, binary64, prec, low, odd, hid, top, of_fields, of_bits, nan_bits}
use Rattle.model.specs.declared.CellValue.{CellValue}
use Rattle.model.specs.declared.Span.{Span}
use Rattle.model.specs.Sheet.{value_of}
use Rattle.model.specs.Readings.{finite, numeric_value, numeric_cell_value}
use Rattle.hits.specs.Said.{as_float}
use Rattle.call.specs.Tables.{cell_of}

-- ---- which bits are those of a finite number

odd_finite : (d : ℕ) (s : Bool) (q k l : ℕ) → finite (odd d s q k l) ≡ true
unfolding odd finite
odd_finite d s zero k l = refl
odd_finite d s (suc q) k l = refl

fields_finite : (a b s : Bool) (x : Float) → finite x ≡ true → finite (cond a (cond b (inf s) nan) x) ≡ not a
unfolding finite
fields_finite true true s x h = refl
fields_finite true false s x h = refl
fields_finite false b s x h = h

of_fields_finite : (s : Bool) (x t : ℕ) → finite (of_fields binary64 s x t) ≡ not (eqb x 2047)
unfolding of_fields
of_fields_finite s zero t = odd_finite (prec binary64) s t 0 (low binary64)
of_fields_finite s (suc x) t =
    fields_finite (eqb (suc x) 2047) (eqb t 0) s _ (odd_finite (prec binary64) s (hid binary64 + t) x (low binary64))

abbrev exponent : ℕ → ℕ
exponent bits = bits % 0x8000_0000_0000_0000 / 0x10_0000_0000_0000

bits_finite : (bits : ℕ) → finite (of_bits binary64 bits) ≡ not (eqb (exponent bits) 2047)
unfolding of_bits
bits_finite bits = of_fields_finite (leb (top binary64) bits) (exponent bits) (bits % hid binary64)

-- ---- the number of a cell

counted : (b : Bool) (x : Float) → as_float (cond b (Some x) None) ≡ cond b x nan
unfolding as_float
counted true x = refl
counted false x = refl

by_kind : (one two three four w b : Bool) (x : Float) (t : Span)
    → as_float (cond w
    (numeric_value
    (cond one (CellValue.Number x)
    (cond two (CellValue.Date x) (cond three (CellValue.Text t) (cond four (CellValue.Bool b) CellValue.Error)))))
    None)
    ≡ cond (((one || two) && w) && finite x) x nan
unfolding numeric_value as_float
by_kind true two three four true b x t = counted (finite x) x
by_kind true two three four false b x t = refl
by_kind false true three four true b x t = counted (finite x) x
by_kind false true three four false b x t = refl
by_kind false false true four true b x t = refl
by_kind false false false true true b x t = refl
by_kind false false false false true b x t = refl
by_kind false false three four false b x t = refl

module _ (kind wraps bits : ℕ) where
  -- whether the cell has a number
  abbrev counts : Bool
  counts = ((eqb kind 1 || eqb kind 2) && leb wraps 64) && not (eqb (exponent bits) 2047)

  -- the bits are then not those of a not-a-number
  pub bits_number : counts ≡ true → T (not (nan_bits binary64 bits))
  unfolding nan_bits
  bits_number h = go ((eqb kind 1 || eqb kind 2) && leb wraps 64) (eqb (exponent bits) 2047) _ h
    where
      go : (a b c : Bool) → a && not b ≡ true → T (not (b && c))
      go true true c e = absurd (false≢true e)
      go false true c e = absurd (false≢true e)
      go a false c e = tt

  module _ (at len : ℕ) where
    number_told : as_float (numeric_cell_value (cell_of kind wraps bits at len)) ≡ cond counts (of_bits binary64 bits) nan
    unfolding numeric_cell_value value_of
    number_told =
        rw (← bits_finite bits) (by_kind (eqb kind 1) (eqb kind 2) (eqb kind 3) (eqb kind 4) (leb wraps 64) (eqb len 1) (of_bits binary64 bits) _)

    pub number_there : counts ≡ true → of_bits binary64 bits ≡ as_float (numeric_cell_value (cell_of kind wraps bits at len))
    number_there h = sym (number_told ∙ ap (λ b. cond b (of_bits binary64 bits) nan) h)

    pub number_lacking : counts ≡ false → nan ≡ as_float (numeric_cell_value (cell_of kind wraps bits at len))
    number_lacking h = sym (number_told ∙ ap (λ b. cond b (of_bits binary64 bits) nan) h)
