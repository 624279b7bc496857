-- The numbers of a range are its values, where one cell stands at a coordinate: so the least and the greatest value are the range's least
-- and greatest number, and a ratio between these is one between any such. Assumes nothing.
use Rattle.std.specs.Prelude.{Some, None}
use Prim.Native.Nat.{ℕ, zero, suc}
use mathlib.Core.Path.{◌≡◌, refl, sym, ap, ◌∙◌, subst}
use mathlib.Core.Bool.{Bool, true, false, cond, not}
use mathlib.Core.List.Memᴰ
use mathlib.Core.List.{List, [], ◌∷◌, Mem, Memᴰ}
use mathlib.Core.Logic.{◌⊎◌, inl, inr}
use mathlib.Core.Option.{some}
use lib.Dec.{T, leb, eqb}
use lib.Ieee.{Float, binary64, fits, of_bits}
use lib.Ieee.Bits.{of_bits-fits}
use Rattle.model.specs.declared.CellCoordinate.{CellCoordinate}
use Rattle.model.specs.declared.CellValue.{CellValue}
use Rattle.model.specs.declared.Range.{Range}
use Rattle.model.specs.Options.{Reading}
use Rattle.model.specs.Sheet.{Sheet, CellAt, CellColumns, same_coordinate, cell_at, value_of, cell_from, cells_from, in_range}
use Rattle.model.specs.Readings.{max_wraps, finite, numeric_value, numeric_cell_value, numeric_of, numeric_at}
use Rattle.model.specs.Ratio.{ratio}
use Rattle.model.specs.Values.{least, greatest}
use Rattle.model.specs.Rule.{cells_in, with_number, numbers, values}
use Rattle.laws.proofs.Sorting.{Each}
use Rattle.laws.proofs.FloatOrder.{Finite, le_not_less}
use Rattle.laws.proofs.Values.{least_memberᴰ, least_least, greatest_memberᴰ, greatest_greatest, values_finite}
use Rattle.laws.proofs.Apart.{Apart, same_coordinate_lem, free_none}
use Rattle.laws.proofs.PaintsOfRules.{number_member}
use Rattle.barlaws.specs.Origin.{NumberIn, LeastIn, GreatestIn, PpmIn}
use Rattle.barlaws.proofs.Levels.{ratio_level}

-- ---- values and numbers

-- the cell that a value of the range is from
record ValueCell (r : Range) (cells : List CellAt) (x : Float) : Type 0 where
  found : CellAt
  among : Memᴰ found cells
  inside : in_range r found.at ≡ true
  number : numeric_cell_value found.cell ≡ Some x

value_later : {r : Range} {cells : List CellAt} {x : Float} (c : CellAt) → ValueCell r cells x → ValueCell r (c ∷ cells) x
value_later c v = record { found = v.found; among = Memᴰ.tail v.among; inside = v.inside; number = v.number }

value_cell : (r : Range) (cells : List CellAt) (x : Float) → Memᴰ x (numbers (cells_in r cells)) → ValueCell r cells x
unfolding cells_in numbers
value_cell r [] x m = absurd (Memᴰ.not-nil m)
value_cell r (c ∷ cs) x m = by (in_range r c.at) refl m (value_cell r cs x)
  where
    read : in_range r c.at ≡ true → (n : Reading) → numeric_cell_value c.cell ≡ n
        → Memᴰ x (with_number n (numbers (cells_in r cs))) → (Memᴰ x (numbers (cells_in r cs)) → ValueCell r cs x)
        → ValueCell r (c ∷ cs) x
    read h (Some y) e m later = from (Memᴰ.cases_cons m)
      where
        from : (x ≡ y) ⊎ Memᴰ x (numbers (cells_in r cs)) → ValueCell r (c ∷ cs) x
        from (inl same) = record { found = c; among = Memᴰ.head refl; inside = h; number = e ∙ ap Some (sym same) }
        from (inr m) = value_later c (later m)
    read h None e m later = value_later c (later m)

    by : (b : Bool) → in_range r c.at ≡ b → Memᴰ x (numbers (cond b (c ∷ cells_in r cs) (cells_in r cs)))
        → (Memᴰ x (numbers (cells_in r cs)) → ValueCell r cs x) → ValueCell r (c ∷ cs) x
    by true h m later = read h (numeric_cell_value c.cell) refl m later
    by false h m later = value_later c (later m)

-- with one cell per coordinate, a cell is the one at its coordinate
cell_found : {d : CellAt} {cs : List CellAt} → Memᴰ d cs → Apart cs → cell_at cs d.at ≡ some d.cell
unfolding cell_at
cell_found {d} (Memᴰ.head {x} {xs} e) apart =
    rw ((same_coordinate_lem x.at d.at).1 (ap (λ (c : CellAt). c.at) (sym e))) (ap (λ (c : CellAt). some c.cell) (sym e))
cell_found {d} (Memᴰ.tail {x} {xs} m) apart = by (same_coordinate x.at d.at) refl (cell_found m apart.1)
  where
    by : (b : Bool) → same_coordinate x.at d.at ≡ b → cell_at xs d.at ≡ some d.cell
        → cond b (some x.cell) (cell_at xs d.at) ≡ some d.cell
    by true same later = absurd (free_none x.at m apart.0 (sym ((same_coordinate_lem x.at d.at).0 same)))
    by false same later = later

-- each number that a coordinate has is an f64
abbrev pub Held : Sheet → Type 0
Held s = (at : CellCoordinate) (x : Float) → numeric_at s.cells at ≡ Some x → T (fits binary64 x)

module _ (s : Sheet) (r : Range) where
  number_value : (x : Float) → NumberIn s r x → Mem x (values s r)
  unfolding values
  number_value x n = number_member r n.at x n.inside s.cells n.numeric

  pub number_finite : (x : Float) → NumberIn s r x → Finite x
  number_finite x n = values_finite s r x (number_value x n)

  module _ (apart : Apart s.cells) where
    value_number : (x : Float) → Memᴰ x (values s r) → NumberIn s r x
    unfolding values numeric_at
    value_number x m =
        let v = value_cell r s.cells x m in
        record { at = v.found.at; inside = v.inside; numeric = ap numeric_of (cell_found v.among apart) ∙ v.number }

    module _ (v : Float) (vs : List Float) (among : values s r ≡ v ∷ vs) where
      all_finite_lem : Each Finite (v ∷ vs)
      all_finite_lem = subst (Each Finite) among (values_finite s r)

      least_in : LeastIn s r (least v vs)
      least_in =
          let there = value_number (least v vs) (subst (Memᴰ (least v vs)) (sym among) (least_memberᴰ v vs)) in
          record {
            there = there;
            least = λ y n.
                le_not_less (least v vs) y (number_finite (least v vs) there) (number_finite y n)
                ∙ ap not (least_least v vs all_finite_lem y (subst (Mem y) among (number_value y n)));
          }

      greatest_in : GreatestIn s r (greatest v vs)
      greatest_in =
          let there = value_number (greatest v vs) (subst (Memᴰ (greatest v vs)) (sym among) (greatest_memberᴰ v vs)) in
          record {
            there = there;
            greatest = λ y n.
                le_not_less y (greatest v vs) (number_finite y n) (number_finite (greatest v vs) there)
                ∙ ap not (greatest_greatest v vs all_finite_lem y (subst (Mem y) among (number_value y n)));
          }

      -- the ratio between them is the number's ppm in the range
      pub ratio_in : Held s → (x : Float) → PpmIn s r x (ratio x (least v vs) (greatest v vs))
      ratio_in held x =
          record {
            low = least v vs;
            high = greatest v vs;
            is_low = least_in;
            is_high = greatest_in;
            is = λ a b l g.
                ratio_level x (least v vs) a (greatest v vs) b (number_finite _ least_in.there) (number_finite a l.there)
                (number_finite _ greatest_in.there) (number_finite b g.there) (fit _ least_in.there) (fit a l.there)
                (fit _ greatest_in.there) (fit b g.there) (least_in.least a l.there) (l.least _ least_in.there)
                (g.greatest _ greatest_in.there) (greatest_in.greatest b g.there);
          }
        where
          fit : (y : Float) → NumberIn s r y → T (fits binary64 y)
          fit y n = held n.at y n.numeric

-- ---- the numbers of lent columns are f64s

abbrev FittingReading : Reading → Type 0
FittingReading (Some x) = T (fits binary64 x)
FittingReading None = Unit {0}

fitting_if : (b : Bool) (x : Reading) → FittingReading x → FittingReading (cond b x None)
fitting_if true x h = h
fitting_if false x h = tt

value_fits : (kind bits at len : ℕ) → FittingReading (numeric_value (value_of kind bits at len))
unfolding value_of numeric_value
value_fits kind bits at len = by (eqb kind 1) (eqb kind 2) (eqb kind 3) (eqb kind 4)
  where
    x : Float
    x = of_bits binary64 bits

    number : FittingReading (cond (finite x) (Some x) None)
    number = fitting_if (finite x) (Some x) (of_bits-fits binary64 bits)

    by : (a b c d : Bool) → FittingReading (numeric_value (cond a (CellValue.Number x) (cond b (CellValue.Date x)
        (cond c (CellValue.Text (record { at = at; len = len })) (cond d (CellValue.Bool (eqb len 1)) CellValue.Error)))))
    by true b c d = number
    by false true c d = number
    by false false true d = tt
    by false false false true = tt
    by false false false false = tt

cells_fit : (c : CellColumns) (at : CellCoordinate) (i n : ℕ) → FittingReading (numeric_at (cells_from c i n) at)
unfolding numeric_at cell_at cells_from cell_from numeric_cell_value
cells_fit c at i zero = tt
cells_fit c at i (suc n) = by (same_coordinate (cell_from c i).at at) (cells_fit c at (suc i) n)
  where
    by : (b : Bool) → FittingReading (numeric_of (cell_at (cells_from c (suc i) n) at))
        → FittingReading (numeric_of (cond b (some (cell_from c i).cell) (cell_at (cells_from c (suc i) n) at)))
    by true later = fitting_if (leb (cell_from c i).cell.wraps max_wraps) _ (value_fits _ _ _ _)
    by false later = later

pub columns_held : (c : CellColumns) (n : ℕ) (at : CellCoordinate) (x : Float) → numeric_at (cells_from c 0 n) at ≡ Some x
    → T (fits binary64 x)
columns_held c n at x e = subst FittingReading e (cells_fit c at 0 n)
