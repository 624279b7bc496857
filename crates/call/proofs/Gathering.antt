-- The loop that gathers numbers: each float of the band is stored behind those kept so far, and stays there only if the cell is in range
-- and the float is a number, which is where the cell has one. And where each cell of the band is in range and all floats are numbers, the
-- numbers in range are the band's floats. Assumes nothing.
use Rattle.std.specs.Prelude.{Some, None}
use Prim.Native.Nat.{ℕ, zero, suc, ◌+◌, ◌-◌, ◌≤◌, ◌<◌}
use native.Mathlib.Nat.{add-zero, zero-add}
use native.Mathlib.Numerals.{add-one, one-add}
use native.Mathlib.Omega.{arith}
use mathlib.Core.Path.{◌≡◌, refl, sym, ap, ◌∙◌}
use mathlib.Core.Bool.{Bool, true, false, cond, ◌&&◌}
use mathlib.Core.List.{List, [], ◌∷◌, ◌++◌, foldr, append_assoc, append-nil}
use mir.Val.{bool_byte}
use lib.Ieee.{Float, nan, eq}
use lib.ListN.{length, get_or, take, drop, set, length-drop}
use lib.Seq.{take-suc-set, take-set-le, drop-cons, get_or-take, get_or-drop, length-take-le}
use Rattle.model.specs.declared.Range.{Range}
use Rattle.model.specs.Sheet.{CellColumns, cell_from}
use Rattle.model.specs.Readings.{numeric_cell_value}
use Rattle.model.specs.Rule.{cells_in, with_number, numbers}
use Rattle.cells.specs.Columns.{cells_of}
use Rattle.ranges.proofs.Laws.{in_range_from, in_range_at, left_within, left_outside}
use Rattle.hits.specs.Said.{reading_of}
use Rattle.hits.specs.Hits.{column_in}
use Rattle.turns.specs.Bands.{BandOf}
use Rattle.turns.proofs.Known.{numeric_back}
use Rattle.call.specs.Tables.{Numbered, NumbersIn, AllNumbers}
use Rattle.call.proofs.Banding.{band_begins, band_ends, band_at, band_skips}

-- ---- one cell

-- a number in front of those that follow, if it counts
abbrev ahead : Bool → Float → List Float → List Float
ahead b x later = cond b (x ∷ later) later

with_float : (x : Float) (later : List Float) → with_number (reading_of x) later ≡ ahead (eq x x) x later
unfolding reading_of
with_float x later = go (eq x x)
  where
    go : (b : Bool) → with_number (cond b (Some x) None) later ≡ ahead b x later
    go true = refl
    go false = refl

stored : (values : List Float) (count : ℕ) (x : Float) (later : List Float) (b : Bool) → count < length values
    → take (count + bool_byte b) (set values count x) ++ later ≡ take count values ++ ahead b x later
stored values count x later true h = rw (add-one, take-suc-set values count x h) (append_assoc (take count values) (x ∷ []) later)
stored values count x later false h = rw (add-zero, take-set-le count values count x (omega arith))

module _ (range : Range) (c : CellColumns) (floats : List Float) (numbered : Numbered c floats) (i : ℕ) (h : i < length c.rows) where
  abbrev float : Float
  float = get_or floats i nan

  reads : numeric_cell_value (cell_from c i).cell ≡ reading_of float
  reads = sym (numeric_back (cell_from c i).cell) ∙ ap reading_of (sym (numbered i h))

  here_first : (here : Bool) → in_range_at range c i ≡ here
      → numbers (in_range_from range c i) ≡ ahead (here && eq float float) float (numbers (in_range_from range c (i + 1)))
  unfolding numbers
  here_first true e = rw (left_within range c i h e, reads) (with_float float _)
  here_first false e = rw (left_outside range c i h e)

-- ---- the loop

-- the numbers so far stand at the front, and those left go after them
pub record Gathering (range : Range) (c : CellColumns) (values : List Float) (count i : ℕ) : Type 0 where
  pub left : take count values ++ numbers (in_range_from range c i) ≡ numbers (cells_in range (cells_of c))

module _ {range : Range} (c : CellColumns) {from to : ℕ} (band : BandOf range c.rows from to) where
  pub gathering_begun : {values : List Float} → Gathering range c values 0 from
  gathering_begun = record { left = ap numbers (sym (band_begins c band)) }

  pub gathering_ended : {values : List Float} {count i : ℕ} → Gathering range c values count i → i ≡ to
      → take count values ≡ numbers (cells_in range (cells_of c))
  unfolding numbers
  gathering_ended v e = rw (e, band_ends c band, append-nil) at v.left

  -- a cell in range
  module _ (floats : List Float) (numbered : Numbered c floats) (i : ℕ) (a : from ≤ i) (b : i < to)
      (inside : column_in range (get_or c.cols i 0) ≡ true) where
    pub gathering_turn : {values : List Float} {count : ℕ} → Gathering range c values count i → count < length values
        → Gathering range c (set values count (get_or floats i nan)) (count + bool_byte (eq (get_or floats i nan) (get_or floats i nan))) (i + 1)
    gathering_turn {values} {count} v l =
        let x = get_or floats i nan in
        record {
          left = stored values count x (numbers (in_range_from range c (i + 1))) (eq x x) l
              ∙ ap (λ later. take count values ++ later)
              (sym (here_first range c floats numbered i (omega (arith, band.within)) true (band_at c band i a b ∙ inside)))
              ∙ v.left;
        }

  -- cells out of range
  pub gathering_skip : (i j : ℕ) → from ≤ i → i ≤ j → j ≤ to
      → ((k : ℕ) → i ≤ k → k < j → column_in range (get_or c.cols k 0) ≡ false)
      → {values : List Float} {count : ℕ} → Gathering range c values count i → Gathering range c values count j
  gathering_skip i j a b d out v =
      let e : i + (j - i) ≡ j = omega arith in
      let skips = band_skips c band (j - i) i a (omega arith) (λ k p q. out k p (omega arith)) in
      record { left = rw (skips, e) at v.left }

-- ---- floats that are numbers

abbrev pub numbers_among : List Float → ℕ
numbers_among xs = foldr (λ x later. cond (eq x x) (suc later) later) 0 xs

one_more : (b : Bool) (n : ℕ) → cond b (suc n) n ≡ bool_byte b + n
one_more true n = sym (one-add n)
one_more false n = sym (zero-add n)

module _ (xs : List Float) (i : ℕ) (h : i < length xs) where
  -- what a loop at i has left to count
  pub among_left : numbers_among (drop i xs) ≡ bool_byte (eq (get_or xs i nan) (get_or xs i nan)) + numbers_among (drop (i + 1) xs)
  among_left = rw (add-one, drop-cons xs i nan h) (one_more (eq (get_or xs i nan) (get_or xs i nan)) _)

among_few : (xs : List Float) → numbers_among xs ≤ length xs
among_few [] = omega arith
among_few (x ∷ xs) = go (eq x x) (among_few xs)
  where
    go : (b : Bool) → numbers_among xs ≤ length xs → cond b (suc (numbers_among xs)) (numbers_among xs) ≤ suc (length xs)
    go true h = omega arith
    go false h = omega arith

-- where all are numbers, the first is, and all behind it
number_first : (x : Float) (xs : List Float) → numbers_among (x ∷ xs) ≡ suc (length xs)
    → (eq x x ≡ true) × (numbers_among xs ≡ length xs)
number_first x xs e = go (eq x x) refl e
  where
    go : (b : Bool) → eq x x ≡ b → cond b (suc (numbers_among xs)) (numbers_among xs) ≡ suc (length xs)
        → (eq x x ≡ true) × (numbers_among xs ≡ length xs)
    go true p q = (p, omega arith)
    go false p q = absurd (omega (arith, among_few xs))

-- as many numbers as floats
pub all_counted : (xs : List Float) → numbers_among xs ≡ length xs → AllNumbers xs
all_counted [] e i b h = absurd (omega arith)
all_counted (x ∷ xs) e zero b h = (number_first x xs e).0
all_counted (x ∷ xs) e (suc i) b h = all_counted xs (number_first x xs e).1 i (omega arith) (omega arith)

-- a part of which all are
pub part_numbers : (floats : List Float) (from to : ℕ) → from ≤ to → to ≤ length floats
    → AllNumbers (take (to - from) (drop from floats)) → NumbersIn from to floats
part_numbers floats from to ordered long all i a b =
    let within : i - from < to - from = omega arith in
    let there : from + (i - from) ≡ i = omega arith in
    let count : to - from ≤ length (drop from floats) = omega (arith, length-drop from floats) in
    let same = get_or-take (to - from) (drop from floats) (i - from) nan within ∙ get_or-drop from floats (i - from) nan in
    rw (same, there) at (all (i - from) (omega arith) (omega (arith, length-take-le (to - from) (drop from floats) count)))

-- ---- a band of numbers in range

module _ {range : Range} (c : CellColumns) {from to : ℕ} (band : BandOf range c.rows from to) where
  -- of the n cells left of the band no more are in range
  few_left : (n i : ℕ) → i + n ≡ to → length (in_range_from range c i) ≤ n
  few_left zero i e = let end : i ≡ to = omega arith in rw (end, band_ends c band) (omega arith)
  few_left (suc n) i e = go (in_range_at range c i) refl (few_left n (i + 1) (omega arith))
    where
      h : i < length c.rows
      h = omega (arith, band.within)

      go : (here : Bool) → in_range_at range c i ≡ here → length (in_range_from range c (i + 1)) ≤ n → length (in_range_from range c i) ≤ suc n
      go true p later = omega (arith, ap length (left_within range c i h p))
      go false p later = omega (arith, ap length (left_outside range c i h p))

  -- where all are, the first is, and all behind it
  inside_first : (n i : ℕ) → i + suc n ≡ to → length (in_range_from range c i) ≡ suc n
      → (in_range_at range c i ≡ true) × (length (in_range_from range c (i + 1)) ≡ n)
  inside_first n i e all = go (in_range_at range c i) refl
    where
      h : i < length c.rows
      h = omega (arith, band.within)

      go : (here : Bool) → in_range_at range c i ≡ here → (in_range_at range c i ≡ true) × (length (in_range_from range c (i + 1)) ≡ n)
      go true p = (p, omega (arith, ap length (left_within range c i h p)))
      go false p = absurd (omega (arith, ap length (left_outside range c i h p), few_left n (i + 1) (omega arith)))

  module _ (floats : List Float) (numbered : Numbered c floats) (long : to ≤ length floats) (numeric : NumbersIn from to floats) where
    -- of the n cells left of the band all are in range
    all_left : (n i : ℕ) → from ≤ i → i + n ≡ to → length (in_range_from range c i) ≡ n
        → take n (drop i floats) ≡ numbers (in_range_from range c i)
    unfolding numbers
    all_left zero i b e inside = let end : i ≡ to = omega arith in rw (end, band_ends c band)
    all_left (suc n) i b e inside =
        let parts : take (suc n) (drop i floats) ≡ get_or floats i nan ∷ take n (drop (i + 1) floats)
        = rw (add-one, drop-cons floats i nan (omega arith)) in
        let here = inside_first n i e inside in
        parts
        ∙ rw (all_left n (i + 1) (omega arith) (omega arith) here.1)
        (sym (here_first range c floats numbered i (omega (arith, band.within)) true here.0 ∙ rw (numeric i b (omega arith))))

    pub all_in_band : length (cells_in range (cells_of c)) ≡ to - from
        → take (to - from) (drop from floats) ≡ numbers (cells_in range (cells_of c))
    all_in_band inside =
        all_left (to - from) from (omega arith) (omega (arith, band.ordered)) (ap length (sym (band_begins c band)) ∙ inside)
        ∙ ap numbers (sym (band_begins c band))
