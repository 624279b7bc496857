-- What the definitions over the values of a range mean: the values are finite; `sorted` is the one permutation of them that is in order;
-- `least` and `greatest` are values that no value is below or above; `threshold` is the value at its rank. Assumes nothing.
use Rattle.std.specs.Prelude.{Some, None}
use mathlib.Core.Path.{◌≡◌, refl, subst}
use mathlib.Core.Bool.{Bool, true, false, cond, Bool-set}
use mathlib.Core.List.{List, [], ◌∷◌, ◌++◌, Mem, Subset, cons-subset, mem-cast, mem-cons_self, mem-cons_of_mem, not-mem-nil}
use mathlib.Core.List.Memᴰ
use mathlib.Core.List.{Memᴰ}
use mathlib.Core.Logic.{⊎_elim}
use mathlib.Core.List.Pairwise
use mathlib.Core.List.{Perm, Pairwise, rel_of_Pairwise-cons, Pairwise-append}
use Prim.Native.Nat.{ℕ, zero, suc, ◌-◌, ◌<◌, ◌≤◌}
use native.Mathlib.Nat.{not-suc-le-zero, le_of_suc-le-suc}
use native.Mathlib.Omega.{arith}
use lib.Dec.{T, leb}
use lib.ListN.{length, get_or, take, drop}
use lib.Seq.{split_at}
use lib.Ieee.{Float, nan, binary64, lt, le, fits}
use Rattle.model.specs.Values.{least, greatest, comes_before, sorted, value_at, selected, threshold}
use Rattle.model.specs.declared.Cell.{Cell}
use Rattle.model.specs.declared.CellValue.{CellValue}
use Rattle.model.specs.declared.Range.{Range}
use Rattle.model.specs.Options.{Reading}
use Rattle.model.specs.Sheet.{Sheet, CellAt}
use Rattle.model.specs.Readings.{max_wraps, finite, numeric_value, numeric_cell_value}
use Rattle.model.specs.Rule.{cells_in, with_number, numbers, values}
use Rattle.laws.proofs.Sorting.{StrictWeak, order_irreflexive, order_narrowed, order_reversed}
use Rattle.laws.proofs.Sorting.{Each, each_later, each_permuted, each_cons}
use Rattle.laws.proofs.Sorting.{sort_by_permutes, sort_by_length, sort_by_ordered, sort_by_unique}
use Rattle.laws.proofs.FloatOrder.{Finite, lt_order, comes_before_order, comes_before_level, le_not_before}

-- ---- values in order

-- `sorted` is a permutation of the values
pub sorted_permutes : (xs : List Float) → Perm (sorted xs) xs
unfolding sorted
sorted_permutes xs = sort_by_permutes comes_before xs

-- `sorted` keeps the length
pub sorted_length : (xs : List Float) → length (sorted xs) ≡ length xs
unfolding sorted
sorted_length xs = sort_by_length comes_before xs

-- no later value of `sorted` comes before an earlier one
pub sorted_ordered : (xs : List Float) → Each Finite xs → Pairwise (λ x y. comes_before y x ≡ false) (sorted xs)
unfolding sorted
sorted_ordered xs p = sort_by_ordered comes_before_order xs p

-- each value is at most each later one
abbrev pub Rising : List Float → Type 0
Rising xs = Pairwise (λ x y. le x y ≡ true) xs

-- each value of `sorted` is at most each later one
pub sorted_rises : (xs : List Float) → Each Finite xs → Rising (sorted xs)
sorted_rises xs p = Pairwise.imp_of_mem (λ x y m n. le_not_before x y (q x m) (q y n)) (sorted_ordered xs p)
  where
    q : Each Finite (sorted xs)
    q = each_permuted (sorted_permutes xs) p

-- values of binary64 that are a permutation of xs, no later one coming before an earlier one, are `sorted xs`
pub sorted_unique : (xs ys : List Float) → Each (λ x. Finite x × T (fits binary64 x)) xs → Perm ys xs
    → Pairwise (λ x y. comes_before y x ≡ false) ys → ys ≡ sorted xs
unfolding sorted
sorted_unique xs ys p q h =
    sort_by_unique (order_narrowed (λ x r. r.0) comes_before_order)
    (λ x y r s. comes_before_level binary64 x y r.1 s.1 r.0 s.0) xs ys p q h

-- ---- least and greatest

second_skipped : {A : Type 0} (x y : A) (ys : List A) → Subset (x ∷ ys) (x ∷ y ∷ ys)
second_skipped x y ys = cons-subset.1 (mem-cons_self, λ a m. mem-cons_of_mem x (mem-cons_of_mem y m))

module _ {A : Type 0} (less : A → A → Bool) where
  -- the first of the least elements
  least_by : A → List A → A
  least_by x [] = x
  least_by x (y ∷ ys) = least_by (cond (less y x) y x) ys

  least_by_memberᴰ : (x : A) (ys : List A) → Memᴰ (least_by x ys) (x ∷ ys)
  unfolding least_by
  least_by_memberᴰ x [] = Memᴰ.head refl
  least_by_memberᴰ x (y ∷ ys) = kept (less y x) (λ z. least_by_memberᴰ z ys)
    where
      kept : (b : Bool) → ((z : A) → Memᴰ (least_by z ys) (z ∷ ys)) → Memᴰ (least_by (cond b y x) ys) (x ∷ y ∷ ys)
      kept true later = Memᴰ.tail (later y)
      kept false later = ⊎_elim Memᴰ.head (λ m. Memᴰ.tail (Memᴰ.tail m)) (Memᴰ.cases_cons (later x))

  least_by_member : (x : A) (ys : List A) → Mem (least_by x ys) (x ∷ ys)
  least_by_member x ys = ∣ least_by_memberᴰ x ys ∣₁

  module _ {P : A → Type 0} (order : StrictWeak P less) where
    least_by_least : (x : A) (ys : List A) → Each P (x ∷ ys) → Each (λ a. less a (least_by x ys) ≡ false) (x ∷ ys)
    unfolding least_by
    least_by_least x [] p = each_cons (λ a. less a x) (order_irreflexive order x (p x mem-cons_self)) (λ a m. absurd (not-mem-nil m))
    least_by_least x (y ∷ ys) p = kept (less y x) refl (λ z. least_by_least z ys)
      where
        px : P x
        px = p x mem-cons_self

        py : P y
        py = p y (mem-cons_of_mem x mem-cons_self)

        -- what is not less than z is not less than the least of z and ys
        through : (z a : A) → P z → P a → Each P (z ∷ ys) → less z (least_by z ys) ≡ false → less a z ≡ false
            → less a (least_by z ys) ≡ false
        through z a pz pa q e f = order.following (least_by z ys) z a (q (least_by z ys) (least_by_member z ys)) pz pa e f

        kept : (b : Bool) → less y x ≡ b → ((z : A) → Each P (z ∷ ys) → Each (λ a. less a (least_by z ys) ≡ false) (z ∷ ys))
            → Each (λ a. less a (least_by (cond b y x) ys) ≡ false) (x ∷ y ∷ ys)
        kept true e later =
            let q : Each P (y ∷ ys) = each_later p in
            let r = later y q in
            each_cons (λ a. less a (least_by y ys)) (through y x py px q (r y mem-cons_self) (order.asymmetric y x py px e)) r
        kept false e later =
            let q : Each P (x ∷ ys) = λ a m. p a (second_skipped x y ys a m) in
            let r = later x q in
            let rx = r x mem-cons_self in
            each_cons (λ a. less a (least_by x ys)) rx (each_cons (λ a. less a (least_by x ys)) (through x y px py q rx e) (each_later r))

least_is : (x : Float) (ys : List Float) → least x ys ≡ least_by lt x ys
unfolding least least_by
least_is x [] = refl
least_is x (y ∷ ys) = least_is (cond (lt y x) y x) ys

greatest_is : (x : Float) (ys : List Float) → greatest x ys ≡ least_by (λ a b. lt b a) x ys
unfolding greatest least_by
greatest_is x [] = refl
greatest_is x (y ∷ ys) = greatest_is (cond (lt x y) y x) ys

-- `least` is one of the values, at a place
pub least_memberᴰ : (x : Float) (ys : List Float) → Memᴰ (least x ys) (x ∷ ys)
least_memberᴰ x ys = Memᴰ.cast (least_is x ys) (least_by_memberᴰ lt x ys)

-- `least` is one of the values
pub least_member : (x : Float) (ys : List Float) → Mem (least x ys) (x ∷ ys)
least_member x ys = ∣ least_memberᴰ x ys ∣₁

-- no value is less than `least`
pub least_least : (x : Float) (ys : List Float) → Each Finite (x ∷ ys) → (y : Float) → Mem y (x ∷ ys)
    → lt y (least x ys) ≡ false
least_least x ys p y m = rw (least_is x ys) (least_by_least lt lt_order x ys p y m)

-- `greatest` is one of the values, at a place
pub greatest_memberᴰ : (x : Float) (ys : List Float) → Memᴰ (greatest x ys) (x ∷ ys)
greatest_memberᴰ x ys = Memᴰ.cast (greatest_is x ys) (least_by_memberᴰ (λ a b. lt b a) x ys)

-- `greatest` is one of the values
pub greatest_member : (x : Float) (ys : List Float) → Mem (greatest x ys) (x ∷ ys)
greatest_member x ys = ∣ greatest_memberᴰ x ys ∣₁

-- no value is greater than `greatest`
pub greatest_greatest : (x : Float) (ys : List Float) → Each Finite (x ∷ ys) → (y : Float) → Mem y (x ∷ ys)
    → lt (greatest x ys) y ≡ false
greatest_greatest x ys p y m = rw (greatest_is x ys) (least_by_least (λ a b. lt b a) (order_reversed lt_order) x ys p y m)

-- ---- rank

-- of some values at least one is selected, and at most all
pub selected_within : (percent : Bool) (rank n : ℕ) → 0 < n → (0 < selected percent rank n) × (selected percent rank n ≤ n)
unfolding selected
selected_within true rank n h = omega arith
selected_within false rank n h = omega arith

-- where `threshold` stands among n values in order
abbrev pub threshold_index : Bool → ℕ → ℕ → ℕ
threshold_index bottom count n = cond bottom (count - 1) (n - count)

threshold_at : (bottom : Bool) (count : ℕ) (xs : List Float)
    → threshold bottom count xs ≡ value_at xs (threshold_index bottom count (length xs))
unfolding threshold
threshold_at true count xs = refl
threshold_at false count xs = refl

threshold_index_within : (bottom : Bool) (count n : ℕ) → 0 < count → count ≤ n → threshold_index bottom count n < n
threshold_index_within true count n h k = omega arith
threshold_index_within false count n h k = omega arith

get_d_member : {A : Type 0} (xs : List A) (i : ℕ) (d : A) → i < length xs → Mem (get_or xs i d) xs
get_d_member [] i d h = absurd (not-suc-le-zero h)
get_d_member (x ∷ xs) zero d h = mem-cons_self
get_d_member (x ∷ xs) (suc i) d h = mem-cons_of_mem x (get_d_member xs i d (le_of_suc-le-suc h))

-- `threshold` is one of the values
pub threshold_member : (bottom : Bool) (count : ℕ) (xs : List Float) → 0 < count → count ≤ length xs
    → Mem (threshold bottom count xs) xs
unfolding value_at
threshold_member bottom count xs h k =
    mem-cast (threshold_at bottom count xs)
    (get_d_member xs (threshold_index bottom count (length xs)) nan (threshold_index_within bottom count (length xs) h k))

-- a value of rising values is at least each one ahead of it and at most each one behind it
rising_at : (xs : List Float) (i : ℕ) → Rising xs → i < length xs
    → Each (λ x. le x (value_at xs i) ≡ true) (take i xs) × Each (λ x. le (value_at xs i) x ≡ true) (drop (suc i) xs)
unfolding value_at
rising_at xs i r h =
    let v = get_or xs i nan in
    let split : Rising (take i xs ++ v ∷ drop (suc i) xs) = subst Rising (split_at xs i nan h) r in
    let parts = (Pairwise-append (λ x y. Bool-set (le x y) true) {l₁ = take i xs} {l₂ = v ∷ drop (suc i) xs}).0 split in
    (λ a m. parts.2 a m v mem-cons_self, λ a m. rel_of_Pairwise-cons parts.1 m)

-- `threshold` of rising values is at least each one ahead of its index and at most each one behind it
pub threshold_between : (bottom : Bool) (count : ℕ) (xs : List Float) → Rising xs → 0 < count → count ≤ length xs
    → Each (λ x. le x (threshold bottom count xs) ≡ true) (take (threshold_index bottom count (length xs)) xs)
    × Each (λ x. le (threshold bottom count xs) x ≡ true) (drop (suc (threshold_index bottom count (length xs))) xs)
threshold_between bottom count xs r h k =
    rw (threshold_at bottom count xs)
    (rising_at xs (threshold_index bottom count (length xs)) r (threshold_index_within bottom count (length xs) h k))

-- ---- the values of a range

abbrev FiniteReading : Reading → Type 0
FiniteReading (Some x) = Finite x
FiniteReading None = Unit {0}

if_finite : (x : Float) → FiniteReading (cond (finite x) (Some x) None)
if_finite x = decided (finite x) refl
  where
    decided : (b : Bool) → finite x ≡ b → FiniteReading (cond b (Some x) None)
    decided true e = e
    decided false e = tt

numeric_value_finite : (v : CellValue) → FiniteReading (numeric_value v)
unfolding numeric_value
numeric_value_finite (CellValue.Number x) = if_finite x
numeric_value_finite (CellValue.Date x) = if_finite x
numeric_value_finite (CellValue.Text t) = tt
numeric_value_finite (CellValue.Bool b) = tt
numeric_value_finite CellValue.Error = tt

-- the number that a cell has is finite
pub numeric_cell_value_finite : (c : Cell) (x : Float) → numeric_cell_value c ≡ Some x → Finite x
unfolding numeric_cell_value
numeric_cell_value_finite c x e = subst FiniteReading e (read (leb c.wraps max_wraps))
  where
    read : (b : Bool) → FiniteReading (cond b (numeric_value c.value) None)
    read true = numeric_value_finite c.value
    read false = tt

numbers_finite : (cs : List CellAt) → Each Finite (numbers cs)
unfolding numbers
numbers_finite [] = λ a m. absurd (not-mem-nil m)
numbers_finite (c ∷ cs) = joined (numeric_cell_value c.cell) refl (numbers_finite cs)
  where
    joined : (x : Reading) → numeric_cell_value c.cell ≡ x → Each Finite (numbers cs) → Each Finite (with_number x (numbers cs))
    joined (Some x) e later = each_cons finite (numeric_cell_value_finite c.cell x e) later
    joined None e later = later

-- the values of a range are finite
pub values_finite : (s : Sheet) (r : Range) → Each Finite (values s r)
unfolding values
values_finite s r = numbers_finite (cells_in r s.cells)
