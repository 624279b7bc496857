-- Cells that rise are sought by halving. They part into those before a coordinate and those not before it; the cell that stands at the
-- coordinate is the one that its entry names, and only the first of those not before it can stand there. Assumes nothing.
use Prim.Native.Nat.{ℕ, zero, suc, ◌+◌, ◌-◌, ◌≤◌, ◌<◌}
use native.Mathlib.Numerals.{add-one}
use native.Mathlib.Omega.{arith}
use mathlib.Core.Path.{◌≡◌, sym, ap, subst, ◌∙◌}
use mathlib.Core.Logic.{◌↔◌}
use mathlib.Core.Bool.{Bool, true, false, ◌&&◌, not-eq-not, true≢false}
use mathlib.Core.List.{List}
use mathlib.Core.Option.{none}
use lib.Dec.{ltb}
use lib.ListN.{length, get_or}
use borrow.Author.Count.{below_more}
use borrow.Author.Tests.{ltb-true, lt-ltb, le-ltb}
use Rattle.model.specs.declared.CellCoordinate.{CellCoordinate}
use Rattle.model.specs.Sheet.{same_coordinate}
use Rattle.model.specs.Job.{rises, first_fall}
use Rattle.laws.proofs.Each.{throughout_more}
use Rattle.laws.proofs.Covered.{and_true}
use Rattle.laws.proofs.Apart.{same_coordinate_lem}
use Rattle.laws.proofs.Rising.{Before, rises_before, before_rises, before_trans, before_not_self, before_later}
use Rattle.cells.specs.Columns.{coordinate_at, entry_at}
use Rattle.cells.proofs.Search.{Sought, sought_begun, sought_passed, sought_found, sought_ended}

-- ---- the entry for a coordinate

-- whether the cell at an index comes before a coordinate
abbrev before_at : List ℕ → List ℕ → CellCoordinate → ℕ → Bool
before_at rows cols at i = rises (get_or rows i 0) (get_or cols i 0) at.row at.col

-- whether there is a cell at an index, and it stands at a coordinate
abbrev stands_at : List ℕ → List ℕ → CellCoordinate → ℕ → Bool
stands_at rows cols at i = ltb i (length rows) && same_coordinate (coordinate_at rows cols i) at

apart_before : (p q : CellCoordinate) → Before p q → same_coordinate p q ≡ false
apart_before p q b = not-eq-not.0 (λ e. before_not_self q (subst (λ (x : CellCoordinate). Before x q) ((same_coordinate_lem p q).0 e) b))

module _ (rows cols : List ℕ) (at : CellCoordinate) where
  pub stands : (i : ℕ) → (stands_at rows cols at i ≡ true) ↔ ((i < length rows) × (coordinate_at rows cols i ≡ at))
  stands i =
      let both = and_true (ltb i (length rows)) (same_coordinate (coordinate_at rows cols i) at) in (
        λ s. (ltb-true i (length rows) (both.0 s).0, (same_coordinate_lem (coordinate_at rows cols i) at).0 (both.0 s).1),
        λ p. both.1 (lt-ltb i (length rows) p.0, (same_coordinate_lem (coordinate_at rows cols i) at).1 p.1),
      )

  -- if no cell before i stands there, the search comes to i
  sought_at : (i : ℕ) → i ≤ length rows → ((k : ℕ) → k < i → same_coordinate (coordinate_at rows cols k) at ≡ false)
      → Sought rows cols at i
  sought_at zero h e = sought_begun
  sought_at (suc i) h e =
      rw (← add-one i) (sought_passed (sought_at i (omega arith) (λ k a. e k (omega arith))) (omega arith) (e i (omega arith)))

  -- where none stands there, the entry is none
  pub entry_missed : ((k : ℕ) → k < length rows → same_coordinate (coordinate_at rows cols k) at ≡ false) → entry_at rows cols at ≡ 0
  unfolding entry_at
  entry_missed missed =
      let sought = sought_at (length rows) (omega arith) missed in
      rw (← sought_ended sought (omega arith), le-ltb (length rows) (length rows) (omega arith))

-- the cells before `low` come before the coordinate, those from `high` on do not
pub record Parted (rows cols : List ℕ) (at : CellCoordinate) (low high : ℕ) : Type 0 where
  pub ordered : low ≤ high
  pub within : high ≤ length rows
  pub before : (i : ℕ) → i < low → before_at rows cols at i ≡ true
  pub after : (i : ℕ) → high ≤ i → i < length rows → before_at rows cols at i ≡ false

pub parted_begun : {rows cols : List ℕ} {at : CellCoordinate} → Parted rows cols at 0 (length rows)
parted_begun =
    record { ordered = omega arith; within = omega arith; before = λ i h. absurd (omega arith); after = λ i a b. absurd (omega arith) }

module _ (rows cols : List ℕ) (at : CellCoordinate) (rise : first_fall rows cols ≡ none) where
  earlier : (i k : ℕ) → i < k → k < length rows → Before (coordinate_at rows cols i) (coordinate_at rows cols k)
  earlier i k a b =
      let onward : i + suc (k - suc i) ≡ k = omega arith in
      rw onward at (before_later rows cols rise i (k - suc i) (omega arith))

  -- a cell that stands there is the only one
  pub entry_found : (i : ℕ) → stands_at rows cols at i ≡ true → entry_at rows cols at ≡ suc i
  unfolding entry_at
  entry_found i s =
      let p = (stands rows cols at i).0 s in
      let before = subst (λ (x : CellCoordinate). (k : ℕ) → k < i → Before (coordinate_at rows cols k) x) p.1
      (λ k a. earlier k i a p.0) in
      let sought = sought_at rows cols at i (omega arith) (λ k a. apart_before (coordinate_at rows cols k) at (before k a)) in
      rw (← sought_found sought p.0 ((same_coordinate_lem (coordinate_at rows cols i) at).1 p.1), lt-ltb i (length rows) p.0)

  -- what comes before a cell that comes before the coordinate comes before it too
  before_earlier : (i k : ℕ) → i < k → k < length rows → before_at rows cols at k ≡ true → before_at rows cols at i ≡ true
  before_earlier i k a b e =
      before_rises (coordinate_at rows cols i) at
      (before_trans _ (coordinate_at rows cols k) _ (earlier i k a b) (rises_before (coordinate_at rows cols k) at e))

  module _ {low high : ℕ} (v : Parted rows cols at low high) (middle : ℕ) (h : middle < high) where
    pub parted_up : before_at rows cols at middle ≡ true → Parted rows cols at (middle + 1) high
    parted_up e =
        record {
          ordered = omega arith;
          within = v.within;
          before = below_more _ middle (λ i a. before_earlier i middle a (omega (arith, v.within)) e) e;
          after = v.after;
        }

    pub parted_down : low ≤ middle → before_at rows cols at middle ≡ false → Parted rows cols at low middle
    parted_down l e =
        record {
          ordered = l;
          within = omega (arith, v.within);
          before = v.before;
          after = throughout_more (before_at rows cols at) false middle (length rows) e
              (λ k a b. not-eq-not.0 (λ t. true≢false (sym (before_earlier middle k a b t) ∙ e)));
        }

  module _ {r : ℕ} (v : Parted rows cols at r r) where
    -- a cell that stands there is the first that does not come before it
    stands_first : (k : ℕ) → k < length rows → coordinate_at rows cols k ≡ at → k ≡ r
    stands_first k h e = omega (arith, not_before, not_behind)
      where
        not_before : k < r → ⊥
        not_before a =
            before_not_self at
            (subst (λ (x : CellCoordinate). Before x at) e (rises_before (coordinate_at rows cols k) at (v.before k a)))

        not_behind : r < k → ⊥
        not_behind a =
            let first = subst (λ (x : CellCoordinate). Before (coordinate_at rows cols r) x) e (earlier r k a h) in
            true≢false (sym (before_rises (coordinate_at rows cols r) at first) ∙ v.after r (omega arith) (omega arith))

    -- where it does not stand there, none does
    pub entry_none : stands_at rows cols at r ≡ false → entry_at rows cols at ≡ 0
    entry_none s = entry_missed rows cols at missed
      where
        missed : (k : ℕ) → k < length rows → same_coordinate (coordinate_at rows cols k) at ≡ false
        missed k h =
            not-eq-not.0
            (λ e. let p = (same_coordinate_lem (coordinate_at rows cols k) at).0 e in
            true≢false (sym ((stands rows cols at k).1 (h, p)) ∙ ap (stands_at rows cols at) (stands_first k h p) ∙ s))
