-- The loop over the cells and the regions: at a cell and a region the entries so far and those of the walk that is left come to the whole,
-- and so do the comparisons; the table is 0 from the region on. Assumes nothing.
use Prim.Native.Nat.{ℕ, suc, ◌+◌, ◌-◌, ◌≤◌, ◌<◌}
use mathlib.Core.Path.{◌≡◌, refl, sym, ap, ◌∙◌}
use mathlib.Core.List.{List, [], ◌∷◌, ◌++◌, append_assoc}
use native.Mathlib.Nat.{zero-add, sub-zero}
use native.Mathlib.Numerals.{add-one}
use native.Mathlib.Omega.{arith}
use lib.ListN.{length, get_or, set, replicate, length-append, length-replicate, replicate-append-replicate}
use lib.Seq.{sets, append_snoc, set-get_or, set_at, get_or_at}
use Rattle.memory.proofs.Laws.{all_fits, page_fits}
use Rattle.model.specs.declared.CellCoordinate.{CellCoordinate}
use Rattle.model.specs.Sheet.{regions_from}
use Rattle.laws.proofs.Lengths.{regions_length}
use Rattle.cells.specs.Columns.{coordinate_at}
use Rattle.std.specs.declared.cmp.Ordering.{Ordering}
use Rattle.std.specs.declared.cmp.Ordering.TheVariants.{Less, Equal, Greater}
use Rattle.places.specs.Walk.{Walk, walk_of, side, walk_from, walk, standing}
use Rattle.places.proofs.Steps.{passing, entering, walk_before, walk_at, walk_after, walk_no_cells, walk_no_regions}

-- ---- what is left of the coordinates

abbrev coordinates_left : List ℕ → List ℕ → ℕ → List CellCoordinate
coordinates_left rows cols i = regions_from rows cols i (length rows - i)

module _ (rows cols : List ℕ) (i : ℕ) where
  one_left : i < length rows → coordinates_left rows cols i ≡ coordinate_at rows cols i ∷ coordinates_left rows cols (i + 1)
  unfolding regions_from
  one_left h = let more : length rows - i ≡ suc (length rows - (i + 1)) = omega arith in rw (more, add-one)

  none_left : length rows ≤ i → coordinates_left rows cols i ≡ []
  unfolding regions_from
  none_left h = let none : length rows - i ≡ 0 = omega arith in rw none

-- ---- what is left of the walk

module _ (rows cols region_rows region_cols : List ℕ) where
  abbrev walk_left : ℕ → ℕ → Walk
  walk_left i k = walk_from i (coordinates_left rows cols i) (coordinates_left region_rows region_cols k)

  abbrev walk_whole : Walk
  walk_whole = walk (standing rows cols) (standing region_rows region_cols)

  abbrev side_at : ℕ → ℕ → Ordering
  side_at i k = side (coordinate_at rows cols i) (coordinate_at region_rows region_cols k)

  module _ (i k : ℕ) where
    module _ (more-cells : i < length rows) (more-regions : k < length region_rows) where
      left_before : side_at i k ≡ Less → walk_left i k ≡ passing (walk_left (i + 1) k)
      left_before e =
          rw (one_left rows cols i more-cells, one_left region_rows region_cols k more-regions)
          (walk_before i _ _ _ _ e ∙ rw (add-one i))

      left_at : side_at i k ≡ Equal → walk_left i k ≡ entering (i + 1) (walk_left i (k + 1))
      left_at e =
          rw (one_left rows cols i more-cells, one_left region_rows region_cols k more-regions)
          (walk_at i _ _ _ _ e ∙ rw (add-one i))

      left_after : side_at i k ≡ Greater → walk_left i k ≡ entering 0 (walk_left i (k + 1))
      left_after e =
          rw (one_left rows cols i more-cells, one_left region_rows region_cols k more-regions) (walk_after i _ _ _ _ e)

    -- where no cell is left, no comparison is
    left_cells : length rows ≤ i → walk_left i k ≡ walk_of (replicate (length region_rows - k) 0) 0
    left_cells h = rw (none_left rows cols i h) (walk_no_cells i _ ∙ rw (regions_length region_rows region_cols k (length region_rows - k)))

    left_regions : length region_rows ≤ k → walk_left i k ≡ walk_of (replicate (length region_rows - k) 0) 0
    left_regions h =
        let none : length region_rows - k ≡ 0 = omega arith in
        rw (none_left region_rows region_cols k h, none) (walk_no_regions i _)

-- ---- the turns

-- the table holds the entries of the regions before k, and is 0 from k on
pub record Walking (rows cols region_rows region_cols : List ℕ) (room : ℕ) (places : List ℕ) (comparisons i k : ℕ) : Type 0 where
  pub done : List ℕ
  pub long : length done ≡ k
  pub within : k ≤ room
  pub kept : places ≡ done ++ replicate (room - k) 0
  pub parts : done ++ (walk_left rows cols region_rows region_cols i k).places ≡ (walk_whole rows cols region_rows region_cols).places
  pub counted : comparisons + (walk_left rows cols region_rows region_cols i k).comparisons
      ≡ (walk_whole rows cols region_rows region_cols).comparisons
  pub few : comparisons ≤ i + k

-- a table with zeros behind its entries
zeros_behind : (room : ℕ) (xs : List ℕ) → length xs ≤ room → sets (replicate room 0) 0 xs ≡ xs ++ replicate (room - length xs) 0
zeros_behind room xs h =
    sym (all_fits 0 (replicate room 0) 0 xs (omega (arith, length-replicate {A = ℕ} room 0))) ∙ page_fits 0 room xs h

module _ {rows cols region_rows region_cols : List ℕ} {room : ℕ} where
  pub walking_begun : {places : List ℕ} → places ≡ replicate room 0 → Walking rows cols region_rows region_cols room places 0 0 0
  walking_begun z =
      record {
        done = [];
        long = refl;
        within = omega arith;
        kept = z ∙ rw sub-zero;
        parts = simp sub-zero;
        counted = zero-add _ ∙ simp sub-zero;
        few = omega arith;
      }

  module _ {places : List ℕ} {comparisons i k : ℕ} (v : Walking rows cols region_rows region_cols room places comparisons i k) where
    pub walking_long : length places ≡ room
    walking_long =
        let l : length v.done ≡ k = v.long in
        let n : k ≤ room = v.within in
        rw v.kept (simp (length-append, length-replicate) (omega arith))

    -- a region is finished by an entry
    entered : {entry : ℕ} → k < room
        → walk_left rows cols region_rows region_cols i k ≡ entering entry (walk_left rows cols region_rows region_cols i (k + 1))
        → Walking rows cols region_rows region_cols room (set places k entry) (comparisons + 1) i (k + 1)
    entered {entry} h e =
        let more : room - k ≡ suc (room - (k + 1)) = omega arith in
        record {
          done = v.done ++ (entry ∷ []);
          long = length-append v.done _ ∙ ap (λ n. n + 1) v.long;
          within = omega arith;
          kept = rw (v.kept, more) (set_at v.done 0 _ entry k v.long ∙ sym (append_snoc v.done entry _));
          parts = append_snoc v.done entry _ ∙ rw e at v.parts;
          counted = omega (arith, rw e at v.counted);
          few = omega (arith, v.few);
        }

    -- the table is 0 there already
    zero_kept : k < room → set places k 0 ≡ places
    zero_kept h =
        let more : room - k ≡ suc (room - (k + 1)) = omega arith in
        let zero-there : get_or places k 0 ≡ 0 = rw (v.kept, more) (get_or_at v.done 0 _ 0 k v.long) in
        ap (set places k) (sym zero-there) ∙ set-get_or places k 0

    module _ (more-cells : i < length rows) (more-regions : k < length region_rows) where
      pub walking_before : side_at rows cols region_rows region_cols i k ≡ Less
          → Walking rows cols region_rows region_cols room places (comparisons + 1) (i + 1) k
      walking_before s =
          let e = left_before rows cols region_rows region_cols i k more-cells more-regions s in
          record {
            done = v.done;
            long = v.long;
            within = v.within;
            kept = v.kept;
            parts = rw e at v.parts;
            counted = omega (arith, rw e at v.counted);
            few = omega (arith, v.few);
          }

      module _ (fits : length region_rows ≤ room) where
        pub walking_at : side_at rows cols region_rows region_cols i k ≡ Equal
            → Walking rows cols region_rows region_cols room (set places k (i + 1)) (comparisons + 1) i (k + 1)
        walking_at s = entered (omega arith) (left_at rows cols region_rows region_cols i k more-cells more-regions s)

        pub walking_after : side_at rows cols region_rows region_cols i k ≡ Greater
            → Walking rows cols region_rows region_cols room places (comparisons + 1) i (k + 1)
        walking_after s =
            let h : k < room = omega arith in
            rw (zero_kept h) at (entered h (left_after rows cols region_rows region_cols i k more-cells more-regions s))

    ended : length region_rows ≤ room
        → walk_left rows cols region_rows region_cols i k ≡ walk_of (replicate (length region_rows - k) 0) 0
        → (comparisons ≡ (walk_whole rows cols region_rows region_cols).comparisons)
        × (places ≡ sets (replicate room 0) 0 (walk_whole rows cols region_rows region_cols).places)
    ended h e =
        let m = length region_rows - k in
        let all : v.done ++ replicate m 0 ≡ (walk_whole rows cols region_rows region_cols).places = rw e at v.parts in
        let l : length (v.done ++ replicate m 0) ≡ k + m = length-append v.done _ ∙ rw (v.long, length-replicate) in
        let n : k ≤ room = v.within in
        let rest : m + (room - (k + m)) ≡ room - k = omega arith in (
          omega (arith, rw e at v.counted),
          v.kept ∙ rw (
            ← all,
            zeros_behind room (v.done ++ replicate m 0) (omega (arith, l)),
            l,
            append_assoc,
            replicate-append-replicate,
            rest,
          ),
        )

    pub walking_cells_ended : length region_rows ≤ room → length rows ≤ i
        → (comparisons ≡ (walk_whole rows cols region_rows region_cols).comparisons)
        × (places ≡ sets (replicate room 0) 0 (walk_whole rows cols region_rows region_cols).places)
    walking_cells_ended h none = ended h (left_cells rows cols region_rows region_cols i k none)

    pub walking_regions_ended : length region_rows ≤ room → length region_rows ≤ k
        → (comparisons ≡ (walk_whole rows cols region_rows region_cols).comparisons)
        × (places ≡ sets (replicate room 0) 0 (walk_whole rows cols region_rows region_cols).places)
    walking_regions_ended h none = ended h (left_regions rows cols region_rows region_cols i k none)
