-- What a walk over lent columns leaves, where the table is fit and where it is not. Assumes nothing.
use Rattle.std.specs.Prelude.{Some, None}
use Prim.Native.Nat.{ℕ, zero, suc, ◌-◌, ◌≤◌, ◌<◌}
use mathlib.Core.Path.{◌≡◌, refl, ◌∙◌}
use mathlib.Core.Bool.{Bool, true, false, ◌&&◌, false≢true}
use mathlib.Core.List.{List, [], ◌∷◌, ◌++◌}
use mathlib.Core.Option.{none}
use native.Mathlib.Omega.{arith}
use lib.Dec.{leb}
use lib.ListN.{length, get_or, replicate, length-replicate}
use lib.Seq.{sets}
use borrow.Author.Tests.{leb-true}
use Rattle.memory.proofs.Laws.{all_fits, page_fits, page_refused}
use Rattle.model.specs.Job.{first_fall}
use Rattle.laws.proofs.Lengths.{regions_length}
use Rattle.cells.specs.Columns.{coordinate_at, entry_at}
use Rattle.places.specs.Walk.{standing, walk, walk_fits, walked, table_of}
use Rattle.places.proofs.Bounds.{walk_entries, blank}
use Rattle.places.proofs.Finding.{walk_finds}

both : (a b : Bool) → a && b ≡ true → (a ≡ true) × (b ≡ true)
both true b e = (cc, e)
both false b e = absurd (false≢true e)

pub fits_both : (cells regions room : ℕ) → walk_fits cells regions room ≡ true → (cells ≤ 65_535) × (regions ≤ room)
fits_both cells regions room e =
    let tests = both (leb regions room) (leb cells 65_535) e in
    (leb-true _ _ tests.1, leb-true _ _ tests.0)

-- zeros behind a list are what is read past it
front_entry : (xs : List ℕ) (n i : ℕ) → get_or (xs ++ replicate n 0) i 0 ≡ get_or xs i 0
front_entry [] n i = blank n i
front_entry (x ∷ xs) n zero = refl
front_entry (x ∷ xs) n (suc i) = front_entry xs n i

module _ (rows cols region_rows region_cols : List ℕ) (room : ℕ) where
  module _ (e : walk_fits (length rows) (length region_rows) room ≡ false) where
    pub walked_refused : walked (standing rows cols) (standing region_rows region_cols) room ≡ None
    unfolding walked
    walked_refused = rw (regions_length rows cols, regions_length region_rows region_cols, e)

    pub table_refused : table_of (standing rows cols) (standing region_rows region_cols) room ≡ replicate room 0
    unfolding table_of
    table_refused = rw (regions_length rows cols, regions_length region_rows region_cols, e) (page_refused 0 room _)

  module _ (e : walk_fits (length rows) (length region_rows) room ≡ true) where
    pub walked_compared : walked (standing rows cols) (standing region_rows region_cols) room
        ≡ Some (walk (standing rows cols) (standing region_rows region_cols)).comparisons
    unfolding walked
    walked_compared = rw (regions_length rows cols, regions_length region_rows region_cols, e)

    entries_fit : length (walk (standing rows cols) (standing region_rows region_cols)).places ≤ room
    entries_fit =
        omega (
          arith,
          walk_entries (standing rows cols) (standing region_rows region_cols),
          regions_length region_rows region_cols 0 (length region_rows),
          (fits_both (length rows) (length region_rows) room e).1,
        )

    pub table_compared : table_of (standing rows cols) (standing region_rows region_cols) room
        ≡ sets (replicate room 0) 0 (walk (standing rows cols) (standing region_rows region_cols)).places
    unfolding table_of
    table_compared =
        rw (regions_length rows cols, regions_length region_rows region_cols, e)
        (all_fits 0 (replicate room 0) 0 _ (omega (arith, length-replicate {A = ℕ} room 0, entries_fit)))

    -- an entry of the table is that of the walk, 0 behind the last region
    pub table_entry : (i : ℕ) → get_or (table_of (standing rows cols) (standing region_rows region_cols) room) i 0
        ≡ get_or (walk (standing rows cols) (standing region_rows region_cols)).places i 0
    unfolding table_of
    table_entry i =
        let ps = (walk (standing rows cols) (standing region_rows region_cols)).places in
        rw (regions_length rows cols, regions_length region_rows region_cols, e, page_fits 0 room ps (omega (arith, entries_fit)))
        (front_entry ps (room - length ps) i)

    -- in a sheet whose columns rise it is the one for the region's coordinate
    pub table_finds : first_fall rows cols ≡ none → first_fall region_rows region_cols ≡ none → (i : ℕ) → i < length region_rows
        → get_or (table_of (standing rows cols) (standing region_rows region_cols) room) i 0
        ≡ entry_at rows cols (coordinate_at region_rows region_cols i)
    table_finds rise rise' i h = table_entry i ∙ walk_finds rows cols region_rows region_cols rise rise' i h
