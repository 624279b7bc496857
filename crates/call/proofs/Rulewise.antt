-- The loop over the rules: when the tables are right for all of them and have room. Assumes nothing.
use Prim.Native.Nat.{ℕ, ◌<◌}
use mathlib.Core.Path.{◌≡◌}
use mathlib.Core.Bool.{true}
use mathlib.Core.List.{List}
use lib.Ieee.{Float}
use lib.ListN.{get_or}
use borrow.Author.Tests.{le-leb, lt-ltb}
use Rattle.model.specs.declared.Rule.{Rule}
use Rattle.model.specs.Sheet.{CellColumns}
use Rattle.hits.specs.Hits.{Known, fits_hits}
use Rattle.hits.proofs.Finding.{Fitting}
use Rattle.call.specs.Tables.{Tabled}

-- they are those of the sheet for each of the first `count` rules
abbrev pub AllTabled : CellColumns → List ℕ → List Rule → ℕ → List ℕ → List ℕ → List ℕ → List Float → List Float → List ℕ → Type 0
AllTabled c pool records count rows cols places floats values codes =
    (i : ℕ) (d : Rule) → i < count → Tabled c pool (get_or records i d).kind rows cols places floats values codes

-- the tables that have room fit
pub fits_hits_lem : (from to : ℕ) (k : Known) (cols flags : List ℕ) (room : ℕ) → Fitting from to k cols flags room
    → fits_hits from to k cols flags room ≡ true
fits_hits_lem from to k cols flags room f =
    rw (
      le-leb _ _ f.ordered,
      le-leb _ _ f.few,
      lt-ltb _ _ f.within,
      le-leb _ _ f.for_cols,
      le-leb _ _ f.for_flags,
      le-leb _ _ f.for_values,
      le-leb _ _ f.for_firsts,
      le-leb _ _ f.for_seconds,
      le-leb _ _ f.for_founds,
    )
