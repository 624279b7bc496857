-- What the bytes of regions say: which regions count with a byte, the places of the bytes that are 1, and the outcomes that have such bytes.
-- Assumes nothing.
use Rattle.std.specs.Prelude.{ℕ, suc, ◌<◌, ◌≡◌, Bool, cond, ◌&&◌, List, [], ◌∷◌, eqb, length, get_or}
use Rattle.model.specs.declared.Outcome.{Outcome}
use Rattle.model.specs.declared.Range.{Range}
use Rattle.hits.specs.Said.{byte_of}
use Rattle.hits.specs.Hits.{column_in}

-- whether a region has this byte, is not stopped, and has a column of the range's
abbrev pub stands : ℕ → Range → List ℕ → List ℕ → List ℕ → ℕ → Bool
stands byte range flags cols said i = eqb (get_or said i 0) byte && eqb (get_or flags i 0) 0 && column_in range (get_or cols i 0)

-- the places of the bytes that are 1, counted from i on
unfoldable pub chosen_from : ℕ → List ℕ → List ℕ
chosen_from i [] = []
chosen_from i (byte ∷ bytes) = let later = chosen_from (suc i) bytes in cond (eqb byte 1) (i ∷ later) later

-- an outcome for each region, whose byte is the one said of it, or 0 where the region is stopped or its column is not the range's
pub record Tells (range : Range) (flags cols said : List ℕ) (os : List Outcome) : Type 0 where
  pub long : length os ≡ length said
  pub each : (i : ℕ) → i < length said → byte_of (get_or os i Outcome.Passed)
      ≡ cond (eqb (get_or flags i 0) 0 && column_in range (get_or cols i 0)) (get_or said i 0) 0
