-- The bounds that a reader of texts keeps: it stands in a text of at most 65,536 bytes, and no further in the pool than in the text.
-- Assumes nothing.
use Rattle.std.specs.Prelude.{ℕ, ◌≤◌, Bool, ◌&&◌, List, leb, length}

pub record Room (s : List ℕ) (at used : ℕ) : Type 0 where
  pub low : used ≤ at
  pub inside : at ≤ length s
  pub short : length s ≤ 65_536

-- the same as a test
unfoldable pub roomy : List ℕ → ℕ → ℕ → Bool
roomy s at used = leb used at && leb at (length s) && leb (length s) 65_536
