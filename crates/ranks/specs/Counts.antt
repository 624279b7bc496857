-- How many values pass a test by order. Assumes nothing.
use Rattle.std.specs.Prelude.{ℕ, Bool, ◌&&◌, List, nat_le, nat_lt, Float, count_by}
use Rattle.std.specs.Float.Ieee.{lt, le}
use Rattle.model.specs.Values.{comes_before}

-- how many values are less than t, how many are at most t, and how many come before t
abbrev pub below : Float → List Float → ℕ
below t xs = count_by (λ x. lt x t) xs

abbrev pub up_to : Float → List Float → ℕ
up_to t xs = count_by (λ x. le x t) xs

abbrev pub ahead : Float → List Float → ℕ
ahead t xs = count_by (λ x. comes_before x t) xs

-- whether at most k values are less than t and more than k are at most t
abbrev pub stands_at : List Float → ℕ → Float → Bool
stands_at xs k t = nat_le (below t xs) k && nat_lt k (up_to t xs)
