-- A number of values as a loop reads them: from index i on, one and then those behind it. Assumes nothing.
use Prim.Native.Nat.{ℕ, suc, ◌+◌, ◌-◌, ◌<◌}
use mathlib.Core.Path.{◌≡◌}
use mathlib.Core.List.{List, ◌∷◌}
use native.Mathlib.Omega.{arith}
use Rattle.grammar.specs.Gram.{Got}
use Rattle.grammar.specs.Gram.Got.{got}
use Rattle.grammar.specs.Parts.{then, times_p}

pub times_next : {A : Type 0} (n i : ℕ) (p : List ℕ → ℕ → Got A) (s : List ℕ) (q : ℕ) → i < n
    → times_p (n - i) p s q ≡ then (p s q) (λ a k. then (times_p (n - (i + 1)) p s k) (λ l e. got (a ∷ l) e))
unfolding times_p
times_next n i p s q h = let z : n - i ≡ suc (n - (i + 1)) = omega arith in rw z
