-- The bytes that pass a test from a place of a text on, one byte at a time, as the loops over a text cite them. Assumes nothing.
use Prim.Native.Nat.{ℕ, ◌+◌, ◌≤◌, ◌<◌}
use mathlib.Core.Path.{◌≡◌, ap}
use mathlib.Core.Bool.{Bool, true, false}
use mathlib.Core.List.{List, [], ◌∷◌}
use native.Mathlib.Omega.{arith}
use lib.ListN.{length, drop, get_or, drop_of_length-le}
use Rattle.grammar.proofs.Places.{here}
use Rattle.a1text.specs.Bytes.{taken}

module _ (test : ℕ → Bool) (s : List ℕ) (q : ℕ) where
  pub run_ended : length s ≤ q → taken test (drop q s) ≡ []
  unfolding taken
  run_ended h = rw (drop_of_length-le s h)

  pub run_stops : q < length s → test (get_or s q 0) ≡ false → taken test (drop q s) ≡ []
  unfolding taken
  run_stops h e = rw (here s q h, e)

  pub run_next : q < length s → test (get_or s q 0) ≡ true → taken test (drop q s) ≡ get_or s q 0 ∷ taken test (drop (q + 1) s)
  unfolding taken
  run_next h e = rw (here s q h, e)

-- a run of which the bytes up to q are passed
pub record Passed (test : ℕ → Bool) (s : List ℕ) (q : ℕ) : Type 0 where
  pub left : q + length (taken test (drop q s)) ≡ length (taken test s)

module _ {test : ℕ → Bool} {s : List ℕ} where
  pub passed_begun : Passed test s 0
  passed_begun = record { left = omega arith }

  module _ {q : ℕ} (p : Passed test s q) where
    pub passed_more : q < length s → test (get_or s q 0) ≡ true → Passed test s (q + 1)
    passed_more h e = let l = p.left in record { left = omega (arith, ap length (run_next test s q h e)) }

    passed_done : taken test (drop q s) ≡ [] → q ≡ length (taken test s)
    passed_done e = let l = p.left in omega (arith, ap length e)

    pub passed_ended : length s ≤ q → q ≡ length (taken test s)
    passed_ended h = passed_done (run_ended test s q h)

    pub passed_stops : q < length s → test (get_or s q 0) ≡ false → q ≡ length (taken test s)
    passed_stops h e = passed_done (run_stops test s q h e)
