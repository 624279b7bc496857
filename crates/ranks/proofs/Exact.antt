-- From a float that is equal to the value at k as a number to that value itself, and the value past the end. Assumes nothing.
use Rattle.std.proofs.Common.{◌≡◌, ℕ, ◌<◌, ◌≤◌, true, false, T, List, length, get_or, sym, ◌∙◌, le-ltb, lt-ltb}
use lib.ListN.{get_or-eq_default}
use lib.Ieee.{Float, nan, binary64, lt, eq, fits}
use Rattle.model.specs.Ratio.{zero_f}
use Rattle.model.specs.Values.{sorted, value_at}
use Rattle.laws.proofs.Sorting.{Each}
use Rattle.laws.proofs.FloatOrder.{Finite}
use Rattle.laws.proofs.Values.{sorted_length}
use Rattle.ranks.specs.Counts.{ahead}
use Rattle.ranks.proofs.Counting.{kth_finite, kth_ahead}
use Rattle.ranks.proofs.Halving.{kth_fits}
use Rattle.ranks.proofs.Zeros.{minus_zero, zero_finite, eq_finite, eq_not_less, eq_not_greater}
use Rattle.ranks.proofs.Zeros.{is_zero, is_minus_zero, level_zero, same_number}

-- past the end of the values
pub past_end : (xs : List Float) (k : ℕ) → length xs ≤ k → nan ≡ value_at (sorted xs) k
unfolding value_at
past_end xs k h = sym (get_or-eq_default (sorted xs) nan (rw (sorted_length xs) h))

module _ (xs : List Float) (k : ℕ) (t : Float) (g : (i : ℕ) → T (fits binary64 (get_or xs i nan))) (f : Each Finite xs) (w : k < length xs)
    (n : eq (value_at (sorted xs) k) t ≡ true) where
  level : (Finite t) × (lt t (value_at (sorted xs) k) ≡ false) × (lt (value_at (sorted xs) k) t ≡ false)
  level =
      let v = value_at (sorted xs) k in
      let q = kth_finite xs k f w in
      let p = eq_finite v t q n in
      (p, eq_not_greater v t q p n, eq_not_less v t q p n)

  about_zero : eq t zero_f ≡ true → (lt (value_at (sorted xs) k) zero_f ≡ false) × (lt zero_f (value_at (sorted xs) k) ≡ false)
  about_zero e = level_zero t (value_at (sorted xs) k) level.0 (kth_finite xs k f w) level.1 level.2 e

  pub exact_zero : eq t zero_f ≡ true → ahead zero_f xs ≤ k → zero_f ≡ value_at (sorted xs) k
  exact_zero e l =
      let z = about_zero e in
      sym (is_zero (value_at (sorted xs) k) (kth_finite xs k f w) (kth_fits xs k f w g) z.0 z.1
      (kth_ahead xs k f w zero_f zero_finite ∙ le-ltb k (ahead zero_f xs) l))

  pub exact_minus_zero : eq t zero_f ≡ true → k < ahead zero_f xs → minus_zero ≡ value_at (sorted xs) k
  exact_minus_zero e l =
      let z = about_zero e in
      sym (is_minus_zero (value_at (sorted xs) k) (kth_finite xs k f w) (kth_fits xs k f w g) z.0 z.1
      (kth_ahead xs k f w zero_f zero_finite ∙ lt-ltb k (ahead zero_f xs) l))

  pub exact_other : eq t zero_f ≡ false → T (fits binary64 t) → t ≡ value_at (sorted xs) k
  exact_other e u =
      same_number t (value_at (sorted xs) k) level.0 (kth_finite xs k f w) level.1 level.2 e u (kth_fits xs k f w g)
