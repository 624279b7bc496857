-- What halving keeps: the value at k stands between the floats of two keys. Assumes nothing.
use Rattle.std.proofs.Common.{◌≡◌, ℕ, suc, ◌+◌, ◌-◌, ◌<◌, ◌≤◌, Bool, true, false, ◌||◌, T, List, [], ◌∷◌, length, get_or, sym, refl, ◌∙◌, subst, inl, inr, true≢false, eq-or-lt_of_le, arith, le-ltb, lt-ltb}
use mathlib.Core.List.{not-mem-nil}
use denote.Floats.{passes}
use lib.Ieee.{Float, nan, binary64, lt, le, eq, fits}
use lib.Ieee.Bits.{is_true}
use Rattle.model.specs.Values.{sorted, value_at}
use Rattle.laws.proofs.Sorting.{Each, each_cons}
use Rattle.laws.proofs.FloatOrder.{Finite}
use Rattle.ranks.specs.Counts.{below, up_to}
use Rattle.ranks.specs.Keys.{of_key}
use Rattle.ranks.proofs.Counting.{kth_member, kth_finite, kth_below, kth_up_to}
use Rattle.ranks.proofs.Keys.{least_key, greatest_key, between_keys, within_infinities}

pub record Halved (xs : List Float) (k lo hi : ℕ) : Type 0 where
  pub low : least_key ≤ lo
  pub apart : lo ≤ hi
  pub high : hi ≤ greatest_key
  pub from : lt (value_at (sorted xs) k) (of_key lo) ≡ false
  pub to : lt (value_at (sorted xs) k) (of_key hi) ≡ true

-- each value is one of binary64
each_fits : (xs : List Float) → ((i : ℕ) → T (fits binary64 (get_or xs i nan))) → Each (λ x. fits binary64 x ≡ true) xs
each_fits [] h = λ a m. absurd (not-mem-nil m)
each_fits (x ∷ xs) h = each_cons (fits binary64) (is_true (fits binary64 x) (h 0)) (each_fits xs (λ i. h (suc i)))

module _ (xs : List Float) (k : ℕ) (f : Each Finite xs) (w : k < length xs) where
  pub kth_fits : ((i : ℕ) → T (fits binary64 (get_or xs i nan))) → T (fits binary64 (value_at (sorted xs) k))
  kth_fits g = passes (fits binary64 (value_at (sorted xs) k)) (each_fits xs g (value_at (sorted xs) k) (kth_member xs k f w))

  pub halved_begins : Halved xs k least_key greatest_key
  halved_begins =
      let within = within_infinities (value_at (sorted xs) k) (kth_finite xs k f w) in
      record { low = omega arith; apart = omega arith; high = omega arith; from = within.0; to = within.1 }

  module _ (lo hi mid : ℕ) (h : Halved xs k lo hi) (l : lo ≤ mid) (r : mid < hi) where
    -- at most k values are below a key: the value at k is not
    pub halved_up : below (of_key mid) xs ≤ k → Halved xs k mid hi
    halved_up e =
        record {
          low = omega (arith, h.low);
          apart = omega arith;
          high = h.high;
          from = kth_below xs k f w (of_key mid) ∙ le-ltb k (below (of_key mid) xs) e;
          to = h.to;
        }

    -- nor are more at most it: the value at k is not below the next key
    pub halved_past : below (of_key mid) xs ≤ k → up_to (of_key mid) xs ≤ k → ((i : ℕ) → T (fits binary64 (get_or xs i nan)))
        → Halved xs k (mid + 1) hi
    unfolding le
    halved_past e d g =
        record {
          low = omega (arith, h.low);
          apart = omega arith;
          high = h.high;
          from = decided (lt v (of_key (mid + 1))) refl;
          to = h.to;
        }
      where
        v : Float
        v = value_at (sorted xs) k

        up : Halved xs k mid hi
        up = halved_up e

        above : le v (of_key mid) ≡ false
        above = kth_up_to xs k f w (of_key mid) ∙ le-ltb k (up_to (of_key mid) xs) d

        decided : (b : Bool) → lt v (of_key (mid + 1)) ≡ b → b ≡ false
        decided true t =
            let q = between_keys v mid (kth_finite xs k f w) (kth_fits g) up.low (omega (arith, h.high)) up.from t in
            absurd (true≢false ((λ i. sym up.from i || sym q i) ∙ above))
        decided false t = refl

    pub halved_down : k < below (of_key mid) xs → Halved xs k lo mid
    halved_down e =
        record {
          low = h.low;
          apart = l;
          high = omega (arith, h.high);
          from = h.from;
          to = kth_below xs k f w (of_key mid) ∙ lt-ltb k (below (of_key mid) xs) e;
        }

  pub halved_ends : (lo hi : ℕ) → Halved xs k lo hi → hi - lo ≤ 1 → ((i : ℕ) → T (fits binary64 (get_or xs i nan)))
      → eq (value_at (sorted xs) k) (of_key lo) ≡ true
  halved_ends lo hi h e g = elim (eq-or-lt_of_le h.apart) [ inl s ↦ absurd (true≢false (sym h.to ∙ none s)) | inr l ↦ next l ]
    where
      v : Float
      v = value_at (sorted xs) k

      none : lo ≡ hi → lt v (of_key hi) ≡ false
      none s = subst (λ (m : ℕ). lt v (of_key m) ≡ false) s h.from

      next : lo < hi → eq v (of_key lo) ≡ true
      next l =
          let s : hi ≡ lo + 1 = omega arith in
          between_keys v lo (kth_finite xs k f w) (kth_fits g) h.low (omega (arith, h.high)) h.from
          (subst (λ (m : ℕ). lt v (of_key m) ≡ true) s h.to)
