-- A table that is filled in, index by index, at the indices that a test wants. Assumes nothing.
use Prim.Native.Nat.{ℕ, ◌+◌, ◌≤◌, ◌<◌}
use native.Mathlib.Omega.{arith}
use mathlib.Core.Path.{◌≡◌, refl, sym, ◌∙◌}
use mathlib.Core.Bool.{Bool, true, false, true≢false}
use mathlib.Core.List.{List}
use lib.Dec.{ltb}
use lib.ListN.{length, get_or, set, length-set}
use lib.Seq.{get_or-set_same, get_or-set_other}
use borrow.Author.Count.{below_more}
use borrow.Author.Tests.{ltb-true, ltb-false}

module _ {A : Type 0} where
  -- up to i the table has the entry of each index that is wanted; past its end it has d
  pub record FilledIn (d : A) (wanted : ℕ → Bool) (entry : ℕ → A) (first table : List A) (i : ℕ) : Type 0 where
    pub long : length table ≡ length first
    pub filled : (k : ℕ) → k < i → wanted k ≡ true → get_or table k d ≡ entry k

  -- each index is wanted
  abbrev pub Filled : A → (ℕ → A) → List A → List A → ℕ → Type 0
  Filled d entry first table i = FilledIn d (λ k. true) entry first table i

  module _ {d : A} {wanted : ℕ → Bool} {entry : ℕ → A} {first : List A} where
    pub filled_begun : FilledIn d wanted entry first first 0
    filled_begun = record { long = refl; filled = λ k h. absurd (omega arith) }

    -- the indices before i are not wanted
    pub filled_from : {i : ℕ} → ((k : ℕ) → k < i → wanted k ≡ false) → FilledIn d wanted entry first first i
    filled_from e = record { long = refl; filled = λ k h t. absurd (true≢false (sym t ∙ e k h)) }

    module _ {table : List A} {i : ℕ} (v : FilledIn d wanted entry first table i) where
      pub filled_passed : wanted i ≡ false → FilledIn d wanted entry first table (i + 1)
      filled_passed e =
          record {
            long = v.long;
            filled = below_more (λ k. wanted k ≡ true → get_or table k d ≡ entry k) i v.filled (λ t. absurd (true≢false (sym t ∙ e)));
          }

      -- the indices up to j are not wanted
      pub filled_skip : (j : ℕ) → ((k : ℕ) → i ≤ k → k < j → wanted k ≡ false) → FilledIn d wanted entry first table j
      filled_skip j e = record { long = v.long; filled = λ k h t. go k h t (ltb k i) refl }
        where
          go : (k : ℕ) → k < j → wanted k ≡ true → (x : Bool) → ltb k i ≡ x → get_or table k d ≡ entry k
          go k h t true l = v.filled k (ltb-true k i l) t
          go k h t false l = absurd (true≢false (sym t ∙ e k (ltb-false k i l) h))

      pub filled_more : {x : A} → i < length table → x ≡ entry i → FilledIn d wanted entry first (set table i x) (i + 1)
      filled_more {x} h e =
          record {
            long = length-set table i x ∙ v.long;
            filled = below_more (λ k. wanted k ≡ true → get_or (set table i x) k d ≡ entry k) i
                (λ k a t. get_or-set_other table i k x d (omega arith) ∙ v.filled k a t)
                (λ t. get_or-set_same table i x d h ∙ e);
          }
