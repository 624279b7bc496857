-- A value at a place of the values in order passes a test that holds of all below it exactly if more values than that pass it.
-- Assumes nothing.
use Rattle.std.proofs.Common.{◌≡◌, ℕ, zero, suc, ◌+◌, ◌<◌, ◌≤◌, Bool, true, false, cond, not, ◌||◌, ltb, leb, List, [], ◌∷◌}
use Rattle.std.proofs.Common.{length, get_or, sym, refl, ap, ◌∙◌, true≢false, le_of_suc-le-suc, not-suc-le-zero}
use Rattle.std.proofs.Common.{arith, ltb-false, ltb-true, le-ltb, lt-ltb, leb-true}
use mathlib.Core.Bool.{false≢true}
use mathlib.Core.List.Perm
use mathlib.Core.List.{Mem, mem-cons_self, mem-cons_of_mem}
use mathlib.Core.List.{Permᴰ}
use mathlib.Core.List.Pairwise
use mathlib.Core.List.{Pairwise, rel_of_Pairwise-cons}
use borrow.Author.Tests.{not-true}
use native.Mathlib.Nat.{add_left_comm}
use lib.Ieee.{Float, nan, inf, fin, lt, le, eq}
use Rattle.model.specs.Readings.{finite}
use Rattle.model.specs.Values.{comes_before, sorted, value_at}
use Rattle.laws.proofs.Covered.{and_true}
use Rattle.laws.proofs.Sorting.{Each, each_permuted, sort_by_permutesᴰ}
use Rattle.laws.proofs.FloatOrder.{Finite, lt_order, comes_before_order, le_not_less}
use Rattle.laws.proofs.Values.{sorted_permutes, sorted_length, sorted_ordered, sorted_rises}
use Rattle.std.specs.List.{count_by}
use Rattle.std.proofs.lemmas.List.Sums.{sum_by-cons}
use Rattle.ranks.specs.Counts.{below, up_to, ahead, stands_at}

ltb_more : (a b : ℕ) → ltb (suc a) (1 + b) ≡ ltb a b
ltb_more a b = decided (ltb a b) refl
  where
    decided : (t : Bool) → ltb a b ≡ t → ltb (suc a) (1 + b) ≡ t
    decided true e = lt-ltb (suc a) (1 + b) (omega (arith, ltb-true a b e))
    decided false e = le-ltb (suc a) (1 + b) (omega (arith, ltb-false a b e))

get_d_member : {A : Type 0} (xs : List A) (i : ℕ) (d : A) → i < length xs → Mem (get_or xs i d) xs
get_d_member [] i d h = absurd (not-suc-le-zero h)
get_d_member (x ∷ xs) zero d h = mem-cons_self
get_d_member (x ∷ xs) (suc i) d h = mem-cons_of_mem x (get_d_member xs i d (le_of_suc-le-suc h))

-- ---- counts

module _ {A : Type 0} (test : A → Bool) where
  count_cons : (x : A) (xs : List A) → count_by test (x ∷ xs) ≡ cond (test x) 1 0 + count_by test xs
  count_cons = sum_by-cons (λ a. cond (test a) 1 0)

  count_none : (xs : List A) → Each (λ a. test a ≡ false) xs → count_by test xs ≡ 0
  count_none [] h = refl
  count_none (x ∷ xs) h = rw (count_cons x xs, h x mem-cons_self, count_none xs (λ a m. h a (mem-cons_of_mem x m)))

  -- a permutation has as many
  pub count_permuted : {xs ys : List A} → Permᴰ xs ys → count_by test xs ≡ count_by test ys
  count_permuted Permᴰ.nil = refl
  count_permuted (Permᴰ.cons e p) = simp count_cons (λ i. cond (test (e i)) 1 0 + count_permuted p i)
  count_permuted (Permᴰ.swap {l = l} e f) =
      simp count_cons (add_left_comm _ _ (count_by test l) ∙ λ i. cond (test (f i)) 1 0 + (cond (test (e i)) 1 0 + count_by test l))
  count_permuted (Permᴰ.trans p q) = count_permuted p ∙ count_permuted q

  -- of elements none of which passes after one that does not, the one at k passes exactly if more than k pass
  pub at_counted : (ys : List A) (k : ℕ) (d : A) → Pairwise (λ x y. test y ≡ true → test x ≡ true) ys → k < length ys
      → test (get_or ys k d) ≡ ltb k (count_by test ys)
  at_counted [] k d h r = absurd (not-suc-le-zero r)
  at_counted (y ∷ ys) k d h r = rw (count_cons y ys) (decided (test y) refl k r (λ j s. at_counted ys j d (Pairwise.of_cons h) s))
    where
      count : ℕ
      count = count_by test ys

      none_later : test y ≡ false → Each (λ a. test a ≡ false) ys
      none_later e a m = other (test a) refl
        where
          other : (b : Bool) → test a ≡ b → b ≡ false
          other true t = absurd (true≢false (sym (rel_of_Pairwise-cons h m t) ∙ e))
          other false t = refl

      decided : (b : Bool) → test y ≡ b → (k : ℕ) → k < suc (length ys)
          → ((j : ℕ) → j < length ys → test (get_or ys j d) ≡ ltb j count)
          → test (get_or (y ∷ ys) k d) ≡ ltb k (cond b 1 0 + count)
      decided true e zero s later = e ∙ sym (lt-ltb 0 (1 + count) (omega arith))
      decided true e (suc j) s later = later j (le_of_suc-le-suc s) ∙ sym (ltb_more j count)
      decided false e zero s later = e ∙ sym (le-ltb 0 (0 + count) (omega (arith, count_none ys (none_later e))))
      decided false e (suc j) s later =
          let none = count_none ys (none_later e) in
          later j (le_of_suc-le-suc s) ∙ le-ltb j count (omega arith) ∙ sym (le-ltb (suc j) (0 + count) (omega arith))

-- ---- tests of finite floats that hold of all below

module _ (x y : Float) (p : Finite x) (q : Finite y) (h : le x y ≡ true) where
  not_less : lt y x ≡ false
  not_less = not-true (lt y x) (sym (le_not_less x y p q) ∙ h)

  lt_down_finite : (t : Float) → Finite t → lt y t ≡ true → lt x t ≡ true
  lt_down_finite t r e = decided (lt x t) refl
    where
      decided : (b : Bool) → lt x t ≡ b → b ≡ true
      decided true f = refl
      decided false f = absurd (true≢false (sym e ∙ lt_order.following t x y r p q f not_less))

  le_down_finite : (t : Float) → Finite t → le y t ≡ true → le x t ≡ true
  le_down_finite t r e =
      le_not_less x t p r ∙ ap not (lt_order.following x y t p q r not_less (not-true (lt t y) (sym (le_not_less y t q r) ∙ e)))

-- what is compared with not-a-number or an infinity does not matter, if it is finite
lt_same : (x y t : Float) → Finite x → Finite y → finite t ≡ false → lt x t ≡ lt y t
unfolding lt finite
lt_same nan y t p q r = absurd (false≢true p)
lt_same (inf s) y t p q r = absurd (false≢true p)
lt_same (fin s m e) nan t p q r = absurd (false≢true q)
lt_same (fin s m e) (inf u) t p q r = absurd (false≢true q)
lt_same (fin s m e) (fin u n d) nan p q r = refl
lt_same (fin s m e) (fin u n d) (inf v) p q r = refl
lt_same (fin s m e) (fin u n d) (fin v l c) p q r = absurd (true≢false r)

eq_none : (x t : Float) → Finite x → finite t ≡ false → eq x t ≡ false
unfolding eq finite
eq_none nan t p r = absurd (false≢true p)
eq_none (inf s) t p r = absurd (false≢true p)
eq_none (fin s m e) nan p r = refl
eq_none (fin s m e) (inf u) p r = refl
eq_none (fin s m e) (fin v l c) p r = absurd (true≢false r)

le_same : (x y t : Float) → Finite x → Finite y → finite t ≡ false → le x t ≡ le y t
unfolding le
le_same x y t p q r = λ i. lt_same x y t p q r i || (eq_none x t p r ∙ sym (eq_none y t q r)) i

lt_down : (x y t : Float) → Finite x → Finite y → le x y ≡ true → lt y t ≡ true → lt x t ≡ true
lt_down x y t p q h e = decided (finite t) refl
  where
    decided : (b : Bool) → finite t ≡ b → lt x t ≡ true
    decided true r = lt_down_finite x y p q h t r e
    decided false r = lt_same x y t p q r ∙ e

le_down : (x y t : Float) → Finite x → Finite y → le x y ≡ true → le y t ≡ true → le x t ≡ true
le_down x y t p q h e = decided (finite t) refl
  where
    decided : (b : Bool) → finite t ≡ b → le x t ≡ true
    decided true r = le_down_finite x y p q h t r e
    decided false r = le_same x y t p q r ∙ e

before_down : (x y t : Float) → Finite x → Finite y → Finite t → comes_before y x ≡ false → comes_before y t ≡ true → comes_before x t ≡ true
before_down x y t p q r d e = decided (comes_before x t) refl
  where
    decided : (b : Bool) → comes_before x t ≡ b → b ≡ true
    decided true f = refl
    decided false f = absurd (true≢false (sym e ∙ comes_before_order.following t x y r p q f d))

-- ---- the value at k

module _ (xs : List Float) (k : ℕ) (f : Each Finite xs) (h : k < length xs) where
  sorted_finite : Each Finite (sorted xs)
  sorted_finite = each_permuted (sorted_permutes xs) f

  within : k < length (sorted xs)
  within = rw (sorted_length xs) h

  sorted_count : (test : Float → Bool) → count_by test (sorted xs) ≡ count_by test xs
  unfolding sorted
  sorted_count test = count_permuted test (sort_by_permutesᴰ comes_before xs)

  -- it is one of the values
  pub kth_member : Mem (value_at (sorted xs) k) xs
  unfolding value_at
  kth_member = (Perm.mem_iff (sorted_permutes xs)).0 (get_d_member (sorted xs) k nan within)

  pub kth_finite : Finite (value_at (sorted xs) k)
  kth_finite = f _ kth_member

  -- it is less than t exactly if more than k values are
  pub kth_below : (t : Float) → lt (value_at (sorted xs) k) t ≡ ltb k (below t xs)
  unfolding value_at
  kth_below t =
      at_counted (λ x. lt x t) (sorted xs) k nan
      (Pairwise.imp_of_mem (λ x y m n r. lt_down x y t (sorted_finite x m) (sorted_finite y n) r) (sorted_rises xs f)) within
      ∙ ap (ltb k) (sorted_count (λ x. lt x t))

  -- it is at most t exactly if more than k values are
  pub kth_up_to : (t : Float) → le (value_at (sorted xs) k) t ≡ ltb k (up_to t xs)
  unfolding value_at
  kth_up_to t =
      at_counted (λ x. le x t) (sorted xs) k nan
      (Pairwise.imp_of_mem (λ x y m n r. le_down x y t (sorted_finite x m) (sorted_finite y n) r) (sorted_rises xs f)) within
      ∙ ap (ltb k) (sorted_count (λ x. le x t))

  -- what at most k values are less than, and more than k are at most, is equal to it as a number
  pub kth_told : (t : Float) → below t xs ≤ k → k < up_to t xs → eq (value_at (sorted xs) k) t ≡ true
  unfolding le
  kth_told t a b =
      (λ i. sym (kth_below t ∙ le-ltb k (below t xs) a) i || eq (value_at (sorted xs) k) t) ∙ kth_up_to t ∙ lt-ltb k (up_to t xs) b

  pub kth_stands : (t : Float) → stands_at xs k t ≡ true → eq (value_at (sorted xs) k) t ≡ true
  kth_stands t e =
      let h = (and_true (leb (below t xs) k) (ltb k (up_to t xs))).0 e in
      kth_told t (leb-true (below t xs) k h.0) (ltb-true k (up_to t xs) h.1)

  -- it comes before a finite float exactly if more than k values do
  pub kth_ahead : (t : Float) → Finite t → comes_before (value_at (sorted xs) k) t ≡ ltb k (ahead t xs)
  unfolding value_at
  kth_ahead t r =
      at_counted (λ x. comes_before x t) (sorted xs) k nan
      (Pairwise.imp_of_mem (λ x y m n d. before_down x y t (sorted_finite x m) (sorted_finite y n) r d) (sorted_ordered xs f)) within
      ∙ ap (ltb k) (sorted_count (λ x. comes_before x t))
