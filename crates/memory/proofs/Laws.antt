-- Laws of memory that comes back whole or zero. Assumes nothing.
use Prim.Native.Nat.{ℕ, zero, suc, ◌+◌, ◌-◌, ◌≤◌, ◌<◌}
use native.Mathlib.Nat.{not-suc-le-zero}
use native.Mathlib.Omega.{arith}
use mathlib.Core.Path.{◌≡◌, refl, sym, ap, ◌∙◌}
use mathlib.Core.Bool.{Bool, true, false, cond, ◌&&◌}
use mathlib.Core.List.{List, [], ◌∷◌, ◌++◌}
use lib.Dec.{leb}
use lib.ListN.{length, drop, set, replicate, length-append, length-replicate}
use lib.Seq.{sets, sets-eq, set_out, length-sets}
use borrow.Author.Tests.{leb-true, leb-false, le-leb, lt-leb}
use Rattle.memory.specs.Memory.{fits, all_or, page_or, page, page_length}

module _ {A : Type 0} where
  -- nothing is stored past the end
  pub sets_out : (xs d : List A) (at : ℕ) → length d ≤ at → sets d at xs ≡ d
  sets_out [] d at h = refl
  sets_out (x ∷ xs) d at h = rw (set_out d at x h) (sets_out xs d (suc at) (omega arith))

  pub sets_append : (d : List A) (at : ℕ) (xs ys : List A) → sets d at (xs ++ ys) ≡ sets (sets d at xs) (at + length xs) ys
  sets_append d at [] ys = let e : at + 0 ≡ at = omega arith in rw e
  sets_append d at (x ∷ xs) ys =
      let e : at + suc (length xs) ≡ suc at + length xs = omega arith in
      rw e (sets_append (set d at x) (suc at) xs ys)

  -- ---- all, or zeros

  module _ (z : A) (d : List A) (at : ℕ) (xs : List A) where
    -- it fits
    pub all_fits : at + length xs ≤ length d → all_or z true d at xs ≡ sets d at xs
    unfolding all_or
    all_fits h = rw (le-leb (at + length xs) (length d) h)

    -- it does not fit
    pub all_over : (ok : Bool) → length d < at + length xs → all_or z ok d at xs ≡ replicate (length d) z
    unfolding all_or
    all_over true h = rw (lt-leb (at + length xs) (length d) h)
    all_over false h = refl

    -- it is refused
    pub all_refused : all_or z false d at xs ≡ replicate (length d) z
    unfolding all_or
    all_refused = refl

    pub length_all : (ok : Bool) → length (all_or z ok d at xs) ≡ length d
    unfolding all_or
    length_all ok = go (ok && fits (length d) at (length xs))
      where
        go : (b : Bool) → length (cond b (sets d at xs) (replicate (length d) z)) ≡ length d
        go true = length-sets d at xs
        go false = length-replicate (length d) z

  -- nothing, within the memory
  pub all_none : (z : A) (d : List A) (at : ℕ) → at ≤ length d → all_or z true d at [] ≡ d
  all_none z d at h = all_fits z d at [] (omega arith)

  -- one part after another: once a part does not fit, the memory stays zero
  pub all_append : (z : A) (d : List A) (at : ℕ) (xs ys : List A)
      → all_or z true d at (xs ++ ys) ≡ all_or z true (all_or z true d at xs) (at + length xs) ys
  all_append z d at xs ys = go (leb (at + length xs) (length d)) refl
    where
      k : length (xs ++ ys) ≡ length xs + length ys
      k = length-append xs ys

      l : length (all_or z true d at xs) ≡ length d
      l = length_all z d at xs true

      both : at + length xs ≤ length d → (b : Bool) → leb (at + length (xs ++ ys)) (length d) ≡ b
          → all_or z true d at (xs ++ ys) ≡ all_or z true (all_or z true d at xs) (at + length xs) ys
      both h true e =
          let g : at + length (xs ++ ys) ≤ length d = leb-true _ _ e in
          all_fits z d at (xs ++ ys) g
          ∙ (sets_append d at xs ys
          ∙ (ap (λ (m : List A). sets m (at + length xs) ys) (sym (all_fits z d at xs h))
          ∙ sym (all_fits z (all_or z true d at xs) (at + length xs) ys (omega (arith, k, l)))))
      both h false e =
          let g : length d < at + length (xs ++ ys) = leb-false _ _ e in
          all_over z d at (xs ++ ys) true g
          ∙ (ap (λ (n : ℕ). replicate n z) (sym l)
          ∙ sym (all_over z (all_or z true d at xs) (at + length xs) ys true (omega (arith, k, l))))

      go : (b : Bool) → leb (at + length xs) (length d) ≡ b
          → all_or z true d at (xs ++ ys) ≡ all_or z true (all_or z true d at xs) (at + length xs) ys
      go true e = both (leb-true _ _ e) (leb (at + length (xs ++ ys)) (length d)) refl
      go false e =
          let h : length d < at + length xs = leb-false _ _ e in
          all_over z d at (xs ++ ys) true (omega (arith, k))
          ∙ (ap (λ (n : ℕ). replicate n z) (sym l)
          ∙ sym (all_over z (all_or z true d at xs) (at + length xs) ys true (omega (arith, l))))

  -- ---- a result alone in its memory

  drop_replicate : (n k : ℕ) (z : A) → k ≤ n → drop k (replicate n z) ≡ replicate (n - k) z
  drop_replicate n zero z h = let e : n - 0 ≡ n = omega arith in rw e
  drop_replicate zero (suc k) z h = absurd (not-suc-le-zero h)
  drop_replicate (suc n) (suc k) z h =
      let e : suc n - suc k ≡ n - k = omega arith in
      rw e (drop_replicate n k z (omega arith))

  module _ (z : A) (n : ℕ) (xs : List A) where
    long : length (replicate n z) ≡ n
    long = length-replicate n z

    -- all of it, with zeros behind it
    pub page_fits : length xs ≤ n → page_or z true n xs ≡ xs ++ replicate (n - length xs) z
    page_fits h =
        let e : 0 + length xs ≡ length xs = omega arith in
        all_fits z (replicate n z) 0 xs (omega (arith, long))
        ∙ (sets-eq xs (replicate n z) 0 (omega (arith, long))
        ∙ ap (λ (r : List A). xs ++ r) (ap (λ (k : ℕ). drop k (replicate n z)) e ∙ drop_replicate n (length xs) z h))

    pub page_over : (ok : Bool) → n < length xs → page_or z ok n xs ≡ replicate n z
    page_over ok h = all_over z (replicate n z) 0 xs ok (omega (arith, long)) ∙ ap (λ (k : ℕ). replicate k z) long

    pub page_refused : page_or z false n xs ≡ replicate n z
    page_refused = all_refused z (replicate n z) 0 xs ∙ ap (λ (k : ℕ). replicate k z) long

    pub length_page : (ok : Bool) → length (page_or z ok n xs) ≡ n
    length_page ok = length_all z (replicate n z) 0 xs ok ∙ long

-- ---- a text

module _ (n : ℕ) (ts : List ℕ) where
  -- a text that fits, with its length
  pub text_fits : length ts ≤ n → (page_length n ts ≡ length ts) × (page n ts ≡ ts ++ replicate (n - length ts) 0)
  unfolding page page_length
  text_fits h = (rw (le-leb (0 + length ts) n (omega arith)), page_fits 0 n ts h)

  pub text_over : n < length ts → (page_length n ts ≡ 0) × (page n ts ≡ replicate n 0)
  unfolding page page_length
  text_over h = (rw (lt-leb (0 + length ts) n (omega arith)), page_over 0 n ts true h)

  pub page_length_most : page_length n ts ≤ n
  page_length_most = go (leb (length ts) n) refl
    where
      go : (b : Bool) → leb (length ts) n ≡ b → page_length n ts ≤ n
      go true e = let h : length ts ≤ n = leb-true _ _ e in omega (arith, (text_fits h).0)
      go false e = omega (arith, (text_over (leb-false _ _ e)).0)
