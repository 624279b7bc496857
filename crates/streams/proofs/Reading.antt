-- A text that is read piece by piece, and what is written of it, said of all that there was to read. Assumes nothing.
use Rattle.std.proofs.Common.{◌≡◌, ◌<◌, ◌≤◌, ◌+◌, ◌-◌, min, None, Some, Ok, Err, Option, Result, IfOk, IfSome, OnOk, MatchResult, is_ok, length, take, slice_range}
use Rattle.std.proofs.Common.{ℕ, Bool, true, false, leb, List, [], ◌++◌, sym, ap, ◌∙◌, subst, arith, length-take-le, take_all, drop_at, le_refl, refl}
use Rattle.std.proofs.lemmas.List.{append-nil, take-append-le, take_min}
use Rattle.std.proofs.lemmas.Slice.{take-put_mid_below}
use Rattle.std.specs.Io.KnownBytes.{Appends, Consumes, IsAtEnd}
use Rattle.std.proofs.KnownBytes.{Consumes-trans}
use borrow.Author.Tests.{leb-true, leb-false}
use borrow.Rule.Slice.PartMut.{put_mid, post_of}
use lib.Seq.{take-add}

-- bytes at the front that stay as they are, and a range behind them
take_split : (a b : ℕ) (old new : List ℕ) → a ≤ b → take a new ≡ take a old → take a old ++ slice_range new a b ≡ take b new
take_split a b old new h front =
    let same : a + (b - a) ≡ b = omega arith in
    ap (λ l. l ++ slice_range new a b) (sym front) ∙ sym (take-add a (b - a) new) ∙ ap (λ n. take n new) same

-- the front of what was put in the middle
slice_range-put_mid : (a k n : ℕ) (xs ys : List ℕ) → a ≤ length xs → n ≤ length ys → slice_range (put_mid a k xs ys) a (a + n) ≡ take n ys
slice_range-put_mid a k n xs ys within fits =
    let same : (a + n) - a ≡ n = omega arith in
    let after = post_of a k xs in
    ap (take ((a + n) - a)) (drop_at (take a xs) (ys ++ after) a (length-take-le a xs within)) ∙ ap (λ m. take m (ys ++ after)) same ∙ take-append-le n ys after fits

-- what one more read gives stands behind what was there
pub read_on :
    (from more : ℕ) (text part : List ℕ) (old now new : Option (List ℕ))
    → from ≤ length text
    → more ≤ length part
    → Consumes old now (take from text)
    → Consumes now new (take more part)
    → Consumes old new (take (from + more) (put_mid from (length text - from) text part))
read_on from more text part old now new within fits before read =
    let room = length text - from in
    let joined = take_split from (from + more) text (put_mid from room text part) (omega arith) (take-put_mid_below _ _ _ _ _ (le_refl _) within) in
    subst (Consumes old new) (ap (λ l. take from text ++ l) (sym (slice_range-put_mid from room more text part within fits)) ∙ joined) (Consumes-trans _ _ _ _ _ before read)

-- a value that is there after its error is named another was there before
pub before : {T E D : Type 0} (r : Result T E) (s : Result T D) (Q : E → Type 0) (x : T) → is_ok s ≡ is_ok r → MatchResult r (λ y. s ≡ Ok y) Q → s ≡ Ok x → r ≡ Ok x
before (Ok y) s Q x v h e = cc
before (Err d) s Q x v h e = absurd (cc)

-- and what follows from it before, holds if there is one after
pub onto : {T E D A G : Type 0} (r : Result T E) (s : Result T D) → is_ok s ≡ is_ok r → OnOk r A → (A → G) → OnOk s G
onto (Ok x) (Ok y) v a f = f a
onto (Ok x) (Err e) v a f = tt
onto (Err e) (Ok y) v a f = absurd (cc)
onto (Err e) (Err d) v a f = tt

-- as many bytes as are told, if there are so many
pub cut : (r m : ℕ) (bytes : List ℕ) → length bytes ≡ m → take (min r m) bytes ≡ take r bytes
cut r m bytes e = subst (λ k. take (min r k) bytes ≡ take r bytes) e (take_min r bytes)

module _ (m n : ℕ) (text : List ℕ) (size : length text ≡ m) (within : n ≤ length text) where
  long : length (take n text) ≡ n
  long = length-take-le n text within

  -- what was read, against all that there was
  all_read : (xs ys : List ℕ) → xs ≡ take n text ++ ys → (n < length text → ys ≡ []) → take n text ≡ take m xs
  all_read xs ys e h = go (leb m n) refl
    where
      go : (b : Bool) → leb m n ≡ b → take n text ≡ take m xs
      go true f =
          let same : m ≡ length (take n text) = let le : m ≤ n = leb-true _ _ f in omega (arith, long) in
          sym (take_all m (take n text) (omega (arith, long))) ∙ sym (take-append-le m (take n text) ys (omega arith)) ∙ ap (take m) (sym e)
      go false f =
          let less : n < m = leb-false _ _ f in
          let whole : xs ≡ take n text = e ∙ ap (λ l. take n text ++ l) (h (omega arith)) ∙ append-nil _ in
          sym (take_all m (take n text) (omega (arith, long))) ∙ ap (take m) (sym whole)

-- what is told of the bytes that were read, is told of what there was
module _ (told : List ℕ → List ℕ) (m : ℕ) (text bytes : List ℕ) (w v : Option (List ℕ)) (size : length text ≡ m) where
  go : (old new : Option (List ℕ)) (n : ℕ) → n ≤ length text → Consumes old new (take n text) → (n < length text → IsAtEnd new) → bytes ≡ told (take n text) → Appends w v bytes → IfSome old (λ xs. Appends w v (told (take m xs)))
  go None new n within c h e a = tt
  go (Some xs) None n within c h e a = absurd c
  go (Some xs) (Some ys) n within c h e a = subst (Appends w v) (e ∙ ap told (all_read m n text size within xs ys c h)) a

  pub told_of_all :
      {E : Type 0} (Q : E → Type 0) (r : Result ℕ E) (n : ℕ) (old new : Option (List ℕ))
      → r ≡ Ok n
      → IfOk r (λ k. k ≤ length text)
      → MatchResult r (λ k. Consumes old new (take k text)) Q
      → IfOk r (λ k. k < length text → IsAtEnd new)
      → bytes ≡ told (take n text)
      → Appends w v bytes
      → IfSome old (λ xs. Appends w v (told (take m xs)))
  told_of_all Q (Ok k) n old new is within c h e a = go old new k within c h (e ∙ ap (λ j. told (take j text)) (cc)) a
  told_of_all Q (Err d) n old new is within c h e a = absurd (cc)
