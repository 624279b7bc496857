-- What stands at a place of a text, and what a reading that succeeded was made of. Assumes nothing.
use Prim.Native.Nat.{ℕ, ◌+◌, ◌≤◌, ◌<◌}
use mathlib.Core.Path.{◌≡◌, refl, sym, ap, ◌∙◌}
use mathlib.Core.List.{List, ◌∷◌, ◌++◌}
use native.Mathlib.Omega.{arith}
use native.Mathlib.Numerals.{add-one}
use lib.ListN.{length, drop, get_or, length-append, length-drop}
use lib.Seq.{drop-cons, drop-drop, drop-append_seam}
use Rattle.grammar.specs.Gram.{Got, Gram, Exactly}
use Rattle.grammar.specs.Gram.Got.{got, bad}
use Rattle.grammar.specs.Parts.{then}

-- past a text stands what follows it
pub past : (s x t : List ℕ) (at : ℕ) → drop at s ≡ x ++ t → drop (at + length x) s ≡ t
past s x t at e = sym (drop-drop (length x) at s) ∙ ap (drop (length x)) e ∙ drop-append_seam x t

-- a byte that stands at a place is within the text
pub within : (s t : List ℕ) (q c : ℕ) → drop q s ≡ c ∷ t → q < length s
within s t q c e = let h = sym (length-drop q s) ∙ ap length e in omega arith

-- what stands from a place on: the byte there, and what stands from the next place on
pub here : (s : List ℕ) (i : ℕ) → i < length s → drop i s ≡ get_or s i 0 ∷ drop (i + 1) s
here s i h = rw (add-one, drop-cons s i 0)

pub at_head : (s t : List ℕ) (q c : ℕ) → drop q s ≡ c ∷ t → get_or s q 0 ≡ c
at_head s t q c e = let h = sym (here s q (within s t q c e)) ∙ e in cc

pub bad_got : {A : Type 0} (p : ℕ) (a : A) (q : ℕ) → bad p ≡ got a q → ⊥
bad_got p a q e = let z : ◌≡◌ {A = ℕ} 0 1 = cc in omega arith

-- what one reader got, and what was made of it
pub record From {A B : Type 0} (g : Got A) (f : A → B) (b : B) (q : ℕ) : Type 0 where
  pub val : A
  pub is : g ≡ got val q
  pub made : f val ≡ b

pub from : {A B : Type 0} (g : Got A) (f : A → B) (b : B) (q : ℕ) → then g (λ a e. got (f a) e) ≡ got b q → From g f b q
from (got a e) f b q x = let y : f a ≡ b = cc in let z : e ≡ q = cc in record { val = a; is = rw z; made = y }
from (bad p) f b q x = absurd (bad_got p b q x)

-- what two readers, one after the other, got
pub record Steps {A B : Type 0} (g : Got A) (f : A → ℕ → Got B) (b : B) (q : ℕ) : Type 0 where
  pub val : A
  pub mid : ℕ
  pub one : g ≡ got val mid
  pub two : f val mid ≡ got b q

pub steps : {A B : Type 0} (g : Got A) (f : A → ℕ → Got B) (b : B) (q : ℕ) → then g f ≡ got b q → Steps g f b q
steps (got a m) f b q e = record { val = a; mid = m; one = refl; two = e }
steps (bad p) f b q e = absurd (bad_got p b q e)

-- an exact grammar reads on within the text
module _ {A : Type 0} {g : Gram A} (G : Exactly g) (s : List ℕ) (at : ℕ) (a : A) (q : ℕ) (e : g.parse s at ≡ got a q) where
  pub forward : at ≤ q
  forward = let n = G.next s at a q e in omega arith

  pub inside : at ≤ length s → q ≤ length s
  inside h =
      let n = G.next s at a q e in
      let l = sym (length-drop at s) ∙ ap length (G.split s at a q e) ∙ length-append (g.text a) (drop q s) in
      omega arith
