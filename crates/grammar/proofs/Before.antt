-- Grammars that are exact before what may follow: put one after the other, read as another value, and on a whole text. Assumes nothing.
use Prim.Native.Nat.{ℕ, ◌+◌}
use mathlib.Core.Path.{◌≡◌, refl, sym, ap, ◌∙◌, subst}
use mathlib.Core.List.{List, [], ◌++◌, append_assoc, append-nil}
use native.Mathlib.Omega.{arith}
use lib.ListN.{length, drop, length-append}
use lib.Seq.{drop-length}
use Rattle.grammar.specs.Gram.{Gram, Exactly, Before}
use Rattle.grammar.specs.Gram.Got.{got}
use Rattle.grammar.specs.Parts.{then, following, read_as}
use Rattle.grammar.proofs.Places.{past, from, steps}

-- ---- whatever follows

pub exactly_before : {A : Type 0} {g : Gram A} → Exactly g → Before g (λ _. Unit {0})
exactly_before G =
    record { reads = λ s at a t o m e. G.reads s at a t o e; ok = G.ok; next = G.next; split = G.split }

pub before_exactly : {A : Type 0} {g : Gram A} → Before g (λ _. Unit {0}) → Exactly g
before_exactly G =
    record { reads = λ s at a t o e. G.reads s at a t o tt e; ok = G.ok; next = G.next; split = G.split }

-- ---- one after the other

module _ {A B : Type 0} (g : Gram A) (h : A → Gram B) where
  pub record Pair (s : List ℕ) (at : ℕ) (x : A × B) (q : ℕ) : Type 0 where
    pub mid : ℕ
    pub one : g.parse s at ≡ got x.0 mid
    pub two : (h x.0).parse s mid ≡ got x.1 q

  pub pair : (s : List ℕ) (at : ℕ) (x : A × B) (q : ℕ) → (following g h).parse s at ≡ got x q → Pair s at x q
  pair s at x q e =
      let m = steps (g.parse s at) (λ a k. then ((h a).parse s k) (λ b n. got (a, b) n)) x q e in
      let f = from ((h m.val).parse s m.mid) (λ b. (m.val, b)) x q m.two in
      let ea : m.val ≡ x.0 = ap (λ (y : A × B). y.0) f.made in
      let eb : f.val ≡ x.1 = ap (λ (y : A × B). y.1) f.made in
      record {
        mid = m.mid;
        one = m.one ∙ ap (λ (a : A). got a m.mid) ea;
        two = subst (λ (a : A). (h a).parse s m.mid ≡ got x.1 q) ea (f.is ∙ ap (λ (b : B). got b q) eb);
      }

module _ {A B : Type 0} {g : Gram A} {h : A → Gram B} {M N : List ℕ → Type 0} (G : Before g M) (H : (a : A) → Before (h a) N)
    (linked : (a : A) (b : B) (t : List ℕ) → (h a).Ok b → N t → M ((h a).text b ++ t)) where
  pub following_before : Before (following g h) N
  following_before = record {
    reads = λ s at x t o m e.
        let u = g.text x.0 in
        let v = (h x.0).text x.1 in
        let e1 : drop at s ≡ u ++ (v ++ t) = e ∙ append_assoc u v t in
        let n : at + length u + length v ≡ at + length (u ++ v) = simp length-append (omega arith) in
        rw (
          G.reads s at x.0 (v ++ t) o.0 (linked x.0 x.1 t o.1 m) e1,
          (H x.0).reads s (at + length u) x.1 t o.1 m (past s u (v ++ t) at e1),
        )
        (ap (λ (k : ℕ). got x k) n);
    ok = λ s at x q e.
        let m = pair g h s at x q e in
        (G.ok s at x.0 m.mid m.one, (H x.0).ok s m.mid x.1 q m.two);
    next = λ s at x q e.
        let m = pair g h s at x q e in
        let i = G.next s at x.0 m.mid m.one in
        let j = (H x.0).next s m.mid x.1 q m.two in
        simp length-append (omega arith);
    split = λ s at x q e.
        let m = pair g h s at x q e in
        rw append_assoc
        (G.split s at x.0 m.mid m.one
        ∙ ap (λ (l : List ℕ). g.text x.0 ++ l) ((H x.0).split s m.mid x.1 q m.two));
  }

-- ---- values

module _ {A B : Type 0} {g : Gram A} {M : List ℕ → Type 0} (G : Before g M) (to : A → B) (back : B → A)
    (back_to : (a : A) → g.Ok a → back (to a) ≡ a) (to_back : (b : B) → to (back b) ≡ b) where
  as_back : (s : List ℕ) (at : ℕ) (b : B) (q : ℕ) → (read_as to back g).parse s at ≡ got b q → g.parse s at ≡ got (back b) q
  as_back s at b q e =
      let m = from (g.parse s at) to b q e in
      m.is ∙ ap (λ (a : A). got a q) (sym (back_to m.val (G.ok s at m.val q m.is)) ∙ ap back m.made)

  pub read_as_before : Before (read_as to back g) M
  read_as_before = record {
    reads = λ s at b t o m e. rw (G.reads s at (back b) t o m e, to_back b);
    ok = λ s at b q e. G.ok s at (back b) q (as_back s at b q e);
    next = λ s at b q e. G.next s at (back b) q (as_back s at b q e);
    split = λ s at b q e. G.split s at (back b) q (as_back s at b q e);
  }

-- ---- whole texts

module _ {A : Type 0} {g : Gram A} {M : List ℕ → Type 0} (G : Before g M) where
  pub accepted : (s : List ℕ) (a : A) → g.parse s 0 ≡ got a (length s) → g.Ok a × (s ≡ g.text a)
  accepted s a e = (
    G.ok s 0 a (length s) e,
    G.split s 0 a (length s) e ∙ (ap (λ (l : List ℕ). g.text a ++ l) (drop-length s) ∙ append-nil (g.text a)),
  )

  module _ (alone : M []) where
    pub accepts : (s : List ℕ) (a : A) → g.Ok a → s ≡ g.text a → g.parse s 0 ≡ got a (length s)
    accepts s a o e =
        let z : 0 + length (g.text a) ≡ length s = omega (arith, ap length e) in
        G.reads s 0 a [] o alone (e ∙ sym (append-nil (g.text a))) ∙ ap (λ (k : ℕ). got a k) z

    -- values that differ have texts that differ
    pub one_text : (a b : A) → g.Ok a → g.Ok b → g.text a ≡ g.text b → a ≡ b
    one_text a b oa ob e = let x = sym (accepts (g.text a) a oa refl) ∙ accepts (g.text a) b ob e in cc
