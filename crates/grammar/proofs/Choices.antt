-- A choice by words is exact where no text of the second part begins with the word of the first. Assumes nothing.
use Prim.Native.Nat.{ℕ, ◌+◌}
use mathlib.Core.Path.{◌≡◌, refl, ap, ◌∙◌}
use mathlib.Core.Logic.{◌⊎◌, inl, inr}
use mathlib.Core.Bool.{Bool, true, false, cond}
use mathlib.Core.List.{List, [], ◌∷◌, ◌++◌, append_assoc}
use native.Mathlib.Omega.{arith}
use lib.Dec.{eqb, T}
use lib.ListN.{length, drop, length-append}
use borrow.Author.Tests.{lt-ltb}
use Rattle.grammar.specs.Gram.{Got, Gram, Exactly}
use Rattle.grammar.specs.Gram.Got.{got, bad}
use Rattle.grammar.specs.Parts.{byte_p, word_p, pick, choice, word, is_second, second, either}
use Rattle.grammar.proofs.Places.{past, within, at_head, from}
use Rattle.grammar.proofs.Parts.{word_got, word_reads, word_exact, read_as_exact}

-- two words that differ at some place, so that neither begins with the other
unfoldable pub apart : List ℕ → List ℕ → Bool
apart [] v = false
apart (a ∷ w) [] = false
apart (a ∷ w) (b ∷ v) = cond (eqb b a) (apart w v) true

-- w is not read at a place
pub record Unread (w : List ℕ) (s : List ℕ) (at : ℕ) : Type 0 where
  pub place : ℕ
  pub is : word_p w s at ≡ bad place

-- no text of the grammar begins with w, whatever follows it
pub record Never (w : List ℕ) {A : Type 0} (g : Gram A) : Type 0 where
  pub never : (s : List ℕ) (at : ℕ) (a : A) (t : List ℕ) → g.Ok a → drop at s ≡ g.text a ++ t → Unread w s at

-- where another word stands, w is not read
pub word_apart : (w v : List ℕ) (s : List ℕ) (at : ℕ) (t : List ℕ) → T (apart w v) → drop at s ≡ v ++ t → Unread w s at
unfolding word_p apart byte_p
word_apart [] v s at t h e = absurd h
word_apart (a ∷ w) [] s at t h e = absurd h
word_apart (a ∷ w) (b ∷ v) s at t h e = go (eqb b a) refl h (word_apart w v s (at + 1) t)
  where
    go : (x : Bool) → eqb b a ≡ x → T (cond x (apart w v) true)
        → (T (apart w v) → drop (at + 1) s ≡ v ++ t → Unread w s (at + 1))
        → Unread (a ∷ w) s at
    go true e1 h ih =
        let r = ih h (past s (b ∷ []) (v ++ t) at e) in
        record { place = r.place; is = rw (lt-ltb _ _ (within s (v ++ t) at b e), at_head s (v ++ t) at b e, e1) r.is }
    go false e1 h ih = record { place = at; is = rw (lt-ltb _ _ (within s (v ++ t) at b e), at_head s (v ++ t) at b e, e1) }

module _ {A B : Type 0} {g : Gram A} {h : Gram B} (w : List ℕ) (G : Exactly g) (H : Exactly h) (N : Never w h) where
  pub record Chosen (s : List ℕ) (at : ℕ) (x : A ⊎ B) (q : ℕ) : Type 0 where
    pub ok : (choice w g h).Ok x
    pub next : q ≡ at + length ((choice w g h).text x)
    pub split : drop at s ≡ (choice w g h).text x ++ drop q s

  chosen : (s : List ℕ) (at : ℕ) (x : A ⊎ B) (q : ℕ) → (choice w g h).parse s at ≡ got x q → Chosen s at x q
  chosen s at x q e = go (word_p w s at) refl e
    where
      go : (y : Got (Unit {0})) → word_p w s at ≡ y → pick y (λ k. g.parse s k) (λ _. h.parse s at) ≡ got x q → Chosen s at x q
      go (got z m) e1 e2 =
          let f = from (g.parse s m) inl x q e2 in
          let n = G.next s m f.val q f.is in
          let k = (word_got w s at z m e1).next in
          rw (← f.made)
          (record {
            ok = G.ok s m f.val q f.is;
            next = simp length-append (omega arith);
            split = rw append_assoc
                ((word_got w s at z m e1).is ∙ ap (λ (l : List ℕ). w ++ l) (G.split s m f.val q f.is));
          })
      go (bad p) e1 e2 =
          let f = from (h.parse s at) inr x q e2 in
          rw (← f.made)
          (record { ok = H.ok s at f.val q f.is; next = H.next s at f.val q f.is; split = H.split s at f.val q f.is })

  choice_reads : (s : List ℕ) (at : ℕ) (x : A ⊎ B) (t : List ℕ) → (choice w g h).Ok x → drop at s ≡ (choice w g h).text x ++ t
      → (choice w g h).parse s at ≡ got x (at + length ((choice w g h).text x))
  choice_reads s at (inl a) t o e =
      let e1 : drop at s ≡ w ++ (g.text a ++ t) = e ∙ append_assoc w (g.text a) t in
      let n : at + length w + length (g.text a) ≡ at + length (w ++ g.text a) = simp length-append (omega arith) in
      rw (word_reads w s (g.text a ++ t) at e1, G.reads s (at + length w) a t o (past s w (g.text a ++ t) at e1), n)
  choice_reads s at (inr b) t o e = rw ((N.never s at b t o e).is, H.reads s at b t o e)

  pub choice_exact : Exactly (choice w g h)
  choice_exact = record {
    reads = choice_reads;
    ok = λ s at x q e. (chosen s at x q e).ok;
    next = λ s at x q e. (chosen s at x q e).next;
    split = λ s at x q e. (chosen s at x q e).split;
  }

-- ---- grammars that never begin with a word

module _ {A B : Type 0} (w v : List ℕ) (g : Gram A) {h : Gram B} where
  -- behind another word, and neither in what follows that choice
  pub never_choice : T (apart w v) → Never w h → Never w (choice v g h)
  never_choice d N = record { never = go }
    where
      go : (s : List ℕ) (at : ℕ) (x : A ⊎ B) (t : List ℕ) → (choice v g h).Ok x → drop at s ≡ (choice v g h).text x ++ t → Unread w s at
      go s at (inl a) t o e = word_apart w v s at (g.text a ++ t) d (e ∙ append_assoc v (g.text a) t)
      go s at (inr b) t o e = N.never s at b t o e

-- another word
pub never_word : (w v : List ℕ) → T (apart w v) → Never w (word v)
never_word w v d = record { never = λ s at a t o e. word_apart w v s at t d e }

pub either_exact : (w v : List ℕ) → T (apart w v) → Exactly (either w v)
either_exact w v d =
    read_as_exact (choice_exact w (word_exact []) (word_exact v) (never_word w v d)) is_second second (λ x _. back_to x) to_back
  where
    back_to : (x : Unit {0} ⊎ Unit {0}) → second (is_second x) ≡ x
    back_to (inl x) = refl
    back_to (inr x) = refl

    to_back : (b : Bool) → is_second (second b) ≡ b
    to_back false = refl
    to_back true = refl

-- behind another word
pub never_behind : {A : Type 0} (w v : List ℕ) (text : A → List ℕ) (h : Gram A) → T (apart w v)
    → ((a : A) → h.text a ≡ v ++ text a) → Never w h
never_behind w v text h d f = record {
  never = λ s at a t o e. word_apart w v s at (text a ++ t) d (e ∙ (ap (λ (l : List ℕ). l ++ t) (f a) ∙ append_assoc v (text a) t));
}
