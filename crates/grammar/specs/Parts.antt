-- The parts that grammars are put together from: words, one after the other, a choice, a number of them, and a value read as another.
-- Assumes nothing.
use Rattle.std.specs.Prelude.{ℕ, zero, suc, ◌+◌, ◌≡◌, ◌⊎◌, Bool, true, false, cond, List, [], ◌∷◌, ◌++◌, ltb, eqb, T, length, get_or}
use Prim.Native.Char.{code}
use Prim.Native.String.{String, [] as none, ◌∷◌ as ◌then-char◌}
use Rattle.std.proofs.Common.{inl, inr}
use Rattle.grammar.specs.Gram.{Got, Parser, Gram}
use Rattle.grammar.specs.Gram.Got.{got, bad}

-- reads on with what was got
abbrev pub then : {A B : Type 0} → Got A → (A → ℕ → Got B) → Got B
then (got a q) f = f a q
then (bad p) f = bad p

-- ---- words

abbrev pub space : ℕ
space = 32

abbrev pub comma : ℕ
comma = 44

abbrev pub line_feed : ℕ
line_feed = 10

-- the bytes of an ASCII text
unfoldable pub bytes : String → List ℕ
bytes none = []
bytes (c then-char s) = code c ∷ bytes s

unfoldable pub byte_p : ℕ → Parser (Unit {0})
byte_p b s at = cond (ltb at (length s)) (cond (eqb (get_or s at 0) b) (got tt (at + 1)) (bad at)) (bad at)

unfoldable pub word_p : List ℕ → Parser (Unit {0})
word_p [] s at = got tt at
word_p (b ∷ w) s at = then (byte_p b s at) (λ _ q. word_p w s q)

-- the word w itself
abbrev pub word : List ℕ → Gram (Unit {0})
word w = record { parse = word_p w; Ok = λ _. Unit {0}; text = λ _. w }

-- the word w, then g
abbrev pub behind : {A : Type 0} → List ℕ → Gram A → Gram A
behind w g =
    record { parse = λ s at. then (word_p w s at) (λ _ q. g.parse s q); Ok = g.Ok; text = λ a. w ++ g.text a }

-- g, then the word w
abbrev pub ended : {A : Type 0} → Gram A → List ℕ → Gram A
ended g w =
    record {
      parse = λ s at. then (g.parse s at) (λ a q. then (word_p w s q) (λ _ e. got a e));
      Ok = g.Ok;
      text = λ a. g.text a ++ w;
    }

-- ---- one after the other

-- g, then what the value of g says
abbrev pub following : {A B : Type 0} → Gram A → (A → Gram B) → Gram (A × B)
following g h =
    record {
      parse = λ s at. then (g.parse s at) (λ a q. then ((h a).parse s q) (λ b e. got (a, b) e));
      Ok = λ x. g.Ok x.0 × (h x.0).Ok x.1;
      text = λ x. g.text x.0 ++ (h x.0).text x.1;
    }

abbrev pub both : {A B : Type 0} → Gram A → Gram B → Gram (A × B)
both g h = following g (λ _. h)

-- ---- a choice

abbrev pub pick : {A B : Type 0} → Got (Unit {0}) → (ℕ → Got A) → (Unit {0} → Got B) → Got (A ⊎ B)
pick (got x q) f g = then (f q) (λ a e. got (inl a) e)
pick (bad p) f g = then (g tt) (λ b e. got (inr b) e)

abbrev pub choice_ok : {A B : Type 0} → (A → Type 0) → (B → Type 0) → A ⊎ B → Type 0
choice_ok oa ob (inl a) = oa a
choice_ok oa ob (inr b) = ob b

abbrev pub choice_text : {A B : Type 0} → List ℕ → (A → List ℕ) → (B → List ℕ) → A ⊎ B → List ℕ
choice_text w ta tb (inl a) = w ++ ta a
choice_text w ta tb (inr b) = tb b

-- behind the word w g, else h
abbrev pub choice : {A B : Type 0} → List ℕ → Gram A → Gram B → Gram (A ⊎ B)
choice w g h =
    record {
      parse = λ s at. pick (word_p w s at) (λ q. g.parse s q) (λ _. h.parse s at);
      Ok = choice_ok g.Ok h.Ok;
      text = choice_text w g.text h.text;
    }

-- ---- a number of them

unfoldable pub times_p : {A : Type 0} → ℕ → Parser A → Parser (List A)
times_p zero p s at = got [] at
times_p (suc n) p s at = then (p s at) (λ a q. then (times_p n p s q) (λ l e. got (a ∷ l) e))

unfoldable pub times_text : {A : Type 0} → (A → List ℕ) → List A → List ℕ
times_text t [] = []
times_text t (a ∷ l) = t a ++ times_text t l

-- n values, all of which have a text
abbrev pub times_ok : {A : Type 0} → (A → Type 0) → ℕ → List A → Type 0
times_ok o zero [] = Unit {0}
times_ok o zero (a ∷ l) = ⊥
times_ok o (suc n) [] = ⊥
times_ok o (suc n) (a ∷ l) = o a × times_ok o n l

abbrev pub times : {A : Type 0} → ℕ → Gram A → Gram (List A)
times n g = record { parse = times_p n g.parse; Ok = times_ok g.Ok n; text = times_text g.text }

-- ---- values

-- the value a, written as w
abbrev pub only : {A : Type 0} → A → List ℕ → Gram A
only a w = record { parse = λ s at. then (word_p w s at) (λ _ q. got a q); Ok = λ b. b ≡ a; text = λ _. w }

abbrev pub read_as : {A B : Type 0} → (A → B) → (B → A) → Gram A → Gram B
read_as to back g =
    record {
      parse = λ s at. then (g.parse s at) (λ a q. got (to a) q);
      Ok = λ b. g.Ok (back b);
      text = λ b. g.text (back b);
    }

abbrev pub kept : {A : Type 0} → Bool → A → ℕ → ℕ → Got A
kept true a at q = got a q
kept false a at q = bad at

-- the values of g that pass a test
abbrev pub such : {A : Type 0} → (A → Bool) → Gram A → Gram A
such test g =
    record {
      parse = λ s at. then (g.parse s at) (λ a q. kept (test a) a at q);
      Ok = λ a. g.Ok a × T (test a);
      text = g.text;
    }

-- false is the word w, true the word v
abbrev pub is_second : Unit {0} ⊎ Unit {0} → Bool
is_second (inl x) = false
is_second (inr x) = true

abbrev pub second : Bool → Unit {0} ⊎ Unit {0}
second false = inl tt
second true = inr tt

abbrev pub either : List ℕ → List ℕ → Gram Bool
either w v = read_as is_second second (choice w (word []) (word v))
