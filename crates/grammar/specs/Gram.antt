-- A grammar of bytes: how a value is read, which values have a text, and what that text is, all three from one definition.
-- Assumes nothing.
use Rattle.std.specs.Prelude.{ℕ, suc, ◌+◌, ◌≡◌, cond, List, [], ◌∷◌, ◌++◌, eqb, length, take, drop}

-- what reading gives: a value and the place after its text, or a place in the line in which reading ends
pub data Got (A : Type 0) : Type 0 where
  got : A → ℕ → Got A
  bad : ℕ → Got A

-- a reader of a text from a place on
abbrev pub Parser : Type 0 → Type 0
Parser A = List ℕ → ℕ → Got A

pub record Gram (A : Type 0) : Type 1 where
  pub parse : Parser A
  pub Ok : A → Type 0
  pub text : A → List ℕ

-- the values that are read are those that have a text, and each is read from its own text alone
pub record Exactly {A : Type 0} (g : Gram A) : Type 0 where
  pub reads : (s : List ℕ) (at : ℕ) (a : A) (t : List ℕ) → g.Ok a → drop at s ≡ g.text a ++ t
      → g.parse s at ≡ got a (at + length (g.text a))
  pub ok : (s : List ℕ) (at : ℕ) (a : A) (q : ℕ) → g.parse s at ≡ got a q → g.Ok a
  pub next : (s : List ℕ) (at : ℕ) (a : A) (q : ℕ) → g.parse s at ≡ got a q → q ≡ at + length (g.text a)
  pub split : (s : List ℕ) (at : ℕ) (a : A) (q : ℕ) → g.parse s at ≡ got a q → drop at s ≡ g.text a ++ drop q s

-- the same where what follows a text is such as it may be
pub record Before {A : Type 0} (g : Gram A) (May : List ℕ → Type 0) : Type 0 where
  pub reads : (s : List ℕ) (at : ℕ) (a : A) (t : List ℕ) → g.Ok a → May t → drop at s ≡ g.text a ++ t
      → g.parse s at ≡ got a (at + length (g.text a))
  pub ok : (s : List ℕ) (at : ℕ) (a : A) (q : ℕ) → g.parse s at ≡ got a q → g.Ok a
  pub next : (s : List ℕ) (at : ℕ) (a : A) (q : ℕ) → g.parse s at ≡ got a q → q ≡ at + length (g.text a)
  pub split : (s : List ℕ) (at : ℕ) (a : A) (q : ℕ) → g.parse s at ≡ got a q → drop at s ≡ g.text a ++ drop q s

-- ---- lines

-- the LFs among some bytes
unfoldable pub line_feeds : List ℕ → ℕ
line_feeds [] = 0
line_feeds (c ∷ cs) = cond (eqb c 10) (suc (line_feeds cs)) (line_feeds cs)

-- the number, from 1, of the line that a place of a text stands in
unfoldable pub line_of : List ℕ → ℕ → ℕ
line_of s at = suc (line_feeds (take at s))
