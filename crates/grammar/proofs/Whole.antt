-- A whole text is accepted by an exact grammar where and only where it is the text of a value that has one. Assumes nothing.
use Prim.Native.Nat.{ℕ}
use mathlib.Core.Path.{◌≡◌}
use mathlib.Core.List.{List}
use lib.ListN.{length}
use Rattle.grammar.specs.Gram.{Gram, Exactly}
use Rattle.grammar.specs.Gram.Got.{got}
use Rattle.grammar.proofs.Before as before
use Rattle.grammar.proofs.Before.{exactly_before}

module _ {A : Type 0} {g : Gram A} (G : Exactly g) where
  pub accepted : (s : List ℕ) (a : A) → g.parse s 0 ≡ got a (length s) → g.Ok a × (s ≡ g.text a)
  accepted = before.accepted (exactly_before G)

  pub accepts : (s : List ℕ) (a : A) → g.Ok a → s ≡ g.text a → g.parse s 0 ≡ got a (length s)
  accepts = before.accepts (exactly_before G) tt

  -- values that differ have texts that differ
  pub one_text : (a b : A) → g.Ok a → g.Ok b → g.text a ≡ g.text b → a ≡ b
  one_text = before.one_text (exactly_before G) tt
