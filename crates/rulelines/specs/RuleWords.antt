-- What the readers of rule words answer for each result of the grammar. Assumes nothing.
use Rattle.std.specs.Prelude.{ℕ, Bool, List, Result}
use Rattle.std.proofs.Common.{inl, inr}
use Rattle.model.specs.declared.CfRule.{CfRule}
use Rattle.model.specs.declared.Rgb.{Rgb}
use Rattle.grammar.specs.Gram.{Got, Gram}
use Rattle.grammar.specs.Gram.Got.{got}
use Rattle.grammar.specs.Parts.{then, bytes, both, either}
use Rattle.fields.specs.declared.Malformed.{Malformed}
use Rattle.jobtext.specs.Fields.{colour}
use Rattle.jobtext.specs.Written.{Kind}
use Rattle.jobtext.specs.Rules.{cell_is_t, rank_t, expr_t, to_kind}
use Rattle.jobtext.specs.Laid.{kind_bytes, kind_at}
use Rattle.rulelines.specs.declared.Laid.{Laid}
use Rattle.rulelines.specs.Lines.{laid_of}

abbrev pub kind_of : Got Kind → ℕ → Result (Laid CfRule) Malformed
kind_of g u = laid_of kind_at kind_bytes g u

-- one of two words, then a colour
unfoldable pub flagged : List ℕ → List ℕ → Gram (Bool × Rgb)
flagged first second = both (either first second) (colour (bytes "\n"))

-- the parameters that were read behind a word, as the rule of that word
abbrev pub made : {X : Type 0} → (X → Kind) → Got X → Got Kind
made f g = then g (λ x e. got (f x) e)

abbrev pub made_cell_is : Got cell_is_t → Got Kind
made_cell_is g = made (λ x. to_kind (inl x)) g

abbrev pub made_scale2 : Got (Rgb × Rgb) → Got Kind
made_scale2 g = made (λ x. to_kind (inr (inl x))) g

abbrev pub made_scale3 : Got (Rgb × (Rgb × Rgb)) → Got Kind
made_scale3 g = made (λ x. to_kind (inr (inr (inl x)))) g

abbrev pub made_bar : Got Rgb → Got Kind
made_bar g = made (λ x. to_kind (inr (inr (inr (inl x))))) g

abbrev pub made_rank : Got rank_t → Got Kind
made_rank g = made (λ x. to_kind (inr (inr (inr (inr (inl x)))))) g

abbrev pub made_mean : Got (Bool × Rgb) → Got Kind
made_mean g = made (λ x. to_kind (inr (inr (inr (inr (inr (inl x))))))) g

abbrev pub made_same : Got (Bool × Rgb) → Got Kind
made_same g = made (λ x. to_kind (inr (inr (inr (inr (inr (inr (inl x)))))))) g

abbrev pub made_expr : Got expr_t → Got Kind
made_expr g = made (λ x. to_kind (inr (inr (inr (inr (inr (inr (inr x)))))))) g
