-- The grammar of a rule line is exact. Assumes nothing.
use Prim.Native.Nat.{ℕ}
use mathlib.Core.Path.{◌≡◌, refl}
use mathlib.Core.Logic.{◌⊎◌, inl, inr}
use mathlib.Core.Bool.{Bool, true, false}
use mathlib.Core.List.{List}
use native.Mathlib.Omega.{arith}
use lib.Dec.{T}
use Rattle.model.specs.declared.Rgb.{Rgb}
use Rattle.model.specs.Comparison.{uses_second}
use Rattle.grammar.specs.Gram.{Gram, Exactly}
use Rattle.grammar.specs.Parts.{space, bytes, behind, choice}
use Rattle.grammar.proofs.Parts.{behind_exact, following_exact, both_exact, read_as_exact, only_exact}
use Rattle.grammar.proofs.Choices.{apart, Never, choice_exact, either_exact, never_choice, never_behind}
use Rattle.grammar.proofs.Decimals.{decimal_exact}
use Rattle.jobtext.specs.Written.{Operand, Kind}
use Rattle.jobtext.specs.Rules.{second_if, cell_is, scale2, scale3, bar, rank_t, rank, mean, same, expr_t, expr, kind_t, to_kind, of_kind, kind, to_rule, of_rule, rule_line}
use Rattle.jobtext.proofs.Fields.{
  row_exact,
  col_exact,
  flag_exact,
  operand_exact,
  dv_op_exact,
  comparison_exact,
  colour_exact,
  priority_exact,
}

-- ---- the parameters

pub second_exact : (b : Bool) → Exactly (second_if b)
second_exact true = operand_exact
second_exact false = only_exact Operand.unread (bytes "- ")

cell_is_exact : Exactly cell_is
unfolding cell_is
cell_is_exact =
    following_exact dv_op_exact
    (λ op. both_exact operand_exact (both_exact (second_exact (uses_second op)) (colour_exact (bytes "\n"))))

scale2_exact : Exactly scale2
unfolding scale2
scale2_exact = both_exact (colour_exact (bytes " ")) (colour_exact (bytes " - -\n"))

scale3_exact : Exactly scale3
unfolding scale3
scale3_exact = both_exact (colour_exact (bytes " ")) (both_exact (colour_exact (bytes " ")) (colour_exact (bytes " -\n")))

bar_exact : Exactly bar
unfolding bar
bar_exact = colour_exact (bytes " - - -\n")

rank_exact : Exactly rank
unfolding rank bytes apart
rank_exact =
    both_exact (decimal_exact 4_294_967_295 space (omega arith) (omega arith))
    (both_exact (either_exact (bytes "top ") (bytes "bottom ") tt)
    (both_exact (either_exact (bytes "count ") (bytes "percent ") tt) (colour_exact (bytes "\n"))))

mean_exact : Exactly mean
unfolding mean bytes apart
mean_exact = both_exact (either_exact (bytes "above - - ") (bytes "below - - ") tt) (colour_exact (bytes "\n"))

same_exact : Exactly same
unfolding same bytes apart
same_exact = both_exact (either_exact (bytes "duplicate - - ") (bytes "unique - - ") tt) (colour_exact (bytes "\n"))

expr_exact : Exactly expr
unfolding expr
expr_exact = both_exact comparison_exact (both_exact operand_exact (both_exact operand_exact (colour_exact (bytes "\n"))))

-- ---- the words, from the last choice to the first

abbrev expr_part : Gram expr_t
expr_part = behind (bytes "expr ") expr

abbrev same_part : Gram ((Bool × Rgb) ⊎ expr_t)
same_part = choice (bytes "same ") same expr_part

abbrev mean_part : Gram ((Bool × Rgb) ⊎ ((Bool × Rgb) ⊎ expr_t))
mean_part = choice (bytes "mean ") mean same_part

abbrev rank_part : Gram (rank_t ⊎ ((Bool × Rgb) ⊎ ((Bool × Rgb) ⊎ expr_t)))
rank_part = choice (bytes "rank ") rank mean_part

abbrev bar_part : Gram (Rgb ⊎ (rank_t ⊎ ((Bool × Rgb) ⊎ ((Bool × Rgb) ⊎ expr_t))))
bar_part = choice (bytes "bar ") bar rank_part

abbrev scale3_part : Gram ((Rgb × (Rgb × Rgb)) ⊎ (Rgb ⊎ (rank_t ⊎ ((Bool × Rgb) ⊎ ((Bool × Rgb) ⊎ expr_t)))))
scale3_part = choice (bytes "scale3 ") scale3 bar_part

abbrev scale2_part : Gram ((Rgb × Rgb) ⊎ ((Rgb × (Rgb × Rgb)) ⊎ (Rgb ⊎ (rank_t ⊎ ((Bool × Rgb) ⊎ ((Bool × Rgb) ⊎ expr_t))))))
scale2_part = choice (bytes "scale2 ") scale2 scale3_part

-- a word that differs from each of those that follow
module _ (w : List ℕ) where
  never_expr : T (apart w (bytes "expr ")) → Never w expr_part
  never_expr x = never_behind w (bytes "expr ") expr.text expr_part x (λ a. refl)

  never_same : T (apart w (bytes "same ")) → Never w expr_part → Never w same_part
  never_same x n = never_choice w (bytes "same ") same x n

  never_mean : T (apart w (bytes "mean ")) → Never w same_part → Never w mean_part
  never_mean x n = never_choice w (bytes "mean ") mean x n

  never_rank : T (apart w (bytes "rank ")) → Never w mean_part → Never w rank_part
  never_rank x n = never_choice w (bytes "rank ") rank x n

  never_bar : T (apart w (bytes "bar ")) → Never w rank_part → Never w bar_part
  never_bar x n = never_choice w (bytes "bar ") bar x n

  never_scale3 : T (apart w (bytes "scale3 ")) → Never w bar_part → Never w scale3_part
  never_scale3 x n = never_choice w (bytes "scale3 ") scale3 x n

  never_scale2 : T (apart w (bytes "scale2 ")) → Never w scale3_part → Never w scale2_part
  never_scale2 x n = never_choice w (bytes "scale2 ") scale2 x n

expr_part_exact : Exactly expr_part
expr_part_exact = behind_exact expr_exact (bytes "expr ")

same_part_exact : Exactly same_part
unfolding bytes apart
same_part_exact = choice_exact (bytes "same ") same_exact expr_part_exact (never_expr (bytes "same ") tt)

mean_part_exact : Exactly mean_part
unfolding bytes apart
mean_part_exact =
    choice_exact (bytes "mean ") mean_exact same_part_exact (never_same (bytes "mean ") tt (never_expr (bytes "mean ") tt))

rank_part_exact : Exactly rank_part
unfolding bytes apart
rank_part_exact =
    choice_exact (bytes "rank ") rank_exact mean_part_exact
    (never_mean (bytes "rank ") tt (never_same (bytes "rank ") tt (never_expr (bytes "rank ") tt)))

bar_part_exact : Exactly bar_part
unfolding bytes apart
bar_part_exact =
    choice_exact (bytes "bar ") bar_exact rank_part_exact
    (never_rank (bytes "bar ") tt (never_mean (bytes "bar ") tt (never_same (bytes "bar ") tt (never_expr (bytes "bar ") tt))))

scale3_part_exact : Exactly scale3_part
unfolding bytes apart
scale3_part_exact =
    choice_exact (bytes "scale3 ") scale3_exact bar_part_exact
    (never_bar (bytes "scale3 ") tt
    (never_rank (bytes "scale3 ") tt
    (never_mean (bytes "scale3 ") tt (never_same (bytes "scale3 ") tt (never_expr (bytes "scale3 ") tt)))))

scale2_part_exact : Exactly scale2_part
unfolding bytes apart
scale2_part_exact =
    choice_exact (bytes "scale2 ") scale2_exact scale3_part_exact
    (never_scale3 (bytes "scale2 ") tt
    (never_bar (bytes "scale2 ") tt
    (never_rank (bytes "scale2 ") tt
    (never_mean (bytes "scale2 ") tt (never_same (bytes "scale2 ") tt (never_expr (bytes "scale2 ") tt))))))

never_cellis : Never (bytes "cellis ") scale2_part
unfolding bytes apart
never_cellis =
    never_scale2 (bytes "cellis ") tt
    (never_scale3 (bytes "cellis ") tt
    (never_bar (bytes "cellis ") tt
    (never_rank (bytes "cellis ") tt
    (never_mean (bytes "cellis ") tt (never_same (bytes "cellis ") tt (never_expr (bytes "cellis ") tt))))))

kind_back : (x : kind_t) → of_kind (to_kind x) ≡ x
kind_back (inl x) = refl
kind_back (inr (inl x)) = refl
kind_back (inr (inr (inl x))) = refl
kind_back (inr (inr (inr (inl x)))) = refl
kind_back (inr (inr (inr (inr (inl x))))) = refl
kind_back (inr (inr (inr (inr (inr (inl x)))))) = refl
kind_back (inr (inr (inr (inr (inr (inr (inl x))))))) = refl
kind_back (inr (inr (inr (inr (inr (inr (inr x))))))) = refl

kind_to : (k : Kind) → to_kind (of_kind k) ≡ k
kind_to (Kind.cell_is op first second fill) = refl
kind_to (Kind.scale2 min max) = refl
kind_to (Kind.scale3 min mid max) = refl
kind_to (Kind.bar colour) = refl
kind_to (Kind.rank number bottom percent fill) = refl
kind_to (Kind.mean below fill) = refl
kind_to (Kind.same unique fill) = refl
kind_to (Kind.expr op left right fill) = refl

pub kind_exact : Exactly kind
unfolding kind
kind_exact =
    read_as_exact (choice_exact (bytes "cellis ") cell_is_exact scale2_part_exact never_cellis) to_kind of_kind (λ x _. kind_back x) kind_to

-- ---- the line

pub rule_exact : Exactly rule_line
unfolding rule_line
rule_exact =
    read_as_exact
    (both_exact (row_exact space (omega arith))
    (both_exact (col_exact space (omega arith))
    (both_exact (row_exact space (omega arith))
    (both_exact (col_exact space (omega arith))
    (both_exact priority_exact (both_exact flag_exact (both_exact flag_exact kind_exact)))))))
    to_rule of_rule (λ x _. refl) (λ r. refl)
