-- The rule lines of the job text: a range, its flags, and a rule word with four parameters, `-` where one is not used. Assumes nothing.
use Rattle.std.specs.Prelude.{ℕ, ◌⊎◌, Bool, true, false}
use Rattle.std.proofs.Common.{inl, inr}
use Rattle.model.specs.declared.ConditionalComparison.{ConditionalComparison}
use Rattle.model.specs.declared.DvOp.{DvOp}
use Rattle.model.specs.Options.{Priority}
use Rattle.model.specs.declared.Rgb.{Rgb}
use Rattle.model.specs.Comparison.{uses_second}
use Rattle.grammar.specs.Gram.{Gram}
use Rattle.grammar.specs.Parts.{space, bytes, behind, following, both, choice, read_as, only, either}
use Rattle.grammar.specs.Numbers.{decimal}
use Rattle.jobtext.specs.Written.{Operand, Kind, RuleLine}
use Rattle.jobtext.specs.Fields.{row, col, flag, operand, dv_op, comparison, colour, priority}

-- ---- the parameters of each word

abbrev pub second_if : Bool → Gram Operand
second_if true = operand
second_if false = only Operand.unread (bytes "- ")

-- op first second fill; the operator alone says whether second is used
abbrev pub cell_is_t : Type 0
cell_is_t = DvOp × (Operand × (Operand × Rgb))

unfoldable pub cell_is : Gram cell_is_t
cell_is = following dv_op (λ op. both operand (both (second_if (uses_second op)) (colour (bytes "\n"))))

unfoldable pub scale2 : Gram (Rgb × Rgb)
scale2 = both (colour (bytes " ")) (colour (bytes " - -\n"))

unfoldable pub scale3 : Gram (Rgb × (Rgb × Rgb))
scale3 = both (colour (bytes " ")) (both (colour (bytes " ")) (colour (bytes " -\n")))

unfoldable pub bar : Gram Rgb
bar = colour (bytes " - - -\n")

abbrev pub rank_t : Type 0
rank_t = ℕ × (Bool × (Bool × Rgb))

unfoldable pub rank : Gram rank_t
rank =
    both (decimal 4_294_967_295 space)
    (both (either (bytes "top ") (bytes "bottom ")) (both (either (bytes "count ") (bytes "percent ")) (colour (bytes "\n"))))

unfoldable pub mean : Gram (Bool × Rgb)
mean = both (either (bytes "above - - ") (bytes "below - - ")) (colour (bytes "\n"))

unfoldable pub same : Gram (Bool × Rgb)
same = both (either (bytes "duplicate - - ") (bytes "unique - - ")) (colour (bytes "\n"))

abbrev pub expr_t : Type 0
expr_t = ConditionalComparison × (Operand × (Operand × Rgb))

-- op left right fill
unfoldable pub expr : Gram expr_t
expr = both comparison (both operand (both operand (colour (bytes "\n"))))

-- ---- the words

abbrev pub kind_t : Type 0
kind_t =
    cell_is_t ⊎ ((Rgb × Rgb) ⊎ ((Rgb × (Rgb × Rgb)) ⊎ (Rgb ⊎ (rank_t ⊎ ((Bool × Rgb) ⊎ ((Bool × Rgb) ⊎ expr_t))))))

abbrev pub to_kind : kind_t → Kind
to_kind (inl x) = Kind.cell_is x.0 x.1.0 x.1.1.0 x.1.1.1
to_kind (inr (inl x)) = Kind.scale2 x.0 x.1
to_kind (inr (inr (inl x))) = Kind.scale3 x.0 x.1.0 x.1.1
to_kind (inr (inr (inr (inl x)))) = Kind.bar x
to_kind (inr (inr (inr (inr (inl x))))) = Kind.rank x.0 x.1.0 x.1.1.0 x.1.1.1
to_kind (inr (inr (inr (inr (inr (inl x)))))) = Kind.mean x.0 x.1
to_kind (inr (inr (inr (inr (inr (inr (inl x))))))) = Kind.same x.0 x.1
to_kind (inr (inr (inr (inr (inr (inr (inr x))))))) = Kind.expr x.0 x.1.0 x.1.1.0 x.1.1.1

abbrev pub of_kind : Kind → kind_t
of_kind (Kind.cell_is op first second fill) = inl (op, (first, (second, fill)))
of_kind (Kind.scale2 min max) = inr (inl (min, max))
of_kind (Kind.scale3 min mid max) = inr (inr (inl (min, (mid, max))))
of_kind (Kind.bar colour) = inr (inr (inr (inl colour)))
of_kind (Kind.rank number bottom percent fill) = inr (inr (inr (inr (inl (number, (bottom, (percent, fill)))))))
of_kind (Kind.mean below fill) = inr (inr (inr (inr (inr (inl (below, fill))))))
of_kind (Kind.same unique fill) = inr (inr (inr (inr (inr (inr (inl (unique, fill)))))))
of_kind (Kind.expr op left right fill) = inr (inr (inr (inr (inr (inr (inr (op, (left, (right, fill)))))))))

unfoldable pub kind : Gram Kind
kind =
    read_as to_kind of_kind
    (choice (bytes "cellis ") cell_is
    (choice (bytes "scale2 ") scale2
    (choice (bytes "scale3 ") scale3
    (choice (bytes "bar ") bar
    (choice (bytes "rank ") rank
    (choice (bytes "mean ") mean (choice (bytes "same ") same (behind (bytes "expr ") expr))))))))

-- ---- the line

abbrev pub rule_t : Type 0
rule_t = ℕ × (ℕ × (ℕ × (ℕ × (Priority × (Bool × (Bool × Kind))))))

abbrev pub to_rule : rule_t → RuleLine
to_rule x =
    record {
      range = record { top = x.0; left = x.1.0; bottom = x.1.1.0; right = x.1.1.1.0 };
      priority = x.1.1.1.1.0;
      stop = x.1.1.1.1.1.0;
      imported = x.1.1.1.1.1.1.0;
      kind = x.1.1.1.1.1.1.1;
    }

abbrev pub of_rule : RuleLine → rule_t
of_rule r =
    let g = r.range in
    (g.top, (g.left, (g.bottom, (g.right, (r.priority, (r.stop, (r.imported, r.kind)))))))

-- top left bottom right priority stop imported rule p1 p2 p3 p4
unfoldable pub rule_line : Gram RuleLine
rule_line =
    read_as to_rule of_rule
    (both (row space) (both (col space) (both (row space) (both (col space) (both priority (both flag (both flag kind)))))))
