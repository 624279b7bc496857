-- The eight operators of `cellis` and the six of `expr`, each read from its own line, computed on the definition. Assumes nothing.
use Prim.Native.String.{String}
use mathlib.Core.Path.{◌≡◌, refl}
use mathlib.Core.List.{List, [], ◌∷◌, map}
use lib.ListN.{length}
use Rattle.model.specs.declared.ConditionalComparison.{ConditionalComparison}
use Rattle.model.specs.declared.DvOp.{DvOp}
use Rattle.grammar.specs.Gram.Got.{got}
use Rattle.grammar.specs.Parts.{bytes}
use Rattle.jobtext.specs.Written.{Operand, Kind}
use Rattle.jobtext.specs.Rules.{kind}
use Rattle.jobtext.proofs.Computing.{reading}
use Rattle.jobtext.proofs.AcceptedTexts.{rgb}

-- each line is read as its kind, to the line's end
abbrev AreRead : List (String × Kind) → Type 0
AreRead lines =
    map (λ (l : String × Kind). kind.parse (bytes l.0) 0) lines
    ≡ map (λ (l : String × Kind). got l.1 (length (bytes l.0))) lines

abbrev cell_is : DvOp → Kind
cell_is op = Kind.cell_is op (Operand.literal 1) Operand.unread (rgb 0 0 0)

cellis_operators : AreRead (
    ("cellis 0 n0000000000000001 u 000000\n", cell_is DvOp.Between)
    ∷ ("cellis 1 n0000000000000001 u 000000\n", cell_is DvOp.NotBetween)
    ∷ ("cellis 2 n0000000000000001 - 000000\n", cell_is DvOp.Equal)
    ∷ ("cellis 3 n0000000000000001 - 000000\n", cell_is DvOp.NotEqual)
    ∷ ("cellis 4 n0000000000000001 - 000000\n", cell_is DvOp.GreaterThan)
    ∷ ("cellis 5 n0000000000000001 - 000000\n", cell_is DvOp.LessThan)
    ∷ ("cellis 6 n0000000000000001 - 000000\n", cell_is DvOp.GreaterThanOrEqual)
    ∷ ("cellis 7 n0000000000000001 - 000000\n", cell_is DvOp.LessThanOrEqual)
    ∷ [])
unfolding reading
cellis_operators = refl

abbrev expr : ConditionalComparison → Kind
expr op = Kind.expr op (Operand.literal 1) (Operand.literal 2) (rgb 0 0 0)

expr_operators : AreRead (
    ("expr 0 n0000000000000001 n0000000000000002 000000\n", expr ConditionalComparison.Equal)
    ∷ ("expr 1 n0000000000000001 n0000000000000002 000000\n", expr ConditionalComparison.NotEqual)
    ∷ ("expr 2 n0000000000000001 n0000000000000002 000000\n", expr ConditionalComparison.Less)
    ∷ ("expr 3 n0000000000000001 n0000000000000002 000000\n", expr ConditionalComparison.LessOrEqual)
    ∷ ("expr 4 n0000000000000001 n0000000000000002 000000\n", expr ConditionalComparison.Greater)
    ∷ ("expr 5 n0000000000000001 n0000000000000002 000000\n", expr ConditionalComparison.GreaterOrEqual)
    ∷ [])
unfolding reading
expr_operators = refl
