-- Texts that are accepted, computed on the definition: every kind of value, operand and rule line, and the job as it is lent.
-- Assumes nothing.
use Rattle.std.specs.Prelude.{Some, None}
use Prim.Native.Nat.{ℕ}
use Prim.Native.String.{String}
use mathlib.Core.Path.{◌≡◌, refl}
use mathlib.Core.Bool.{Bool, true, false}
use mathlib.Core.List.{List, [], ◌∷◌}
use mathlib.Core.Option.{Option, none, some}
use lib.ListN.{length}
use Rattle.model.specs.declared.ConditionalComparison.{ConditionalComparison}
use Rattle.model.specs.declared.DvOp.{DvOp}
use Rattle.model.specs.Options.{Priority}
use Rattle.model.specs.declared.Rgb.{Rgb}
use Rattle.grammar.specs.Gram.Got.{got}
use Rattle.grammar.specs.Parts.{bytes}
use Rattle.jobtext.specs.Written.{Value, Operand, Kind, RuleLine}
use Rattle.jobtext.specs.Fields.{value}
use Rattle.jobtext.specs.Rules.{kind, rule_line}
use Rattle.jobtext.proofs.Computing.{reading}

-- ---- values: any bits, also those of a signalling not-a-number

abbrev value_is : String → Value → Type 0
value_is s v = value.parse (bytes s) 0 ≡ got v (length (bytes s))

number : value_is "n7ff0000000000001\n" (Value.number 0x7ff0000000000001)
unfolding reading
number = refl

date : value_is "d8000000000000000\n" (Value.date 0x8000000000000000)
unfolding reading
date = refl

text : value_is "t41ff00\n" (Value.text (0x41 ∷ 0xff ∷ 0x00 ∷ []))
unfolding reading
text = refl

empty_text : value_is "t\n" (Value.text [])
unfolding reading
empty_text = refl

falsehood : value_is "b0\n" (Value.bool false)
unfolding reading
falsehood = refl

truth : value_is "b1\n" (Value.bool true)
unfolding reading
truth = refl

error : value_is "e\n" Value.error
unfolding reading
error = refl

-- ---- rules

abbrev pub kind_is : String → Kind → Type 0
kind_is s k = kind.parse (bytes s) 0 ≡ got k (length (bytes s))

abbrev pub rgb : ℕ → ℕ → ℕ → Rgb
rgb red green blue = record { red = red; green = green; blue = blue }

abbrev pub refer : ℕ → ℕ → Bool → Bool → Option (List ℕ) → Operand
refer row col row_absolute col_absolute name =
    Operand.reference (record { row = row; col = col; row_absolute = row_absolute; col_absolute = col_absolute; name = name })

between : kind_is "cellis 0 r7,1,1,t53 r8,2,2,t 010203\n"
    (Kind.cell_is DvOp.Between (refer 7 1 true false (some (0x53 ∷ []))) (refer 8 2 false true (some [])) (rgb 1 2 3))
unfolding reading
between = refl

greater : kind_is "cellis 4 n8000000000000000 - ffffff\n"
    (Kind.cell_is DvOp.GreaterThan (Operand.literal 0x8000000000000000) Operand.unread (rgb 255 255 255))
unfolding reading
greater = refl

scale2 : kind_is "scale2 000001 000002 - -\n" (Kind.scale2 (rgb 0 0 1) (rgb 0 0 2))
unfolding reading
scale2 = refl

scale3 : kind_is "scale3 000001 000002 000003 -\n" (Kind.scale3 (rgb 0 0 1) (rgb 0 0 2) (rgb 0 0 3))
unfolding reading
scale3 = refl

rank : kind_is "rank 4294967295 bottom percent 00000a\n" (Kind.rank 4294967295 true true (rgb 0 0 10))
unfolding reading
rank = refl

rank_top : kind_is "rank 3 top percent 00000a\n" (Kind.rank 3 false true (rgb 0 0 10))
unfolding reading
rank_top = refl

rank_count : kind_is "rank 3 bottom count 00000a\n" (Kind.rank 3 true false (rgb 0 0 10))
unfolding reading
rank_count = refl

mean : kind_is "mean below - - 00000a\n" (Kind.mean true (rgb 0 0 10))
unfolding reading
mean = refl

mean_above : kind_is "mean above - - 00000a\n" (Kind.mean false (rgb 0 0 10))
unfolding reading
mean_above = refl

same : kind_is "same unique - - 00000a\n" (Kind.same true (rgb 0 0 10))
unfolding reading
same = refl

same_duplicate : kind_is "same duplicate - - 00000a\n" (Kind.same false (rgb 0 0 10))
unfolding reading
same_duplicate = refl

expr : kind_is "expr 5 u r4294967295,65535,3,- 00000a\n"
    (Kind.expr ConditionalComparison.GreaterOrEqual Operand.unread (refer 4294967295 65535 true true none) (rgb 0 0 10))
unfolding reading
expr = refl

-- ---- the flags of a rule line, and its range

abbrev rule_is : String → RuleLine → Type 0
rule_is s r = rule_line.parse (bytes s) 0 ≡ got r (length (bytes s))

abbrev flagged : Priority → Bool → Bool → RuleLine
flagged priority stop imported =
    record {
      range = record { top = 1; left = 2; bottom = 3; right = 4 };
      priority = priority;
      stop = stop;
      imported = imported;
      kind = Kind.bar (rgb 0 0 10);
    }

stopping : rule_is "1 2 3 4 - 1 0 bar 00000a - - -\n" (flagged None true false)
unfolding reading
stopping = refl

imported : rule_is "1 2 3 4 0 0 1 bar 00000a - - -\n" (flagged (Some 0) false true)
unfolding reading
imported = refl
