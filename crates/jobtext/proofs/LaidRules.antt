-- The cells and rules of a text as they are lent, computed on the definition: each kind of value and of rule, the two absolute axes of a
-- reference apart, and the names of three rules, one after the other in the pool. Assumes nothing.
use Rattle.std.specs.Prelude.{Some, None}
use Prim.Native.Nat.{ℕ}
use Prim.Native.String.{String}
use mathlib.Core.Path.{◌≡◌, refl}
use mathlib.Core.Bool.{Bool, true, false}
use mathlib.Core.List.{List, [], ◌∷◌, map}
use mathlib.Core.Option.{none, some}
use Rattle.model.specs.declared.CfRule.{CfRule}
use Rattle.model.specs.declared.ConditionalComparison.{ConditionalComparison}
use Rattle.model.specs.declared.ConditionalOperand.{ConditionalOperand}
use Rattle.model.specs.declared.DvOp.{DvOp}
use Rattle.model.specs.declared.Rgb.{Rgb}
use Rattle.model.specs.declared.Rule.{Rule}
use Rattle.model.specs.Options.{SheetName}
use Rattle.model.specs.Job.{rules_of}
use Rattle.model.proofs.Computing.{jobs}
use Rattle.grammar.specs.Parts.{bytes}
use Rattle.jobtext.specs.Written.{Value, Kind, RuleLine, JobText}
use Rattle.jobtext.specs.Read.{ReadResult, read}
use Rattle.jobtext.specs.Laid.{laid}
use Rattle.jobtext.proofs.Computing.{laying}
use Rattle.jobtext.proofs.WorkedText.{lines}
use Rattle.jobtext.proofs.AcceptedTexts.{rgb, refer as written}
use Rattle.jobtext.proofs.LaidTexts.{on_job, no_columns}

abbrev head_names : String
head_names = "limit start cells regions rules name"

abbrev rule_names : String
rule_names = "top left bottom right priority stop imported rule p1 p2 p3 p4"

-- ---- cells

abbrev cells_text : List ℕ
cells_text =
    lines (head_names
    ∷ "0 0 6 0 0 t"
    ∷ "row col wraps value"
    ∷ "1 9 0 n0000000000000007"
    ∷ "2 8 0 d0000000000000006"
    ∷ "3 7 0 t41"
    ∷ "4 6 0 b0"
    ∷ "5 5 0 b1"
    ∷ "6 4 0 e"
    ∷ "row col"
    ∷ rule_names
    ∷ [])

columns : on_job (λ j. j.cells) no_columns (read cells_text)
    ≡ record {
      rows = 1 ∷ 2 ∷ 3 ∷ 4 ∷ 5 ∷ 6 ∷ [];
      cols = 9 ∷ 8 ∷ 7 ∷ 6 ∷ 5 ∷ 4 ∷ [];
      kinds = 1 ∷ 2 ∷ 3 ∷ 4 ∷ 4 ∷ 5 ∷ [];
      wraps = 0 ∷ 0 ∷ 0 ∷ 0 ∷ 0 ∷ 0 ∷ [];
      nums = 7 ∷ 6 ∷ 0 ∷ 0 ∷ 0 ∷ 0 ∷ [];
      ats = 0 ∷ 0 ∷ 0 ∷ 0 ∷ 0 ∷ 0 ∷ [];
      lens = 0 ∷ 0 ∷ 1 ∷ 0 ∷ 1 ∷ 0 ∷ [];
    }
unfolding laying lines
columns = refl

-- ---- rules

-- the sheet `AB`, a cell `C`, and rules
abbrev rules_text : String → List String → List ℕ
rules_text second rules =
    lines (head_names ∷ second ∷ "row col wraps value" ∷ "0 0 0 t43" ∷ "row col" ∷ rule_names ∷ rules)

abbrev black : Rgb
black = rgb 0 0 0

abbrev kinds_of : List Rule → List CfRule
kinds_of rules = map (λ (r : Rule). r.kind) rules

abbrev refer : SheetName → ℕ → ℕ → Bool → Bool → ConditionalOperand
refer sheet row col row_absolute col_absolute =
    ConditionalOperand.Reference
    (record { sheet = sheet; row = row; col = col; row_absolute = row_absolute; col_absolute = col_absolute })

abbrev named : ℕ → ℕ → SheetName
named at len = Some (record { at = at; len = len })

-- the first rule names `D` and `EF`, the second nothing and `G`, the last `H` and nothing
abbrev names_text : List ℕ
names_text =
    rules_text "0 0 1 0 4 t4142"
    ("0 0 0 0 - 0 0 cellis 0 r1,2,1,t44 r3,4,2,t4546 000000"
    ∷ "0 0 0 0 - 0 0 expr 2 r0,0,1,- r5,6,3,t47 000000"
    ∷ "0 0 0 0 - 0 0 bar 000000 - - -"
    ∷ "0 0 0 0 - 0 0 expr 3 r7,8,0,t48 r0,0,2,- 000000"
    ∷ [])

abbrev line : Kind → RuleLine
line kind =
    record {
      range = record { top = 0; left = 0; bottom = 0; right = 0 };
      priority = None;
      stop = false;
      imported = false;
      kind = kind;
    }

abbrev names_job : JobText
names_job =
    record {
      limit = 0;
      start = 0;
      name = bytes "AB";
      cells = record { row = 0; col = 0; wraps = 0; value = Value.text (bytes "C") } ∷ [];
      regions = [];
      rules =
          line (Kind.cell_is DvOp.Between (written 1 2 true false (some (bytes "D"))) (written 3 4 false true (some (bytes "EF"))) black)
          ∷ line (Kind.expr ConditionalComparison.Less (written 0 0 true false none) (written 5 6 true true (some (bytes "G"))) black)
          ∷ line (Kind.bar black)
          ∷ line (Kind.expr ConditionalComparison.LessOrEqual (written 7 8 false false (some (bytes "H"))) (written 0 0 false true none)
          black)
          ∷ [];
    }

names_read : read names_text ≡ ReadResult.is names_job
unfolding laying lines
names_read = refl

pool : (laid names_job).pool ≡ bytes "ABCDEFGH"
unfolding laying
pool = refl

names : kinds_of (rules_of (laid names_job))
    ≡ CfRule.CellIs DvOp.Between (refer (named 3 1) 1 2 true false) (refer (named 4 2) 3 4 false true) black
    ∷ CfRule.Expression ConditionalComparison.Less (refer None 0 0 true false) (refer (named 6 1) 5 6 true true) black
    ∷ CfRule.DataBar black
    ∷ CfRule.Expression ConditionalComparison.LessOrEqual (refer (named 7 1) 7 8 false false) (refer None 0 0 false true)
    black
    ∷ []
unfolding laying jobs
names = refl

-- the kinds without a name
plain : kinds_of (on_job rules_of [] (read (rules_text "0 0 1 0 7 t4142"
    ("0 0 0 0 - 0 0 scale2 000001 000002 - -"
    ∷ "0 0 0 0 - 0 0 scale3 000001 000002 000003 -"
    ∷ "0 0 0 0 - 0 0 bar 010203 - - -"
    ∷ "0 0 0 0 - 0 0 rank 3 top percent 000001"
    ∷ "0 0 0 0 - 0 0 rank 4 bottom count 000001"
    ∷ "0 0 0 0 - 0 0 mean below - - 000001"
    ∷ "0 0 0 0 - 0 0 same unique - - 000001"
    ∷ []))))
    ≡ CfRule.ColorScale2 (rgb 0 0 1) (rgb 0 0 2)
    ∷ CfRule.ColorScale3 (rgb 0 0 1) (rgb 0 0 2) (rgb 0 0 3)
    ∷ CfRule.DataBar (rgb 1 2 3)
    ∷ CfRule.TopBottom 3 false true (rgb 0 0 1)
    ∷ CfRule.TopBottom 4 true false (rgb 0 0 1)
    ∷ CfRule.AboveAverage true (rgb 0 0 1)
    ∷ CfRule.DuplicateValues true (rgb 0 0 1)
    ∷ []
unfolding laying lines jobs
plain = refl
