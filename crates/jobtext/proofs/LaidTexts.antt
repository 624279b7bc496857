-- Jobs as they are lent, and what whole texts come to, computed on the definition: where the texts sit in the pool, and the
-- worked text of document 01 at limits 100, 11 and 10, whose answers are the paper's. Assumes nothing.
use Rattle.std.specs.Prelude.{Some}
use Prim.Native.Nat.{ℕ}
use mathlib.Core.Path.{◌≡◌, refl}
use mathlib.Core.Bool.{Bool, true, false}
use mathlib.Core.List.{List, [], ◌∷◌}
use Rattle.model.specs.declared.CfRule.{CfRule}
use Rattle.model.specs.declared.ConditionalOperand.{ConditionalOperand}
use Rattle.model.specs.declared.DvOp.{DvOp}
use Rattle.model.specs.Run.{Mark, RegionState}
use Rattle.model.specs.Sheet.{CellColumns}
use Rattle.model.specs.Answer.{Result, answer, refusal, refused}
use Rattle.model.specs.Job.{Job, rules_of}
use Rattle.model.proofs.Computing.{jobs}
use Rattle.grammar.specs.Parts.{bytes}
use Rattle.jobtext.specs.Read.{ReadResult, read}
use Rattle.jobtext.specs.Laid.{laid}
use Rattle.jobtext.specs.Decided.{decided}
use Rattle.jobtext.proofs.Computing.{laying}
use Rattle.jobtext.proofs.WorkedText.{lines, worked_text, worked_with}

-- ---- the pool

-- the sheet `AB`, cells `C`, a number, `DE`, an error and true, and a rule over references to sheets `F` and `G`
unfoldable pub texts_text : List ℕ
texts_text =
    lines ("limit start cells regions rules name"
    ∷ "0 5 5 0 1 t4142"
    ∷ "row col wraps value"
    ∷ "0 0 0 t43"
    ∷ "1 0 1 d0000000000000007"
    ∷ "2 0 0 t4445"
    ∷ "3 0 0 e"
    ∷ "4 0 255 b1"
    ∷ "row col"
    ∷ "top left bottom right priority stop imported rule p1 p2 p3 p4"
    ∷ "1 2 3 4 5 0 1 cellis 1 r1,2,0,t46 r3,4,3,t47 0000ff"
    ∷ [])

abbrev pub on_job : {A : Type 0} → (Job → A) → A → ReadResult → A
on_job f other (ReadResult.is j) = f (laid j)
on_job f other ReadResult.too_long = other
on_job f other (ReadResult.bad_line line) = other
on_job f other (ReadResult.too_many start) = other

abbrev pub no_columns : CellColumns
no_columns = record { rows = []; cols = []; kinds = []; wraps = []; nums = []; ats = []; lens = [] }

pool : on_job (λ j. j.pool) [] (read texts_text) ≡ bytes "ABCDEFG"
unfolding laying lines texts_text
pool = refl

name : on_job (λ j. j.name) (record { at = 9; len = 9 }) (read texts_text) ≡ record { at = 0; len = 2 }
unfolding laying lines texts_text
name = refl

columns : on_job (λ j. j.cells) no_columns (read texts_text)
    ≡ record {
      rows = 0 ∷ 1 ∷ 2 ∷ 3 ∷ 4 ∷ [];
      cols = 0 ∷ 0 ∷ 0 ∷ 0 ∷ 0 ∷ [];
      kinds = 3 ∷ 2 ∷ 3 ∷ 5 ∷ 4 ∷ [];
      wraps = 0 ∷ 1 ∷ 0 ∷ 0 ∷ 255 ∷ [];
      nums = 0 ∷ 7 ∷ 0 ∷ 0 ∷ 0 ∷ [];
      ats = 2 ∷ 0 ∷ 3 ∷ 0 ∷ 0 ∷ [];
      lens = 1 ∷ 0 ∷ 2 ∷ 0 ∷ 1 ∷ [];
    }
unfolding laying lines texts_text
columns = refl

abbrev named : ℕ → ℕ → ℕ → Bool → ConditionalOperand
named at row col absolute =
    ConditionalOperand.Reference
    (record {
      sheet = Some (record { at = at; len = 1 });
      row = row;
      col = col;
      row_absolute = absolute;
      col_absolute = absolute;
    })

rules : on_job rules_of [] (read texts_text)
    ≡ record {
      range = record { top = 1; left = 2; bottom = 3; right = 4 };
      priority = Some 5;
      stop = false;
      imported = true;
      kind = CfRule.CellIs DvOp.NotBetween (named 5 1 2 false) (named 6 3 4 true) (record { red = 0; green = 0; blue = 255 });
    }
    ∷ []
unfolding laying lines texts_text jobs
rules = refl

-- ---- whole texts

abbrev mark : ℕ → ℕ → ℕ → ℕ → ℕ → ℕ → Mark
mark region rule kind colour ppm shape =
    record { region = region; rule = rule; paint = record { kind = kind; colour = colour; ppm = ppm; shape = shape } }

abbrev state : Bool → ℕ → ℕ → RegionState
state stopped bar_rule bar_ppm = record { stopped = stopped; bar_rule = bar_rule; bar_ppm = bar_ppm }

abbrev report : Result
report =
    record {
      summary = answer 11 3 0 1;
      marks = mark 2 1 1 0xff0000 0 0 ∷ mark 0 0 3 0x00ff00 0 0 ∷ mark 1 0 3 0x00ff00 500_000 0 ∷ [];
      states = state false 1 0 ∷ state false 1 500_000 ∷ state true 0 0 ∷ [];
    }

limit_100 : decided (read worked_text) ≡ report
unfolding laying lines worked_text worked_with jobs
limit_100 = refl

limit_11 : decided (read (worked_with "11 0 3 3 2 t53")) ≡ report
unfolding laying lines worked_with jobs
limit_11 = refl

limit_10 : decided (read (worked_with "10 0 3 3 2 t53")) ≡ refused (refusal 7 0 11 11)
unfolding laying lines worked_with jobs
limit_10 = refl

-- the early 2 has the starting count, 11 has none
too_many_lem : decided (read (worked_with "10 7 3 1025 2 t53")) ≡ refused (refusal 2 0 7 0)
unfolding laying lines worked_with jobs
too_many_lem = refl

malformed : decided (read (worked_with "10 7 3 3 2 t5")) ≡ refused (refusal 11 2 0 0)
unfolding laying lines worked_with jobs
malformed = refl
