-- Which line of a text is the first that is malformed, missing or extra, in words of the values that have a text and of these texts
-- alone (document 01, 'Turned back'). Assumes nothing.
use Rattle.std.specs.Prelude.{ℕ, zero, suc, ◌≡◌, true, false, List, [], ◌∷◌, ◌++◌, replicate}
use Rattle.model.specs.declared.CellCoordinate.{CellCoordinate}
use Rattle.grammar.specs.Gram.{Gram}
use Rattle.grammar.specs.Parts.{word}
use Rattle.jobtext.specs.Written.{CellLine, RuleLine}
use Rattle.jobtext.specs.Rules.{rule_line}
use Rattle.jobtext.specs.Text.{Head, head_names, cell_names, region_names, rule_names, second_line, head, cell_line, region_line}
use Rattle.jobtext.specs.Read.{over}

-- some bytes begin with the text of a value that has one, and the value and the bytes behind it are as P says
pub record After {A : Type 0} (g : Gram A) (s : List ℕ) (P : A → List ℕ → Type 0) : Type 0 where
  pub value : A
  pub ok : g.Ok value
  pub rest : List ℕ
  pub is : s ≡ g.text value ++ rest
  pub such : P value rest

abbrev pub Begins : {A : Type 0} → Gram A → List ℕ → Type 0
Begins g s = After g s (λ _ _. Unit {0})

-- ---- the lines behind the second

pub data Line : Type 0 where
  names : List ℕ → Line
  cell : Line
  region : Line
  rule : Line

-- what a line says
abbrev pub Saying : Line → Type 0
Saying (Line.names w) = Unit {0}
Saying Line.cell = CellLine
Saying Line.region = CellCoordinate
Saying Line.rule = RuleLine

abbrev pub line : (l : Line) → Gram (Saying l)
line (Line.names w) = word w
line Line.cell = cell_line
line Line.region = region_line
line Line.rule = rule_line

unfoldable pub expected : Head → List Line
expected h =
    Line.names cell_names ∷ replicate h.cells Line.cell
    ++ (Line.names region_names ∷ replicate h.regions Line.region ++ (Line.names rule_names ∷ replicate h.rules Line.rule))

-- n lines are as expected, and the next is not: it is malformed or missing, or none is expected and something follows
abbrev pub Stuck : List Line → ℕ → List ℕ → Type 0
Stuck [] zero s = s ≡ [] → ⊥
Stuck [] (suc n) s = ⊥
Stuck (l ∷ ls) zero s = Begins (line l) s → ⊥
Stuck (l ∷ ls) (suc n) s = After (line l) s (λ _ rest. Stuck ls n rest)

-- ---- the text

-- the nth line, counted from 1, is the first that is malformed, missing or extra
abbrev pub FirstBad : ℕ → List ℕ → Type 0
FirstBad zero s = ⊥
FirstBad (suc zero) s = Begins (word head_names) s → ⊥
FirstBad (suc (suc zero)) s = After (word head_names) s (λ _ rest. Begins second_line rest → ⊥)
FirstBad (suc (suc (suc n))) s = After head s (λ h rest. (over h ≡ false) × Stuck (expected h) n rest)

-- the first two lines are as expected, and say more than a job may have, and this starting count
abbrev pub SaysTooMany : ℕ → List ℕ → Type 0
SaysTooMany start s = After head s (λ h _. (over h ≡ true) × (h.start ≡ start))
