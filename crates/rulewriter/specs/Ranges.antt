-- The four numbers of a rule's range, as the rule line of jobtext has them. Assumes nothing.
use Rattle.std.specs.Prelude.{ℕ, List, ◌++◌}
use Rattle.model.specs.declared.Range.{Range}
use Rattle.grammar.specs.Parts.{space}
use Rattle.jobtext.specs.Fields.{row, col}

abbrev pub range_text : Range → List ℕ
range_text g = (row space).text g.top ++ ((col space).text g.left ++ ((row space).text g.bottom ++ (col space).text g.right))
