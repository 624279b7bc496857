-- The lines of the rules that are left to put, one line a turn. Assumes nothing.
use Prim.Native.Nat.{ℕ, ◌+◌, ◌≤◌, ◌<◌}
use mathlib.Core.Path.{◌≡◌}
use mathlib.Core.List.{List, [], ◌++◌, map}
use native.Mathlib.Numerals.{add-one}
use lib.ListN.{length, drop, get_or, drop_of_length-le}
use lib.Seq.{drop-cons}
use Rattle.model.specs.declared.Rule.{Rule}
use Rattle.grammar.specs.Parts.{times_text}
use Rattle.jobtext.specs.Rules.{rule_line}
use Rattle.jobtext.specs.Said.{rule_said}

-- the lines of these rules, from rule i on
module _ (pool : List ℕ) (rules : List Rule) where
  abbrev pub lines_from : ℕ → List ℕ
  lines_from i = times_text rule_line.text (map (rule_said pool) (drop i rules))

  pub lines_next : (i : ℕ) (d : Rule) → i < length rules → lines_from i ≡ rule_line.text (rule_said pool (get_or rules i d)) ++ lines_from (i + 1)
  unfolding times_text
  lines_next i d h = rw (add-one, drop-cons rules i d h)

  pub lines_none : (i : ℕ) → length rules ≤ i → lines_from i ≡ []
  unfolding times_text
  lines_none i h = rw (drop_of_length-le rules h)
