-- The text of a lent job is that of its head and sections, one after the other. Assumes nothing.
use Prim.Native.Nat.{ℕ}
use mathlib.Core.Path.{◌≡◌}
use mathlib.Core.List.{List, ◌++◌, append_assoc, map}
use lib.ListN.{length, take, length-map}
use Rattle.model.specs.declared.Rule.{Rule}
use Rattle.model.specs.Sheet.{CellColumns, text_at, regions_from}
use Rattle.model.specs.Job.{Job, cell_count, region_count, rules_of}
use Rattle.grammar.specs.Parts.{times_text}
use Rattle.jobtext.specs.Rules.{rule_line}
use Rattle.jobtext.specs.Said.{cells_said, rule_said, job_said}
use Rattle.jobtext.specs.Text.{cell_names, region_names, rule_names, head, cell_line, region_line, tail, body_of, job}
use Rattle.savedtext.specs.Saved.{text_of}
use Rattle.savedtext.proofs.Listed.{cells_length, regions_length}
use Rattle.sheetwriter.specs.Lines.{head_with}

-- ---- the sections

abbrev pub cells_part : List ℕ → CellColumns → List ℕ
cells_part pool c = cell_names ++ times_text cell_line.text (cells_said pool c 0 (length c.rows))

abbrev pub regions_part : List ℕ → List ℕ → List ℕ
regions_part rows cols = region_names ++ times_text region_line.text (regions_from rows cols 0 (length rows))

abbrev pub rules_part : List ℕ → ℕ → List Rule → List ℕ
rules_part pool number records = rule_names ++ times_text rule_line.text (map (rule_said pool) (take number records))

pub text_joined : (limit : ℕ) (j : Job) → text_of limit j
    ≡ ((head.text (head_with limit j.start (cell_count j) (region_count j) (length (take j.rules.number j.rules.records)) (text_at j.pool j.name))
    ++ cells_part j.pool j.cells)
    ++ regions_part j.region_rows j.region_cols)
    ++ rules_part j.pool j.rules.number j.rules.records
unfolding text_of job body_of tail job_said rules_of
text_joined limit j =
    rw (cells_length limit j, regions_length limit j, length-map (take j.rules.number j.rules.records) (rule_said j.pool))
    (simp append_assoc)
