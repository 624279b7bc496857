-- The text of a well-formed job has fewer than 2^28 bytes: by its counts and its pool alone, whatever its numbers are. Assumes nothing.
use Prim.Native.Nat.{ℕ, ◌^◌, ◌≤◌, ◌<◌}
use native.Mathlib.Omega.{arith}
use mathlib.Core.List.{map}
use lib.ListN.{length, length-append, length-take, length-map}
use Rattle.model.specs.Sheet.{regions_from}
use Rattle.model.specs.Job.{Job, cell_count, region_count, rules_of}
use Rattle.laws.specs.Demands.{WellFormed}
use Rattle.grammar.specs.Parts.{bytes}
use Rattle.jobtext.specs.Rules as Rules
use Rattle.jobtext.specs.Text as Text
use Rattle.jobtext.specs.Said.{cells_said, rule_said, job_said}
use Rattle.savedtext.specs.Saved.{text_of}
use Rattle.savedtext.proofs.Formed.{formed}
use Rattle.savedtext.proofs.Listed.{cells_length, regions_length}
use Rattle.reporttext.proofs.Longest.{Most, number_most, joined}
use Rattle.savedtext.proofs.LineLengths.{times_most, text_most, length_text, cells_each, regions_each, rules_each}

head_most : (h : Text.Head) → length h.name ≤ 65_536 → Most 131_216 ((Text.head).text h)
unfolding Text.head bytes
head_most h k =
    let line =
    joined (number_most 32 h.limit)
    (joined (number_most 32 h.start)
    (joined (number_most 32 h.cells)
    (joined (number_most 32 h.regions) (joined (number_most 32 h.rules) (text_most 10 h.name k))))) in
    record { bytes = omega (arith, line.bytes) }

pub text_short : (l : ℕ) (j : Job) → WellFormed j → length (text_of l j) < 2 ^ 28
unfolding text_of Text.job Text.body_of Text.tail job_said rules_of bytes
text_short l j h =
    let few = formed j h in
    let pool = j.pool in
    let small = few.pool in
    let cells = cells_said pool j.cells 0 (cell_count j) in
    let regions = regions_from j.region_rows j.region_cols 0 (region_count j) in
    let rules = map (rule_said pool) (rules_of j) in
    let first = head_most (Text.of_job (job_said l j)).0 (length_text pool small j.name) in
    let second = times_most (Text.cell_line).text 131_137 cells (cells_each pool small j.cells 0 (cell_count j)) in
    let third = times_most (Text.region_line).text 42 regions (regions_each regions) in
    let fourth = times_most (Rules.rule_line).text 262_420 rules (rules_each pool small (rules_of j)) in
    let n = cells_length l j in
    let m = regions_length l j in
    let k = length-map (rules_of j) (rule_said pool) in
    let r = length-take j.rules.number j.rules.records in
    simp length-append (omega (arith, first.bytes, second.bytes, third.bytes, fourth.bytes, few.cells, few.regions, few.rules))
