-- `call::rules::run_rules` meets its contract. The loop's invariant: where the tables are right for all rules, the rules left come, from
-- the state that the loop has, to what all rules come to from the start; the counts stay small; the columns and tables keep their lengths;
-- and how many regions are not stopped is known. A turn takes the next rule. Assumes nothing.
use Prim.Native.Nat.{ℕ}
use mathlib.Core.Path.{◌≡◌}
use mathlib.Core.List.{List}
use lib.ListN.{length}
use Rattle.cells.specs.Columns.{columns}
use Rattle.hits.specs.Hits.{live_from}
use Rattle.turns.specs.Emit.{mark_columns, bar_columns}
use Rattle.turns.specs.Turns.{state_of, sheet_in, say_in}
use Rattle.turns.proofs.Running.{Small, Kept, Running}
use Rattle.call.proofs.Rulewise.{AllTabled}
use Rattle.call.proofs.rules.run_rules.Given as goal

abbrev pub invariant-loop-k : goal.invariant-loop-k
invariant-loop-k l = let marks₀ = mark_columns l.initial.regions l.initial.ruleids l.initial.markkinds l.initial.colours l.initial.ppms l.initial.shapes in
    let marks = mark_columns l.regions l.ruleids l.markkinds l.colours l.ppms l.shapes in
    let bars₀ = bar_columns l.initial.barrules l.initial.barppms in
    let bars = bar_columns l.barrules l.barppms in
    ((kinds wraps nums ats lens : List ℕ)
    → AllTabled (columns l.rows l.cols kinds wraps nums ats lens) l.pool l.rules.records l.count l.region_rows l.region_cols l.places l.floats l.values
    l.codes
    → Running (say_in (sheet_in (columns l.rows l.cols kinds wraps nums ats lens) l.region_rows l.region_cols l.pool l.sheet) l.limit l.region_rows
    l.region_cols)
    l.rules (state_of l.initial.ran l.initial.flags marks₀ bars₀) (state_of l.ran l.flags marks bars) l.k)
    × Small l.ran l.k × Kept marks₀ marks bars₀ bars l.initial.scratch l.scratch l.flags
    × (length l.firsts ≡ 1024) × (length l.seconds ≡ 1024) × (length l.founds ≡ 1024) × (length l.hits ≡ 1025)
    × (l.alive ≡ live_from l.flags 0 (length l.region_rows))
