-- `call::operands::find_referenced` meets its contract. The loop's invariant: i is in the band or past it, and up to i the column has the
-- number of each region in range. The next cell is only a guess: nothing is said of it.
-- Assumes nothing.
use Prim.Native.Nat.{ℕ}
use lib.Ieee.{nan}
use Rattle.model.specs.Sheet.{in_range}
use Rattle.cells.specs.Columns.{coordinate_at, entry_at}
use Rattle.call.specs.Tables.{number_named}
use Rattle.call.proofs.Filling.{FilledIn}
use Rattle.call.proofs.Aiming.{aimed_at}
use Rattle.call.proofs.operands.find_referenced.Given as goal

abbrev pub invariant-loop-i : goal.invariant-loop-i
invariant-loop-i l = FilledIn nan (λ (k : ℕ). in_range l.range (coordinate_at l.region_rows l.region_cols k))
    (λ (k : ℕ). number_named l.floats (entry_at l.rows l.cols (aimed_at l.reference l.range (coordinate_at l.region_rows l.region_cols k)))) l.initial.column l.column l.i
