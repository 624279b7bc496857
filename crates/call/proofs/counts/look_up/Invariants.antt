-- `call::counts::look_up` meets its contract. The loop's invariant: in the band up to i each region in range has the count of its cell's
-- code. The measure is how many regions of the band are left. Assumes nothing.
use Prim.Native.Nat.{ℕ, ◌-◌, ◌≤◌}
use mathlib.Core.Bool.{Bool, ◌&&◌}
use mathlib.Core.List.{List}
use lib.Dec.{leb}
use lib.ListN.{get_or}
use Rattle.model.specs.declared.Range.{Range}
use Rattle.hits.specs.Hits.{column_in}
use Rattle.call.specs.Tables.{code_named}
use Rattle.call.proofs.Filling.{FilledIn}
use Rattle.call.proofs.counts.look_up.Given as goal

-- what a region's entry comes to
abbrev pub found : List ℕ → List ℕ → List ℕ → ℕ → ℕ
found places codes counts i = get_or counts (code_named codes (get_or places i 0)) 0

-- a region of the band that is in range
abbrev pub wanted : Range → ℕ → List ℕ → ℕ → Bool
wanted range from cols k = leb from k && column_in range (get_or cols k 0)

abbrev pub invariant-loop-i : goal.invariant-loop-i
invariant-loop-i l = (l.initial.start ≤ l.start) × (l.start ≤ l.i) × (l.i ≤ l.to) × FilledIn 0 (wanted l.range l.initial.start l.region_cols) (found l.places l.codes l.counts) l.initial.founds l.founds l.i

abbrev pub decreases-loop-i : goal.decreases-loop-i
decreases-loop-i l = l.to - l.i
