-- Which rule a region's bar comes from, as computed examples: for each region the rule plus one (0 for none), and its ppm. Which is due was
-- worked out by hand from document 02. Assumes nothing.
use Rattle.std.specs.Prelude.{None}
use Prim.Native.Nat.{ℕ}
use mathlib.Core.Path.{◌≡◌, refl}
use mathlib.Core.List.{List, [], ◌∷◌}
use Rattle.model.specs.declared.CfRule.{CfRule}
use Rattle.model.specs.declared.Rule.{Rule}
use Rattle.model.specs.Job.{Job}
use Rattle.model.proofs.Computing.{jobs}
use Rattle.model.proofs.Samples.{samples, whole, cell, number, text, down, regions, range, rows, green, rule, prior, stopping}
use Rattle.model.proofs.Samples.{literal, relative, equal_to, job_of, bar_rules, bar_ppms}

-- the two bar columns of a job
abbrev bars : Job → List (List ℕ)
bars j = bar_rules j ∷ bar_ppms j ∷ []

-- 1, 2 and 3 down the first column, each of them a region, under these rules
abbrev under : List Rule → List (List ℕ)
under rs = bars (job_of (down (1 ∷ 2 ∷ 3 ∷ [])) (regions 3) rs 0)

-- a bar over so many rows
abbrev bar : ℕ → Rule
bar n = rule (rows n) (CfRule.DataBar green)

-- a mark on the region that holds n, with stop-if-true
abbrev stop_at : ℕ → Rule
stop_at n = stopping (rule (rows 3) (equal_to (literal n)))

-- ---- the first by priority, then by index

-- two bars overlap in two rows: both are the first rule's, the third row is the second's
overlapping : under (bar 2 ∷ bar 3 ∷ []) ≡ (1 ∷ 1 ∷ 2 ∷ []) ∷ (0 ∷ 1_000_000 ∷ 1_000_000 ∷ []) ∷ []
unfolding jobs samples
overlapping = refl

-- the priority goes ahead of the index
by_priority : under (bar 2 ∷ prior 0 (bar 3) ∷ []) ≡ (2 ∷ 2 ∷ 2 ∷ []) ∷ (0 ∷ 500_000 ∷ 1_000_000 ∷ []) ∷ []
unfolding jobs samples
by_priority = refl

-- a written 2 at index 0 ties with the unwritten index 1, and two that are written tie: the index decides
tie_unwritten : under (prior 2 (bar 3) ∷ bar 2 ∷ []) ≡ (1 ∷ 1 ∷ 1 ∷ []) ∷ (0 ∷ 500_000 ∷ 1_000_000 ∷ []) ∷ []
unfolding jobs samples
tie_unwritten = refl

tie_written : under (prior 5 (bar 2) ∷ prior 5 (bar 3) ∷ []) ≡ (1 ∷ 1 ∷ 2 ∷ []) ∷ (0 ∷ 1_000_000 ∷ 1_000_000 ∷ []) ∷ []
unfolding jobs samples
tie_written = refl

-- a bar of 0 ppm is a bar: the second rule would give the first region 1,000,000
nought_is_a_bar : under (bar 2 ∷ bar 1 ∷ []) ≡ (1 ∷ 1 ∷ 0 ∷ []) ∷ (0 ∷ 1_000_000 ∷ 0 ∷ []) ∷ []
unfolding jobs samples
nought_is_a_bar = refl

-- an inverted bar rule is passed over, and its stop does nothing
inverted_passed : under (stopping (rule (range 2 0 0 0) (CfRule.DataBar green)) ∷ bar 3 ∷ [])
    ≡ (2 ∷ 2 ∷ 2 ∷ []) ∷ (0 ∷ 500_000 ∷ 1_000_000 ∷ []) ∷ []
unfolding jobs samples
inverted_passed = refl

-- ---- stops

-- an earlier rule with stop-if-true leaves the region that it marks without a bar, and no other
stop_marks : under (stop_at 2 ∷ bar 3 ∷ []) ≡ (2 ∷ 0 ∷ 2 ∷ []) ∷ (0 ∷ 0 ∷ 1_000_000 ∷ []) ∷ []
unfolding jobs samples
stop_marks = refl

-- one that marks no region stops none
stop_without_mark : under (stop_at 9 ∷ bar 3 ∷ []) ≡ (2 ∷ 2 ∷ 2 ∷ []) ∷ (0 ∷ 500_000 ∷ 1_000_000 ∷ []) ∷ []
unfolding jobs samples
stop_without_mark = refl

-- one that is later takes nothing away, by priority too: index 0 with the priority 7 comes behind index 1
stop_later : under (prior 7 (stop_at 2) ∷ bar 3 ∷ []) ≡ (2 ∷ 2 ∷ 2 ∷ []) ∷ (0 ∷ 500_000 ∷ 1_000_000 ∷ []) ∷ []
unfolding jobs samples
stop_later = refl

-- a bar with stop-if-true stops as any mark does, also one of 0 ppm, and keeps its regions
stopping_bar : under (stopping (bar 1) ∷ bar 3 ∷ []) ≡ (1 ∷ 2 ∷ 2 ∷ []) ∷ (1_000_000 ∷ 500_000 ∷ 1_000_000 ∷ []) ∷ []
unfolding jobs samples
stopping_bar = refl

-- a deferred earlier rule with stop-if-true stops nothing: the mark on the first region, equal to the cell at its right, is dropped, since
-- the second has no such cell
deferred_stop : bars (job_of (number 0 0 (whole 1) ∷ number 0 1 (whole 1) ∷ number 1 0 (whole 2) ∷ []) (regions 2)
    (stopping (rule (rows 2) (equal_to (relative None 0 1))) ∷ bar 2 ∷ []) 0)
    ≡ (2 ∷ 2 ∷ []) ∷ (0 ∷ 1_000_000 ∷ []) ∷ []
unfolding jobs samples
deferred_stop = refl

-- ---- cells that are not numeric

-- a number, a text, a number of 65 wraps and a blank under one bar
not_numeric : bars (job_of (number 0 0 (whole 1) ∷ text 1 0 1 ∷ cell 2 0 1 65 (whole 2) 0 0 ∷ []) (regions 4) (bar 4 ∷ []) 0)
    ≡ (1 ∷ 0 ∷ 0 ∷ 0 ∷ []) ∷ (1_000_000 ∷ 0 ∷ 0 ∷ 0 ∷ []) ∷ []
unfolding jobs samples
not_numeric = refl
