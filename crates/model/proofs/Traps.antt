-- Traps for the porter in the rules over the regions, as computed examples: charges, stops, bars, priorities and rules that are given up.
-- `tally` is count, marks, deferred and simplified. Assumes nothing.
use Rattle.std.specs.Prelude.{None}
use Prim.Native.Nat.{ℕ}
use mathlib.Core.Path.{◌≡◌, refl}
use mathlib.Core.Bool.{false}
use mathlib.Core.List.{List, [], ◌∷◌, map}
use lib.ListN.{replicate}
use Rattle.model.specs.declared.ConditionalOperand.{ConditionalOperand}
use Rattle.model.specs.declared.CfRule.{CfRule}
use Rattle.model.specs.declared.Rule.{Rule}
use Rattle.model.specs.Job.{Job}
use Rattle.model.proofs.Computing.{jobs}
use Rattle.model.proofs.Samples.{samples, whole, number, text, error, down, at, regions}
use Rattle.model.proofs.Samples.{rows, red, green, blue, rule, prior, stopping, imported, literal, relative, equal_to, equals}
use Rattle.model.proofs.Samples.{above, job_of, tally, mark_regions, mark_rules, mark_kinds, mark_colours, mark_ppms, mark_shapes}
use Rattle.model.proofs.Samples.{bar_rules, bar_ppms}

-- whole numbers and so many regions down the first column, and these rules
abbrev over : List ℕ → ℕ → List Rule → Job
over ns n rs = job_of (down ns) (regions n) rs 0

abbrev bar : ℕ → Rule
bar n = rule (rows n) (CfRule.DataBar green)

-- marks the cells of three rows that hold n
abbrev holds : ℕ → Rule
holds n = rule (rows 3) (equal_to (literal n))

-- the cell to the right of the region
abbrev right : ConditionalOperand
right = relative None 0 1

-- a rule for each kind of mark: fill, imported style, bar, bar with imported style, and an imported scale
abbrev all_kinds : List Rule
all_kinds = holds 1 ∷ imported (holds 1) ∷ bar 1 ∷ imported (bar 1) ∷ imported (rule (rows 1) (CfRule.ColorScale2 red blue)) ∷ []

-- ---- charges

-- a region out of range is charged too: 3 cells and 4 regions
out_of_range_is_charged : tally (over (1 ∷ 2 ∷ 3 ∷ []) 4 (bar 3 ∷ [])) ≡ 7 ∷ 3 ∷ 0 ∷ 1 ∷ []
unfolding jobs samples
out_of_range_is_charged = refl

-- a stopped region is not charged: 3 regions, and then 2
stopped_is_not_charged : tally (over (1 ∷ 2 ∷ 3 ∷ []) 3 (stopping (holds 2) ∷ holds 2 ∷ [])) ≡ 5 ∷ 1 ∷ 0 ∷ 0 ∷ []
unfolding jobs samples
stopped_is_not_charged = refl

-- cells that are no numbers are charged too: 3 cells and 1 region
no_number_is_charged : tally (job_of (number 0 0 0 ∷ text 1 0 1 ∷ error 2 ∷ []) (regions 1) (bar 3 ∷ []) 0) ≡ 4 ∷ 1 ∷ 0 ∷ 1 ∷ []
unfolding jobs samples
no_number_is_charged = refl

-- values come from the cells in range, whether or not they are regions: 2 between 1 and 3
values_without_regions : mark_ppms (job_of (down (1 ∷ 2 ∷ 3 ∷ [])) (at 1 0 ∷ []) (bar 3 ∷ []) 0) ≡ 500_000 ∷ []
unfolding jobs samples
values_without_regions = refl

-- without values a rule is skipped behind its cell charges, neither deferred nor simplified
no_values : map (λ kind. tally (job_of (error 0 ∷ text 1 0 1 ∷ []) (regions 2) (rule (rows 2) kind ∷ []) 0))
    (CfRule.ColorScale2 red blue ∷ CfRule.ColorScale3 red green blue ∷ CfRule.DataBar red ∷ CfRule.TopBottom 1 false false red ∷ above ∷ [])
    ≡ replicate 5 (2 ∷ 0 ∷ 0 ∷ 0 ∷ [])
unfolding jobs samples
no_values = refl

-- and so is rank 0
rank_0 : tally (over (1 ∷ 2 ∷ []) 2 (rule (rows 2) (CfRule.TopBottom 0 false false red) ∷ [])) ≡ 2 ∷ 0 ∷ 0 ∷ 0 ∷ []
unfolding jobs samples
rank_0 = refl

-- ---- stops and bars

-- a later bar does not replace the first: 2 has half of the first rule's bar, and all of the second's
first_bar_stays : bar_ppms (over (1 ∷ 2 ∷ 3 ∷ []) 3 (bar 3 ∷ bar 2 ∷ [])) ≡ 0 ∷ 500_000 ∷ 1_000_000 ∷ []
unfolding jobs samples
first_bar_stays = refl

-- first as the rules are taken, by priority
first_bar_by_priority : bar_rules (over (1 ∷ 2 ∷ 3 ∷ []) 3 (bar 3 ∷ prior 0 (bar 2) ∷ [])) ≡ 2 ∷ 2 ∷ 1 ∷ []
unfolding jobs samples
first_bar_by_priority = refl

-- a bar of 0 ppm is a bar, and a full one after it changes nothing
bar_of_0_stays : bar_ppms (over (1 ∷ 2 ∷ []) 1 (bar 2 ∷ bar 1 ∷ [])) ≡ 0 ∷ []
unfolding jobs samples
bar_of_0_stays = refl

-- the bar column has the first rule, plus one
bar_of_0_has_its_rule : bar_rules (over (1 ∷ 2 ∷ []) 1 (bar 2 ∷ bar 1 ∷ [])) ≡ 1 ∷ []
unfolding jobs samples
bar_of_0_has_its_rule = refl

-- and it stops; the second rule has no region left, charges its 2 cells and is simplified all the same
bar_of_0_stops : tally (over (1 ∷ 2 ∷ []) 2 (stopping (bar 2) ∷ bar 2 ∷ [])) ≡ 6 ∷ 2 ∷ 0 ∷ 2 ∷ []
unfolding jobs samples
bar_of_0_stops = refl

-- an imported style stops like any mark, and so does a bar with one
imported_stops : map (λ r. mark_rules (over (1 ∷ []) 1 (stopping (imported r) ∷ bar 1 ∷ []))) (holds 1 ∷ bar 1 ∷ []) ≡ replicate 2 (0 ∷ [])
unfolding jobs samples
imported_stops = refl

-- without a mark nothing is stopped: only the region that holds 2 is
passed_is_not_stopped : mark_regions (over (1 ∷ 2 ∷ []) 2 (stopping (holds 2) ∷ bar 2 ∷ [])) ≡ 1 ∷ 0 ∷ []
unfolding jobs samples
passed_is_not_stopped = refl

-- 1 fill, 2 imported style, 3 bar, 4 bar with imported style; an imported scale is 2
kinds_of_marks : mark_kinds (over (1 ∷ []) 1 all_kinds) ≡ 1 ∷ 2 ∷ 3 ∷ 4 ∷ 2 ∷ []
unfolding jobs samples
kinds_of_marks = refl

-- an imported style has no colour, but a bar's colour stays
colours_of_marks : mark_colours (over (1 ∷ []) 1 all_kinds) ≡ 0xff0000 ∷ 0 ∷ 0x00ff00 ∷ 0x00ff00 ∷ 0 ∷ []
unfolding jobs samples
colours_of_marks = refl

-- only bars have a ppm
ppms_of_marks : mark_ppms (over (1 ∷ []) 1 all_kinds) ≡ 0 ∷ 0 ∷ 1_000_000 ∷ 1_000_000 ∷ 0 ∷ []
unfolding jobs samples
ppms_of_marks = refl

-- only scales and bars have a shape: of one value it is flat
shapes_of_marks : mark_shapes (over (1 ∷ []) 1 all_kinds) ≡ 0 ∷ 0 ∷ 1 ∷ 1 ∷ 1 ∷ []
unfolding jobs samples
shapes_of_marks = refl

-- ---- priorities

-- a written 1 at index 5 ties with the unwritten index 0, and the index decides
written_ties : mark_rules (over (1 ∷ []) 1 (holds 1 ∷ holds 1 ∷ holds 1 ∷ holds 1 ∷ holds 1 ∷ prior 1 (holds 1) ∷ []))
    ≡ 0 ∷ 5 ∷ 1 ∷ 2 ∷ 3 ∷ 4 ∷ []
unfolding jobs samples
written_ties = refl

-- equal written ones by index, 0 ahead of all, and the highest last
written_order : mark_rules (over (1 ∷ []) 1 (prior 4_294_967_295 (holds 1) ∷ prior 2 (holds 1) ∷ prior 2 (holds 1) ∷ prior 0 (holds 1) ∷ []))
    ≡ 3 ∷ 1 ∷ 2 ∷ 0 ∷ []
unfolding jobs samples
written_order = refl

-- ---- rules that are given up

-- cells 1 and 1 in the first row, and 1 in the second without a cell to its right
abbrev ragged : Rule → List Rule → Job
ragged r rs = job_of (number 0 0 (whole 1) ∷ number 0 1 (whole 1) ∷ number 1 0 (whole 1) ∷ []) (regions 3) (r ∷ rs) 0

-- marks ahead of an unresolvable operand are dropped, and no later region is charged
marks_ahead_are_dropped : tally (ragged (rule (rows 3) (equal_to right)) []) ≡ 2 ∷ 0 ∷ 1 ∷ 0 ∷ []
unfolding jobs samples
marks_ahead_are_dropped = refl

-- nor do they stop: the second rule charges and marks region 0
dropped_marks_do_not_stop : tally (ragged (stopping (rule (rows 3) (equal_to right))) (rule (rows 1) (equal_to right) ∷ []))
    ≡ 5 ∷ 1 ∷ 1 ∷ 0 ∷ []
unfolding jobs samples
dropped_marks_do_not_stop = refl

-- a region out of range is charged and never resolves: region 1 would have no number to its right
out_of_range_never_resolves : tally (ragged (rule (rows 1) (equal_to right)) []) ≡ 3 ∷ 1 ∷ 0 ∷ 0 ∷ []
unfolding jobs samples
out_of_range_never_resolves = refl

-- a cell-is rule looks at the cell before its operands: a blank, a text and an error are passed over, though the operand has no number
cell_before_operand : tally (job_of (text 1 0 1 ∷ error 2 ∷ []) (regions 3) (rule (rows 3) (equal_to right) ∷ []) 0) ≡ 3 ∷ 0 ∷ 0 ∷ 0 ∷ []
unfolding jobs samples
cell_before_operand = refl

-- an expression does not look at the cell: it marks blank regions
expression_marks_blanks : mark_regions (job_of [] (regions 2) (rule (rows 2) (equals (literal 1) (literal 1)) ∷ []) 0) ≡ 0 ∷ 1 ∷ []
unfolding jobs samples
expression_marks_blanks = refl

-- and it defers at a blank region whose operand has no number
expression_defers_on_blanks : tally (job_of [] (regions 2) (rule (rows 2) (equals (literal 1) right) ∷ []) 0) ≡ 1 ∷ 0 ∷ 1 ∷ 0 ∷ []
unfolding jobs samples
expression_defers_on_blanks = refl
