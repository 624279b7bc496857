-- The refusals 7, 8 and 9 of document 01 as computed examples: what the counter and the actual number are when a charge is turned back,
-- and marks that exceed the space. S is 5 where nothing else is said. Assumes nothing.
use Prim.Native.Nat.{ℕ, ◌-◌, ◌^◌}
use mathlib.Core.Path.{◌≡◌, refl}
use mathlib.Core.List.{List, [], ◌∷◌, map}
use lib.ListN.{replicate}
use Rattle.model.specs.declared.CfRule.{CfRule}
use Rattle.model.specs.declared.Rule.{Rule}
use Rattle.model.specs.Answer.{answer, refusal, refused}
use Rattle.model.specs.Job.{Job, result}
use Rattle.model.specs.Columns.{columns_of}
use Rattle.model.proofs.Computing.{jobs}
use Rattle.model.proofs.Samples.{samples, down, regions, rows, rule, stopping, green, duplicates, job_of, lengths, ample}

-- three cells and three regions under these rules, from a count
abbrev under : List Rule → ℕ → Job
under rs start = job_of (down (1 ∷ 2 ∷ 3 ∷ [])) (regions 3) rs start

-- charges 3 cells and 3 regions, and marks each region
abbrev bar : Rule
bar = rule (rows 3) (CfRule.DataBar green)

-- charges an area of 3 at once, and then 3 regions
abbrev same : Rule
same = rule (rows 3) duplicates

abbrev top : ℕ
top = 2 ^ 64 - 1

-- ---- 7: the limit

-- a single charge leaves the counter at the limit + 1
one_past_limit : result (under (bar ∷ []) 5) 7 ample ≡ refused (refusal 7 0 8 8)
unfolding jobs samples
one_past_limit = refl

-- the last of six charges
last_past_limit : result (under (bar ∷ []) 5) 10 ample ≡ refused (refusal 7 0 11 11)
unfolding jobs samples
last_past_limit = refl

-- from a count at the limit, or above it, the counter is S + 1
start_past_limit : map (λ limit. result (under (bar ∷ []) 5) limit ample) (5 ∷ 2 ∷ 0 ∷ []) ≡ replicate 3 (refused (refusal 7 0 6 6))
unfolding jobs samples
start_past_limit = refl

-- an area is stored only if accepted: the count stays, and actual is count + area
area_past_limit : map (λ limit. result (under (same ∷ []) 5) limit ample) (7 ∷ 0 ∷ []) ≡ replicate 2 (refused (refusal 7 0 5 8))
unfolding jobs samples
area_past_limit = refl

-- the same behind single charges
area_past_limit_later : result (under (bar ∷ same ∷ []) 5) 13 ample ≡ refused (refusal 7 0 11 14)
unfolding jobs samples
area_past_limit_later = refl

-- an area that just fits, and then one region
region_behind_area : result (under (bar ∷ same ∷ []) 5) 14 ample ≡ refused (refusal 7 0 15 15)
unfolding jobs samples
region_behind_area = refl

-- E is S + 12, and a limit of E is enough
limit_enough : (result (under (bar ∷ same ∷ []) 5) 17 ample).summary ≡ answer 17 3 0 1
unfolding jobs samples
limit_enough = refl

-- without a charge E is S, and is answered under any limit
no_charge : map (λ limit. (result (under [] 5) limit ample).summary) (0 ∷ 4 ∷ 5 ∷ []) ≡ replicate 3 (answer 5 0 0 0)
unfolding jobs samples
no_charge = refl

-- ---- 8: the counter's end

-- overflow is asked before the limit, and leaves the counter
one_overflows : map (λ limit. result (under (bar ∷ []) top) limit ample) (0 ∷ top ∷ []) ≡ replicate 2 (refused (refusal 8 0 top 0))
unfolding jobs samples
one_overflows = refl

-- the third of six charges
third_overflows : result (under (bar ∷ []) (top - 2)) top ample ≡ refused (refusal 8 0 top 0)
unfolding jobs samples
third_overflows = refl

-- and so does an area
area_overflows : map (λ limit. result (under (same ∷ []) (top - 2)) limit ample) (0 ∷ top ∷ [])
    ≡ replicate 2 (refused (refusal 8 0 (top - 2) 0))
unfolding jobs samples
area_overflows = refl

-- an area that just fits reaches the end
region_overflows : result (under (same ∷ []) (top - 3)) top ample ≡ refused (refusal 8 0 top 0)
unfolding jobs samples
region_overflows = refl

-- without a charge there is no overflow
no_charge_at_the_end : (result (under [] top) 0 ample).summary ≡ answer top 0 0 0
unfolding jobs samples
no_charge_at_the_end = refl

-- ---- 9: marks exceed the space

-- count is E and actual M, of all rules
space_exceeded : map (λ space. result (under (bar ∷ bar ∷ []) 5) 100 (lengths space 3 3)) (0 ∷ 5 ∷ [])
    ≡ replicate 2 (refused (refusal 9 0 17 6))
unfolding jobs samples
space_exceeded = refl

-- a space of M is enough
space_enough : (result (under (bar ∷ bar ∷ []) 5) 100 (lengths 6 3 3)).summary ≡ answer 17 6 0 2
unfolding jobs samples
space_enough = refl

-- a mark that found no space stops its region all the same: the second bar charges its 3 cells and no region
stops_without_space : result (under (stopping bar ∷ bar ∷ []) 5) 100 (lengths 0 3 3) ≡ refused (refusal 9 0 14 3)
unfolding jobs samples
stops_without_space = refl

-- the bars of a refused job are 0
no_bars_without_space : (columns_of (under (bar ∷ []) 5) 100 (lengths 2 3 3)).bar_rules ≡ replicate 3 0
unfolding jobs samples
no_bars_without_space = refl

-- a charge turned back comes first, also behind marks that have no space
limit_before_space : result (under (bar ∷ bar ∷ []) 5) 16 (lengths 0 3 3) ≡ refused (refusal 7 0 17 17)
unfolding jobs samples
limit_before_space = refl
