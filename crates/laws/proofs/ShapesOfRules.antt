-- Which shapes a rule's marks can have: 0, 1 or 2 for a scale of two colours and a bar, 0, 1, 2, 3 or 5 for a scale of three colours,
-- and 0 for every other rule. 4, a flat upper half, is none of them. By what else its marks can be. Assumes nothing.
use mathlib.Core.Path.{◌≡◌}
use mathlib.Core.Bool.{true}
use Prim.Native.Nat.{ℕ}
use Rattle.model.specs.declared.CellCoordinate.{CellCoordinate}
use Rattle.model.specs.declared.CfRule.{CfRule}
use Rattle.model.specs.declared.Outcome.{Outcome}
use Rattle.model.specs.declared.Paint.{Paint}
use Rattle.model.specs.declared.Plan.{Plan}
use Rattle.model.specs.declared.Rule.{Rule}
use Rattle.model.specs.declared.Test.{Test}
use Rattle.model.specs.Sheet.{Sheet, in_range}
use Rattle.model.specs.Rule as Rule
use Rattle.laws.proofs.PaintsOfRules as Paints
pub use Rattle.laws.proofs.PaintsOfRules.{ShapeOf}

-- if it is a mark, its shape has P
pub data Says (P : ℕ → Type 0) : Outcome → Type 0 where
  stopped : Says P Outcome.Stopped
  passed : Says P Outcome.Passed
  unresolved : Says P Outcome.Unresolved
  painted : {p : Paint} → P p.shape → Says P (Outcome.Painted p)

shaped : {kind : CfRule} {o : Outcome} → Paints.Says (Paints.PaintOf kind) o → Says (ShapeOf kind) o
shaped Paints.stopped = stopped
shaped Paints.passed = passed
shaped Paints.unresolved = unresolved
shaped (Paints.painted h) = painted h.shape

-- what a rule with this plan says of each region in range
pub data Planned (s : Sheet) (r : Rule) (kind : CfRule) : Plan → Type 0 where
  deferred : Planned s r kind Plan.Deferred
  skipped : Planned s r kind Plan.Skipped
  tested : {t : Test} → ((at : CellCoordinate) → in_range r.range at ≡ true → Says (ShapeOf kind) (Rule.verdict s r at t))
      → Planned s r kind (Plan.Tested t)

all_shaped : {s : Sheet} {r : Rule} {kind : CfRule} {p : Plan} → Paints.Planned s r kind p → Planned s r kind p
all_shaped Paints.deferred = deferred
all_shaped Paints.skipped = skipped
all_shaped (Paints.tested says) = tested (λ at h. shaped (says at h))

-- a mark of a rule has a shape that the rule's marks can have
pub plan_shaped : (s : Sheet) (r : Rule) → Planned s r r.kind (Rule.plan s r)
plan_shaped s r = all_shaped (Paints.plan_painted s r)
