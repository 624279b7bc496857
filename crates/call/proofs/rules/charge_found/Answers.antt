-- `call::rules::charge_found` meets its contract: a charge is refused, ahead of the regions or among them, or all are accepted.
-- Assumes nothing.
use Prim.Native.Nat.{ℕ}
use native.Mathlib.Omega.{arith}
use mathlib.Core.Path.{◌≡◌, sym, ◌∙◌}
use lib.ListN.{replicate}
use borrow.Author.Rules.{rules}
use Rattle.std.specs.Option.{is_some}
use Rattle.charging.specs.Charge.{one, and_then, spend}
use Rattle.call.proofs.Deciding.{refused_decides, accepted_decides}
use Rattle.call.proofs.Parting.{told_then}
use Rattle.call.proofs.rules.charge_found.Goals as goal
use Rattle.call.proofs.rules.charge_found.Goals.{After-and_then-all}

charged : (c : After-and_then-all) → let a = c.args in
    c.and_then-all.result ≡ and_then a.charged (λ (n : ℕ). spend a.limit n (replicate a.asked one))
charged c = told_then _ _ _ _ c.and_then-all.ensures (λ n e p. search rules)

pub returns-then-is_err : goal.returns-then-is_err
returns-then-is_err c =
    let a = c.args in record {
      decided = λ os imported values hits counted front paints.
          refused_decides a.limit a.test os a.asked (is_some a.found.unresolved) imported values hits a.charged _ (charged (goal.at.returns-then-is_err c).After-and_then-all)
          (sym c.is_err.ensures.value ∙ c.if-is_err.true) _ (c.untested.ensures.decided a.limit imported values hits);
      few = omega (arith, c.untested.ensures.none);
    }

pub returns : goal.returns
returns c =
    let a = c.args in record {
      decided = λ os imported values hits counted front paints.
          rw (c.is_some.ensures, c.is_bar_test.ensures)
          (accepted_decides a.limit a.test os a.asked (is_some a.found.unresolved) imported values hits a.charged _ (charged (goal.at.returns c).After-and_then-all)
          (sym c.is_err.ensures.value ∙ c.if-is_err.false) _ counted front paints);
      few = omega arith;
    }
