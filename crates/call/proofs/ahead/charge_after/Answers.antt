-- `call::ahead::charge_after` meets its contract. Assumes nothing.
use borrow.Author.Rules.{rules}
use Rattle.call.proofs.Parting.{told_then}
use Rattle.call.proofs.ahead.charge_after.Goals as goal

pub returns : goal.returns
returns c cells regions pool name counted =
    told_then _ _ _ _ c.and_then.ensures (λ n e p. let inside = counted n e in search rules)
