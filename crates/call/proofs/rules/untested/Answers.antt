-- `call::rules::untested` meets its contract. Assumes nothing.
use mathlib.Core.Path.{refl}
use Rattle.call.proofs.Deciding.{untested_decides}
use Rattle.call.proofs.rules.untested.Goals as goal

pub returns : goal.returns
returns c = record {
  decided = λ limit imported values hits.
      rw c.is_ok.ensures.value (untested_decides limit c.args.unresolved imported values hits _ c.args.charged);
  none = refl;
}
