-- `call::rules::codes_for` meets its contract: the codes are names of the keys, or no rule asks for them. Assumes nothing.
use native.Mathlib.Omega.{arith}
use mathlib.Core.Path.{sym, ◌∙◌}
use mathlib.Core.Bool.{false≢true}
use mathlib.Core.List.{[]}
use Rattle.keys.proofs.Naming.{zeros_at}
use Rattle.call.proofs.Tabling.{coded_small}
use Rattle.call.proofs.rules.codes_for.Goals as goal

pub returns-then-keyed : goal.returns-then-keyed
returns-then-keyed c = record {
  coded = λ cols e. c.codes.ensures cols;
  small = coded_small _ _ _ (c.codes.ensures []);
}

pub returns : goal.returns
returns c = record {
  coded = λ cols e. absurd (false≢true (sym c.if-keyed.false ∙ e));
  small = λ i. omega (arith, zeros_at 1024 i);
}
