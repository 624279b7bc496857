use mathlib.Core.Path.{sym, ◌∙◌}
use native.Mathlib.Omega.{arith}
use Rattle.keys.proofs.Tabling.{passed_begun, passed_more, found_free, found_held}
use Rattle.keys.proofs.table.find.Goals as goal

pub loop-p-init : goal.loop-p-init
loop-p-init c = λ ks v k. passed_begun

pub returns-then-code-eq0 : goal.returns-then-code-eq0
returns-then-code-eq0 c = record {
  range = (omega arith, omega arith);
  found = λ ks v k. found_free (c.loop-p.invariant ks v k) (omega arith) c.if-code-eq0.true;
}

pub returns-then-same_held : goal.returns-then-same_held
returns-then-same_held c = record {
  range = (omega arith, omega arith);
  found = λ ks v k. found_held (c.loop-p.invariant ks v k) (omega arith) (sym (c.same_held.ensures ks v k) ∙ c.if-same_held.true);
}

pub loop-p-preserved : goal.loop-p-preserved
loop-p-preserved c ks v k =
    passed_more (c.loop-p.invariant ks v k) c.if-code-eq0.false (sym (c.same_held.ensures ks v k) ∙ c.if-same_held.false)
