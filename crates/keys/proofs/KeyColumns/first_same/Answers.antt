use mathlib.Core.Path.{refl, sym, ◌∙◌}
use native.Mathlib.Omega.{arith}
use Rattle.keys.proofs.Searching.{key_begun, key_found, key_passed, key_ended}
use Rattle.keys.proofs.KeyColumns.first_same.Goals as goal

pub loop-j-init : goal.loop-j-init
loop-j-init c = λ ks v h e. key_begun

pub returns-then-same_held : goal.returns-then-same_held
returns-then-same_held c =
    record {
      upper_bound = omega (arith, c.loop-j-test.true);
      value = λ ks v h e. key_found (c.loop-j.invariant ks v h e) (omega (arith, h, c.loop-j-test.true))
          (sym (c.same_held.ensures ks v e) ∙ c.if-same_held.true);
    }

pub loop-j-preserved : goal.loop-j-preserved
loop-j-preserved c ks v h e =
    key_passed (c.loop-j.invariant ks v h e) (omega (arith, h, c.loop-j-test.true))
    (sym (c.same_held.ensures ks v e) ∙ c.if-same_held.false)

pub returns : goal.returns
returns c =
    record {
      upper_bound = omega arith;
      value = λ ks v h e. key_ended (c.loop-j.invariant ks v h e) _ (omega arith) h refl e;
    }
