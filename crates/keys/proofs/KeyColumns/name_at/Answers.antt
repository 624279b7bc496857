-- `keys::name_at` meets its contract: a key with tag 0 is none and has no name, any other is named by the first that is the same.
-- Assumes nothing.
use Rattle.std.specs.Prelude.{None}
use mathlib.Core.Path.{sym, ◌∙◌}
use native.Mathlib.Omega.{arith}
use lib.ListN.{get_or}
use Rattle.keys.proofs.Naming.{name_keyed, name_none}
use Rattle.keys.proofs.Comparing.{tag_none, tag_some, held_tag}
use Rattle.keys.proofs.KeyColumns.name_at.Goals as goal

pub returns-then-tag-eq0 : goal.returns-then-tag-eq0
returns-then-tag-eq0 c ks v h =
    let i = c.args.i in
    sym (name_none _ ks (get_or ks i None)
    (tag_none _ (sym (held_tag _ v i) ∙ sym c.tag.ensures ∙ c.if-tag-eq0.true)))

pub overflow_cast-result : goal.overflow_cast-result
overflow_cast-result c = omega (arith, c.first_same.ensures.upper_bound)

pub overflow_add-result : goal.overflow_add-result
overflow_add-result c = omega (arith, c.first_same.ensures.upper_bound)

pub returns : goal.returns
returns c ks v h =
    let args = c.args in
    let i = args.i in
    let keyed = tag_some (get_or ks i None) (λ t. c.if-tag-eq0.false (c.tag.ensures ∙ held_tag _ v i ∙ t)) in
    omega (arith, c.first_same.ensures.value ks v h keyed, name_keyed args.self.pool.now ks (get_or ks i None) keyed)
