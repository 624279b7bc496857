-- `keys::coding::code_after` meets its contract, case by case. Assumes nothing.
use mathlib.Core.Path.{sym, ◌∙◌}
use native.Mathlib.Numerals.{add-one}
use Rattle.keys.proofs.Comparing.{tag_none, tag_some, held_tag}
use Rattle.keys.proofs.Along.{after_none, after_first, after_same, after_fall, after_new, after_other}
use Rattle.keys.proofs.coding.code_after.Goals as goal

pub returns-then-tag-eq0 : goal.returns-then-tag-eq0
returns-then-tag-eq0 c ks v =
    let args = c.args in
    after_none _ ks _ args.prior args.i (tag_none _ (sym (held_tag _ v args.i) ∙ sym c.tag.ensures ∙ c.if-tag-eq0.true))

pub returns-then-code-eq0 : goal.returns-then-code-eq0
returns-then-code-eq0 c ks v =
    let args = c.args in
    let keyed = tag_some _ (λ t. c.if-tag-eq0.false (c.tag.ensures ∙ held_tag _ v args.i ∙ t)) in
    rw add-one (after_first _ ks _ args.prior args.i keyed c.if-code-eq0.true)

pub returns-then-prior-i : goal.returns-then-prior-i
returns-then-prior-i c ks v =
    let args = c.args in
    let keyed = tag_some _ (λ t. c.if-tag-eq0.false (c.tag.ensures ∙ held_tag _ v args.i ∙ t)) in
    after_same _ ks _ args.prior args.i keyed c.if-code-eq0.false
    (sym (c.same_held.ensures ks v keyed) ∙ c.if-same_held.true) c.if-prior-i.true

pub returns-then-same_held : goal.returns-then-same_held
returns-then-same_held c ks v =
    let args = c.args in
    let keyed = tag_some _ (λ t. c.if-tag-eq0.false (c.tag.ensures ∙ held_tag _ v args.i ∙ t)) in
    after_fall _ ks _ args.prior args.i keyed c.if-code-eq0.false
    (sym (c.same_held.ensures ks v keyed) ∙ c.if-same_held.true) c.if-prior-i.false

pub returns-then-comes_before : goal.returns-then-comes_before
returns-then-comes_before c ks v =
    let args = c.args in
    let keyed = tag_some _ (λ t. c.if-tag-eq0.false (c.tag.ensures ∙ held_tag _ v args.i ∙ t)) in
    rw add-one
    (after_new _ ks _ args.prior args.i keyed c.if-code-eq0.false
    (sym (c.same_held.ensures ks v keyed) ∙ c.if-same_held.false)
    (sym (c.comes_before.ensures ks v) ∙ c.if-comes_before.true))

pub returns : goal.returns
returns c ks v =
    let args = c.args in
    let keyed = tag_some _ (λ t. c.if-tag-eq0.false (c.tag.ensures ∙ held_tag _ v args.i ∙ t)) in
    after_other _ ks _ args.prior args.i keyed c.if-code-eq0.false
    (sym (c.same_held.ensures ks v keyed) ∙ c.if-same_held.false)
    (sym (c.comes_before.ensures ks v) ∙ c.if-comes_before.false)
