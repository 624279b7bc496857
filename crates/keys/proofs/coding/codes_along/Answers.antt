use Rattle.keys.proofs.Along.{along_begun, along_more}
use Rattle.keys.proofs.coding.codes_along.Goals as goal

pub loop-id-init : goal.loop-id-init
loop-id-init c ks v = along_begun _ ks

pub returns-then-i-ge1024 : goal.returns-then-i-ge1024
returns-then-i-ge1024 c ks v = (c.loop-id.invariant ks v).coded

pub returns-then-code-eq0 : goal.returns-then-code-eq0
returns-then-code-eq0 c ks v = (c.loop-id.invariant ks v).coded

pub loop-id-preserved : goal.loop-id-preserved
loop-id-preserved c ks v =
    along_more _ ks (c.loop-id.invariant ks v) _ c.if-i-ge1024.false (c.code_after-code.ensures ks v)
    c.if-code-eq0.false

pub returns : goal.returns
returns c ks v = (c.loop-id.invariant ks v).coded
