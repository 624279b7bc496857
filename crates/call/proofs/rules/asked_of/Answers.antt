-- `call::rules::asked_of` meets its contract: the front of the flags is counted where the test is unresolved. Assumes nothing.
use native.Mathlib.Omega.{arith}
use mathlib.Core.Path.{◌∙◌}
use Rattle.hits.proofs.Unstopped.{live_front}
use Rattle.call.proofs.rules.asked_of.Goals as goal

pub returns-in-Some : goal.returns-in-Some
returns-in-Some c =
    let within = rw c.in-Some.is at c.requires in
    rw c.in-Some.is (c.live.ensures ∙ live_front _ _ (omega (arith, within)))
