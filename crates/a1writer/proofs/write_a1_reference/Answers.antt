-- `a1writer::write_a1_reference` meets its contract: there is no text, or it is put, and stays if it fits. Assumes nothing.
use Prim.Native.Nat.{◌≤◌, ◌<◌}
use native.Mathlib.Omega.{arith}
use mathlib.Core.Path.{sym, ◌∙◌}
use lib.ListN.{length}
use Rattle.put.proofs.Laws.{laid_length}
use Rattle.a1writer.proofs.Answers.{none_written, long_written, whole_written}
use Rattle.a1writer.proofs.write_a1_reference.Goals as goal

pub returns-then-not-can_write : goal.returns-then-not-can_write
returns-then-not-can_write c =
    let no = sym c.can_write.ensures ∙ c.if-not-can_write.true in
    let told = none_written _ _ c.args.text.now no (c.fill.ensures.after (λ y e. e)) in
    record { answer = told.0; text = told.1 }

pub returns-then-fits : goal.returns-then-fits
returns-then-fits c =
    let yes = sym c.can_write.ensures ∙ c.if-not-can_write.false in
    let laid = c.put_reference.ensures.laid in
    let kept = c.keep-length.ensures in
    let fits : c.put_reference.new.text.at ≤ length c.args.text.now = omega (arith, laid_length laid) in
    record {
      answer = (whole_written _ _ yes (omega arith) laid kept.length kept.bytes fits).0;
      text = (whole_written _ _ yes (omega arith) laid kept.length (grind arith) fits).1;
    }

pub returns-else-fits : goal.returns-else-fits
returns-else-fits c =
    let yes = sym c.can_write.ensures ∙ c.if-not-can_write.false in
    let laid = c.put_reference.ensures.laid in
    let kept = c.keep-length.ensures in
    let over : length c.args.text.now < c.put_reference.new.text.at = omega (arith, laid_length laid) in
    record {
      answer = (long_written _ _ yes (omega arith) laid kept.length kept.bytes over).0;
      text = (long_written _ _ yes (omega arith) laid kept.length (grind arith) over).1;
    }
