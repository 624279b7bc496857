-- `call::marks::draw_bar` meets its contract: a bar goes to a region that has none, and past the end of a column nothing is written.
-- Assumes nothing.
use mathlib.Core.Path.{refl, sym, ◌∙◌}
use lib.Seq.{set_out}
use Rattle.call.proofs.Drawing.{bar_kept, bar_new}
use Rattle.call.proofs.marks.draw_bar.Goals as goal
use Rattle.call.proofs.marks.draw_bar.Goals.{else-region-rules, then-region-rules}

pub returns-then-at-ne0 : goal.returns-then-at-ne0
returns-then-at-ne0 c = sym (bar_kept _ _ _ _ _ (λ e. c.if-at-ne0.true (c.at.ensures ∙ e)))

pub returns-then-region-ppms : goal.returns-then-region-ppms
returns-then-region-ppms c =
    let a = c.args in
    let none = sym c.at.ensures ∙ c.if-at-ne0.false in
    let ppm = c.normalized_ppm-ppm in
    rw (← ppm.ensures) (bar_new a.rule ppm.result a.region a.rules.now a.ppms.now none
    (elim c.if-region-rules.branch [ then-region-rules w ↦ w.rules-is | else-region-rules w ↦ w.rules-is ∙ sym (set_out _ _ _ w.if-region-rules.false) ]) refl)

pub returns-else-region-ppms : goal.returns-else-region-ppms
returns-else-region-ppms c =
    let a = c.args in
    let none = sym c.at.ensures ∙ c.if-at-ne0.false in
    let ppm = c.normalized_ppm-ppm in
    rw (← ppm.ensures) (bar_new a.rule ppm.result a.region a.rules.now a.ppms.now none
    (elim c.if-region-rules.branch [ then-region-rules w ↦ w.rules-is | else-region-rules w ↦ w.rules-is ∙ sym (set_out _ _ _ w.if-region-rules.false) ]) (sym (set_out _ _ _ c.if-region-ppms.false)))
