-- `regionlines::read_regions` meets its contract, where the lines were read. Assumes nothing.
use mathlib.Core.Path.{◌∙◌}
use Rattle.regionlines.proofs.Sections.{within_two, lines_read, lines_unfit}
use Rattle.regionlines.proofs.read_regions.Goals as goal

pub returns-then-not-fits : goal.returns-then-not-fits
returns-then-not-fits c =
    let told = lines_unfit _ _ _ c.args.rows.now c.args.cols.now _ _ c.read_lines.new.rows c.read_lines.new.cols
    (c.fill.ensures.after (λ y h. h), c.fill-2.ensures.after (λ y h. h))
    (c.within-fits.ensures
    ∙ within_two c.args.number (c.read_lines.auto.rows ∙ c.fill.auto.self) (c.read_lines.auto.cols ∙ c.fill-2.auto.self))
    c.in-Ok.ensures c.if-not-fits.true (c.read_lines.auto.rows ∙ c.fill.auto.self, c.read_lines.auto.cols ∙ c.fill-2.auto.self)
    (c.fill-then-not-fits.ensures.after (λ y h. h)) (c.fill-then-not-fits-2.ensures.after (λ y h. h)) in
    record { value = told.0; rows_after = told.1 }

pub returns-else-not-fits : goal.returns-else-not-fits
returns-else-not-fits c =
    let told = lines_read _ _ _ c.args.rows.now c.args.cols.now _ _ _ _
    (c.fill.ensures.after (λ y h. h), c.fill-2.ensures.after (λ y h. h))
    (c.within-fits.ensures
    ∙ within_two c.args.number (c.read_lines.auto.rows ∙ c.fill.auto.self) (c.read_lines.auto.cols ∙ c.fill-2.auto.self))
    c.in-Ok.ensures c.if-not-fits.false in
    record { value = told.0; rows_after = told.1 }
