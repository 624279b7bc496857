-- `call::bands::band_of` meets its contract: the rows from the first not above the range up to the first below it, or none.
-- Assumes nothing.
use Rattle.call.proofs.Banding.{band_made, band_empty}
use Rattle.call.proofs.bands.band_of.Goals as goal

pub returns-then-end-from : goal.returns-then-end-from
returns-then-end-from c =
    let a = c.args in
    let first = c.first_from-from in
    let last = c.first_from-end in
    band_empty a.range a.rows.now first.result last.result (first.ensures.before, (first.ensures.after, first.ensures.within))
    (last.ensures.before, (last.ensures.after, last.ensures.within)) c.if-end-from.true

pub returns : goal.returns
returns c =
    let a = c.args in
    let first = c.first_from-from in
    let last = c.first_from-end in
    band_made a.range a.rows.now first.result last.result (first.ensures.before, (first.ensures.after, first.ensures.within))
    (last.ensures.before, (last.ensures.after, last.ensures.within)) c.if-end-from.false
