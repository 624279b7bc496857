-- `celllines::read_cells` meets its contract: read, not all fitting or malformed, or refused at once. Assumes nothing.
use mathlib.Core.Path.{◌∙◌}
use Rattle.celllines.specs.Columns.{columns}
use Rattle.celllines.proofs.Whole.{lines_room, no_room, within_held, lines_read, lines_unfit, lines_refused}
use Rattle.celllines.proofs.read_cells.Goals as goal
use Rattle.celllines.proofs.read_cells.Goals.{then-within, else-within}

pub returns-then-not-has_room : goal.returns-then-not-has_room
returns-then-not-has_room c =
    let told = no_room _ _ _ _ _ _ _ _ c.has_room.ensures
    c.if-not-has_room.true c.clear_cells.ensures.lens_after c.clear_cells.ensures.pool_after in
    record { value = told.0; lens_after = told.1 }

pub read_lines-requires : goal.read_lines-requires
read_lines-requires c = lines_room _ _ _ c.has_room.ensures c.if-not-has_room.false

pub returns-then-not-fits : goal.returns-then-not-fits
returns-then-not-fits c =
    let a = c.args in
    let t = c.read_lines.new in
    let w = c.read_lines.auto in
    let v = c.clear_columns.auto in
    let x = c.clear_columns.new in
    let y = c.clear_cells-then-not-fits.new in
    let told = lines_unfit _ _ _ _
    (columns a.rows.now a.cols.now a.kinds.now a.wraps.now a.nums.now a.ats.now a.lens.now) a.pool.now
    c.has_room.ensures c.if-not-has_room.false (columns x.rows x.cols x.kinds x.wraps x.nums x.ats x.lens) (columns t.rows t.cols t.kinds t.wraps t.nums t.ats t.lens) t.pool c.clear_columns.ensures
    (record { rows = v.rows; cols = v.cols; kinds = v.kinds; wraps = v.wraps; nums = v.nums; ats = v.ats; lens = v.lens })
    (record { rows = w.rows; cols = w.cols; kinds = w.kinds; wraps = w.wraps; nums = w.nums; ats = w.ats; lens = w.lens })
    w.pool _ c.in-Ok.ensures (c.within.ensures ∙ within_held c.args.number (columns t.rows t.cols t.kinds t.wraps t.nums t.ats t.lens)) (elim c.if-within.branch [
      | then-within w ↦ w.fits-is ∙ rw w.if-within.true
      | else-within w ↦ w.fits-is ∙ rw w.if-within.false
    ])
    (columns y.rows y.cols y.kinds y.wraps y.nums y.ats y.lens) y.pool c.if-not-fits.true
    c.clear_cells-then-not-fits.ensures.lens_after c.clear_cells-then-not-fits.ensures.pool_after in
    record { value = told.0; lens_after = told.1 }

pub returns-else-not-fits : goal.returns-else-not-fits
returns-else-not-fits c =
    let a = c.args in
    let t = c.read_lines.new in
    let w = c.read_lines.auto in
    let v = c.clear_columns.auto in
    let x = c.clear_columns.new in
    let told = lines_read _ _ _ _
    (columns a.rows.now a.cols.now a.kinds.now a.wraps.now a.nums.now a.ats.now a.lens.now) a.pool.now
    c.has_room.ensures c.if-not-has_room.false (columns x.rows x.cols x.kinds x.wraps x.nums x.ats x.lens) (columns t.rows t.cols t.kinds t.wraps t.nums t.ats t.lens) t.pool c.clear_columns.ensures
    (record { rows = v.rows; cols = v.cols; kinds = v.kinds; wraps = v.wraps; nums = v.nums; ats = v.ats; lens = v.lens })
    (record { rows = w.rows; cols = w.cols; kinds = w.kinds; wraps = w.wraps; nums = w.nums; ats = w.ats; lens = w.lens })
    w.pool _ c.in-Ok.ensures (c.within.ensures ∙ within_held c.args.number (columns t.rows t.cols t.kinds t.wraps t.nums t.ats t.lens)) (elim c.if-within.branch [
      | then-within w ↦ w.fits-is ∙ rw w.if-within.true
      | else-within w ↦ w.fits-is ∙ rw w.if-within.false
    ])
    c.if-not-fits.false in
    record { value = told.0; lens_after = told.1 }

pub returns-in-Err : goal.returns-in-Err
returns-in-Err c =
    let a = c.args in
    let t = c.read_lines.new in
    let w = c.read_lines.auto in
    let v = c.clear_columns.auto in
    let x = c.clear_columns.new in
    let y = c.clear_cells-in-Err.new in
    let told = lines_refused _ _ _ _
    (columns a.rows.now a.cols.now a.kinds.now a.wraps.now a.nums.now a.ats.now a.lens.now) a.pool.now
    c.has_room.ensures c.if-not-has_room.false (columns x.rows x.cols x.kinds x.wraps x.nums x.ats x.lens) (columns t.rows t.cols t.kinds t.wraps t.nums t.ats t.lens) t.pool c.clear_columns.ensures
    (record { rows = v.rows; cols = v.cols; kinds = v.kinds; wraps = v.wraps; nums = v.nums; ats = v.ats; lens = v.lens })
    (record { rows = w.rows; cols = w.cols; kinds = w.kinds; wraps = w.wraps; nums = w.nums; ats = w.ats; lens = w.lens })
    w.pool (columns y.rows y.cols y.kinds y.wraps y.nums y.ats y.lens) y.pool
    c.clear_cells-in-Err.ensures.lens_after c.clear_cells-in-Err.ensures.pool_after c.in-Err.ensures in
    record { value = told.0; lens_after = told.1 }
