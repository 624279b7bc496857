-- `reader::read_text` meets its contract, case by case. Assumes nothing.
use mathlib.Core.Path.{ap, ◌∙◌}
use Rattle.std.specs.Prelude.{Ok, Err}
use Rattle.fields.proofs.Laws.{error_left}
use Rattle.fields.proofs.Room.{room_used}
use Rattle.celllines.specs.Columns.{columns}
use Rattle.reader.proofs.Fits.{within_columns}
use Rattle.reader.proofs.Starts.{begun, begun_short, begun_room, begun_rules}
use Rattle.reader.proofs.Texts.{start_refused, text_finished}
use Rattle.reader.proofs.read_text.Goals as goal

pub returns-in_err-start : goal.returns-in_err-start
returns-in_err-start c =
    let told = start_refused _ _ c.from_residual.result _ c.in_err-start.ensures.value
    (error_left c.from_residual.result c.from_residual.ensures.1) in
    record { value = told.0; job_left = told.1 }

pub read_body-requires : goal.read_body-requires
read_body-requires c =
    let t = c.read_start in
    let b = begun c.args.s.now c.args.pool.now t.new.pool c.in_ok-start.ensures.value t.ensures.named in
    (begun_room b, begun_rules b)

pub finish-requires : goal.finish-requires
finish-requires c =
    let t = c.read_start in
    let b = begun c.args.s.now c.args.pool.now t.new.pool c.in_ok-start.ensures.value t.ensures.named in
    (begun_short b, room_used (begun_room b))

pub malformed-requires : goal.malformed-requires
malformed-requires c =
    let t = c.read_start in
    begun_short (begun c.args.s.now c.args.pool.now t.new.pool c.in_ok-start.ensures.value t.ensures.named)

pub returns-in-Ok : goal.returns-in-Ok
returns-in-Ok c =
    let a = c.args in
    let t = c.read_start in
    let b = begun a.s.now a.pool.now t.new.pool c.in_ok-start.ensures.value t.ensures.named in
    let told = text_finished b (columns a.rows.now a.cols.now a.kinds.now a.wraps.now a.nums.now a.ats.now a.lens.now) a.regionrows.now
    a.regioncols.now (Ok c.in-Ok.body) _ c.in-Ok.ensures
    (c.columns_fit-fits.ensures ∙ within_columns _ _ (columns a.rows.now a.cols.now a.kinds.now a.wraps.now a.nums.now a.ats.now a.lens.now)
    a.regionrows.now a.regioncols.now) c.finish.ensures in
    record { value = told.0; job_left = told.1 }

pub returns-in-Err : goal.returns-in-Err
returns-in-Err c =
    let a = c.args in
    let t = c.read_start in
    let b = begun a.s.now a.pool.now t.new.pool c.in_ok-start.ensures.value t.ensures.named in
    let told = text_finished b (columns a.rows.now a.cols.now a.kinds.now a.wraps.now a.nums.now a.ats.now a.lens.now) a.regionrows.now
    a.regioncols.now (Err c.in-Err.place) _ c.in-Err.ensures
    (c.columns_fit-fits.ensures ∙ within_columns _ _ (columns a.rows.now a.cols.now a.kinds.now a.wraps.now a.nums.now a.ats.now a.lens.now)
    a.regionrows.now a.regioncols.now) (ap Err c.malformed.ensures) in
    record { value = told.0; job_left = told.1 }
