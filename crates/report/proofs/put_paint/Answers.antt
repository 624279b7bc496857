-- `report::put_paint` meets its contract: kind, colour, ppm, cells and shape. Assumes nothing.
use native.Mathlib.Omega.{arith}
use mathlib.Core.List.{append_assoc}
use Rattle.model.specs.Run.{has_bar}
use Rattle.put.proofs.Laws.{Lent, puts_on, puts_as}
use Rattle.reporttext.specs.Report.{has_colour, paint_text}
use Rattle.report.proofs.Shaped.{number_shown, colour_shown}
use Rattle.report.proofs.put_paint.Goals as goal

pub returns : goal.returns
unfolding has_bar has_colour paint_text
returns c =
    let lent : Lent c.args.text.now = omega arith in
    puts_as (
    puts_on c.put_number.ensures lent λ lent.
    puts_on c.put_colour_or_dash.ensures lent λ lent.
    puts_on c.put_number_or_dash.ensures lent λ lent.
    puts_on c.put_number_or_dash-2.ensures lent λ lent. c.put_number_or_dash-3.ensures)
    (rw (
      c.then_some.ensures,
      c.then_some-2.ensures,
      c.then_some-3.ensures,
      c.then_some-4.ensures,
      c.bar_cells.ensures,
    )
    (simp (number_shown, colour_shown, append_assoc)))
