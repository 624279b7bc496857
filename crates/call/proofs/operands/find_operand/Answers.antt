-- `call::operands::find_operand` meets its contract: a reference, or a column of one number. 0 / 0 is not-a-number. Assumes nothing.
use mathlib.Core.Path.{ap, ◌∙◌}
use lib.Ieee.{div, of_bits}
use Rattle.hits.specs.Said.{as_float}
use Rattle.turns.proofs.Bands.{in_range_band}
use Rattle.call.proofs.Meaning.{read_as_literal, read_as_unread}
use Rattle.call.proofs.operands.find_operand.Goals as goal

pub returns-in-Literal : goal.returns-in-Literal
returns-in-Literal c kinds wraps nums ats lens numbered valued i h m =
    let band = in_range_band c.requires.band_of.0 c.args.region_cols.now i h m in
    rw c.in-Literal.is
    (read_as_literal _ _ _ _
    (c.fill.ensures i band.0 band.1 ∙ c.float_of.ensures ∙ ap as_float c.finite_reading.ensures))

pub returns-in-Reference : goal.returns-in-Reference
returns-in-Reference c kinds wraps nums ats lens numbered valued =
    rw c.in-Reference.is (c.find_reference.ensures kinds wraps nums ats lens numbered valued)

pub returns-in-Unread : goal.returns-in-Unread
unfolding div of_bits
returns-in-Unread c kinds wraps nums ats lens numbered valued i h m =
    let band = in_range_band c.requires.band_of.0 c.args.region_cols.now i h m in
    rw c.in-Unread.is (read_as_unread _ _ _ (c.fill-in-Unread.ensures i band.0 band.1))
