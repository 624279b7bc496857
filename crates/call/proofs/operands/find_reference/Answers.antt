-- `call::operands::find_reference` meets its contract: nothing, one cell from every region, the regions' own cells, or each region by
-- itself. 0 / 0 is not-a-number. Assumes nothing.
use mathlib.Core.Path.{sym, ap, ◌∙◌}
use lib.Ieee.{div, of_bits}
use Rattle.hits.specs.Said.{as_float}
use Rattle.turns.proofs.Bands.{in_range_band}
use Rattle.call.specs.Tables.{number_named}
use Rattle.call.proofs.Meaning.{read_as, number_referenced, absolute_alike}
use Rattle.call.proofs.Aiming.{elsewhere_nothing, target_itself}
use Rattle.call.proofs.operands.find_reference.Goals as goal

pub returns-then-not-names_sheet : goal.returns-then-not-names_sheet
unfolding div of_bits
returns-then-not-names_sheet c kinds wraps nums ats lens numbered valued i h m =
    let band = in_range_band c.requires.band_of.0 c.args.region_cols.now i h m in
    read_as _ _ _ _
    (c.fill.ensures i band.0 band.1
    ∙ elsewhere_nothing _ _ _ _ (sym c.names_sheet.ensures ∙ c.if-not-names_sheet.true))

pub returns-then-reference : goal.returns-then-reference
returns-then-reference c kinds wraps nums ats lens numbered valued i h m =
    let band = in_range_band c.requires.band_of.0 c.args.region_cols.now i h m in
    read_as _ _ _ _
    (c.fill-then-reference.ensures i band.0 band.1 ∙ c.number_named.ensures
    ∙ ap (number_named _) c.entry_referenced-entry.ensures
    ∙ number_referenced _ _ numbered c.requires.cols_value.2 _ _ _ _ _
    ∙ ap as_float (absolute_alike _ _ _ _ _ c.if-reference.true))

pub returns-then-means_target : goal.returns-then-means_target
returns-then-means_target c kinds wraps nums ats lens numbered valued i h m =
    let band = in_range_band c.requires.band_of.0 c.args.region_cols.now i h m in
    read_as _ _ _ _
    (c.copy.ensures i band.0 band.1 ∙ valued i h
    ∙ ap as_float
    (target_itself _ _ _ _ (sym c.names_sheet.ensures ∙ c.if-not-names_sheet.false)
    (sym c.means_target.ensures ∙ c.if-means_target.true) m))

pub returns : goal.returns
returns c kinds wraps nums ats lens numbered valued =
    c.find_referenced.ensures kinds wraps nums ats lens _ _ numbered
    (sym c.names_sheet.ensures ∙ c.if-not-names_sheet.false)
