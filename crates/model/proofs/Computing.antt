-- The definitions that a computed example opens, so that each example names one thing. Assumes nothing.
use lib.Ieee as Ieee
use Rattle.charging.specs.Charge as Charge
use Rattle.model.specs.Sheet as Sheet
use Rattle.model.specs.Readings as Readings
use Rattle.model.specs.References as References
use Rattle.model.specs.Comparison as Comparison
use Rattle.model.specs.Split as Split
use Rattle.model.specs.Ratio as Ratio
use Rattle.model.specs.Sorting as Sorting
use Rattle.model.specs.Values as Values
use Rattle.model.specs.Rule as Rule
use Rattle.model.specs.Run as Run
use Rattle.model.specs.Answer as Answer
use Rattle.model.specs.Job as Job
use Rattle.model.specs.Columns as Columns
use Rattle.model.specs.WorkedValues as WorkedValues

-- the small functions of a rule
unfoldable pub leaves : Unit {0}
unfolding Ieee.of_bits Ieee.to_bits Ieee.of_int Ieee.neg Ieee.add Ieee.sub Ieee.mul Ieee.div Ieee.lt Ieee.le Ieee.eq Ieee.ne
    Charge.size Charge.stored Charge.charge Charge.and_then Charge.spend Charge.total
    Sheet.text_at Sheet.same_coordinate Sheet.cell_at Sheet.value_of Sheet.cell_from Sheet.cells_from Sheet.regions_from Sheet.in_range
    Sheet.upright Sheet.within_grid Sheet.area
    Readings.finite Readings.numeric_value Readings.numeric_cell_value Readings.numeric_at Readings.lower Readings.every Readings.ascii
    Readings.same_bytes Readings.same_letters Readings.key_bits Readings.plain_text Readings.key_of_value Readings.conditional_value_key
    Readings.same_key Readings.has_key Readings.key_at
    References.offset_axis References.axis References.same_name References.names_sheet References.joined References.reference_coordinate
    References.numeric_referenced References.literal References.resolved References.unread
    Comparison.uses_second Comparison.between Comparison.not_between Comparison.compare_conditional Comparison.compare
    Split.blank Split.drop_blanks Split.trimmed Split.without_equals Split.formula Split.begins Split.operator_at Split.or_later Split.scan
    Split.split Split.behind Split.right_part
    Ratio.held_to_unit Ratio.rounded Ratio.quotient Ratio.normalized Ratio.ratio Ratio.shape_number Ratio.bar_cells Ratio.held_to_byte Ratio.channel Ratio.interpolate_rgb
    Ratio.packed Sorting.insert Sorting.sort_by
    Values.least Values.greatest Values.negative Values.comes_before Values.sorted Values.value_at Values.half Values.midpoint
    Values.selected Values.threshold Values.sum_from Values.divided_by Values.average
leaves = tt

-- a whole job
unfoldable pub jobs : Unit {0}
unfolding leaves
    Rule.cells_in Rule.numbers Rule.values Rule.keys Rule.times Rule.each Rule.covered Rule.cell_charges Rule.ahead_of Rule.ahead
    Rule.scale2 Rule.scale3 Rule.bar Rule.rank Rule.against Rule.mean Rule.plan_of Rule.plan Rule.is_bar Rule.is_simplified
    Rule.has_shape Rule.filled Rule.scaled Rule.barred Rule.filled_if Rule.on_value Rule.on_operand Rule.on_second Rule.verdict
    Run.outcome Run.outcomes Run.asked Run.is_unresolved Run.marks_from Run.has_bar Run.painted Run.afterwards Run.all_afterwards
    Run.unmarked Run.tested Run.carried_out Run.step Run.followed_by Run.run_from Run.precedence_of Run.earlier Run.indexed_from
    Run.ordered Run.run
    Answer.refusal Answer.answer Answer.summary Answer.refused Answer.answered Answer.settled Answer.limited
    Job.mark_space Job.rules_of Job.first_from Job.off_grid Job.rises Job.falls_at Job.first_fall Job.outside Job.bad_value Job.bad_name
    Job.bad_cell_at Job.bad_region_at Job.bad_operand Job.bad_kind Job.first_bad_rule Job.lengths_differ Job.too_many Job.refuse_at Job.refuse_if
    Job.first_of Job.malformed Job.space_short Job.sheet_of Job.run_of Job.result
    Columns.column Columns.written Columns.columns_of
jobs = tt

-- the table of worked values
unfoldable pub tables : Unit {0}
unfolding jobs WorkedValues.row WorkedValues.whole WorkedValues.largest WorkedValues.lowest WorkedValues.tiny WorkedValues.tiny_job
    WorkedValues.reading WorkedValues.wrapped WorkedValues.on_axis WorkedValues.place WorkedValues.parts WorkedValues.tiny_colours
    WorkedValues.key_pool WorkedValues.key_of WorkedValues.alike WorkedValues.text WorkedValues.table
tables = tt
