-- The definitions that a computed example of the job text opens, so that each example names one thing. Assumes nothing.
use lib.Ieee as Ieee
use Rattle.grammar.specs.Gram as Gram
use Rattle.grammar.specs.Parts as Parts
use Rattle.grammar.specs.Numbers as Numbers
use Rattle.model.specs.Comparison as Comparison
use Rattle.model.specs.Readings as Readings
use Rattle.jobtext.specs.Fields as Fields
use Rattle.jobtext.specs.Rules as Rules
use Rattle.jobtext.specs.Text as Text
use Rattle.jobtext.specs.Read as Read
use Rattle.jobtext.specs.Laid as Laid
use Rattle.jobtext.specs.Decided as Decided

unfoldable pub reading : Unit {0}
unfolding Ieee.of_bits Comparison.uses_second Readings.finite
    Gram.line_feeds Gram.line_of Parts.bytes Parts.byte_p Parts.word_p Parts.times_p Parts.times_text
    Numbers.digits Numbers.decimal_from Numbers.decimal_at Numbers.decimal_p Numbers.hex_digit Numbers.hex_digits Numbers.digit_value
    Numbers.is_hex Numbers.hex_p Numbers.sixteens Numbers.pairs_text Numbers.pairs_from
    Fields.text_field Fields.value Fields.reference_name Fields.reference Fields.finite_bits Fields.operand Fields.dv_op Fields.comparison
    Fields.colour Fields.priority
    Rules.cell_is Rules.scale2 Rules.scale3 Rules.bar Rules.rank Rules.mean Rules.same Rules.expr Rules.kind Rules.rule_line
    Text.head Text.cell_line Text.region_line Text.tail Text.body_of Text.job Read.over Read.closed Read.headed Read.read
reading = tt

unfoldable pub laying : Unit {0}
unfolding reading
    Laid.value_bytes Laid.cell_bytes Laid.kind_of Laid.num_of Laid.at_of Laid.len_of Laid.ats_from Laid.columns_from Laid.name_bytes Laid.name_at
    Laid.reference_at Laid.operand_bytes Laid.operand_at Laid.kind_bytes Laid.kind_at Laid.rule_at Laid.rule_bytes Laid.rules_from
    Laid.records_from Laid.laid Decided.whole_space Decided.decided
laying = tt
