-- The LFs of the job text's fields: none but where a field ends its line, and so one in each line. Assumes nothing.
use Prim.Native.Nat.{ℕ}
use mathlib.Core.Bool.{Bool, true, false}
use mathlib.Core.List.{List, [], ◌∷◌}
use native.Mathlib.Omega.{arith}
use lib.Dec.{T}
use Rattle.model.specs.Comparison.{uses_second}
use Rattle.grammar.specs.Gram.{line_feeds}
use Rattle.grammar.specs.Parts.{space, comma, line_feed, bytes, word, both, either}
use Rattle.grammar.proofs.Choices.{apart, either_exact}
use Rattle.grammar.proofs.Decimals.{decimal_exact}
use Rattle.grammar.proofs.Hexadecimals.{hex_exact}
use Rattle.grammar.proofs.Feeds.{Feeds, in_line, word_feeds, behind_feeds, ended_feeds, following_feeds, both_feeds, choice_feeds, read_as_feeds, only_feeds, such_feeds, either_feeds}
use Rattle.grammar.proofs.NumberFeeds.{decimal_feeds, hex_feeds, pairs_feeds}
use Rattle.jobtext.specs.Written.{Operand}
use Rattle.jobtext.specs.Fields.{
  count,
  row,
  col,
  wraps,
  flag,
  text_field,
  to_value,
  of_value,
  bits_line,
  value,
  to_absolute,
  of_absolute,
  absolute,
  to_name,
  of_name,
  reference_name,
  to_reference,
  of_reference,
  reference,
  to_operand,
  of_operand,
  finite_bits,
  operand,
  to_dv_op,
  of_dv_op,
  dv_op,
  to_comparison,
  of_comparison,
  comparison,
  to_colour,
  of_colour,
  colour,
  to_priority,
  of_priority,
  priority,
}
use Rattle.jobtext.specs.Rules.{second_if, cell_is, scale2, scale3, bar, rank, mean, same, expr, to_kind, of_kind, kind, to_rule, of_rule, rule_line}
use Rattle.jobtext.specs.Text.{
  head_names,
  cell_names,
  region_names,
  rule_names,
  to_head,
  of_head,
  second_line,
  to_cell,
  of_cell,
  cell_line,
  to_region,
  of_region,
  region_line,
}
use Rattle.jobtext.proofs.Fields.{
  count_exact,
  row_exact,
  col_exact,
  wraps_exact,
  flag_exact,
  absolute_exact,
  operand_exact,
  dv_op_exact,
  comparison_exact,
  channels_exact,
  colour_exact,
  priority_exact,
}
use Rattle.jobtext.proofs.Rules.{second_exact}

-- ---- numbers

count_feeds : Feeds 0 count
unfolding line_feeds
count_feeds = decimal_feeds 18_446_744_073_709_551_615 space (omega arith)

row_feeds : (end : ℕ) → Feeds (line_feeds (end ∷ [])) (row end)
row_feeds end = decimal_feeds 4_294_967_295 end (omega arith)

col_feeds : (end : ℕ) → Feeds (line_feeds (end ∷ [])) (col end)
col_feeds end = decimal_feeds 65_535 end (omega arith)

wraps_feeds : Feeds 0 wraps
unfolding line_feeds
wraps_feeds = decimal_feeds 255 space (omega arith)

flag_feeds : Feeds 0 flag
unfolding line_feeds bytes in_line
flag_feeds = either_feeds (word_feeds (bytes "0 ") tt) (word_feeds (bytes "1 ") tt)

-- ---- texts

text_feeds : (end : ℕ) → Feeds (line_feeds (end ∷ [])) (text_field end)
unfolding text_field line_feeds bytes in_line
text_feeds end = behind_feeds (word_feeds (bytes "t") tt) (pairs_feeds end)

-- ---- values

bits_feeds : Feeds 1 bits_line
unfolding line_feeds bytes in_line
bits_feeds = ended_feeds (hex_exact 16) (hex_feeds 16) (word_feeds (bytes "\n") tt)

value_feeds : Feeds 1 value
unfolding value line_feeds bytes in_line
value_feeds =
    read_as_feeds to_value of_value
    (choice_feeds (word_feeds (bytes "n") tt) bits_feeds
    (choice_feeds (word_feeds (bytes "d") tt) bits_feeds
    (choice_feeds (word_feeds (bytes "t") tt) (pairs_feeds line_feed)
    (choice_feeds (word_feeds (bytes "b") tt)
    (either_feeds (word_feeds (bytes "0\n") tt) (word_feeds (bytes "1\n") tt)) (word_feeds (bytes "e\n") tt)))))

-- ---- operands

absolute_feeds : Feeds 0 absolute
unfolding line_feeds
absolute_feeds = read_as_feeds to_absolute of_absolute (decimal_feeds 3 comma (omega arith))

name_feeds : Feeds 0 reference_name
unfolding reference_name line_feeds bytes in_line
name_feeds =
    read_as_feeds to_name of_name (choice_feeds (word_feeds (bytes "-") tt) (word_feeds (bytes " ") tt) (text_feeds space))

reference_feeds : Feeds 0 reference
unfolding reference line_feeds
reference_feeds =
    read_as_feeds to_reference of_reference
    (both_feeds (row_exact comma (omega arith)) (row_feeds comma)
    (both_feeds (col_exact comma (omega arith)) (col_feeds comma) (both_feeds absolute_exact absolute_feeds name_feeds)))

operand_feeds : Feeds 0 operand
unfolding operand line_feeds bytes in_line
operand_feeds =
    read_as_feeds to_operand of_operand
    (choice_feeds (word_feeds (bytes "n") tt)
    (such_feeds finite_bits (ended_feeds (hex_exact 16) (hex_feeds 16) (word_feeds (bytes " ") tt)))
    (choice_feeds (word_feeds (bytes "r") tt) reference_feeds (word_feeds (bytes "u ") tt)))

-- ---- operators, colours and priorities

dv_op_feeds : Feeds 0 dv_op
unfolding dv_op line_feeds
dv_op_feeds = read_as_feeds to_dv_op of_dv_op (decimal_feeds 7 space (omega arith))

comparison_feeds : Feeds 0 comparison
unfolding comparison line_feeds
comparison_feeds = read_as_feeds to_comparison of_comparison (decimal_feeds 5 space (omega arith))

colour_feeds : {k : ℕ} {end : List ℕ} → Feeds k (word end) → Feeds k (colour end)
unfolding colour
colour_feeds E =
    ended_feeds channels_exact
    (read_as_feeds to_colour of_colour (both_feeds (hex_exact 2) (hex_feeds 2) (both_feeds (hex_exact 2) (hex_feeds 2) (hex_feeds 2)))) E

priority_feeds : Feeds 0 priority
unfolding priority line_feeds bytes in_line
priority_feeds =
    read_as_feeds to_priority of_priority
    (choice_feeds (word_feeds (bytes "-") tt) (word_feeds (bytes " ") tt) (decimal_feeds 4_294_967_295 space (omega arith)))

-- ---- the parameters of rules

colour_on : Feeds 0 (colour (bytes " "))
unfolding line_feeds bytes in_line
colour_on = colour_feeds (word_feeds (bytes " ") tt)

colour_last : Feeds 1 (colour (bytes "\n"))
unfolding line_feeds bytes in_line
colour_last = colour_feeds (word_feeds (bytes "\n") tt)

second_feeds : (b : Bool) → Feeds 0 (second_if b)
unfolding line_feeds bytes in_line
second_feeds true = operand_feeds
second_feeds false = only_feeds Operand.unread (word_feeds (bytes "- ") tt)

cell_is_feeds : Feeds 1 cell_is
unfolding cell_is
cell_is_feeds =
    following_feeds dv_op_exact dv_op_feeds
    (λ op.
    both_feeds operand_exact operand_feeds
    (both_feeds (second_exact (uses_second op)) (second_feeds (uses_second op)) colour_last))

scale2_feeds : Feeds 1 scale2
unfolding scale2 line_feeds bytes in_line
scale2_feeds = both_feeds (colour_exact (bytes " ")) colour_on (colour_feeds (word_feeds (bytes " - -\n") tt))

scale3_feeds : Feeds 1 scale3
unfolding scale3 line_feeds bytes in_line
scale3_feeds =
    both_feeds (colour_exact (bytes " ")) colour_on
    (both_feeds (colour_exact (bytes " ")) colour_on (colour_feeds (word_feeds (bytes " -\n") tt)))

bar_feeds : Feeds 1 bar
unfolding bar line_feeds bytes in_line
bar_feeds = colour_feeds (word_feeds (bytes " - - -\n") tt)

-- one of two words, and a colour to the end of the line
side_feeds : {w v : List ℕ} → Feeds 0 (word w) → Feeds 0 (word v) → T (apart w v) → Feeds 1 (both (either w v) (colour (bytes "\n")))
side_feeds {w} {v} W X d = both_feeds (either_exact w v d) (either_feeds W X) colour_last

rank_feeds : Feeds 1 rank
unfolding rank line_feeds bytes in_line apart
rank_feeds =
    both_feeds (decimal_exact 4_294_967_295 space (omega arith) (omega arith)) (decimal_feeds 4_294_967_295 space (omega arith))
    (both_feeds (either_exact (bytes "top ") (bytes "bottom ") tt)
    (either_feeds (word_feeds (bytes "top ") tt) (word_feeds (bytes "bottom ") tt))
    (side_feeds (word_feeds (bytes "count ") tt) (word_feeds (bytes "percent ") tt) tt))

mean_feeds : Feeds 1 mean
unfolding mean line_feeds bytes in_line apart
mean_feeds = side_feeds (word_feeds (bytes "above - - ") tt) (word_feeds (bytes "below - - ") tt) tt

same_feeds : Feeds 1 same
unfolding same line_feeds bytes in_line apart
same_feeds = side_feeds (word_feeds (bytes "duplicate - - ") tt) (word_feeds (bytes "unique - - ") tt) tt

expr_feeds : Feeds 1 expr
unfolding expr
expr_feeds =
    both_feeds comparison_exact comparison_feeds
    (both_feeds operand_exact operand_feeds (both_feeds operand_exact operand_feeds colour_last))

kind_feeds : Feeds 1 kind
unfolding kind line_feeds bytes in_line
kind_feeds =
    read_as_feeds to_kind of_kind
    (choice_feeds (word_feeds (bytes "cellis ") tt) cell_is_feeds
    (choice_feeds (word_feeds (bytes "scale2 ") tt) scale2_feeds
    (choice_feeds (word_feeds (bytes "scale3 ") tt) scale3_feeds
    (choice_feeds (word_feeds (bytes "bar ") tt) bar_feeds
    (choice_feeds (word_feeds (bytes "rank ") tt) rank_feeds
    (choice_feeds (word_feeds (bytes "mean ") tt) mean_feeds
    (choice_feeds (word_feeds (bytes "same ") tt) same_feeds (behind_feeds (word_feeds (bytes "expr ") tt) expr_feeds))))))))

-- ---- the lines

pub head_names_feeds : Feeds 1 (word head_names)
unfolding line_feeds bytes in_line
head_names_feeds = word_feeds head_names tt

pub cell_names_feeds : Feeds 1 (word cell_names)
unfolding line_feeds bytes in_line
cell_names_feeds = word_feeds cell_names tt

pub region_names_feeds : Feeds 1 (word region_names)
unfolding line_feeds bytes in_line
region_names_feeds = word_feeds region_names tt

pub rule_names_feeds : Feeds 1 (word rule_names)
unfolding line_feeds bytes in_line
rule_names_feeds = word_feeds rule_names tt

pub second_line_feeds : Feeds 1 second_line
unfolding line_feeds
second_line_feeds =
    read_as_feeds to_head of_head
    (both_feeds count_exact count_feeds
    (both_feeds count_exact count_feeds
    (both_feeds count_exact count_feeds
    (both_feeds count_exact count_feeds (both_feeds count_exact count_feeds (text_feeds line_feed))))))

pub cell_feeds : Feeds 1 cell_line
unfolding cell_line line_feeds
cell_feeds =
    read_as_feeds to_cell of_cell
    (both_feeds (row_exact space (omega arith)) (row_feeds space)
    (both_feeds (col_exact space (omega arith)) (col_feeds space) (both_feeds wraps_exact wraps_feeds value_feeds)))

pub region_feeds : Feeds 1 region_line
unfolding region_line line_feeds
region_feeds = read_as_feeds to_region of_region (both_feeds (row_exact space (omega arith)) (row_feeds space) (col_feeds line_feed))

pub rule_feeds : Feeds 1 rule_line
unfolding rule_line line_feeds
rule_feeds =
    read_as_feeds to_rule of_rule
    (both_feeds (row_exact space (omega arith)) (row_feeds space)
    (both_feeds (col_exact space (omega arith)) (col_feeds space)
    (both_feeds (row_exact space (omega arith)) (row_feeds space)
    (both_feeds (col_exact space (omega arith)) (col_feeds space)
    (both_feeds priority_exact priority_feeds (both_feeds flag_exact flag_feeds (both_feeds flag_exact flag_feeds kind_feeds)))))))
