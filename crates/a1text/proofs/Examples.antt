-- References computed on the definition: what each text reads as, and how it is written. Assumes nothing.
use Prim.Native.Nat.{ℕ}
use mathlib.Core.Path.{◌≡◌, refl}
use mathlib.Core.Bool.{true, false}
use mathlib.Core.List.{List, [], ◌∷◌, ◌++◌}
use mathlib.Core.Option.{Option, none, some}
use lib.ListN.{replicate}
use Rattle.model.specs.Readings.{every}
use Rattle.model.specs.Split.{blank, drop_blanks, trimmed, without_equals, formula, begins, operator_at, or_later, scan, split}
use Rattle.model.specs.Split.{behind, right_part, ahead, left_part}
use Rattle.grammar.specs.Parts.{bytes}
use Rattle.grammar.specs.Numbers.{digits, decimal_from, decimal_at}
use Rattle.jobtext.specs.Written.{Reference}
use Rattle.a1text.specs.Bytes.{is_capital, is_small, is_letter, is_digit, is_word_byte, is_printable, raised, begins_with, taken}
use Rattle.a1text.specs.Names.{is_name, is_bare, doubled, name_ok, name_text, unquoted_from, quoted_p, bare_p, name_p}
use Rattle.a1text.specs.Columns.{column_from, column_number, capitals, is_column, letters_p, row_p, mark_p, mark_text}
use Rattle.a1text.specs.Spelling.{spelling}
use Rattle.a1text.specs.A1.{name_meant, means, name_spelled, spelled, is_named, has_text, a1, ending, reference_of, operand_read}

computed : Unit {0}
unfolding every blank drop_blanks trimmed without_equals formula begins operator_at or_later scan split behind right_part ahead left_part
    bytes digits decimal_from decimal_at is_capital is_small is_letter is_digit is_word_byte is_printable raised begins_with taken
    is_name is_bare doubled name_ok name_text unquoted_from quoted_p bare_p name_p column_from column_number capitals is_column
    letters_p row_p mark_p mark_text spelling name_meant means name_spelled spelled is_named has_text ending reference_of operand_read
computed = tt

abbrev cell : ℕ → ℕ → Option Reference
cell row col = some (record { row = row; col = col; row_absolute = false; col_absolute = false; name = none })

abbrev fixed : ℕ → ℕ → Option Reference
fixed row col = some (record { row = row; col = col; row_absolute = true; col_absolute = true; name = none })

abbrev named : List ℕ → ℕ → ℕ → Option Reference
named name row col = some (record { row = row; col = col; row_absolute = false; col_absolute = false; name = some name })

-- ---- document 02

absolute : operand_read (bytes "$B$7") ≡ fixed 6 1
unfolding computed
absolute = refl

other_sheet : operand_read (bytes "'Class 4'!c12") ≡ named (bytes "Class 4") 11 2
unfolding computed
other_sheet = refl

-- ---- the ends

greatest : operand_read (bytes "XFD1048576") ≡ cell 1_048_575 16_383
unfolding computed
greatest = refl

past_the_columns : operand_read (bytes "XFE1") ≡ none
unfolding computed
past_the_columns = refl

past_the_rows : operand_read (bytes "A1048577") ≡ none
unfolding computed
past_the_rows = refl

row_0 : operand_read (bytes "A0") ≡ none
unfolding computed
row_0 = refl

leading_zero : operand_read (bytes "A01") ≡ none
unfolding computed
leading_zero = refl

-- ---- what is dropped: one `=`, and no blank behind it

equals : operand_read (bytes " =A1 ") ≡ cell 0 0
unfolding computed
equals = refl

blank_behind_equals : operand_read (bytes "= A1") ≡ none
unfolding computed
blank_behind_equals = refl

two_equals : operand_read (bytes "==A1") ≡ none
unfolding computed
two_equals = refl

-- the right part of `A1==B1` is `=B1`
right_part_lem : operand_read (right_part (bytes "A1==B1")) ≡ cell 0 1
unfolding computed
right_part_lem = refl

left_part_lem : operand_read (left_part (bytes "'a<b'!A1 < B1")) ≡ named (bytes "a<b") 0 0
unfolding computed
left_part_lem = refl

-- ---- names

quote_inside : operand_read (bytes "'it''s'!A1") ≡ named (bytes "it's") 0 0
unfolding computed
quote_inside = refl

quote_unclosed : operand_read (bytes "'it''s!A1") ≡ none
unfolding computed
quote_unclosed = refl

empty_name : operand_read (bytes "''!A1") ≡ none
unfolding computed
empty_name = refl

nothing_named : operand_read (bytes "Sheet1!") ≡ none
unfolding computed
nothing_named = refl

-- the name's case is kept, the letters' is not
case_kept : operand_read (bytes "sHeet1!xfd9") ≡ named (bytes "sHeet1") 8 16_383
unfolding computed
case_kept = refl

like_a_cell : operand_read (bytes "A1!B2") ≡ named (bytes "A1") 1 1
unfolding computed
like_a_cell = refl

starts_with_an_underscore : operand_read (bytes "_a!A1") ≡ none
unfolding computed
starts_with_an_underscore = refl

starts_with_a_digit : operand_read (bytes "1a!A1") ≡ none
unfolding computed
starts_with_a_digit = refl

control_byte : operand_read (39 ∷ 127 ∷ bytes "'!A1") ≡ none
unfolding computed
control_byte = refl

high_byte : operand_read (39 ∷ 128 ∷ bytes "'!A1") ≡ named (128 ∷ []) 0 0
unfolding computed
high_byte = refl

-- 510 quotes are a name of 255
longest_name : operand_read (39 ∷ (replicate 510 39 ++ bytes "'!A1")) ≡ named (replicate 255 39) 0 0
unfolding computed
longest_name = refl

too_long_a_name : operand_read (39 ∷ (replicate 512 39 ++ bytes "'!A1")) ≡ none
unfolding computed
too_long_a_name = refl

-- ---- written

abbrev quoted : Reference
quoted = record { row = 11; col = 27; row_absolute = true; col_absolute = false; name = some (bytes "it's") }

written : a1.text quoted ≡ bytes "'it''s'!AB$12"
unfolding computed
written = refl

abbrev plain : Reference
plain = record { row = 0; col = 701; row_absolute = false; col_absolute = true; name = some (bytes "Sheet_1") }

written_bare : a1.text plain ≡ bytes "Sheet_1!$ZZ1"
unfolding computed
written_bare = refl

off_the_grid : has_text (record { row = 1_048_576; col = 0; row_absolute = false; col_absolute = false; name = none }) ≡ false
unfolding computed
off_the_grid = refl

unnamed : has_text (record { row = 0; col = 0; row_absolute = false; col_absolute = false; name = some [] }) ≡ false
unfolding computed
unnamed = refl
