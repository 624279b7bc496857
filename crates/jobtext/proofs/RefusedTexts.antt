-- Texts that are refused, computed on the definition, each with the number of its first line that is malformed, missing or extra;
-- and some that are accepted beside them. Assumes nothing.
use Prim.Native.Nat.{ℕ, ◌-◌}
use Prim.Native.String.{String}
use mathlib.Core.Path.{◌≡◌, refl}
use mathlib.Core.List.{List, [], ◌∷◌, ◌++◌}
use lib.ListN.{length, take}
use Rattle.grammar.specs.Parts.{bytes}
use Rattle.jobtext.specs.Read.{ReadResult, read}
use Rattle.jobtext.proofs.Computing.{reading}
use Rattle.jobtext.proofs.WorkedText.{lines, worked_text, worked_with}

-- ---- lines

-- a text of one cell, one region and one rule
unfoldable pub small : String → String → String → String → List ℕ
small second cell region rule =
    lines ("limit start cells regions rules name" ∷ second ∷ "row col wraps value" ∷ cell ∷ "row col" ∷ region
    ∷ "top left bottom right priority stop imported rule p1 p2 p3 p4" ∷ rule ∷ [])

abbrev second : String
second = "9 8 1 1 1 t"

abbrev pub cell : String
cell = "0 0 0 e"

abbrev pub region : String
region = "0 0"

abbrev pub rule : String
rule = "0 0 2 0 - 0 0 bar 00ff00 - - -"

abbrev read11 : List ℕ → ℕ → Type 0
read11 s line = read s ≡ ReadResult.bad_line line

-- the text with another cell line, region line, rule line
unfoldable pub with_cell : String → List ℕ
with_cell c = small second c region rule

unfoldable pub with_region : String → List ℕ
with_region r = small second cell r rule

unfoldable pub with_rule : String → List ℕ
with_rule r = small second cell region r

unfoldable pub samples : Unit {0}
unfolding reading lines worked_text worked_with small with_cell with_region with_rule
samples = tt

-- ---- the ends of a text

empty : read11 [] 1
unfolding samples
empty = refl

-- the last line has no LF
no_last_feed : read11 (take (length worked_text - 1) worked_text) 13
unfolding samples
no_last_feed = refl

-- the last line is missing
no_last_line : read11 (take (length worked_text - 36) worked_text) 13
unfolding samples
no_last_line = refl

-- a lone LF after the last line
extra_feed : read11 (worked_text ++ (10 ∷ [])) 14
unfolding samples
extra_feed = refl

-- a second job appended
second_job : read11 (worked_text ++ worked_text) 14
unfolding samples
second_job = refl

-- a CR ahead of an LF, in the first line and in a cell's
carriage_return : read11 (bytes "limit start cells regions rules name\r\n") 1
unfolding samples
carriage_return = refl

cell_carriage_return : read11 (with_cell "0 0 0 e\r") 4
unfolding samples
cell_carriage_return = refl

nul : read11 (0 ∷ []) 1
unfolding samples
nul = refl

-- a cell line too few: its names line stands where the second cell should
cell_missing : read11 (small "9 8 2 1 1 t" cell region rule) 5
unfolding samples
cell_missing = refl

-- a cell line too many: it stands where the names of the regions should
cell_extra : read11 (small "9 8 0 1 1 t" cell region rule) 4
unfolding samples
cell_extra = refl

region_missing : read11 (small "9 8 1 2 1 t" cell region rule) 7
unfolding samples
region_missing = refl

rule_missing : read11 (small "9 8 1 1 2 t" cell region rule) 9
unfolding samples
rule_missing = refl

-- ---- the second line

leading_zero : read11 (small "09 8 1 1 1 t" cell region rule) 2
unfolding samples
leading_zero = refl

two_spaces : read11 (small "9  8 1 1 1 t" cell region rule) 2
unfolding samples
two_spaces = refl

-- 2^64 does not fit a count, 2^64 - 1 does
count_too_large : read11 (small "18446744073709551616 8 1 1 1 t" cell region rule) 2
unfolding samples
count_too_large = refl

nameless : read11 (small "9 8 1 1 1 -" cell region rule) 2
unfolding samples
nameless = refl

-- the early 2 needs the first two lines alone, whole and well formed
too_many_cells : read (lines ("limit start cells regions rules name" ∷ "9 8 1025 0 0 t" ∷ [])) ≡ ReadResult.too_many 8
unfolding samples
too_many_cells = refl

too_many_regions : read (small "9 8 1 18446744073709551615 1 t" cell region rule) ≡ ReadResult.too_many 8
unfolding samples
too_many_regions = refl

too_many_rules : read (small "9 8 1 1 65 t" "?" "?" "?") ≡ ReadResult.too_many 8
unfolding samples
too_many_rules = refl

too_many_but_no_feed : read11 (bytes "limit start cells regions rules name\n9 8 1025 0 0 t") 2
unfolding samples
too_many_but_no_feed = refl

too_many_but_bad_name : read11 (small "9 8 1025 1 1 t5" cell region rule) 2
unfolding samples
too_many_but_bad_name = refl

-- 1,024 cells are not over; the first of them that is missing is the second
full_count : read11 (small "9 8 1024 1 1 t" cell region rule) 5
unfolding samples
full_count = refl

-- ---- cells and regions

upper_case : read11 (with_cell "0 0 0 n3FF0000000000000") 4
unfolding samples
upper_case = refl

fifteen_digits : read11 (with_cell "0 0 0 n3ff000000000000") 4
unfolding samples
fifteen_digits = refl

odd_digits : read11 (with_cell "0 0 0 t5") 4
unfolding samples
odd_digits = refl

neither_bool : read11 (with_cell "0 0 0 b2") 4
unfolding samples
neither_bool = refl

row_too_large : read11 (with_cell "4294967296 0 0 e") 4
unfolding samples
row_too_large = refl

col_too_large : read11 (with_cell "0 65536 0 e") 4
unfolding samples
col_too_large = refl

wraps_too_large : read11 (with_cell "0 0 256 e") 4
unfolding samples
wraps_too_large = refl

minus_sign : read11 (with_cell "-1 0 0 e") 4
unfolding samples
minus_sign = refl

space_at_end : read11 (with_region "0 0 ") 6
unfolding samples
space_at_end = refl

-- ---- rules

unknown_word : read11 (with_rule "0 0 2 0 - 0 0 bars 00ff00 - - -") 8
unfolding samples
unknown_word = refl

-- an unused parameter is `-`, a used one is not
unused_written : read11 (with_rule "0 0 2 0 - 0 0 bar 00ff00 00ff00 - -") 8
unfolding samples
unused_written = refl

second_not_used : read11 (with_rule "0 0 2 0 - 0 0 cellis 2 u u 00ff00") 8
unfolding samples
second_not_used = refl

second_used : read11 (with_rule "0 0 2 0 - 0 0 cellis 1 u - 00ff00") 8
unfolding samples
second_used = refl

operator_8 : read11 (with_rule "0 0 2 0 - 0 0 cellis 8 u - 00ff00") 8
unfolding samples
operator_8 = refl

operator_6 : read11 (with_rule "0 0 2 0 - 0 0 expr 6 u u 00ff00") 8
unfolding samples
operator_6 = refl

absolute_4 : read11 (with_rule "0 0 2 0 - 0 0 expr 5 r0,0,4,- u 00ff00") 8
unfolding samples
absolute_4 = refl

-- an operand's number is finite
infinite_operand : read11 (with_rule "0 0 2 0 - 0 0 expr 5 n7ff0000000000000 u 00ff00") 8
unfolding samples
infinite_operand = refl

flag_2 : read11 (with_rule "0 0 2 0 - 2 0 bar 00ff00 - - -") 8
unfolding samples
flag_2 = refl

rank_too_large : read11 (with_rule "0 0 2 0 - 0 0 rank 4294967296 top count 00ff00") 8
unfolding samples
rank_too_large = refl
