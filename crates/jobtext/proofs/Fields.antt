-- The grammars of the job text's fields are exact. Assumes nothing.
use Rattle.std.specs.Prelude.{Some, None}
use Prim.Native.Nat.{ℕ, zero, suc, ◌≤◌, ◌<◌}
use mathlib.Core.Path.{◌≡◌, refl}
use mathlib.Core.Logic.{◌⊎◌, inl, inr}
use mathlib.Core.Bool.{Bool, true, false}
use mathlib.Core.List.{List, [], ◌∷◌}
use mathlib.Core.Option.{Option, none, some}
use native.Mathlib.Omega.{arith}
use lib.Dec.{T}
use Rattle.model.specs.declared.ConditionalComparison.{ConditionalComparison}
use Rattle.model.specs.declared.DvOp.{DvOp}
use Rattle.model.specs.Options.{Priority}
use Rattle.grammar.specs.Gram.{Gram, Exactly}
use Rattle.grammar.specs.Parts.{space, comma, line_feed, bytes, word, both, choice, read_as, either}
use Rattle.grammar.specs.Numbers.{digit_value, is_hex, decimal, hex, pairs}
use Rattle.grammar.proofs.Parts.{word_exact, behind_exact, ended_exact, both_exact, read_as_exact, such_exact}
use Rattle.grammar.proofs.Choices.{apart, Never, choice_exact, either_exact, never_choice, never_word, never_behind}
use Rattle.grammar.proofs.Decimals.{decimal_exact, never_decimal}
use Rattle.grammar.proofs.Hexadecimals.{hex_exact}
use Rattle.grammar.proofs.Pairs.{pairs_exact}
use Rattle.jobtext.specs.Written.{Value, Operand}
use Rattle.jobtext.specs.Fields.{
  count,
  row,
  col,
  wraps,
  flag,
  text_field,
  value_t,
  to_value,
  of_value,
  bits_line,
  value,
  to_absolute,
  of_absolute,
  absolute,
  to_name,
  of_name,
  reference_name,
  to_reference,
  of_reference,
  reference,
  operand_t,
  to_operand,
  of_operand,
  finite_bits,
  operand,
  to_dv_op,
  of_dv_op,
  dv_op,
  to_comparison,
  of_comparison,
  comparison,
  to_colour,
  of_colour,
  colour,
  to_priority,
  of_priority,
  priority,
}

-- ---- numbers

pub count_exact : Exactly count
count_exact = decimal_exact 18_446_744_073_709_551_615 space (omega arith) (omega arith)

pub row_exact : (end : ℕ) → end < 48 → Exactly (row end)
row_exact end h = decimal_exact 4_294_967_295 end (omega arith) h

pub col_exact : (end : ℕ) → end < 48 → Exactly (col end)
col_exact end h = decimal_exact 65_535 end (omega arith) h

pub wraps_exact : Exactly wraps
wraps_exact = decimal_exact 255 space (omega arith) (omega arith)

pub flag_exact : Exactly flag
unfolding bytes apart
flag_exact = either_exact (bytes "0 ") (bytes "1 ") tt

-- ---- texts

pub feed_no_digit : is_hex line_feed ≡ false
unfolding is_hex digit_value
feed_no_digit = refl

pub space_no_digit : is_hex space ≡ false
unfolding is_hex digit_value
space_no_digit = refl

pub text_exact : (end : ℕ) → is_hex end ≡ false → Exactly (text_field end)
unfolding text_field
text_exact end h = behind_exact (pairs_exact end h) (bytes "t")

-- ---- values

value_back : (x : value_t) → of_value (to_value x) ≡ x
value_back (inl bits) = refl
value_back (inr (inl bits)) = refl
value_back (inr (inr (inl bs))) = refl
value_back (inr (inr (inr (inl b)))) = refl
value_back (inr (inr (inr (inr x)))) = refl

value_to : (v : Value) → to_value (of_value v) ≡ v
value_to (Value.number bits) = refl
value_to (Value.date bits) = refl
value_to (Value.text bs) = refl
value_to (Value.bool b) = refl
value_to Value.error = refl

bits_exact : Exactly bits_line
bits_exact = ended_exact (hex_exact 16) (bytes "\n")

-- the choices after `n`, `d`, `t` and `b`
abbrev truth_line : Gram Bool
truth_line = either (bytes "0\n") (bytes "1\n")

abbrev after_t : Gram (Bool ⊎ Unit {0})
after_t = choice (bytes "b") truth_line (word (bytes "e\n"))

abbrev after_d : Gram (List ℕ ⊎ (Bool ⊎ Unit {0}))
after_d = choice (bytes "t") (pairs line_feed) after_t

abbrev after_n : Gram (ℕ ⊎ (List ℕ ⊎ (Bool ⊎ Unit {0})))
after_n = choice (bytes "d") bits_line after_d

never_t : (w : List ℕ) → T (apart w (bytes "b")) → T (apart w (bytes "e\n")) → Never w after_t
never_t w b e = never_choice w (bytes "b") truth_line b (never_word w (bytes "e\n") e)

never_d : (w : List ℕ) → T (apart w (bytes "t")) → T (apart w (bytes "b")) → T (apart w (bytes "e\n")) → Never w after_d
never_d w t b e = never_choice w (bytes "t") (pairs line_feed) t (never_t w b e)

never_n : (w : List ℕ) → T (apart w (bytes "d")) → T (apart w (bytes "t")) → T (apart w (bytes "b")) → T (apart w (bytes "e\n"))
    → Never w after_n
never_n w d t b e = never_choice w (bytes "d") bits_line d (never_d w t b e)

truth_exact : Exactly truth_line
unfolding bytes apart
truth_exact = either_exact (bytes "0\n") (bytes "1\n") tt

t_exact : Exactly after_t
unfolding bytes apart
t_exact = choice_exact (bytes "b") truth_exact (word_exact (bytes "e\n")) (never_word (bytes "b") (bytes "e\n") tt)

d_exact : Exactly after_d
unfolding bytes apart
d_exact = choice_exact (bytes "t") (pairs_exact line_feed feed_no_digit) t_exact (never_t (bytes "t") tt tt)

n_exact : Exactly after_n
unfolding bytes apart
n_exact = choice_exact (bytes "d") bits_exact d_exact (never_d (bytes "d") tt tt tt)

value_choice : Exactly (choice (bytes "n") bits_line after_n)
unfolding bytes apart
value_choice = choice_exact (bytes "n") bits_exact n_exact (never_n (bytes "n") tt tt tt tt)

pub value_exact : Exactly value
unfolding value
value_exact = read_as_exact value_choice to_value of_value (λ x _. value_back x) value_to

-- ---- operands

absolute_back : (n : ℕ) → n ≤ 3 → of_absolute (to_absolute n) ≡ n
absolute_back zero h = refl
absolute_back (suc zero) h = refl
absolute_back (suc (suc zero)) h = refl
absolute_back (suc (suc (suc zero))) h = refl
absolute_back (suc (suc (suc (suc n)))) h = absurd (omega arith)

absolute_to : (x : Bool × Bool) → to_absolute (of_absolute x) ≡ x
absolute_to x = go x.0 x.1
  where
    go : (a b : Bool) → to_absolute (of_absolute (a, b)) ≡ (a, b)
    go true true = refl
    go true false = refl
    go false true = refl
    go false false = refl

pub absolute_exact : Exactly absolute
absolute_exact = read_as_exact (decimal_exact 3 comma (omega arith) (omega arith)) to_absolute of_absolute absolute_back absolute_to

name_back : (x : Unit {0} ⊎ List ℕ) → of_name (to_name x) ≡ x
name_back (inl x) = refl
name_back (inr bs) = refl

name_to : (n : Option (List ℕ)) → to_name (of_name n) ≡ n
name_to none = refl
name_to (some bs) = refl

never_text : Never (bytes "-") (text_field space)
unfolding text_field bytes apart
never_text = never_behind (bytes "-") (bytes "t") (λ bs. (pairs space).text bs) (text_field space) tt (λ bs. refl)

pub name_exact : Exactly reference_name
unfolding reference_name
name_exact =
    read_as_exact (choice_exact (bytes "-") (word_exact (bytes " ")) (text_exact space space_no_digit) never_text)
    to_name of_name (λ x _. name_back x) name_to

pub reference_exact : Exactly reference
unfolding reference
reference_exact =
    read_as_exact (both_exact (row_exact comma (omega arith)) (both_exact (col_exact comma (omega arith)) (both_exact absolute_exact
    name_exact)))
    to_reference of_reference (λ x _. refl) (λ r. refl)

operand_back : (x : operand_t) → of_operand (to_operand x) ≡ x
operand_back (inl bits) = refl
operand_back (inr (inl r)) = refl
operand_back (inr (inr x)) = refl

operand_to : (o : Operand) → to_operand (of_operand o) ≡ o
operand_to (Operand.literal bits) = refl
operand_to (Operand.reference r) = refl
operand_to Operand.unread = refl

r_exact : Exactly (choice (bytes "r") reference (word (bytes "u ")))
unfolding bytes apart
r_exact = choice_exact (bytes "r") reference_exact (word_exact (bytes "u ")) (never_word (bytes "r") (bytes "u ") tt)

never_r : Never (bytes "n") (choice (bytes "r") reference (word (bytes "u ")))
unfolding bytes apart
never_r = never_choice (bytes "n") (bytes "r") reference tt (never_word (bytes "n") (bytes "u ") tt)

pub operand_exact : Exactly operand
unfolding operand
operand_exact =
    read_as_exact (choice_exact (bytes "n") (such_exact (ended_exact (hex_exact 16) (bytes " ")) finite_bits) r_exact never_r)
    to_operand of_operand (λ x _. operand_back x) operand_to

-- ---- operators

dv_op_back : (n : ℕ) → n ≤ 7 → of_dv_op (to_dv_op n) ≡ n
dv_op_back zero h = refl
dv_op_back (suc zero) h = refl
dv_op_back (suc (suc zero)) h = refl
dv_op_back (suc (suc (suc zero))) h = refl
dv_op_back (suc (suc (suc (suc zero)))) h = refl
dv_op_back (suc (suc (suc (suc (suc zero))))) h = refl
dv_op_back (suc (suc (suc (suc (suc (suc zero)))))) h = refl
dv_op_back (suc (suc (suc (suc (suc (suc (suc zero))))))) h = refl
dv_op_back (suc (suc (suc (suc (suc (suc (suc (suc n)))))))) h = absurd (omega arith)

dv_op_to : (op : DvOp) → to_dv_op (of_dv_op op) ≡ op
dv_op_to DvOp.Between = refl
dv_op_to DvOp.NotBetween = refl
dv_op_to DvOp.Equal = refl
dv_op_to DvOp.NotEqual = refl
dv_op_to DvOp.GreaterThan = refl
dv_op_to DvOp.LessThan = refl
dv_op_to DvOp.GreaterThanOrEqual = refl
dv_op_to DvOp.LessThanOrEqual = refl

pub dv_op_exact : Exactly dv_op
unfolding dv_op
dv_op_exact = read_as_exact (decimal_exact 7 space (omega arith) (omega arith)) to_dv_op of_dv_op dv_op_back dv_op_to

comparison_back : (n : ℕ) → n ≤ 5 → of_comparison (to_comparison n) ≡ n
comparison_back zero h = refl
comparison_back (suc zero) h = refl
comparison_back (suc (suc zero)) h = refl
comparison_back (suc (suc (suc zero))) h = refl
comparison_back (suc (suc (suc (suc zero)))) h = refl
comparison_back (suc (suc (suc (suc (suc zero))))) h = refl
comparison_back (suc (suc (suc (suc (suc (suc n)))))) h = absurd (omega arith)

comparison_to : (op : ConditionalComparison) → to_comparison (of_comparison op) ≡ op
comparison_to ConditionalComparison.Equal = refl
comparison_to ConditionalComparison.NotEqual = refl
comparison_to ConditionalComparison.Less = refl
comparison_to ConditionalComparison.LessOrEqual = refl
comparison_to ConditionalComparison.Greater = refl
comparison_to ConditionalComparison.GreaterOrEqual = refl

pub comparison_exact : Exactly comparison
unfolding comparison
comparison_exact =
    read_as_exact (decimal_exact 5 space (omega arith) (omega arith)) to_comparison of_comparison comparison_back comparison_to

-- ---- colours and priorities

-- without what ends it
pub channels_exact : Exactly (read_as to_colour of_colour (both (hex 2) (both (hex 2) (hex 2))))
channels_exact =
    read_as_exact (both_exact (hex_exact 2) (both_exact (hex_exact 2) (hex_exact 2))) to_colour of_colour (λ x _. refl) (λ c. refl)

pub colour_exact : (end : List ℕ) → Exactly (colour end)
unfolding colour
colour_exact end = ended_exact channels_exact end

priority_back : (x : Unit {0} ⊎ ℕ) → of_priority (to_priority x) ≡ x
priority_back (inl x) = refl
priority_back (inr n) = refl

priority_to : (p : Priority) → to_priority (of_priority p) ≡ p
priority_to None = refl
priority_to (Some n) = refl

minus : bytes "-" ≡ 45 ∷ []
unfolding bytes
minus = refl

never_priority : Never (bytes "-") (decimal 4_294_967_295 space)
unfolding bytes
never_priority = never_decimal 4_294_967_295 space (omega arith) (omega arith) 45 [] (omega arith)

pub priority_exact : Exactly priority
unfolding priority
priority_exact =
    read_as_exact
    (choice_exact (bytes "-") (word_exact (bytes " ")) (decimal_exact 4_294_967_295 space (omega arith) (omega arith)) never_priority)
    to_priority of_priority (λ x _. priority_back x) priority_to
