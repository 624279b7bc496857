-- The fields of the job text, each with the byte that ends it (document 01, 'Job and report text'). Assumes nothing.
use Rattle.std.specs.Prelude.{ℕ, ◌+◌, ◌%◌, ◌⊎◌, Bool, cond, List, leb, eqb, Some, None}
use Rattle.std.proofs.Common.{inl, inr}
use Rattle.std.proofs.Math.Option.{Option, none, some}
use Rattle.std.specs.Float.{binary64}
use Rattle.std.specs.Float.Ieee.{of_bits}
use Rattle.model.specs.declared.ConditionalComparison.{ConditionalComparison}
use Rattle.model.specs.declared.DvOp.{DvOp}
use Rattle.model.specs.Options.{Priority}
use Rattle.model.specs.declared.Rgb.{Rgb}
use Rattle.model.specs.Readings.{finite}
use Rattle.grammar.specs.Gram.{Gram}
use Rattle.grammar.specs.Parts.{space, comma, line_feed, bytes, word, behind, ended, both, choice, read_as, such, either}
use Rattle.grammar.specs.Numbers.{decimal, hex, pairs}
use Rattle.jobtext.specs.Written.{Value, Reference, Operand}

-- ---- numbers

-- limit, start and the numbers of cells, regions and rules
abbrev pub count : Gram ℕ
count = decimal 18_446_744_073_709_551_615 space

abbrev pub row : ℕ → Gram ℕ
row end = decimal 4_294_967_295 end

abbrev pub col : ℕ → Gram ℕ
col end = decimal 65_535 end

abbrev pub wraps : Gram ℕ
wraps = decimal 255 space

abbrev pub flag : Gram Bool
flag = either (bytes "0 ") (bytes "1 ")

-- ---- texts

-- `t` and the bytes
unfoldable pub text_field : ℕ → Gram (List ℕ)
text_field end = behind (bytes "t") (pairs end)

-- ---- values of cells

abbrev pub value_t : Type 0
value_t = ℕ ⊎ (ℕ ⊎ (List ℕ ⊎ (Bool ⊎ Unit {0})))

abbrev pub to_value : value_t → Value
to_value (inl bits) = Value.number bits
to_value (inr (inl bits)) = Value.date bits
to_value (inr (inr (inl bs))) = Value.text bs
to_value (inr (inr (inr (inl b)))) = Value.bool b
to_value (inr (inr (inr (inr x)))) = Value.error

abbrev pub of_value : Value → value_t
of_value (Value.number bits) = inl bits
of_value (Value.date bits) = inr (inl bits)
of_value (Value.text bs) = inr (inr (inl bs))
of_value (Value.bool b) = inr (inr (inr (inl b)))
of_value Value.error = inr (inr (inr (inr tt)))

-- the 64 bits of a number at the end of a line
abbrev pub bits_line : Gram ℕ
bits_line = ended (hex 16) (bytes "\n")

-- any bits
unfoldable pub value : Gram Value
value =
    read_as to_value of_value
    (choice (bytes "n") bits_line
    (choice (bytes "d") bits_line
    (choice (bytes "t") (pairs line_feed)
    (choice (bytes "b") (either (bytes "0\n") (bytes "1\n")) (word (bytes "e\n"))))))

-- ---- operands

-- ABS: 1 row absolute plus 2 column
abbrev pub to_absolute : ℕ → Bool × Bool
to_absolute n = (eqb (n % 2) 1, leb 2 n)

abbrev pub of_absolute : Bool × Bool → ℕ
of_absolute x = cond x.0 1 0 + cond x.1 2 0

abbrev pub absolute : Gram (Bool × Bool)
absolute = read_as to_absolute of_absolute (decimal 3 comma)

abbrev pub to_name : Unit {0} ⊎ List ℕ → Option (List ℕ)
to_name (inl x) = none
to_name (inr bs) = some bs

abbrev pub of_name : Option (List ℕ) → Unit {0} ⊎ List ℕ
of_name none = inl tt
of_name (some bs) = inr bs

unfoldable pub reference_name : Gram (Option (List ℕ))
reference_name = read_as to_name of_name (choice (bytes "-") (word (bytes " ")) (text_field space))

abbrev pub reference_t : Type 0
reference_t = ℕ × (ℕ × ((Bool × Bool) × Option (List ℕ)))

abbrev pub to_reference : reference_t → Reference
to_reference x =
    record { row = x.0; col = x.1.0; row_absolute = x.1.1.0.0; col_absolute = x.1.1.0.1; name = x.1.1.1 }

abbrev pub of_reference : Reference → reference_t
of_reference r = (r.row, (r.col, ((r.row_absolute, r.col_absolute), r.name)))

unfoldable pub reference : Gram Reference
reference = read_as to_reference of_reference (both (row comma) (both (col comma) (both absolute reference_name)))

abbrev pub operand_t : Type 0
operand_t = ℕ ⊎ (Reference ⊎ Unit {0})

abbrev pub to_operand : operand_t → Operand
to_operand (inl bits) = Operand.literal bits
to_operand (inr (inl r)) = Operand.reference r
to_operand (inr (inr x)) = Operand.unread

abbrev pub of_operand : Operand → operand_t
of_operand (Operand.literal bits) = inl bits
of_operand (Operand.reference r) = inr (inl r)
of_operand Operand.unread = inr (inr tt)

unfoldable pub finite_bits : ℕ → Bool
finite_bits bits = finite (of_bits binary64 bits)

-- `n` with the bits of a finite number, `r` with a reference, or `u`
unfoldable pub operand : Gram Operand
operand =
    read_as to_operand of_operand
    (choice (bytes "n") (such finite_bits (ended (hex 16) (bytes " "))) (choice (bytes "r") reference (word (bytes "u "))))

-- ---- operators

abbrev pub to_dv_op : ℕ → DvOp
to_dv_op n =
    cond (eqb n 0) DvOp.Between
    (cond (eqb n 1) DvOp.NotBetween
    (cond (eqb n 2) DvOp.Equal
    (cond (eqb n 3) DvOp.NotEqual
    (cond (eqb n 4) DvOp.GreaterThan
    (cond (eqb n 5) DvOp.LessThan
    (cond (eqb n 6) DvOp.GreaterThanOrEqual DvOp.LessThanOrEqual))))))

abbrev pub of_dv_op : DvOp → ℕ
of_dv_op DvOp.Between = 0
of_dv_op DvOp.NotBetween = 1
of_dv_op DvOp.Equal = 2
of_dv_op DvOp.NotEqual = 3
of_dv_op DvOp.GreaterThan = 4
of_dv_op DvOp.LessThan = 5
of_dv_op DvOp.GreaterThanOrEqual = 6
of_dv_op DvOp.LessThanOrEqual = 7

unfoldable pub dv_op : Gram DvOp
dv_op = read_as to_dv_op of_dv_op (decimal 7 space)

abbrev pub to_comparison : ℕ → ConditionalComparison
to_comparison n =
    cond (eqb n 0) ConditionalComparison.Equal
    (cond (eqb n 1) ConditionalComparison.NotEqual
    (cond (eqb n 2) ConditionalComparison.Less
    (cond (eqb n 3) ConditionalComparison.LessOrEqual
    (cond (eqb n 4) ConditionalComparison.Greater ConditionalComparison.GreaterOrEqual))))

abbrev pub of_comparison : ConditionalComparison → ℕ
of_comparison ConditionalComparison.Equal = 0
of_comparison ConditionalComparison.NotEqual = 1
of_comparison ConditionalComparison.Less = 2
of_comparison ConditionalComparison.LessOrEqual = 3
of_comparison ConditionalComparison.Greater = 4
of_comparison ConditionalComparison.GreaterOrEqual = 5

unfoldable pub comparison : Gram ConditionalComparison
comparison = read_as to_comparison of_comparison (decimal 5 space)

-- ---- colours and priorities

abbrev pub to_colour : ℕ × (ℕ × ℕ) → Rgb
to_colour x = record { red = x.0; green = x.1.0; blue = x.1.1 }

abbrev pub of_colour : Rgb → ℕ × (ℕ × ℕ)
of_colour c = (c.red, (c.green, c.blue))

-- RRGGBB, and what ends it
unfoldable pub colour : List ℕ → Gram Rgb
colour end = ended (read_as to_colour of_colour (both (hex 2) (both (hex 2) (hex 2)))) end

abbrev pub to_priority : Unit {0} ⊎ ℕ → Priority
to_priority (inl x) = None
to_priority (inr n) = Some n

abbrev pub of_priority : Priority → Unit {0} ⊎ ℕ
of_priority None = inl tt
of_priority (Some n) = inr n

unfoldable pub priority : Gram Priority
priority = read_as to_priority of_priority (choice (bytes "-") (word (bytes " ")) (decimal 4_294_967_295 space))
