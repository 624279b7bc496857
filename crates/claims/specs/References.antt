-- What is claimed of reading and writing references in A1 form (document 02, T-04), as statements only: of what the contracts of
-- `a1reader::parse_a1_reference` and `a1writer::write_a1_reference` ask (`Pre`) and promise (`Post`; Claims.antt says where these are
-- from), and of the texts themselves. proofs/ReferencesHeld.antt proves them. Assumes nothing.
use Rattle.std.specs.Prelude.{ℕ, ◌+◌, ◌-◌, ◌≤◌, ◌<◌, ◌≡◌, ◌↔◌, true, false, List, length, take, replicate, Ok}
use contract.Lifetimes.{Lfts}
use Rattle.memory.specs.Memory.{page}
use Rattle.model.specs.declared.A1Reference.{A1Reference}
use Rattle.model.specs.declared.ConditionalComparison.{ConditionalComparison}
use Rattle.model.specs.Answer.{refusal}
use Rattle.model.specs.Readings.{every}
use Rattle.model.specs.Split.{trimmed, formula, split, split_at, left_part, right_part}
use Rattle.jobtext.specs.Written.{Reference}
use Rattle.jobtext.specs.Said.{reference_said}
use Rattle.jobtext.specs.Laid.{name_bytes, reference_at}
use Rattle.a1text.specs.Bytes.{is_capital}
use Rattle.a1text.specs.Columns.{columns, column_number, column_text, is_column}
use Rattle.a1text.specs.A1.{has_text, a1, Spells, operand_read, writable, operand_written}
use Rattle.a1reader.specs.Answers.{ReadReference}
use Rattle.a1reader.specs.Answers as Reading
use Rattle.a1reader.proofs.parse_a1_reference.Reads as readCall
use Rattle.a1writer.specs.Answers.{WrittenReference}
use Rattle.a1writer.specs.Answers as Writing
use Rattle.a1writer.proofs.write_a1_reference.Reads as writeCall
use Rattle.claims.specs.Arguments.{Places, slice, slice_mut, Numbers, NumbersMut, ◌⊗◌, ◌&◌}

-- ---- the calls, by the names of their arguments

abbrev pub Where : Type 0
Where = Places 2

abbrev pub ReadArgs : Type 0
ReadArgs = Numbers ⊗ NumbersMut ⊗ Unit {0}

-- the reader on an operand's bytes ends with this answer, and leaves this in the bytes lent for the name, which held `before`
abbrev pub Reads : Where → List ℕ → List ℕ → ReadReference → List ℕ → Type 0
Reads w bytes before a after =
    readCall.Post w.lifetimes (slice w 0 bytes & slice_mut w 1 before & tt) a (slice w 0 bytes & slice_mut w 1 after & tt)

abbrev pub WriteArgs : Type 0
WriteArgs = A1Reference ⊗ Numbers ⊗ NumbersMut ⊗ Unit {0}

-- the writer on a reference, whose name lies in a pool, ends with this answer, and leaves this in the bytes lent for the text
abbrev pub Writes : Where → A1Reference → List ℕ → List ℕ → WrittenReference → List ℕ → Type 0
Writes w r pool before a after =
    writeCall.Post w.lifetimes (r & slice w 1 pool & slice_mut w 2 before & tt) a (r & slice w 1 pool & slice_mut w 2 after & tt)

-- ---- what the contracts promise

-- nothing is asked of the caller
abbrev pub NothingAsked : Type 0
NothingAsked = ((κs : Lfts 2) (a : ReadArgs) → readCall.Pre κs a) × ((κs : Lfts 2) (a : WriteArgs) → writeCall.Pre κs a)

-- the answer and every lent byte are the definition's, whatever the bytes held
abbrev pub ReadingDetermined : Type 0
ReadingDetermined = (w : Where) (bytes before after : List ℕ) (a : ReadReference) → Reads w bytes before a after
    → (a ≡ Reading.read_answer (operand_read bytes) (length before)) × (after ≡ Reading.read_bytes (operand_read bytes) (length before))

abbrev pub WritingDetermined : Type 0
WritingDetermined = (w : Where) (r : A1Reference) (pool before after : List ℕ) (a : WrittenReference) → Writes w r pool before a after
    → (a ≡ Writing.write_answer (operand_written pool r) (length before))
    × (after ≡ Writing.write_bytes (operand_written pool r) (length before))

-- an answer and bytes that the contract allows, on every input
pub record ReadEnding (w : Where) (bytes before : List ℕ) : Type 0 where
  pub answer : ReadReference
  pub after : List ℕ
  pub ends : Reads w bytes before answer after

pub record WriteEnding (w : Where) (r : A1Reference) (pool before : List ℕ) : Type 0 where
  pub answer : WrittenReference
  pub after : List ℕ
  pub ends : Writes w r pool before answer after

abbrev pub Possible : Type 0
Possible = ((w : Where) (bytes before : List ℕ) → ReadEnding w bytes before)
    × ((w : Where) (r : A1Reference) (pool before : List ℕ) → WriteEnding w r pool before)

-- ---- acceptance, in words of the texts alone: what is left of the bytes is the text of a spelling that means the reference

-- no text is one of two references
abbrev pub OneMeaning : Type 0
OneMeaning = (s : List ℕ) (r q : Reference) → Spells s r → Spells s q → r ≡ q

-- 14, with 0, 0, 0, exactly where it is the text of none, and zeros in all that was lent
abbrev pub FourteenExactly : Type 0
FourteenExactly = (w : Where) (bytes before after : List ℕ) (a : ReadReference) → Reads w bytes before a after
    → ((Reading.summary_of a ≡ refusal 14 0 0 0) ↔ ((r : Reference) → Spells (formula bytes) r → ⊥))
    × (Reading.summary_of a ≡ refusal 14 0 0 0 → after ≡ replicate (length before) 0)

-- 15, with 0, 0, 0, and zeros where the name is longer than the lent bytes; else the reference, its name at the start and zeros past it
abbrev pub ReadExactly : Type 0
ReadExactly = (w : Where) (bytes before after : List ℕ) (a : ReadReference) (r : Reference) → Reads w bytes before a after
    → Spells (formula bytes) r
    → (length before < length (name_bytes r.name) → (Reading.summary_of a ≡ refusal 15 0 0 0) × (after ≡ replicate (length before) 0))
    × (length (name_bytes r.name) ≤ length before
    → (a ≡ Ok (reference_at 0 r)) × (after ≡ page (length before) (name_bytes r.name)))

-- ---- writing

-- 14 exactly where the reference is off the grid, its name lies outside the pool or is none that can be typed, and zeros
abbrev pub UnwrittenExactly : Type 0
UnwrittenExactly = (w : Where) (r : A1Reference) (pool before after : List ℕ) (a : WrittenReference) → Writes w r pool before a after
    → ((Writing.summary_of a ≡ refusal 14 0 0 0) ↔ (writable pool r ≡ false))
    × (Writing.summary_of a ≡ refusal 14 0 0 0 → after ≡ replicate (length before) 0)

-- any other has a text: 15 and zeros where it is longer than the lent bytes, else the text and zeros past it
abbrev pub WrittenExactly : Type 0
WrittenExactly = (w : Where) (r : A1Reference) (pool before after : List ℕ) (a : WrittenReference) → Writes w r pool before a after
    → writable pool r ≡ true
    → (length before < length (a1.text (reference_said pool r))
    → (Writing.summary_of a ≡ refusal 15 0 0 0) × (after ≡ replicate (length before) 0))
    × (length (a1.text (reference_said pool r)) ≤ length before
    → (a ≡ Ok (length (a1.text (reference_said pool r))))
    × (after ≡ page (length before) (a1.text (reference_said pool r))))

-- the text of a reference that has one spells it, and a reference that any text spells has one
abbrev pub HasText : Type 0
HasText = (r : Reference) → (has_text r ≡ true → Spells (a1.text r) r) × ((s : List ℕ) → Spells s r → has_text r ≡ true)

-- references with the same text are the same, and those that are the same have the same text
abbrev pub OneText : Type 0
OneText = (w v : Where) (r q : A1Reference) (pool pool' before before' after after' : List ℕ) (n m : ℕ)
    → Writes w r pool before (Ok n) after → Writes v q pool' before' (Ok m) after'
    → (take n after ≡ take m after') ↔ (reference_said pool r ≡ reference_said pool' q)

-- ---- read, written and read again

-- what was read can be written, with the bytes lent for its name as the pool
abbrev pub ReadIsWritable : Type 0
ReadIsWritable = (w : Where) (bytes before after : List ℕ) (r : A1Reference) → Reads w bytes before (Ok r) after
    → writable after r ≡ true

-- it is the same reference, with the same name, when it is read again
abbrev pub ReadAgain : Type 0
ReadAgain = (w v u : Where) (bytes before after before' after' before'' after'' : List ℕ) (r : A1Reference) (n : ℕ) (b : ReadReference)
    → Reads w bytes before (Ok r) after → Writes v r after before' (Ok n) after'
    → Reads u (take n after') before'' b after'' → length before ≡ length before''
    → (b ≡ Ok r) × (after'' ≡ after)

-- ---- columns

-- letters and numbers are inverse over all 16,384 columns
abbrev pub ColumnsInverse : Type 0
ColumnsInverse = ((n : ℕ) → n < columns → (column_number (column_text n) ≡ n + 1) × (every is_capital (column_text n) ≡ true))
    × ((cs : List ℕ) → every is_capital cs ≡ true → is_column cs ≡ true → column_text (column_number cs - 1) ≡ cs)

-- ---- what the split hands on goes straight in

-- on a part of a formula that has an operator the reader gives what it gives on those bytes trimmed
abbrev pub PartsReadAsTrimmed : Type 0
PartsReadAsTrimmed = (w v : Where) (bs before before' after after' : List ℕ) (op : ConditionalComparison) (at width : ℕ)
    (a b : ReadReference) → split bs ≡ split_at op at width → length before ≡ length before'
    → (Reads w (left_part bs) before a after → Reads v (trimmed (left_part bs)) before' b after' → (a ≡ b) × (after ≡ after'))
    × (Reads w (right_part bs) before a after → Reads v (trimmed (right_part bs)) before' b after' → (a ≡ b) × (after ≡ after'))
