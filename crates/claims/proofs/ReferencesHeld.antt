-- Each claim of specs/References.antt, held. Assumes nothing.
use Rattle.std.specs.Prelude.{Ok}
use Prim.Native.Nat.{ℕ, ◌≤◌}
use native.Mathlib.Omega.{arith}
use mathlib.Core.Path.{◌≡◌, refl, sym, ap, ◌∙◌}
use mathlib.Core.Logic.{◌↔◌}
use mathlib.Core.Bool.{Bool, true, false}
use mathlib.Core.List.{List}
use mathlib.Core.Option.{Option, none, some}
use lib.ListN.{length, take, replicate}
use Rattle.memory.specs.Memory.{page}
use Rattle.memory.proofs.Laws.{text_over}
use Rattle.model.specs.Answer.{refusal}
use Rattle.model.specs.Split.{formula, trimmed, left_part, right_part}
use Rattle.jobtext.specs.Written.{Reference}
use Rattle.jobtext.specs.Said.{reference_said}
use Rattle.jobtext.specs.Laid.{name_bytes}
use Rattle.a1text.specs.A1.{a1, Spells, operand_read, writable, operand_written}
use Rattle.a1text.proofs.Columns.{column_lettered, text_of_number}
use Rattle.a1text.proofs.Operands.{read_spells, spells_read, read_has_text, text_read, written_read, one_reference, read_trimmed}
use Rattle.a1reader.specs.Answers.{ReadReference}
use Rattle.a1reader.specs.Answers as Reading
use Rattle.a1reader.specs.Answers.{read_answer, read_bytes}
use Rattle.a1writer.specs.Answers as Writing
use Rattle.a1writer.specs.Answers.{write_answer, write_bytes}
use Rattle.claims.specs.References as References
use Rattle.claims.specs.References.{Where, Reads}
use Rattle.claims.proofs.ReferenceCalls.{no_none, read_none, read_some, read_fits, read_long, not_fourteen}
use Rattle.claims.proofs.ReferenceCalls.{spells_operand, operand_spells}
use Rattle.claims.proofs.ReferenceCalls.{write_none, write_some, write_fits, write_long, not_unwritten, writable_text, written_told}
use Rattle.claims.proofs.ReferenceCalls.{found_said, found_writable, read_found}

-- ---- what the contracts promise

pub nothing_asked_of_references : References.NothingAsked
nothing_asked_of_references = (λ κs a. tt, λ κs a. tt)

pub reading_determined : References.ReadingDetermined
reading_determined w bytes before after a e = (e.0, e.1)

pub writing_determined : References.WritingDetermined
writing_determined w r pool before after a e = (e.0, e.1)

pub references_possible : References.Possible
references_possible = (
  λ w bytes before.
      record {
        answer = read_answer (operand_read bytes) (length before);
        after = read_bytes (operand_read bytes) (length before);
        ends = (refl, refl);
      },
  λ w r pool before.
      record {
        answer = write_answer (operand_written pool r) (length before);
        after = write_bytes (operand_written pool r) (length before);
        ends = (refl, refl);
      },
)

-- ---- acceptance

pub one_meaning : References.OneMeaning
one_meaning s r q a b = let e = sym (spells_read s r a) ∙ spells_read s q b in cc

pub fourteen_exactly : References.FourteenExactly
unfolding Reading.summary_of
fourteen_exactly w bytes before after a e = go (operand_read bytes) refl
  where
    go : (o : Option Reference) → operand_read bytes ≡ o
        → ((Reading.summary_of a ≡ refusal 14 0 0 0) ↔ ((r : Reference) → Spells (formula bytes) r → ⊥))
        × (Reading.summary_of a ≡ refusal 14 0 0 0 → after ≡ replicate (length before) 0)
    go none o =
        let n = read_none w bytes before after a e o in (
          (λ z r s. no_none r (sym (spells_operand bytes r s) ∙ o), λ no. ap Reading.summary_of n.0),
          λ z. n.1,
        )
    go (some r) o = (
      (λ z. absurd (not_fourteen w bytes before after a e r o z), λ no. absurd (no r (operand_spells bytes r o))),
      λ z. absurd (not_fourteen w bytes before after a e r o z),
    )

pub read_exactly : References.ReadExactly
unfolding Reading.summary_of
read_exactly w bytes before after a r e s =
    let o = spells_operand bytes r s in
    let bytesLeft = (read_some w bytes before after a e r o).1 in (
      λ h. (
        ap Reading.summary_of (read_long w bytes before after a e r o h),
        bytesLeft ∙ (text_over (length before) (name_bytes r.name) h).1,
      ),
      λ h. (read_fits w bytes before after a e r o h, bytesLeft),
    )

-- ---- writing

pub unwritten_exactly : References.UnwrittenExactly
unfolding Writing.summary_of
unwritten_exactly w r pool before after a e = go (writable pool r) refl
  where
    go : (x : Bool) → writable pool r ≡ x
        → ((Writing.summary_of a ≡ refusal 14 0 0 0) ↔ (writable pool r ≡ false))
        × (Writing.summary_of a ≡ refusal 14 0 0 0 → after ≡ replicate (length before) 0)
    go true o = (
      (
        λ z. absurd (not_unwritten w r pool before after a e o z),
        λ f. let n : ◌≡◌ {A = ℕ} 0 1 = let c : true ≡ false = sym o ∙ f in cc in absurd (omega arith),
      ),
      λ z. absurd (not_unwritten w r pool before after a e o z),
    )
    go false o = let n = write_none w r pool before after a e o in ((λ z. o, λ f. ap Writing.summary_of n.0), λ z. n.1)

pub written_reference_exactly : References.WrittenExactly
unfolding Writing.summary_of
written_reference_exactly w r pool before after a e o =
    let bytesLeft = (write_some w r pool before after a e o).1 in (
      λ h. (
        ap Writing.summary_of (write_long w r pool before after a e o h),
        bytesLeft ∙ (text_over (length before) (a1.text (reference_said pool r)) h).1,
      ),
      λ h. (write_fits w r pool before after a e o h, bytesLeft),
    )

-- ---- texts and references

pub has_text_exactly : References.HasText
has_text_exactly r = (
  λ h. read_spells (a1.text r) r (text_read r h),
  λ s e. read_has_text s r (spells_read s r e),
)

pub one_text : References.OneText
one_text w v r q pool pool' before before' after after' n m e d =
    let t = written_told w r pool before after n e in
    let u = written_told v q pool' before' after' m d in (
      λ same.
          one_reference (reference_said pool r) (reference_said pool' q) (writable_text pool r t.writable)
          (writable_text pool' q u.writable) (sym t.text ∙ (same ∙ u.text)),
      λ same. t.text ∙ (ap (λ (x : Reference). a1.text x) same ∙ sym u.text),
    )

-- ---- read, written and read again

pub read_is_writable : References.ReadIsWritable
unfolding operand_read
read_is_writable w bytes before after r e =
    let f = read_found w bytes before after r e in
    let h = read_has_text (formula bytes) f.reference f.read in
    found_writable f.reference (length before) f.fits after r f.is f.name h

pub read_again : References.ReadAgain
unfolding operand_read
read_again w v u bytes before after before' after' before'' after'' r n b e d c long =
    let f = read_found w bytes before after r e in
    let q = f.reference in
    let h = read_has_text (formula bytes) q f.read in
    let t = written_told v r after before' after' n d in
    let said = found_said q (length before) f.fits after r f.is f.name in
    let text : take n after' ≡ a1.text q = t.text ∙ ap (λ (x : Reference). a1.text x) said in
    let again : operand_read (take n after') ≡ some q = ap operand_read text ∙ written_read q h in
    let room : length (name_bytes q.name) ≤ length before'' = omega (arith, f.fits, long) in (
      read_fits u (take n after') before'' after'' b c q again room ∙ ap Ok (sym f.is),
      (read_some u (take n after') before'' after'' b c q again).1
          ∙ (ap (λ (k : ℕ). page k (name_bytes q.name)) (sym long) ∙ sym f.name),
    )

-- ---- columns

pub columns_inverse : References.ColumnsInverse
columns_inverse = (λ n h. ((column_lettered n h).number, (column_lettered n h).capital), text_of_number)

-- ---- what the split hands on

module _ (w v : Where) (bytes before before' after after' : List ℕ) (a b : ReadReference) (long : length before ≡ length before') where
  trimmed_alike : Reads w bytes before a after → Reads v (trimmed bytes) before' b after' → (a ≡ b) × (after ≡ after')
  trimmed_alike e d =
      let o = read_trimmed bytes in (
        e.0 ∙ (rw (long, ← o) (sym d.0)),
        e.1 ∙ (rw (long, ← o) (sym d.1)),
      )

pub parts_read_as_trimmed : References.PartsReadAsTrimmed
parts_read_as_trimmed w v bs before before' after after' op at width a b s long = (
  trimmed_alike w v (left_part bs) before before' after after' a b long,
  trimmed_alike w v (right_part bs) before before' after after' a b long,
)
