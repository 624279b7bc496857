-- What the contracts of the reader and the writer of references say in each case. Assumes nothing.
use Rattle.a1writer.specs.declared.WriteError.{WriteError}
use Rattle.a1reader.specs.declared.ReadError.{ReadError}
use Rattle.std.specs.Prelude.{Ok, Err}
use Prim.Native.Nat.{ℕ, ◌+◌, ◌-◌, ◌≤◌, ◌<◌}
use native.Mathlib.Omega.{arith}
use mathlib.Core.Path.{◌≡◌, refl, sym, ap, ◌∙◌}
use mathlib.Core.Bool.{Bool, true, false, not, and-eq-true_iff}
use mathlib.Core.List.{List, ◌++◌}
use mathlib.Core.Option.{Option, none, some}
use lib.Dec.{leb}
use lib.ListN.{length, take, replicate}
use lib.Seq.{take-append_seam}
use borrow.Author.Tests.{leb-true, leb-false, le-leb, lt-leb, le-ltb}
use Rattle.memory.specs.Memory.{page}
use Rattle.memory.proofs.Laws.{text_fits, length_page}
use Rattle.model.specs.declared.A1Reference.{A1Reference}
use Rattle.model.specs.Answer.{Summary, refusal, answer}
use Rattle.model.specs.Sheet.{text_at}
use Rattle.model.specs.Job.{outside, bad_name}
use Rattle.model.specs.Split.{formula}
use Rattle.jobtext.specs.Written.{Reference}
use Rattle.jobtext.specs.Said.{name_said, reference_said}
use Rattle.jobtext.specs.Laid.{name_bytes, name_at, reference_at}
use Rattle.a1text.specs.A1.{has_text, a1, Spells, operand_read, writable, operand_written}
use Rattle.a1text.proofs.Operands.{read_spells, spells_read}
use Rattle.a1reader.specs.Answers.{ReadReference}
use Rattle.a1reader.specs.Answers as Reading
use Rattle.a1reader.specs.Answers.{read_answer, read_bytes}
use Rattle.a1writer.specs.Answers.{WrittenReference}
use Rattle.a1writer.specs.Answers as Writing
use Rattle.a1writer.specs.Answers.{write_answer, write_bytes}
use Rattle.claims.specs.References.{Where, Reads, Writes}

-- ---- reading

pub no_none : {A : Type 0} (a : A) → some a ≡ none → ⊥
no_none a e = let z : ◌≡◌ {A = ℕ} 0 1 = cc in omega arith

module _ (w : Where) (bytes before after : List ℕ) (a : ReadReference) (e : Reads w bytes before a after) where
  pub read_none : operand_read bytes ≡ none → (a ≡ Err ReadError.NoReference) × (after ≡ replicate (length before) 0)
  unfolding read_answer read_bytes
  read_none o = (
    e.0 ∙ ap (λ (x : Option Reference). read_answer x (length before)) o,
    e.1 ∙ ap (λ (x : Option Reference). read_bytes x (length before)) o,
  )

  module _ (r : Reference) (o : operand_read bytes ≡ some r) where
    pub read_some : (a ≡ read_answer (some r) (length before)) × (after ≡ page (length before) (name_bytes r.name))
    unfolding read_bytes
    read_some = (
      e.0 ∙ ap (λ (x : Option Reference). read_answer x (length before)) o,
      e.1 ∙ ap (λ (x : Option Reference). read_bytes x (length before)) o,
    )

    pub read_fits : length (name_bytes r.name) ≤ length before → a ≡ Ok (reference_at 0 r)
    unfolding read_answer
    read_fits h = read_some.0 ∙ rw (le-leb (length (name_bytes r.name)) (length before) h)

    pub read_long : length before < length (name_bytes r.name) → a ≡ Err ReadError.NameTooLong
    unfolding read_answer
    read_long h = read_some.0 ∙ rw (lt-leb (length (name_bytes r.name)) (length before) h)

    -- no answer to what is read is 14
    pub not_fourteen : Reading.summary_of a ≡ refusal 14 0 0 0 → ⊥
    unfolding Reading.summary_of refusal answer
    not_fourteen z = go (leb (length (name_bytes r.name)) (length before)) refl
      where
        go : (x : Bool) → leb (length (name_bytes r.name)) (length before) ≡ x → ⊥
        go true h =
            let f = ap Reading.summary_of (read_fits (leb-true _ _ h)) in
            let n : ◌≡◌ {A = ℕ} 0 14 = ap (λ (s : Summary). s.number) (sym f ∙ z) in
            omega arith
        go false h =
            let f = ap Reading.summary_of (read_long (leb-false _ _ h)) in
            let n : ◌≡◌ {A = ℕ} 15 14 = ap (λ (s : Summary). s.number) (sym f ∙ z) in
            omega arith

pub spells_operand : (bytes : List ℕ) (r : Reference) → Spells (formula bytes) r → operand_read bytes ≡ some r
unfolding operand_read
spells_operand bytes r s = spells_read (formula bytes) r s

pub operand_spells : (bytes : List ℕ) (r : Reference) → operand_read bytes ≡ some r → Spells (formula bytes) r
unfolding operand_read
operand_spells bytes r o = read_spells (formula bytes) r o

-- ---- writing

module _ (w : Where) (r : A1Reference) (pool before after : List ℕ) (a : WrittenReference) (e : Writes w r pool before a after) where
  abbrev text : List ℕ
  text = a1.text (reference_said pool r)

  pub write_none : writable pool r ≡ false → (a ≡ Err WriteError.NoReference) × (after ≡ replicate (length before) 0)
  unfolding operand_written write_answer write_bytes
  write_none o = (rw o at e.0, rw o at e.1)

  module _ (o : writable pool r ≡ true) where
    pub write_some : (a ≡ write_answer (some text) (length before)) × (after ≡ page (length before) text)
    unfolding operand_written write_bytes
    write_some = (rw o at e.0, rw o at e.1)

    pub write_fits : length text ≤ length before → a ≡ Ok (length text)
    unfolding write_answer
    write_fits h = write_some.0 ∙ rw (le-leb (length text) (length before) h)

    pub write_long : length before < length text → a ≡ Err WriteError.TextTooLong
    unfolding write_answer
    write_long h = write_some.0 ∙ rw (lt-leb (length text) (length before) h)

    pub not_unwritten : Writing.summary_of a ≡ refusal 14 0 0 0 → ⊥
    unfolding Writing.summary_of refusal answer
    not_unwritten z = go (leb (length text) (length before)) refl
      where
        go : (x : Bool) → leb (length text) (length before) ≡ x → ⊥
        go true h =
            let f = ap Writing.summary_of (write_fits (leb-true _ _ h)) in
            let n : ◌≡◌ {A = ℕ} 0 14 = ap (λ (s : Summary). s.number) (sym f ∙ z) in
            omega arith
        go false h =
            let f = ap Writing.summary_of (write_long (leb-false _ _ h)) in
            let n : ◌≡◌ {A = ℕ} 15 14 = ap (λ (s : Summary). s.number) (sym f ∙ z) in
            omega arith

pub writable_text : (pool : List ℕ) (r : A1Reference) → writable pool r ≡ true → has_text (reference_said pool r) ≡ true
unfolding writable
writable_text pool r o = ((and-eq-true_iff (not (bad_name pool r.sheet)) (has_text (reference_said pool r))).0 o).1

-- what is written begins with its text
pub record Told (pool : List ℕ) (r : A1Reference) (before after : List ℕ) (n : ℕ) : Type 0 where
  pub writable : writable pool r ≡ true
  pub text : take n after ≡ a1.text (reference_said pool r)

module _ (w : Where) (r : A1Reference) (pool before after : List ℕ) (n : ℕ)
    (e : Writes w r pool before (Ok n) after) where
  pub written_told : Told pool r before after n
  written_told = go (writable pool r) (leb (length (a1.text (reference_said pool r))) (length before)) refl refl
    where
      go : (x y : Bool) → writable pool r ≡ x → leb (length (a1.text (reference_said pool r))) (length before) ≡ y
          → Told pool r before after n
      go true true o h =
          let t = a1.text (reference_said pool r) in
          let fits : length t ≤ length before = leb-true _ _ h in
          let same = write_fits w r pool before after (Ok n) e o fits in
          let k : n ≡ length t = cc in
          record {
            writable = o;
            text = ap (λ (l : List ℕ). take n l)
                ((write_some w r pool before after (Ok n) e o).1 ∙ (text_fits (length before) t fits).1)
                ∙ (ap (λ (i : ℕ). take i (t ++ replicate (length before - length t) 0)) k ∙ take-append_seam t _);
          }
      go true false o h =
          let same = write_long w r pool before after (Ok n) e o (leb-false _ _ h) in
          let z : ◌≡◌ {A = ℕ} 0 1 = cc in absurd (omega arith)
      go false y o h =
          let same = (write_none w r pool before after (Ok n) e o).0 in
          let z : ◌≡◌ {A = ℕ} 0 1 = cc in absurd (omega arith)

-- ---- what was read, with the bytes that were lent for its name

module _ (q : Reference) (room : ℕ) (fits : length (name_bytes q.name) ≤ room) where
  abbrev lent : List ℕ
  lent = page room (name_bytes q.name)

  -- a name that was read is said as it was typed
  name_said_lem : (n : Option (List ℕ)) (h : length (name_bytes n) ≤ room)
      → (name_said (page room (name_bytes n)) (name_at 0 n) ≡ n) × (bad_name (page room (name_bytes n)) (name_at 0 n) ≡ false)
  unfolding name_said name_at bad_name name_bytes text_at outside page
  name_said_lem none h = (refl, refl)
  name_said_lem (some bs) h =
      let t = (text_fits room bs h).1 in
      let long : length (page room bs) ≡ room = length_page 0 room bs true in (
        ap some (ap (λ (l : List ℕ). take (length bs) l) t ∙ take-append_seam bs _),
        le-ltb (length (page room bs)) (0 + length bs) (omega arith),
      )

  said_again : reference_said lent (reference_at 0 q) ≡ q
  unfolding reference_said reference_at
  said_again = rw (name_said_lem q.name fits).0

  lent_writable : has_text q ≡ true → writable lent (reference_at 0 q) ≡ true
  unfolding writable reference_at
  lent_writable h =
      rw (name_said_lem q.name fits).1 (ap has_text said_again ∙ h)

  -- of the reference that was read and the bytes that were lent
  module _ (pool : List ℕ) (r : A1Reference) (is : r ≡ reference_at 0 q) (name : pool ≡ lent) where
    pub found_said : reference_said pool r ≡ q
    found_said = rw (is, name) said_again

    pub found_writable : has_text q ≡ true → writable pool r ≡ true
    found_writable h = rw (is, name) (lent_writable h)

-- what was read, and the bytes that were lent for its name
pub record Found (bytes before after : List ℕ) (r : A1Reference) : Type 0 where
  pub reference : Reference
  pub read : operand_read bytes ≡ some reference
  pub is : r ≡ reference_at 0 reference
  pub fits : length (name_bytes reference.name) ≤ length before
  pub name : after ≡ page (length before) (name_bytes reference.name)

module _ (w : Where) (bytes before after : List ℕ) (r : A1Reference) (e : Reads w bytes before (Ok r) after) where
  pub read_found : Found bytes before after r
  read_found = go (operand_read bytes) refl
    where
      some_found : (q : Reference) → operand_read bytes ≡ some q → (x : Bool) → leb (length (name_bytes q.name)) (length before) ≡ x
          → Found bytes before after r
      some_found q o true h =
          let fits = leb-true _ _ h in
          let same = read_fits w bytes before after (Ok r) e q o fits in
          let is : r ≡ reference_at 0 q = cc in
          record {
            reference = q;
            read = o;
            is = is;
            fits = fits;
            name = (read_some w bytes before after (Ok r) e q o).1;
          }
      some_found q o false h =
          let same = read_long w bytes before after (Ok r) e q o (leb-false _ _ h) in
          let z : ◌≡◌ {A = ℕ} 0 1 = cc in absurd (omega arith)

      go : (o : Option Reference) → operand_read bytes ≡ o → Found bytes before after r
      go none o =
          let same = (read_none w bytes before after (Ok r) e o).0 in
          let z : ◌≡◌ {A = ℕ} 0 1 = cc in absurd (omega arith)
      go (some q) o = some_found q o (leb (length (name_bytes q.name)) (length before)) refl
