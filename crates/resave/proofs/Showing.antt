-- What the writer leaves is shown as the definition says: the text where it was written, else the two lines of the refusal.
-- Assumes nothing.
use Rattle.std.specs.Prelude.{Err, Ok}
use Prim.Native.Nat.{ℕ, ◌<◌}
use native.Mathlib.Omega.{arith}
use mathlib.Core.Path.{◌≡◌, sym, ap, ◌∙◌}
use mathlib.Core.Bool.{cond}
use mathlib.Core.List.{List}
use lib.ListN.{length, take}
use lib.Seq.{take-append_seam}
use borrow.Author.Tests.{eq-eqb, ne_eqb}
use Rattle.memory.specs.Memory.{page}
use Rattle.memory.proofs.Laws.{text_fits, length_page}
use Rattle.model.specs.Answer.{Summary, refusal, answer}
use Rattle.model.specs.Job.{Job}
use Rattle.grammar.specs.Parts.{bytes}
use Rattle.jobtext.specs.Text.{head, job}
use Rattle.reporttext.specs.Report.{summary_text}
use Rattle.savedtext.specs.Saved.{text_of, saved, is_saved, saved_length, saved_bytes}
use Rattle.savedtext.proofs.Thirteen.{saved_exactly, saved_whole}
use Rattle.writer.specs.declared.SaveError.{SaveError}
use Rattle.writer.specs.Answers.{Saved, summary_of, length_of}
use Rattle.resave.specs.Left.{shown, Left}

-- ---- the writer's answer

text_some : (l : ℕ) (j : Job) → 0 < length (text_of l j)
unfolding text_of job head bytes
text_some l j = omega arith

module _ (l : ℕ) (j : Job) (d : List ℕ) where
  abbrev room : ℕ
  room = length d

  -- the text, or the refusal
  abbrev pub outcome : List ℕ
  outcome = cond (is_saved l j room) (text_of l j) (summary_text (saved l j room))

  pub record Shows (r : Saved) (e : List ℕ) : Type 0 where
    pub long : length e ≡ length d
    pub left : Left r e
    pub is : shown r e ≡ outcome

  pub shows : (r : Saved) (e : List ℕ) → summary_of r ≡ saved l j room → length_of r ≡ saved_length l j room → e ≡ saved_bytes l j room
      → Shows r e
  unfolding summary_of length_of saved_length is_saved saved_bytes answer refusal
  shows (Ok written) e a b c =
      let number : (saved l j room).number ≡ 0 = sym (ap (λ (s : Summary). s.number) a) in
      let told = eq-eqb (saved l j room).number 0 number in
      let fits = ((saved_exactly l j room).0 number).1 in
      let whole : e ≡ page room (text_of l j) = c ∙ saved_whole l j room number in
      let all = text_fits room (text_of l j) fits in
      let size : written.length ≡ length (text_of l j) = b ∙ rw told in
      let front : take written.length e ≡ text_of l j = rw (size, whole, all.1) (take-append_seam (text_of l j) _) in
      let long : length e ≡ room = ap length c ∙ length_page 0 room (text_of l j) _ in
      record {
        long = long;
        left = (size ∙ (sym all.0 ∙ rw (long, front)), whole ∙ rw (long, front));
        is = front ∙ rw told;
      }
  shows (Err (SaveError.Refused r)) e a b c =
      let none : (saved l j room).number ≡ 0 → 0 ≡ length (text_of l j) = λ z. b ∙ rw (eq-eqb (saved l j room).number 0 z) in
      let no : (saved l j room).number ≡ 0 → ⊥ = λ z. omega (arith, none z, text_some l j) in
      record {
        long = ap length c ∙ length_page 0 room (text_of l j) _;
        left = tt;
        is = ap summary_text a ∙ rw (ne_eqb (saved l j room).number 0 no);
      }
  shows (Err (SaveError.TooLong count actual)) e a b c =
      let number : (saved l j room).number ≡ 13 = sym (ap (λ (s : Summary). s.number) a) in
      let told = ne_eqb (saved l j room).number 0 (λ z. omega arith) in
      record {
        long = ap length c ∙ length_page 0 room (text_of l j) _;
        left = tt;
        is = ap summary_text a ∙ rw told;
      }
