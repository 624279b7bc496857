-- What the writer hands back is what saving comes to: of a text that fits or not, of a job that the checks let pass, and of one that they
-- refuse. Assumes nothing.
use Prim.Native.Nat.{ℕ, ◌≤◌, ◌<◌}
use native.Mathlib.Omega.{arith}
use mathlib.Core.Path.{◌≡◌, refl, sym, ◌∙◌}
use mathlib.Core.Logic.{◌⊎◌, inl, inr}
use mathlib.Core.Bool.{Bool, true, false, cond, not, ◌||◌}
use mathlib.Core.List.{List}
use mathlib.Core.Option.{some}
use lib.Dec.{ltb, eqb}
use lib.ListN.{length, replicate}
use borrow.Author.Tests.{lt-ltb, le-ltb, ne_eqb}
use Rattle.memory.specs.Memory.{page}
use Rattle.memory.proofs.Laws.{page_refused}
use Rattle.model.specs.Answer.{Summary, refusal, answer}
use Rattle.model.specs.Job.{Job, malformed}
use Rattle.laws.specs.Demands.{WellFormed}
use Rattle.jobtext.specs.Read.{max_text}
use Rattle.put.specs.Put.{last, Laid, kept_length, kept_bytes}
use Rattle.put.proofs.Laws.{laid_length, stops_of_laid}
use Rattle.put.proofs.Keeping.{kept_whole, kept_page}
use Rattle.savedtext.specs.Saved.{text_of, too_long_for, fitted, saved, is_saved, saved_length, saved_bytes}
use Rattle.savedtext.proofs.Thirteen.{malformed_number, saved_malformed, saved_zeros}
use Rattle.writer.specs.Answers.{Wrote}

-- ---- a text

module _ (start : ℕ) (ts d : List ℕ) where
  too_long : (length d < length ts) ⊎ (max_text < length ts) → too_long_for (length d) ts ≡ true
  unfolding too_long_for
  too_long (inl h) = rw (lt-ltb (length d) (length ts) h)
  too_long (inr h) = rw (lt-ltb max_text (length ts) h) (go (ltb (length d) (length ts)))
    where
      go : (b : Bool) → b || true ≡ true
      go true = refl
      go false = refl

  pub wrote_nothing : {needed : ℕ} {e : List ℕ} → needed ≡ length ts → (length d < needed) ⊎ (max_text < needed) → e ≡ replicate (length d) 0
      → Wrote (refusal 13 0 start needed) 0 start ts d e
  unfolding fitted
  wrote_nothing n over b =
      let long = too_long (rw n at over) in
      record {
        answer = rw (long, n);
        bytes = rw long (b ∙ sym (page_refused 0 (length d) ts));
        length = rw long;
      }

  pub wrote_whole : {e f : List ℕ} {q r : ℕ} → length d < last → Laid d 0 ts e q → length ts ≤ length d → length ts ≤ max_text
      → r ≡ kept_length (length e) q → f ≡ kept_bytes e r → Wrote (answer start 0 0 0) r start ts d f
  unfolding too_long_for fitted page
  wrote_whole {e} {f} {q} {r} room a fits most kept b =
      let n = a.next in
      let at : q ≡ length ts = omega arith in
      let end : r ≡ length ts = kept ∙ (sym (kept_whole (length e) q (omega (arith, laid_length a))) ∙ at) in
      let whole = kept_page (stops_of_laid room a) kept b in
      let one = le-ltb (length d) (length ts) fits in
      let two = le-ltb max_text (length ts) most in
      record {
        answer = rw (one, two);
        bytes = rw (one, two) whole.bytes;
        length = rw (one, two) end;
      }

fitted_number : (start room : ℕ) (ts : List ℕ) → eqb (fitted start room ts).number 0 ≡ not (too_long_for room ts)
unfolding fitted refusal answer
fitted_number start room ts = go (too_long_for room ts)
  where
    go : (b : Bool) → eqb (cond b (refusal 13 0 start (length ts)) (answer start 0 0 0)).number 0 ≡ not b
    go true = refl
    go false = refl

-- ---- a job

-- the answer s, the length n and the bytes e are those of saving
pub record Saves (limit : ℕ) (j : Job) (room : ℕ) (s : Summary) (n : ℕ) (e : List ℕ) : Type 0 where
  pub answer : s ≡ saved limit j room
  pub length : n ≡ saved_length limit j room
  pub bytes : e ≡ saved_bytes limit j room

module _ (limit : ℕ) (j : Job) (d : List ℕ) {e : List ℕ} where
  pub saves_refused : {s : Summary} → malformed j ≡ some s → e ≡ replicate (length d) 0 → Saves limit j (length d) s 0 e
  unfolding saved_length is_saved
  saves_refused {s} m b =
      let is : saved limit j (length d) ≡ s = saved_malformed limit j (length d) s m in
      let no : (saved limit j (length d)).number ≡ 0 → ⊥ = λ z. omega (arith, (malformed_number j s m).0, rw is at z) in
      record {
        answer = sym is;
        length = rw (ne_eqb (saved limit j (length d)).number 0 no);
        bytes = b ∙ sym (saved_zeros limit j (length d) no);
      }

  pub saves_wrote : {s : Summary} {n : ℕ} → WellFormed j → Wrote s n j.start (text_of limit j) d e → Saves limit j (length d) s n e
  unfolding saved is_saved saved_length saved_bytes
  saves_wrote {s} {n} w o =
      record {
        answer = rw w o.answer;
        length = rw (w, fitted_number) (o.length ∙ turned (too_long_for (length d) (text_of limit j)));
        bytes = rw (w, fitted_number) o.bytes;
      }
    where
      turned : (b : Bool) → cond b 0 (length (text_of limit j)) ≡ cond (not b) (length (text_of limit j)) 0
      turned true = refl
      turned false = refl
