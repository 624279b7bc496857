-- Each claim of specs/Saving.antt, held. Assumes nothing.
use Prim.Native.Nat.{ℕ, ◌-◌, ◌≤◌}
use native.Mathlib.Omega.{arith}
use mathlib.Core.Path.{◌≡◌, refl, sym, ap, ap₂, subst, ◌∙◌}
use mathlib.Core.List.{List, ◌++◌}
use mathlib.Core.Option.{Option, none, some}
use lib.ListN.{length, replicate}
use borrow.Author.Tests.{eq-eqb, ne_eqb}
use Rattle.memory.specs.Memory.{page, page_length}
use Rattle.memory.proofs.Laws.{text_fits}
use Rattle.model.specs.Answer.{Summary, refusal, answer, refused, summary}
use Rattle.model.specs.Job.{Job, malformed, result}
use Rattle.laws.specs.Demands.{WellFormed}
use Rattle.jobtext.specs.Read.{max_text}
use Rattle.jobtext.specs.Said.{job_said}
use Rattle.savedtext.specs.Saved.{text_of, saved, is_saved, saved_length, saved_bytes}
use Rattle.savedtext.proofs.AlikeTexts.{alike_texts}
use Rattle.savedtext.proofs.OneJob.{fronts_alike, texts_alike}
use Rattle.savedtext.proofs.ReadBack.{read_back}
use Rattle.savedtext.proofs.Thirteen as thirteens
use Rattle.savedtext.proofs.Thirteen.{malformed_number, thirteen, thirteen_values, saved_exactly, saved_fits, saved_malformed, saved_zeros, saved_whole}
use Rattle.savedtext.proofs.WrittenBack as back
use Rattle.std.specs.Prelude.{Ok, Err}
use Rattle.writer.specs.declared.SaveError.{SaveError}
use Rattle.writer.specs.Answers.{Saved, summary_of, length_of}
use Rattle.claims.specs.Saving as Saving
use Rattle.claims.specs.Saving.{Where, Ends, IsWritten}
use Rattle.claims.proofs.Answers.{Turned, Checks, malformed_told}

-- ---- what the contract promises

module _ (w : Where) (j : Job) (limit : ℕ) (before after : List ℕ) (a : Saved) (e : Ends w j limit before a after) where
  the_answer : summary_of a ≡ saved limit j (length before)
  the_answer = e.0

  the_number : (summary_of a).number ≡ (saved limit j (length before)).number
  the_number = ap (λ (s : Summary). s.number) the_answer

  the_bytes : after ≡ saved_bytes limit j (length before)
  the_bytes = e.1.1

  -- the text of what is written fits
  the_text : IsWritten a → WellFormed j × (length (text_of limit j) ≤ length before) × (length (text_of limit j) ≤ max_text)
  the_text z = (saved_exactly limit j (length before)).0 (sym the_number ∙ z)

pub nothing_asked_of_saving : Saving.NothingAsked
nothing_asked_of_saving κs a = tt

pub saving_determined : Saving.Determined
saving_determined w j limit before after a e = (e.0, e.1.0, e.1.1)

told_some : (o : Option Summary) (s : Summary) → o ≡ some s → Checks o → Turned s
told_some none s e c = absurd (let no : ◌≡◌ {A = ℕ} 0 1 = cc in omega arith)
told_some (some x) s e (Checks.met t) = let same : x ≡ s = cc in subst Turned same t

module _ (j : Job) (limit room : ℕ) where
  none_saved : ((saved limit j room).number ≡ 0 → ⊥) → 0 ≡ saved_length limit j room
  unfolding saved_length is_saved
  none_saved nonzero = rw (ne_eqb (saved limit j room).number 0 nonzero)

  all_saved : (saved limit j room).number ≡ 0 → length (text_of limit j) ≡ saved_length limit j room
  unfolding saved_length is_saved
  all_saved z = rw (eq-eqb (saved limit j room).number 0 z)

pub saving_possible : Saving.Possible
unfolding summary_of length_of refusal answer
saving_possible w j limit before = go (thirteens.saving limit j room)
  where
    room : ℕ
    room = length before

    number : {s : Summary} → saved limit j room ≡ s → (saved limit j room).number ≡ s.number
    number is = ap (λ (x : Summary). x.number) is

    go : thirteens.Saving limit j room → Saving.Ending w j limit before
    go (thirteens.Saving.refused s m is) =
        let t = told_some (malformed j) s m (malformed_told j) in
        let no = none_saved j limit room (λ z. omega (arith, (malformed_number j s m).0, number is)) in
        record { answer = Err (SaveError.Refused t.by); after = saved_bytes limit j room; ends = (t.is ∙ sym is, (no, refl)) }
    go (thirteens.Saving.too_long f long is) =
        let no = none_saved j limit room (λ z. omega (arith, number is)) in
        record {
          answer = Err (SaveError.TooLong j.start (length (text_of limit j)));
          after = saved_bytes limit j room;
          ends = (sym is, (no, refl));
        }
    go (thirteens.Saving.whole f fits most is) =
        let all = all_saved j limit room (number is) in
        record {
          answer = Ok (record { count = j.start; length = length (text_of limit j) });
          after = saved_bytes limit j room;
          ends = (sym is, (all, refl));
        }

pub saving_demand_one : Saving.DemandOne
saving_demand_one w j limit before after a e =
    let number = the_number w j limit before after a e in
    record {
      refused = λ no. the_bytes w j limit before after a e ∙ saved_zeros limit j (length before) (λ z. no (number ∙ z));
      written = λ z. the_bytes w j limit before after a e ∙ saved_whole limit j (length before) (sym number ∙ z);
      length = λ z. e.1.0 ∙ sym (all_saved j limit (length before) (sym number ∙ z));
    }

pub refused_alike : Saving.RefusedAlike
unfolding result refused
refused_alike w v j limit before after columns columns' a b e d bad = go (malformed j) refl
  where
    go : (m : Option Summary) → malformed j ≡ m → summary_of a ≡ summary b
    go none h = absurd (bad h)
    go (some s) h = e.0 ∙ (saved_malformed limit j (length before) s h ∙ sym (d.0 ∙ rw h))

pub thirteen_exactly : Saving.ThirteenExactly
thirteen_exactly w j limit before after a e =
    let number = the_number w j limit before after a e in
    let law = thirteen limit j (length before) in (
      (λ z. law.0 (sym number ∙ z), λ h. number ∙ law.1 h),
      λ z. e.0 ∙ thirteen_values limit j (length before) (sym number ∙ z),
    )

pub written_exactly : Saving.WrittenExactly
written_exactly w j limit before after a e =
    let number = the_number w j limit before after a e in
    let law = saved_exactly limit j (length before) in (
      (λ z. law.0 (sym number ∙ z), λ h. number ∙ law.1 h),
      λ z. let f = law.0 (sym number ∙ z) in e.0 ∙ saved_fits limit j (length before) f.0 f.1 f.2,
    )

-- ---- one job, one text

pub equal_texts : Saving.EqualTexts
equal_texts = alike_texts

pub one_job_a_text : Saving.OneJobAText
one_job_a_text = texts_alike

-- the bytes of a job that is written begin with its text
module _ (w : Where) (j : Job) (limit : ℕ) (before after : List ℕ) (a : Saved) (e : Ends w j limit before a after) (z : IsWritten a) where
  begins : after ≡ text_of limit j ++ replicate (length before - length (text_of limit j)) 0
  begins =
      (saving_demand_one w j limit before after a e).written z
      ∙ (text_fits (length before) (text_of limit j) (the_text w j limit before after a e z).1).1

pub same_bytes : Saving.SameBytes
same_bytes w v l m j k before before' after after' a b t u n e d z y = (
  λ same.
      fronts_alike l m j k t u (the_text w j l before after a e z).0 (the_text v k m before' after' b d y).0 _ _
      (sym (begins w j l before after a e z) ∙ (same ∙ begins v k m before' after' b d y)),
  λ alike.
      (saving_demand_one w j l before after a e).written z
      ∙ (ap₂ page n (alike_texts l m j k alike) ∙ sym ((saving_demand_one v k m before' after' b d).written y)),
)

-- ---- reading and writing

pub written_back : Saving.WrittenBack
written_back = back.written_back

pub read_back_alike : Saving.ReadBack
unfolding job_said
read_back_alike w j limit before after a t e z =
    let f = the_text w j limit before after a e z in
    let r = read_back limit j t f.0 f.2 in
    record { said = job_said limit j; reads = r.0; alike = r.1 }

-- ---- the call for C

pub nothing_asked_of_saves : Saving.NothingAskedOfSaves
nothing_asked_of_saves κs a = tt

pub resaved_as : Saving.Resaved
resaved_as l text before after r e = (e.0, e.1)

pub same_file : Saving.SameFile
same_file l text before after r j e is formed fits =
    let same = back.resaved_back text j is formed (length before) fits in
    let all = text_fits (length before) text fits in
    (e.0 ∙ (ap (page_length (length before)) same ∙ all.0), e.1 ∙ ap (page (length before)) same)

pub numbers_of_saves : Saving.NumbersOfSaves
numbers_of_saves text j room is fits = back.saved_numbers text j is room fits
