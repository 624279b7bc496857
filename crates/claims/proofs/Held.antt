-- Each claim of specs/Claims.antt, held. What the contract promises of a call is the pair of its answer and its columns.
-- Assumes nothing.
use Prim.Native.Nat.{ℕ, zero, suc}
use native.Mathlib.Omega.{arith}
use mathlib.Core.Path.{◌≡◌, refl, sym, ap, ◌∙◌}
use mathlib.Core.List.{[]}
use Rattle.std.specs.Prelude.{Ok}
use contract.Lifetimes.{Lfts}
use lib.ListN.{replicate}
use Rattle.model.specs.Options.{Answer}
use Rattle.model.specs.Ratio.{zero_f}
use Rattle.model.specs.Answer.{totals, Summary, Result, answered, summary}
use Rattle.model.specs.Job.{Job, run_of, result}
use Rattle.model.specs.Columns.{Columns, columns_of}
use Rattle.model.proofs.Computing.{jobs}
use Rattle.model.proofs.Samples.{samples}
use Rattle.model.proofs.WorkedJob as Worked
use Rattle.laws.specs.Demands.{reached, mark_count, lengths_of}
use Rattle.laws.proofs.Answer.{summary_injective}
use Rattle.laws.proofs.DemandOne.{demand_one}
use Rattle.laws.proofs.DemandThree.{demand_three}
use Rattle.claims.specs.Claims.{Where, Ends, NothingAsked, Determined, Possible, DemandOne, DemandThree, WorkedReport, Met}
use Rattle.claims.proofs.Answers.{result_told}

-- ---- what the contract promises

module _ (w : Where) (j : Job) (limit : ℕ) (before after : Columns) (a : Answer) (e : Ends w j limit before a after) where
  the_answer : summary a ≡ (result j limit (lengths_of before)).summary
  the_answer = e.0

  the_columns : after ≡ columns_of j limit (lengths_of before)
  the_columns = e.1

  -- the definition answers just what the call answers
  the_number : (summary a).number ≡ (result j limit (lengths_of before)).summary.number
  the_number = ap (λ (s : Summary). s.number) the_answer

-- ---- the claims

pub nothing_asked : NothingAsked
nothing_asked κs a = tt

pub determined : Determined
determined w j limit before after a e = (the_answer w j limit before after a e, the_columns w j limit before after a e)

pub possible : Possible
possible w j limit before =
    let told = result_told j limit (lengths_of before) in
    record { answer = told.by; after = columns_of j limit (lengths_of before); ends = (told.is, refl) }

pub call_demand_one : DemandOne
call_demand_one w j limit before after a e =
    let d = demand_one j limit (lengths_of before) in
    let same = the_columns w j limit before after a e in
    let number = the_number w j limit before after a e in
    record {
      refused = λ no. same ∙ d.refused (λ z. no (number ∙ z));
      complete = λ z. same ∙ d.complete (sym number ∙ z);
      lengths = ap lengths_of same ∙ d.lengths;
    }

whole_summary : (j : Job) → (answered (reached j) (run_of j)).summary
    ≡ summary (Ok (totals (reached j) (mark_count j) (run_of j).deferred (run_of j).simplified))
unfolding answered summary
whole_summary j = refl

pub call_demand_three : DemandThree
call_demand_three j good fits =
    let d = demand_three j good fits in
    record {
      when = λ w limit before after a roomy e.
          let number = the_number w j limit before after a e in
          let h = d.when limit (lengths_of before) roomy in
          (λ z. h.0 (sym number ∙ z), λ enough. number ∙ h.1 enough);
      alike = λ w limit before after a roomy e z.
          let number = the_number w j limit before after a e in
          summary_injective a _ (the_answer w j limit before after a e
          ∙ ap (λ (r : Result). r.summary) (d.alike limit (lengths_of before) roomy (sym number ∙ z)) ∙ whole_summary j);
      columns = λ w limit before after a roomy e z.
          the_columns w j limit before after a e ∙ d.columns limit (lengths_of before) roomy (sym (the_number w j limit before after a e)
          ∙ z);
      bounded = d.bounded;
    }

-- ---- the worked job of document 01

-- lent columns that hold something else
abbrev pub used : Columns
used =
    record {
      regions = replicate 4 7;
      rules = replicate 4 7;
      kinds = replicate 4 7;
      colours = replicate 4 7;
      ppms = replicate 4 7;
      shapes = replicate 4 7;
      bar_rules = replicate 3 7;
      bar_ppms = replicate 3 7;
      scratch = replicate 3 zero_f;
    }

worked_report : (a : Answer) (after : Columns) → summary a ≡ (result Worked.job 11 (lengths_of used)).summary
    → after ≡ columns_of Worked.job 11 (lengths_of used) → WorkedReport a after
unfolding jobs samples
worked_report a after s c =
    record {
      is_answered = ap (λ (x : Summary). x.number) s;
      count = ap (λ (x : Summary). x.count) s;
      marks = ap (λ (x : Summary). x.marks) s;
      regions = ap (λ (x : Columns). x.regions) c;
      rules = ap (λ (x : Columns). x.rules) c;
      kinds = ap (λ (x : Columns). x.kinds) c;
      colours = ap (λ (x : Columns). x.colours) c;
      ppms = ap (λ (x : Columns). x.ppms) c;
      shapes = ap (λ (x : Columns). x.shapes) c;
    }

no_lifetimes : (n : ℕ) → Lfts n
no_lifetimes zero = tt
no_lifetimes (suc n) = ([], no_lifetimes n)

pub met : Met
unfolding jobs samples
met =
    record {
      somewhere = record { lifetimes = no_lifetimes 10; place = λ i. (i, 0); name = λ i. i };
      job = Worked.job;
      limit = 11;
      before = used;
      cells = refl;
      regions = refl;
      rules = refl;
      well_formed = refl;
      reachable = omega arith;
      roomy = refl;
      ending = λ w. possible w Worked.job 11 used;
      reports = λ w after a e.
          worked_report a after (the_answer w Worked.job 11 used after a e) (the_columns w Worked.job 11 used after a e);
    }
