-- Each claim of specs/Bars.antt, held. An answered job leaves what its run without a limit leaves, and `job_bars` says where the bars of
-- that come from; here it is said by the columns, and by the lines of the report. Assumes nothing.
use Prim.Native.Nat.{ℕ, zero, suc, ◌+◌, ◌-◌, ◌≤◌, ◌<◌}
use native.Mathlib.Nat.{add-zero, zero-add}
use native.Mathlib.Omega.{arith}
use mathlib.Core.Path.{◌≡◌, refl, sym, ap, ◌∙◌, subst}
use mathlib.Core.Logic.{⊎_elim}
use mathlib.Core.Bool.{Bool, true, false, cond}
use mathlib.Core.List.{List, [], ◌∷◌, ◌++◌, map, Memᴰ}
use lib.Dec.{leb, eqb, eqb-suc-zero}
use lib.ListN.{length, get_or, take}
use borrow.Author.Tests.{leb-true, leb-false}
use Rattle.memory.specs.Memory.{page_length}
use Rattle.memory.proofs.Laws.{text_over}
use Rattle.model.specs.Options.{Answer}
use Rattle.model.specs.declared.CellCoordinate.{CellCoordinate}
use Rattle.model.specs.declared.Rule.{Rule}
use Rattle.model.specs.Sheet.{Sheet}
use Rattle.model.specs.Run.{Mark, RegionState, IndexedRule, untouched}
use Rattle.model.specs.Answer.{Summary, Result, summary, answer, answered}
use Rattle.model.specs.Job.{Job, Lengths, rules_of, region_count, sheet_of, run_of, result}
use Rattle.model.specs.Columns.{Columns, column, written, columns_of}
use Rattle.model.proofs.Computing.{jobs}
use Rattle.model.proofs.Samples.{samples}
use Rattle.model.proofs.WorkedJob as Worked
use Rattle.laws.specs.Demands.{WellFormed, reached, lengths_of}
use Rattle.laws.proofs.Results.{WholeJob, result_is}
use Rattle.laws.proofs.DemandOne.{states_length, refused_unanswered}
use Rattle.barlaws.specs.Origin.{HasMark, region_at, Origin, BarFrom}
use Rattle.barlaws.proofs.Regions.{state_at}
use Rattle.barlaws.proofs.Jobs.{job_bars}
use Rattle.jobtext.specs.Written.{JobText}
use Rattle.jobtext.specs.Read.{ReadResult}
use Rattle.jobtext.specs.Laid.{laid}
use Rattle.jobtext.specs.Decided.{whole_space, rules_read, decided}
use Rattle.reporttext.specs.Report as Report
use Rattle.reporttext.specs.Report.{summary_text, marks_text, bars_text, bar_names, bar_lines, shaped_at}
use Rattle.reporttext.specs.Reports.{read_report, report_on}
use Rattle.reporttext.proofs.Shown.{report_answered}
use Rattle.claims.specs.Bars.{MarkIn, BarsOfAnswers, WorkedBars, BarsMet, bar_line, lines_from, OriginOn, BarLines, BarsOfReports}
use Rattle.claims.proofs.Held.{determined, call_demand_one, used}
use Rattle.claims.proofs.ShapesHeld.{mark_at}
use Rattle.claims.proofs.TextsHeld.{read_exactly}
use Rattle.claims.proofs.WholeJobsHeld.{fits}

-- an answered job is well-formed and leaves its whole run
whole_job : (j : Job) (limit : ℕ) (l : Lengths) → (result j limit l).summary.number ≡ 0 → WholeJob j limit l
whole_job j limit l z = ⊎_elim (λ w. w) (λ r. absurd (refused_unanswered j limit l r z)) (result_is j limit l)

-- ---- two ways of telling the same marks

module _ {s : Sheet} {rules : List Rule} {M N : ℕ → ℕ → Type 0} {k : ℕ} {at : CellCoordinate} where
  turned : ((e : ℕ) → N e k → M e k) → (i : IndexedRule) → Origin s rules M k at i → Origin s rules N k at i
  turned back i o =
      record {
        number = o.number;
        numeric = o.numeric;
        first = o.first;
        unstopped = λ e r a st m. o.unstopped e r a st (back e.index m);
      }

told_alike : {s : Sheet} {rules : List Rule} {M N : ℕ → ℕ → Type 0} {k : ℕ} {at : CellCoordinate} {rule ppm : ℕ}
    → ((e : ℕ) → M e k → N e k) → ((e : ℕ) → N e k → M e k) → BarFrom s rules M k at rule ppm → BarFrom s rules N k at rule ppm
unfolding turned
told_alike to back f =
    record {
      drawn = λ i o. f.drawn i (turned to i o);
      otherwise = λ none. f.otherwise (λ i o. none i (turned back i o));
      blank = f.blank;
      from = λ n e. let (i, same, o) = f.from n e in (i, same, turned back i o);
    }

-- ---- by the columns

-- a place of a column is a field of the entry there
column_at : {A : Type 0} (f : A → ℕ) (xs : List A) (rest : List ℕ) (k : ℕ) (d : A) → k < length xs
    → get_or (map f xs ++ rest) k 0 ≡ f (get_or xs k d)
column_at f [] rest k d h = absurd (omega arith)
column_at f (x ∷ xs) rest zero d h = refl
column_at f (x ∷ xs) rest (suc k) d h = column_at f xs rest k d (omega arith)

-- where a mark stands in all columns
record PlaceOf (ms : List Mark) (m : Mark) : Type 0 where
  place : ℕ
  within : place < length ms
  field : (f : Mark → ℕ) (rest : List ℕ) → get_or (map f ms ++ rest) place 0 ≡ f m

place_of : {m : Mark} {ms : List Mark} → Memᴰ m ms → PlaceOf ms m
place_of (Memᴰ.head e) = record { place = 0; within = omega arith; field = λ f rest. ap f (sym e) }
place_of (Memᴰ.tail t) =
    let p = place_of t in
    record { place = suc p.place; within = omega (arith, p.within); field = p.field }

module _ (j : Job) (l : Lengths) where
  abbrev all : Columns
  all = written (answered (reached j) (run_of j)) l

  abbrev total : ℕ
  total = length (run_of j).marks

  column_marked : (e k : ℕ) → MarkIn total all e k → HasMark (run_of j).marks e k
  unfolding written answered column
  column_marked e k m =
      let at = mark_at (run_of j).marks m.place m.within in
      record {
        mark = at.mark;
        there = at.there;
        of_rule = sym (at.field (λ m. m.rule) _) ∙ m.of_rule;
        on_region = sym (at.field (λ m. m.region) _) ∙ m.on_region;
      }

  marked_column : (e k : ℕ) → HasMark (run_of j).marks e k → MarkIn total all e k
  unfolding written answered column
  marked_column e k m =
      let p = place_of m.there in
      record {
        place = p.place;
        within = p.within;
        of_rule = p.field (λ m. m.rule) _ ∙ m.of_rule;
        on_region = p.field (λ m. m.region) _ ∙ m.on_region;
      }

  bar_columns : (k : ℕ) → k < length (run_of j).states
      → (get_or all.bar_rules k 0 ≡ (state_at k (run_of j).states).bar_rule) × (get_or all.bar_ppms k 0 ≡ (state_at k (run_of j).states).bar_ppm)
  unfolding written answered column
  bar_columns k h =
      let states = (run_of j).states in
      (column_at (λ s. s.bar_rule) states _ k untouched h, column_at (λ s. s.bar_ppm) states _ k untouched h)

  -- the complete result, with as many marks as there are
  whole_bars : WellFormed j → (n : ℕ) → n ≡ total → (k : ℕ) → k < region_count j → k < length (run_of j).states
      → BarFrom (sheet_of j) (rules_of j) (MarkIn n all) k (region_at j k) (get_or all.bar_rules k 0) (get_or all.bar_ppms k 0)
  whole_bars good n counted k h g =
      let (rule, ppm) = bar_columns k g in
      rw (counted, rule, ppm) (told_alike (λ e m. marked_column e k m) (λ e m. column_marked e k m) (job_bars j good k h))

pub bars_of_answers : BarsOfAnswers
unfolding answer answered
bars_of_answers w j limit before after a e z k h =
    let l = lengths_of before in
    let same = (determined w j limit before after a e).0 in
    let whole = whole_job j limit l (sym (ap (λ (s : Summary). s.number) same) ∙ z) in
    let counted : (summary a).marks ≡ total j l =
    ap (λ (s : Summary). s.marks) same ∙ ap (λ (r : Result). r.summary.marks) whole.run.is in
    subst (λ (c : Columns). BarFrom (sheet_of j) (rules_of j) (MarkIn (summary a).marks c) k (region_at j k)
    (get_or c.bar_rules k 0) (get_or c.bar_ppms k 0)) (sym ((call_demand_one w j limit before after a e).complete z))
    (whole_bars j l whole.well_formed (summary a).marks counted k h (omega (arith, h, states_length j limit l)))

-- by the worked job
worked_bars : (a : Answer) (after : Columns) → summary a ≡ (result Worked.job 11 (lengths_of used)).summary
    → after ≡ columns_of Worked.job 11 (lengths_of used)
    → ((k : ℕ) → k < 3 → BarFrom (sheet_of Worked.job) (rules_of Worked.job) (MarkIn (summary a).marks after) k (region_at Worked.job k)
    (get_or after.bar_rules k 0) (get_or after.bar_ppms k 0))
    → WorkedBars Worked.job a after
unfolding jobs samples
worked_bars a after same columns bars =
    let counted : (summary a).marks ≡ 3 = ap (λ (s : Summary). s.marks) same in
    let bare : get_or after.bar_rules 2 0 ≡ 0 = ap (λ (c : Columns). get_or c.bar_rules 2 0) columns in
    record {
      is_answered = ap (λ (s : Summary). s.number) same;
      stopping = record {
        place = 0;
        within = omega (arith, counted);
        of_rule = ap (λ (c : Columns). get_or c.rules 0 0) columns;
        on_region = ap (λ (c : Columns). get_or c.regions 0 0) columns;
      };
      drawn = (bars 1 (omega arith)).from 0 (ap (λ (c : Columns). get_or c.bar_rules 1 0) columns);
      none = λ i o. omega (arith, bare, ((bars 2 (omega arith)).drawn i o).0);
    }

pub bars_met : BarsMet
unfolding jobs samples
bars_met =
    record {
      job = Worked.job;
      limit = 11;
      before = used;
      answers = λ w after a e.
          let (same, columns) = determined w Worked.job 11 used after a e in
          worked_bars a after same columns
          (bars_of_answers w Worked.job 11 used after a e (ap (λ (s : Summary). s.number) same));
    }

-- ---- by the lines of a report

-- the lines of bars are those of the regions one by one
bar_lines_lem : (region : ℕ) (states : List RegionState) (at : ℕ → RegionState) → ((k : ℕ) → at (region + k) ≡ state_at k states)
    → bar_lines region states ≡ lines_from (λ k. Report.bar_line k (at k)) region (length states)
unfolding bar_lines lines_from
bar_lines_lem region [] at h = refl
bar_lines_lem region (x ∷ xs) at h =
    let here : at region ≡ x = ap at (sym (add-zero region)) ∙ h 0 in
    rw (here, bar_lines_lem (suc region) xs at (λ k. let e : suc region + k ≡ region + suc k = omega arith in ap at e ∙ h (suc k)))

-- by the rule plus one and the ppm
abbrev line_by : ℕ → ℕ → ℕ → List ℕ
line_by k rule ppm = cond (eqb rule 0) [] (bar_line k (rule - 1) ppm)

line_drawn : (k n : ℕ) (s : RegionState) → s.bar_rule ≡ suc n → Report.bar_line k s ≡ bar_line k n s.bar_ppm
unfolding Report.bar_line
line_drawn k n s e =
    let less : suc n - 1 ≡ n = omega arith in
    ap (λ (r : ℕ). line_by k r s.bar_ppm) e ∙ rw (eqb-suc-zero n, less)

line_none : (k : ℕ) (s : RegionState) → s.bar_rule ≡ 0 → Report.bar_line k s ≡ []
unfolding Report.bar_line
line_none k s e = ap (λ (r : ℕ). line_by k r s.bar_ppm) e

module _ (j : JobText) (z : (decided (ReadResult.is j)).summary.number ≡ 0) where
  abbrev sheet_job : Job
  sheet_job = laid j

  whole_text : WholeJob sheet_job j.limit whole_space
  unfolding decided
  whole_text = whole_job sheet_job j.limit whole_space z

  -- the result is the run's
  decided_is : decided (ReadResult.is j) ≡ answered (reached sheet_job) (run_of sheet_job)
  unfolding decided
  decided_is = whole_text.run.is

  abbrev state : ℕ → RegionState
  state k = state_at k (run_of sheet_job).states

  regions_barred : (k : ℕ) → k < region_count sheet_job
      → BarFrom (sheet_of sheet_job) (rules_of sheet_job) (HasMark (decided (ReadResult.is j)).marks) k (region_at sheet_job k)
      (state k).bar_rule (state k).bar_ppm
  unfolding answered
  regions_barred k h =
      subst (λ (r : Result). BarFrom (sheet_of sheet_job) (rules_of sheet_job) (HasMark r.marks) k (region_at sheet_job k)
      (state k).bar_rule (state k).bar_ppm) (sym decided_is) (job_bars sheet_job whole_text.well_formed k h)

  lines_are : bars_text (decided (ReadResult.is j)).states
      ≡ bar_names ++ lines_from (λ k. Report.bar_line k (state k)) 0 (region_count sheet_job)
  unfolding bars_text answered
  lines_are =
      ap (λ (r : Result). bar_names ++ bar_lines 0 r.states) decided_is
      ∙ ap (λ (t : List ℕ). bar_names ++ t) (bar_lines_lem 0 (run_of sheet_job).states state (λ k. ap state (zero-add k)))
      ∙ ap (λ (n : ℕ). bar_names ++ lines_from (λ k. Report.bar_line k (state k)) 0 n) (states_length sheet_job j.limit whole_space)

  report_lines : BarLines j (read_report (ReadResult.is j))
  unfolding rules_read
  report_lines =
      record {
        line = λ k. Report.bar_line k (state k);
        is =
            report_answered (rules_of sheet_job) (decided (ReadResult.is j)) z
            ∙ ap (λ (t : List ℕ). summary_text (decided (ReadResult.is j)).summary
            ++ (marks_text (shaped_at (rules_of sheet_job)) (decided (ReadResult.is j)).marks ++ t)) lines_are;
        drawn = λ k h i o.
            let (rule, ppm) = (regions_barred k h).drawn i o in
            ((state k).bar_ppm, line_drawn k i.index (state k) rule, ppm);
        otherwise = λ k h none. line_none k (state k) ((regions_barred k h).otherwise none).0;
        from = λ k h some. barred k h some (state k).bar_rule refl;
      }
    where
      barred : (k : ℕ) → k < region_count sheet_job → (Report.bar_line k (state k) ≡ [] → ⊥) → (n : ℕ) → (state k).bar_rule ≡ n
          → (i : IndexedRule) × OriginOn j k i
      barred k h some zero e = absurd (some (line_none k (state k) e))
      barred k h some (suc n) e = let (i, same, o) = (regions_barred k h).from n e in (i, o)

-- a text that takes up bytes is whole
page_whole : (n : ℕ) (ts : List ℕ) → 0 < page_length n ts → length ts ≤ n
page_whole n ts h = by (leb (length ts) n) refl
  where
    by : (b : Bool) → leb (length ts) n ≡ b → length ts ≤ n
    by true e = leb-true _ _ e
    by false e = absurd (omega (arith, h, (text_over n ts (leb-false _ _ e)).0))

pub bars_of_reports : BarsOfReports
bars_of_reports l text before after r e some j readable same z =
    let ts = report_on text in
    let f = fits (length before) ts (page_whole (length before) ts (omega (arith, some, e.0))) in
    let whole : take r after ≡ ts = ap (λ (k : ℕ). take k after) (e.0 ∙ f.0) ∙ ap (take (length ts)) e.1 ∙ f.1 in
    subst (BarLines j) (sym (whole ∙ ap read_report ((read_exactly text j).1 (readable, same)))) (report_lines j z)
