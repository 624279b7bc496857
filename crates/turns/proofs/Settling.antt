-- The rules in turn over cleared columns, settled, are the definition's result: its answer, and its columns, which are kept only if the
-- job is answered. Assumes nothing.
use Rattle.charging.specs.declared.ChargeError.{ChargeError}
use Rattle.std.specs.Prelude.{Ok, Err}
use Prim.Native.Nat.{ℕ, ◌≤◌}
use native.Mathlib.Omega.{arith}
use mathlib.Core.Path.{◌≡◌, refl, sym, ap, subst, ◌∙◌}
use mathlib.Core.Bool.{Bool, true, false, cond}
use lib.Dec.{leb, eqb}
use lib.ListN.{length, replicate, length-replicate}
use borrow.Author.Tests.{leb-true}
use Rattle.charging.specs.declared.Counter.{Counter}
use Rattle.charging.specs.Charge.{Charged, and_then, spend}
use Rattle.model.specs.Ratio.{zero_f}
use Rattle.model.specs.Run.{Run, RegionState, untouched, run, run_from, ordered}
use Rattle.model.specs.Answer.{Summary, Result, refusal, refused, answer, answered, settled, limited}
use Rattle.model.specs.Job.{Job, Lengths, mark_space, rules_of, region_count, sheet_of, run_of}
use Rattle.model.specs.Columns.{Columns, written}
use Rattle.laws.specs.Demands.{zeros}
use Rattle.laws.proofs.Lengths.{regions_length}
use Rattle.laws.proofs.DemandOne.{written_none}
use Rattle.turns.specs.Emit.{MarkColumns, mark_columns, BarColumns, bar_columns, put_marks}
use Rattle.turns.proofs.Marks.{put_marks_zeros}
use Rattle.turns.proofs.States.{bars_of, bars_untouched, stops_none}
use Rattle.settling.specs.declared.Ran.{Ran}
use Rattle.turns.specs.Turns.{State, state_of, ran_none, Left, left_by, sheet_in, say_in, run_in}
use Rattle.turns.proofs.Laws.{Held, Carried, turns_carried}
use Rattle.turns.proofs.Saying.{says_in}
use Rattle.settling.specs.Settling.{settled_by, settled_as}
use Rattle.turns.specs.Lent.{kept_if, lent}
use Rattle.turns.proofs.Checked.{Fine}

-- ---- the answer

-- the counts are those of the run
record Counts (r : Run) (ran : Ran) : Type 0 where
  marks : ran.marks ≡ length r.marks
  deferred : ran.deferred ≡ r.deferred
  simplified : ran.simplified ≡ r.simplified

cond_summary : (b : Bool) (x y : Result) → cond b x.summary y.summary ≡ (cond b x y).summary
cond_summary true x y = refl
cond_summary false x y = refl

settled_by_lem : (space : ℕ) (r : Run) (ran : Ran) (x : Charged) → ((c : Counter) → x ≡ Ok c → Counts r ran)
    → settled_by space ran.marks ran.deferred ran.simplified x ≡ (settled space r x).summary
unfolding settled answered refused
settled_by_lem space r ran (Ok c) h =
    let k = h c refl in
    rw (k.marks, k.deferred, k.simplified)
    (cond_summary (leb (length r.marks) space) (answered c.count r) (refused (refusal 9 0 c.count (length r.marks))))
settled_by_lem space r ran (Err (ChargeError.LimitExceeded c actual)) h = refl
settled_by_lem space r ran (Err (ChargeError.CoordinateOverflow c)) h = refl

-- ---- the columns

-- the columns after the rules, kept or cleared; scratch is 0
abbrev pub kept_by : Bool → Lengths → Left → Columns
kept_by b l e =
    lent (kept_if b e.marks.regions) (kept_if b e.marks.rules) (kept_if b e.marks.kinds) (kept_if b e.marks.colours)
    (kept_if b e.marks.ppms) (kept_if b e.marks.shapes) (kept_if b e.bars.rules) (kept_if b e.bars.ppms) (replicate l.scratch zero_f)

-- the columns keep their lengths
pub record Long (l : Lengths) (e : Left) : Type 0 where
  pub regions : length e.marks.regions ≡ l.regions
  pub rules : length e.marks.rules ≡ l.rules
  pub kinds : length e.marks.kinds ≡ l.kinds
  pub colours : length e.marks.colours ≡ l.colours
  pub ppms : length e.marks.ppms ≡ l.ppms
  pub shapes : length e.marks.shapes ≡ l.shapes
  pub bar_rules : length e.bars.rules ≡ l.bar_rules
  pub bar_ppms : length e.bars.ppms ≡ l.bar_ppms

kept_none : (l : Lengths) (e : Left) → Long l e → kept_by false l e ≡ zeros l
unfolding zeros
kept_none l e h = λ i.
    record {
      regions = replicate (h.regions i) 0;
      rules = replicate (h.rules i) 0;
      kinds = replicate (h.kinds i) 0;
      colours = replicate (h.colours i) 0;
      ppms = replicate (h.ppms i) 0;
      shapes = replicate (h.shapes i) 0;
      bar_rules = replicate (h.bar_rules i) 0;
      bar_ppms = replicate (h.bar_ppms i) 0;
      scratch = replicate l.scratch zero_f;
    }

-- cleared mark columns
abbrev pub clear_marks : Lengths → MarkColumns
clear_marks l =
    mark_columns (replicate l.regions 0) (replicate l.rules 0) (replicate l.kinds 0) (replicate l.colours 0)
    (replicate l.ppms 0) (replicate l.shapes 0)

abbrev pub clear_bars : Lengths → BarColumns
clear_bars l = bar_columns (replicate l.bar_rules 0) (replicate l.bar_ppms 0)

-- marks and bars that fit
record Filled (l : Lengths) (r : Run) (e : Left) : Type 0 where
  marks : e.marks ≡ put_marks (clear_marks l) 0 r.marks
  bars : e.bars ≡ bars_of l.bar_rules l.bar_ppms r.states

kept_whole : (l : Lengths) (e : Left) (r : Run) (n : ℕ) → Filled l r e → length r.marks ≤ mark_space l
    → kept_by true l e ≡ written (answered n r) l
unfolding written answered mark_space
kept_whole l e r n f h =
    let m =
    f.marks ∙ put_marks_zeros l.regions l.rules l.kinds l.colours l.ppms l.shapes r.marks
    (omega arith) (omega arith) (omega arith) (omega arith) (omega arith) (omega arith)
    in
    λ i.
    record {
      regions = (m i).regions;
      rules = (m i).rules;
      kinds = (m i).kinds;
      colours = (m i).colours;
      ppms = (m i).ppms;
      shapes = (m i).shapes;
      bar_rules = (f.bars i).rules;
      bar_ppms = (f.bars i).ppms;
      scratch = replicate l.scratch zero_f;
    }

kept_by_lem : (l : Lengths) (e : Left) (r : Run) (x : Charged) → Long l e → ((c : Counter) → x ≡ Ok c → Filled l r e)
    → kept_by (eqb (settled (mark_space l) r x).summary.number 0) l e ≡ written (settled (mark_space l) r x) l
unfolding settled answered answer refused refusal
kept_by_lem l e r (Ok c) long h = go (leb (length r.marks) (mark_space l)) refl
  where
    by : Bool → Result
    by b = cond b (answered c.count r) (refused (refusal 9 0 c.count (length r.marks)))

    go : (b : Bool) → leb (length r.marks) (mark_space l) ≡ b → kept_by (eqb (by b).summary.number 0) l e ≡ written (by b) l
    go true fits = kept_whole l e r c.count (h c refl) (leb-true _ _ fits)
    go false over = kept_none l e long ∙ sym (written_none (refusal 9 0 c.count (length r.marks)) l)
kept_by_lem l e r (Err (ChargeError.LimitExceeded c actual)) long h = kept_none l e long ∙ sym (written_none (refusal 7 0 c.count actual) l)
kept_by_lem l e r (Err (ChargeError.CoordinateOverflow c)) long h = kept_none l e long ∙ sym (written_none (refusal 8 0 c.count 0) l)

-- ---- the job

module _ (j : Job) (limit : ℕ) (l : Lengths) (f : Fine j l) where
  abbrev begun : State
  begun = state_of (ran_none j.start) (replicate 1024 0) (clear_marks l) (clear_bars l)

  abbrev pub ended : State
  ended =
      run_in (sheet_in j.cells j.region_rows j.region_cols j.pool j.name) limit j.region_rows j.region_cols j.rules
      j.start (clear_marks l) (clear_bars l)

  held : Held (region_count j) l.bar_rules l.bar_ppms (replicate (region_count j) untouched) begun
  held =
      let rules = bars_untouched (λ (s : RegionState). s.bar_rule) refl l.bar_rules (region_count j) f.bar_rules in
      let ppms = bars_untouched (λ (s : RegionState). s.bar_ppm) refl l.bar_ppms (region_count j) f.bar_ppms in
      record {
        stopped = stops_none 1024 (region_count j);
        flags = omega (arith, length-replicate {A = ℕ} 1024 0, f.regions);
        bars = λ i. bar_columns (sym rules i) (sym ppms i);
      }

  carried : Carried limit l.bar_rules l.bar_ppms (run_of j) begun ended
  unfolding run_of run sheet_of rules_of
  carried =
      let s = sheet_of j in
      subst (λ (n : ℕ). Carried limit l.bar_rules l.bar_ppms (run_from s (ordered (rules_of j)) (replicate n untouched)) begun ended)
      (sym (regions_length j.region_rows j.region_cols 0 (region_count j)))
      (turns_carried s limit (region_count j) l.bar_rules l.bar_ppms
      (say_in s limit j.region_rows j.region_cols) (says_in j limit)
      f.bar_rules f.bar_ppms (ordered (rules_of j)) (replicate (region_count j) untouched) begun held)

  spent : ended.ran.charged ≡ spend limit j.start (run_of j).charges
  unfolding and_then
  spent = carried.charged

  counts : (c : Counter) → ended.ran.charged ≡ Ok c → Counts (run_of j) ended.ran
  counts c e =
      let w = carried.written c e in
      record { marks = omega (arith, w.count); deferred = omega (arith, w.deferred); simplified = omega (arith, w.simplified) }

  filled : (c : Counter) → ended.ran.charged ≡ Ok c → Filled l (run_of j) (left_by ended)
  filled c e = let w = carried.written c e in record { marks = w.marks; bars = w.bars }

  pub settled_as_lem : settled_as (mark_space l) ended.ran ≡ (limited limit j.start (mark_space l) (run_of j)).summary
  unfolding limited
  settled_as_lem =
      settled_by_lem (mark_space l) (run_of j) ended.ran ended.ran.charged counts
      ∙ ap (λ (x : Charged). (settled (mark_space l) (run_of j) x).summary) spent

  pub columns_as : Long l (left_by ended)
      → kept_by (eqb (settled_as (mark_space l) ended.ran).number 0) l (left_by ended) ≡ written (limited limit j.start (mark_space l)
      (run_of j)) l
  unfolding limited
  columns_as long =
      ap (λ (s : Summary). kept_by (eqb s.number 0) l (left_by ended))
      (settled_by_lem (mark_space l) (run_of j) ended.ran ended.ran.charged counts)
      ∙ kept_by_lem l (left_by ended) (run_of j) ended.ran.charged long filled
      ∙ ap (λ (x : Charged). written (settled (mark_space l) (run_of j) x) l) spent
