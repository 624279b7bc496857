-- The columns of a result hold its report: what is printed from an answer and the columns that come with it is the result's own report.
-- Assumes nothing.
use Prim.Native.Nat.{ℕ, zero, suc, ◌+◌}
use native.Mathlib.Omega.{arith}
use mathlib.Core.Path.{◌≡◌, refl, sym, ap, ◌∙◌}
use mathlib.Core.Logic.{◌⊎◌, inl, inr}
use mathlib.Core.Bool.{Bool, true, false}
use mathlib.Core.List.{List, [], ◌∷◌, ◌++◌, map, append-nil}
use lib.Dec.{eqb}
use lib.ListN.{length, get_or, replicate, length-append, length-map, length-replicate}
use borrow.Author.Tests.{eqb-true, eqb-false, eq-eqb, ne_eqb}
use Rattle.model.specs.declared.Rule.{Rule}
use Rattle.model.specs.Run.{Mark, RegionState}
use Rattle.model.specs.Answer.{Result, answer, answered, refused}
use Rattle.model.specs.Job.{Job, Lengths, rules_of, result}
use Rattle.model.specs.Columns.{column, written, columns_of}
use Rattle.laws.proofs.Results.{WholeJob, Refused, result_is}
use Rattle.reporttext.specs.Report.{bar_line, bar_lines, summary_text, marks_text, bars_text, shaped_at, report_of}
use Rattle.reporttext.specs.Reports.{job_report}
use Rattle.reporttext.specs.Shown.{mark_in, marks_in, bar_in, bars_in, result_in}

-- ---- the two forms of a report

pub report_refused : (rules : List Rule) (r : Result) → (r.summary.number ≡ 0 → ⊥) → report_of rules r ≡ summary_text r.summary
unfolding report_of
report_refused rules r h = rw (ne_eqb r.summary.number 0 h, append-nil)

pub report_answered : (rules : List Rule) (r : Result) → r.summary.number ≡ 0
    → report_of rules r ≡ summary_text r.summary ++ (marks_text (shaped_at rules) r.marks ++ bars_text r.states)
unfolding report_of
report_answered rules r e = rw (eq-eqb r.summary.number 0 e)

-- ---- marks

marks_shift : (a b c d e f : ℕ) (ps qs xs ys zs ws : List ℕ) (i n : ℕ)
    → marks_in (a ∷ ps) (b ∷ qs) (c ∷ xs) (d ∷ ys) (e ∷ zs) (f ∷ ws) (suc i) n ≡ marks_in ps qs xs ys zs ws i n
unfolding marks_in
marks_shift a b c d e f ps qs xs ys zs ws i zero = refl
marks_shift a b c d e f ps qs xs ys zs ws i (suc n) =
    ap (λ (l : List Mark). mark_in ps qs xs ys zs ws i ∷ l) (marks_shift a b c d e f ps qs xs ys zs ws (suc i) n)

-- the marks that were written are held, whatever stands behind them
pub marks_held : (ms : List Mark) (ps qs xs ys zs ws : List ℕ)
    → marks_in (map (λ (m : Mark). m.region) ms ++ ps) (map (λ (m : Mark). m.rule) ms ++ qs)
    (map (λ (m : Mark). m.paint.kind) ms ++ xs) (map (λ (m : Mark). m.paint.colour) ms ++ ys)
    (map (λ (m : Mark). m.paint.ppm) ms ++ zs) (map (λ (m : Mark). m.paint.shape) ms ++ ws) 0 (length ms)
    ≡ ms
unfolding marks_in
marks_held [] ps qs xs ys zs ws = refl
marks_held (m ∷ ms) ps qs xs ys zs ws =
    ap (λ (l : List Mark). m ∷ l) (
    marks_shift m.region m.rule m.paint.kind m.paint.colour m.paint.ppm m.paint.shape
    (map (λ (n : Mark). n.region) ms ++ ps) (map (λ (n : Mark). n.rule) ms ++ qs) (map (λ (n : Mark). n.paint.kind) ms ++ xs)
    (map (λ (n : Mark). n.paint.colour) ms ++ ys) (map (λ (n : Mark). n.paint.ppm) ms ++ zs)
    (map (λ (n : Mark). n.paint.shape) ms ++ ws) 0 (length ms)
    ∙ marks_held ms ps qs xs ys zs ws)

-- ---- bars

bars_shift : (a b : ℕ) (ps qs : List ℕ) (i n : ℕ) → bars_in (a ∷ ps) (b ∷ qs) (suc i) n ≡ bars_in ps qs i n
unfolding bars_in
bars_shift a b ps qs i zero = refl
bars_shift a b ps qs i (suc n) = ap (λ (l : List RegionState). bar_in ps qs i ∷ l) (bars_shift a b ps qs (suc i) n)

zeros_at : (k j : ℕ) → ◌≡◌ {A = ℕ} (get_or (replicate k 0) j 0) 0
zeros_at zero j = refl
zeros_at (suc k) zero = refl
zeros_at (suc k) (suc j) = zeros_at k j

-- no bar, no line
bars_blank : (g i n : ℕ) (ps qs : List ℕ) → ((j : ℕ) → get_or ps j 0 ≡ 0) → bar_lines g (bars_in ps qs i n) ≡ []
unfolding bar_lines bar_line bars_in
bars_blank g i zero ps qs h = refl
bars_blank g i (suc n) ps qs h = rw (eq-eqb (get_or ps i 0) 0 (h i)) (bars_blank (suc g) (suc i) n ps qs h)

pub bars_held : (g k : ℕ) (ss : List RegionState) (qs : List ℕ)
    → bar_lines g (bars_in (map (λ (s : RegionState). s.bar_rule) ss ++ replicate k 0) (map (λ (s : RegionState). s.bar_ppm) ss ++ qs) 0
    (length ss + k))
    ≡ bar_lines g ss
unfolding bar_lines bar_line bars_in
bars_held g k [] qs = let e : 0 + k ≡ k = omega arith in rw e (bars_blank g 0 k (replicate k 0) qs (zeros_at k))
bars_held g k (s ∷ ss) qs =
    let e : suc (length ss) + k ≡ suc (length ss + k) = omega arith in
    rw e
    (ap (λ (l : List ℕ). bar_line g s ++ l) (
    ap (bar_lines (suc g)) (
    bars_shift s.bar_rule s.bar_ppm (map (λ (t : RegionState). t.bar_rule) ss ++ replicate k 0)
    (map (λ (t : RegionState). t.bar_ppm) ss ++ qs) 0 (length ss + k))
    ∙ bars_held (suc g) k ss qs))

-- ---- the law

-- an answer says how many marks it has
pub record Counted (r : Result) : Type 0 where
  pub marks : r.summary.number ≡ 0 → r.summary.marks ≡ length r.marks

module _ (rules : List Rule) (r : Result) (l : Lengths) (counted : Counted r) where
  marks_same : r.summary.number ≡ 0
      → marks_text (shaped_at rules) (result_in r.summary (written r l)).marks ≡ marks_text (shaped_at rules) r.marks
  unfolding result_in written column
  marks_same e = rw (counted.marks e, marks_held)

  bars_same : bars_text (result_in r.summary (written r l)).states ≡ bars_text r.states
  unfolding result_in written column bars_text
  bars_same = rw (length-append, length-map, length-replicate, bars_held)

  -- what is printed from the columns of a result is its report
  pub report_held : report_of rules (result_in r.summary (written r l)) ≡ report_of rules r
  unfolding result_in
  report_held = go (eqb r.summary.number 0) refl
    where
      go : (x : Bool) → eqb r.summary.number 0 ≡ x → report_of rules (result_in r.summary (written r l)) ≡ report_of rules r
      go true e =
          let h = eqb-true _ _ e in
          report_answered rules (result_in r.summary (written r l)) h
          ∙ ap (λ (t : List ℕ). summary_text r.summary ++ t) (rw (marks_same h, bars_same))
          ∙ sym (report_answered rules r h)
      go false e =
          let h = eqb-false _ _ e in
          report_refused rules (result_in r.summary (written r l)) h ∙ sym (report_refused rules r h)

-- ---- of every job

module _ (j : Job) (limit : ℕ) (l : Lengths) where
  counted_whole : WholeJob j limit l → Counted (result j limit l)
  unfolding answered answer
  counted_whole w = record { marks = λ e. rw w.run.is }

  counted_refused : Refused (result j limit l) → Counted (result j limit l)
  unfolding refused
  counted_refused w = record { marks = λ e. absurd (w.number (sym (ap (λ (x : Result). x.summary.number) w.is) ∙ e)) }

  pub result_counted : Counted (result j limit l)
  result_counted = go (result_is j limit l)
    where
      go : WholeJob j limit l ⊎ Refused (result j limit l) → Counted (result j limit l)
      go (inl w) = counted_whole w
      go (inr w) = counted_refused w

  -- what is printed from a job's answer and columns is the report of its result
  pub job_report_lem : report_of (rules_of j) (result_in (result j limit l).summary (columns_of j limit l)) ≡ job_report j limit l
  unfolding columns_of
  job_report_lem = report_held (rules_of j) (result j limit l) l result_counted
