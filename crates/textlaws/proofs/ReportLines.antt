-- The lines of a report: 2 for a refusal; 4 for an answer, and one for each mark and each bar. A colour is written as in a job text.
-- Assumes nothing.
use Prim.Native.Nat.{ℕ, suc, ◌+◌, ◌-◌, ◌<◌}
use native.Mathlib.Omega.{arith}
use mathlib.Core.Path.{◌≡◌, refl, ap}
use mathlib.Core.Bool.{Bool, true, false, cond}
use mathlib.Core.List.{List, [], ◌∷◌, ◌++◌}
use lib.Dec.{eqb}
use lib.ListN.{length}
use borrow.Author.Tests.{eq-eqb, ne_eqb}
use Rattle.model.specs.declared.Paint.{Paint}
use Rattle.model.specs.declared.Rgb.{Rgb}
use Rattle.model.specs.declared.Rule.{Rule}
use Rattle.model.specs.Ratio.{bar_cells, packed}
use Rattle.model.specs.Run.{Mark, RegionState, has_bar}
use Rattle.model.specs.Answer.{Summary, Result}
use Rattle.grammar.specs.Gram.{line_feeds}
use Rattle.grammar.specs.Parts.{bytes, times_text}
use Rattle.grammar.specs.Numbers.{decimal_text, hex_digits}
use Rattle.grammar.proofs.Feeds.{feeds_append, feeds_behind}
use Rattle.grammar.proofs.NumberFeeds.{digits_feeds, hex_digits_feeds}
use Rattle.jobtext.specs.Fields.{colour}
use Rattle.reporttext.specs.Report as Report
use Rattle.reporttext.specs.Report.{
  number,
  or_dash,
  summary_names,
  summary_line,
  mark_names,
  has_colour,
  paint_text,
  mark_line,
  bar_names,
  bar_line,
  bar_lines,
  bar_count,
  summary_text,
  marks_text,
  bars_text,
  report_of,
}
use Rattle.reporttext.proofs.Colours.{colour_parts}

-- ---- line feeds

-- a field has those of the byte that ends it

number_feeds : (end n : ℕ) → line_feeds (number end n) ≡ line_feeds (end ∷ [])
number_feeds end n = feeds_behind (decimal_text n) (end ∷ []) (digits_feeds 19 n) refl

colour_feeds : (end c : ℕ) → line_feeds (Report.colour end c) ≡ line_feeds (end ∷ [])
colour_feeds end c = feeds_behind (hex_digits 6 c) (end ∷ []) (hex_digits_feeds 6 c) refl

dash_feeds : (there : Bool) (end : ℕ) (text : List ℕ) → line_feeds text ≡ line_feeds (end ∷ [])
    → line_feeds (or_dash there end text) ≡ line_feeds (end ∷ [])
unfolding line_feeds
dash_feeds true end text h = h
dash_feeds false end text h = refl

-- ---- lines

summary_feeds : (s : Summary) → line_feeds (summary_text s) ≡ 2
unfolding line_feeds summary_text summary_names summary_line bytes
summary_feeds s = simp (feeds_append, digits_feeds)

paint_feeds : (shaped : Bool) (p : Paint) → line_feeds (paint_text shaped p) ≡ 1
unfolding line_feeds paint_text
paint_feeds shaped p =
    let c = dash_feeds (has_colour p) 32 (Report.colour 32 p.colour) (colour_feeds 32 p.colour) in
    let b = dash_feeds (has_bar p) 32 (number 32 p.ppm) (number_feeds 32 p.ppm) in
    let e = dash_feeds (has_bar p) 32 (number 32 (bar_cells p.ppm)) (number_feeds 32 (bar_cells p.ppm)) in
    let s = dash_feeds shaped 10 (number 10 p.shape) (number_feeds 10 p.shape) in
    simp (feeds_append, digits_feeds, c, b, e, s)

module _ (shaped : ℕ → Bool) where
  mark_feeds : (m : Mark) → line_feeds (mark_line shaped m) ≡ 1
  unfolding line_feeds mark_line
  mark_feeds m = simp (feeds_append, digits_feeds, paint_feeds)

  marks_feeds : (ms : List Mark) → line_feeds (times_text (mark_line shaped) ms) ≡ length ms
  unfolding line_feeds times_text
  marks_feeds [] = refl
  marks_feeds (m ∷ ms) = simp (feeds_append, mark_feeds, marks_feeds ms) (omega arith)

bars_feeds : (region : ℕ) (states : List RegionState) → line_feeds (bar_lines region states) ≡ bar_count states
unfolding line_feeds bar_lines bar_line bar_count
bars_feeds region [] = refl
bars_feeds region (s ∷ states) = go (eqb s.bar_rule 0) (bar_lines (suc region) states) (bar_count states) (bars_feeds (suc region) states)
  where
    go : (bare : Bool) (rest : List ℕ) (n : ℕ) → line_feeds rest ≡ n
        → line_feeds (cond bare [] (number 32 region ++ (number 32 (s.bar_rule - 1) ++ number 10 s.bar_ppm)) ++ rest)
        ≡ cond bare n (suc n)
    go true rest n h = h
    go false rest n h = simp (feeds_append, digits_feeds, h) (omega arith)

-- ---- the report

module _ (rules : List Rule) (r : Result) where
  pub refusal_lines : (r.summary.number ≡ 0 → ⊥) → line_feeds (report_of rules r) ≡ 2
  unfolding line_feeds report_of
  refusal_lines h = rw (ne_eqb r.summary.number 0 h) (simp (feeds_append, summary_feeds))

  pub answer_lines : r.summary.number ≡ 0 → line_feeds (report_of rules r) ≡ 4 + length r.marks + bar_count r.states
  unfolding line_feeds report_of marks_text mark_names bars_text bar_names bytes
  answer_lines h =
      rw (eq-eqb r.summary.number 0 h) (simp (feeds_append, summary_feeds, marks_feeds, bars_feeds) (omega arith))

-- ---- colours

pub colour_as_in_jobs : (end : ℕ) (c : Rgb) → c.red < 256 → c.green < 256 → c.blue < 256
    → Report.colour end (packed c) ≡ (colour (end ∷ [])).text c
unfolding colour
colour_as_in_jobs end c r g b = ap (λ (l : List ℕ). l ++ (end ∷ [])) (colour_parts c g b)
