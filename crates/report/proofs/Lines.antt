-- The lines that are left to print, one line a turn: of the marks, and of the regions' bars.
-- Assumes nothing.
use Prim.Native.Nat.{ℕ, suc, ◌+◌, ◌-◌, ◌≤◌, ◌<◌}
use native.Mathlib.Numerals.{add-one}
use native.Mathlib.Omega.{arith}
use mathlib.Core.Path.{◌≡◌}
use mathlib.Core.Bool.{Bool}
use mathlib.Core.List.{List, [], ◌++◌}
use lib.ListN.{length}
use borrow.Author.Tests.{eq-eqb, ne_eqb}
use Rattle.grammar.specs.Parts.{space, line_feed, times_text}
use Rattle.put.specs.declared.Cursor.{Cursor}
use Rattle.put.specs.Put.{last, Puts}
use Rattle.put.proofs.Laws.{PutsLeft, puts_more}
use Rattle.reporttext.specs.Report.{number, mark_line, bar_line, bar_lines}
use Rattle.reporttext.specs.Shown.{mark_in, marks_in, bar_of, bar_in, bars_in}

-- ---- marks

-- the lines from mark i on, of n
module _ (shaped : ℕ → Bool) (regions rules kinds colours ppms shapes : List ℕ) where
  unfoldable pub marks_from : ℕ → ℕ → List ℕ
  marks_from n i = times_text (mark_line shaped) (marks_in regions rules kinds colours ppms shapes i (n - i))

  pub marks_all : (n : ℕ) → marks_from n 0 ≡ times_text (mark_line shaped) (marks_in regions rules kinds colours ppms shapes 0 n)
  unfolding marks_from
  marks_all n = let e : n - 0 ≡ n = omega arith in rw e

  marks_next : (n i : ℕ) → i < n
      → marks_from n i ≡ mark_line shaped (mark_in regions rules kinds colours ppms shapes i) ++ marks_from n (i + 1)
  unfolding marks_from marks_in times_text
  marks_next n i h = let e : n - i ≡ suc (n - suc i) = omega arith in rw (add-one, e)

  -- a line more
  pub marks_more : {c d e : Cursor} (n i : ℕ) → length c.bytes.now < last → i < n → PutsLeft c (marks_from n 0) d (marks_from n i)
      → Puts d (mark_line shaped (mark_in regions rules kinds colours ppms shapes i)) e → PutsLeft c (marks_from n 0) e (marks_from n (i + 1))
  marks_more n i room h l a = puts_more room l (marks_next n i h) a

  pub marks_none : (n i : ℕ) → n ≤ i → marks_from n i ≡ []
  unfolding marks_from marks_in times_text
  marks_none n i h = let e : n - i ≡ 0 = omega arith in rw e

-- ---- bars

module _ (region rule ppm : ℕ) where
  pub bar_none : rule ≡ 0 → bar_line region (bar_of rule ppm) ≡ []
  unfolding bar_line
  bar_none e = rw (eq-eqb rule 0 e)

  pub bar_some : 0 < rule
      → bar_line region (bar_of rule ppm) ≡ number space region ++ (number space (rule - 1) ++ number line_feed ppm)
  unfolding bar_line
  bar_some h = rw (ne_eqb rule 0 (λ e. omega arith))

-- the lines from region i on, of n
module _ (rules ppms : List ℕ) where
  unfoldable pub bars_from : ℕ → ℕ → List ℕ
  bars_from n i = bar_lines i (bars_in rules ppms i (n - i))

  pub bars_all : (n : ℕ) → bars_from n 0 ≡ bar_lines 0 (bars_in rules ppms 0 n)
  unfolding bars_from
  bars_all n = let e : n - 0 ≡ n = omega arith in rw e

  bars_next : (n i : ℕ) → i < n → bars_from n i ≡ bar_line i (bar_in rules ppms i) ++ bars_from n (i + 1)
  unfolding bars_from bars_in bar_lines
  bars_next n i h = let e : n - i ≡ suc (n - suc i) = omega arith in rw (add-one, e)

  -- a line more
  pub bars_more : {c d e : Cursor} (n i : ℕ) → length c.bytes.now < last → i < n → PutsLeft c (bars_from n 0) d (bars_from n i)
      → Puts d (bar_line i (bar_in rules ppms i)) e → PutsLeft c (bars_from n 0) e (bars_from n (i + 1))
  bars_more n i room h l a = puts_more room l (bars_next n i h) a

  pub bars_none : (n i : ℕ) → n ≤ i → bars_from n i ≡ []
  unfolding bars_from bars_in bar_lines
  bars_none n i h = let e : n - i ≡ 0 = omega arith in rw e
