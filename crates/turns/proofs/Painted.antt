-- The marks, the bars and the stop flags of outcomes are those of the regions that they paint, each mark by the test and the number of
-- the region's cell. Assumes nothing.
use Rattle.std.specs.Prelude.{Some, None}
use Prim.Native.Nat.{ℕ, zero, suc, ◌+◌, ◌≤◌, ◌<◌}
use mathlib.Core.Path.{◌≡◌, refl}
use mathlib.Core.Bool.{Bool, true, false, cond, not, ◌&&◌}
use mathlib.Core.List.{List, [], ◌∷◌, map}
use native.Mathlib.Nat.{zero-add}
use native.Mathlib.Omega.{arith}
use lib.Dec.{leb, eqb}
use lib.Ieee.{Float, nan, le, eq}
use lib.ListN.{length, get_or, set}
use Rattle.model.specs.declared.Normalized.{Normalized}
use Rattle.model.specs.declared.Outcome.{Outcome}
use Rattle.model.specs.declared.Paint.{Paint}
use Rattle.model.specs.Options.{Reading}
use Rattle.model.specs.declared.Rgb.{Rgb}
use Rattle.model.specs.declared.Rule.{Rule}
use Rattle.model.specs.declared.Test.{Test}
use Rattle.model.specs.Ratio.{ratio, shape_number, interpolate_rgb, packed}
use Rattle.model.specs.Sheet.{Sheet, in_range}
use Rattle.model.specs.Rule.{filled, scaled, barred, filled_if, on_value, on_operand, on_second, verdict}
use Rattle.model.specs.Run.{outcome, has_bar, marks_from}
use Rattle.cells.specs.Columns.{coordinate_at}
use Rattle.plans.specs.Plans.{is_bar_test}
use Rattle.hits.specs.Verdict.{cell_is, by_number, duplicate_values, expression, verdict_on}
use Rattle.hits.specs.Said.{reading_of}
use Rattle.hits.specs.Hits.{Known, verdict_by, hits_from}
use Rattle.hits.specs.Painted.{kind_by, colour_by, ppm_by, shape_by, paint_by}
use Rattle.turns.specs.Step.{flagged, outcomes_from}
use Rattle.turns.specs.Emit.{BarColumns, bar_columns, draw_bar, draw_bars, draw_hit, draw_hits, hit_mark, stop_at, stops, stop_hits, Paints}
use Rattle.turns.specs.Knowing.{Knows}
use Rattle.turns.proofs.Known.{verdict_known}

-- ---- what a painted region gets

-- an outcome that paints, if it does, so
abbrev Only : Paint → Outcome → Type 0
Only p o = (q : Paint) → o ≡ Outcome.Painted q → q ≡ p

passed_only : {p : Paint} → Only p Outcome.Passed
passed_only q e = cc

unresolved_only : {p : Paint} → Only p Outcome.Unresolved
unresolved_only q e = cc

abbrev fill_of : Bool → ℕ → Rgb → Paint
fill_of imported shape fill = record { kind = cond imported 2 1; colour = cond imported 0 (packed fill); ppm = 0; shape = shape }

fill_only : (imported : Bool) (shape : ℕ) (fill : Rgb) → Only (fill_of imported shape fill) (filled imported shape fill)
unfolding filled
fill_only true shape fill q e = cc
fill_only false shape fill q e = cc

fill_if_only : (met imported : Bool) (fill : Rgb) → Only (fill_of imported 0 fill) (filled_if met imported fill)
unfolding filled_if
fill_if_only true imported fill = fill_only imported 0 fill
fill_if_only false imported fill = passed_only

scale_only : (imported : Bool) (start end : Rgb) (n : Normalized)
    → Only (fill_of imported (shape_number n.shape) (interpolate_rgb start end n.ppm)) (scaled imported 0 start end n)
unfolding scaled
scale_only imported start end n = rw zero-add (fill_only imported _ _)

-- whichever half of a scale is used
halves_only : (lower imported : Bool) (first middle last : Rgb) (m n : Normalized)
    → Only (fill_of imported (cond lower (shape_number m.shape) (3 + shape_number n.shape))
    (cond lower (interpolate_rgb first middle m.ppm) (interpolate_rgb middle last n.ppm)))
    (cond lower (scaled imported 0 first middle m) (scaled imported 3 middle last n))
unfolding scaled
halves_only true imported first middle last m n = scale_only imported first middle m
halves_only false imported first middle last m n = fill_only imported _ _

value_only : {p : Paint} (x : Float) (say : Float → Outcome) → Only p (say x) → Only p (on_value (reading_of x) say)
unfolding reading_of on_value
value_only {p} x say only = go (eq x x)
  where
    go : (number : Bool) → Only p (on_value (cond number (Some x) None) say)
    go true = only
    go false = passed_only

operand_only : {p : Paint} (v : Reading) (say : Float → Outcome) → ((x : Float) → Only p (say x)) → Only p (on_operand v say)
unfolding on_operand
operand_only (Some x) say only = only x
operand_only None say only = unresolved_only

second_only : {p : Paint} (uses : Bool) (v : Reading) (say : Reading → Outcome) → ((w : Reading) → Only p (say w))
    → Only p (on_second uses v say)
unfolding on_second
second_only true (Some y) say only = only (Some y)
second_only true None say only = unresolved_only
second_only false v say only = only None

verdict_only : (t : Test) (imported : Bool) (x : Float) (a b : Reading) (found : ℕ)
    → Only (paint_by t imported x) (verdict_on t imported (reading_of x) a b found)
unfolding verdict_on cell_is by_number duplicate_values expression barred kind_by colour_by ppm_by shape_by ratio
verdict_only (Test.CellIs op first second fill) imported x a b found =
    value_only x _ (operand_only a _ (λ y. second_only _ b _ (λ z. fill_if_only _ imported fill)))
verdict_only (Test.ColorScale2 min max low high) imported x a b found = value_only x _ (scale_only imported _ _ _)
verdict_only (Test.ColorScale3 min mid max low middle high) imported x a b found = value_only x _ (halves_only (le x middle) imported _ _ _ _ _)
verdict_only (Test.DataBar color low high) imported x a b found = value_only x _ (λ q e. cc)
verdict_only (Test.TopBottom bottom bound fill) imported x a b found = value_only x _ (fill_if_only _ imported fill)
verdict_only (Test.AboveAverage below bound fill) imported x a b found = value_only x _ (fill_if_only _ imported fill)
verdict_only (Test.DuplicateValues unique fill) imported x a b found = fill_if_only _ imported fill
verdict_only (Test.Expression op left right fill) imported x a b found =
    operand_only a _ (λ y. operand_only b _ (λ z. fill_if_only _ imported fill))

pub painted_by : (k : Known) (t : Test) (imported : Bool) (i : ℕ) (p : Paint) → verdict_by k t imported i ≡ Outcome.Painted p
    → p ≡ paint_by t imported (get_or k.values i nan)
unfolding verdict_by
painted_by k t imported i = verdict_only t imported (get_or k.values i nan) _ _ _

-- ---- marks and bars

fill_kind : (imported : Bool) → leb 3 (cond imported 2 1) ≡ false
fill_kind true = refl
fill_kind false = refl

bar_kind : (imported : Bool) → leb 3 (cond imported 4 3) ≡ true
bar_kind true = refl
bar_kind false = refl

has_bar_lem : (t : Test) (imported : Bool) (x : Float) → has_bar (paint_by t imported x) ≡ is_bar_test t
unfolding has_bar kind_by is_bar_test
has_bar_lem (Test.CellIs op first second fill) imported x = fill_kind imported
has_bar_lem (Test.ColorScale2 min max low high) imported x = fill_kind imported
has_bar_lem (Test.ColorScale3 min mid max low middle high) imported x = fill_kind imported
has_bar_lem (Test.DataBar color low high) imported x = bar_kind imported
has_bar_lem (Test.TopBottom bottom bound fill) imported x = fill_kind imported
has_bar_lem (Test.AboveAverage below bound fill) imported x = fill_kind imported
has_bar_lem (Test.DuplicateValues unique fill) imported x = fill_kind imported
has_bar_lem (Test.Expression op left right fill) imported x = fill_kind imported

module _ (t : Test) (imported : Bool) (values : List Float) (rule : ℕ) where
  abbrev hit_ppm : ℕ → ℕ
  hit_ppm h = ppm_by t (get_or values h nan)

  abbrev MarksFrom : ℕ → List Outcome → Type 0
  MarksFrom i os = marks_from rule i os ≡ map (hit_mark t imported values rule) (hits_from i os)

  abbrev BarsFrom : ℕ → List Outcome → Type 0
  BarsFrom i os = (c : BarColumns) → draw_bars rule i os c ≡ cond (is_bar_test t) (draw_hits rule hit_ppm (hits_from i os) c) c

  bars_none : (i : ℕ) → BarsFrom i []
  unfolding draw_bars draw_hits hits_from
  bars_none i c = go (is_bar_test t)
    where
      go : (bar : Bool) → c ≡ cond bar c c
      go true = refl
      go false = refl

  module _ (i : ℕ) where
    marks_onward : (o : Outcome) (os : List Outcome) → Only (paint_by t imported (get_or values i nan)) o → MarksFrom (suc i) os
        → MarksFrom i (o ∷ os)
    unfolding marks_from hits_from
    marks_onward Outcome.Stopped os only later = later
    marks_onward Outcome.Passed os only later = later
    marks_onward Outcome.Unresolved os only later = later
    marks_onward (Outcome.Painted p) os only later = rw (only p refl, later)

    bars_onward : (o : Outcome) (os : List Outcome) → Only (paint_by t imported (get_or values i nan)) o → BarsFrom (suc i) os
        → BarsFrom i (o ∷ os)
    unfolding draw_bars draw_bar draw_hits hits_from
    bars_onward Outcome.Stopped os only later c = later c
    bars_onward Outcome.Passed os only later c = later c
    bars_onward Outcome.Unresolved os only later c = later c
    bars_onward (Outcome.Painted p) os only later c =
        rw (only p refl, has_bar_lem t imported (get_or values i nan), later) (go (is_bar_test t))
      where
        drawn : Bool → BarColumns
        drawn bar = cond (bar && eqb (get_or c.rules i 0) 0) (bar_columns (set c.rules i (suc rule)) (set c.ppms i (hit_ppm i))) c

        go : (bar : Bool) → cond bar (draw_hits rule hit_ppm (hits_from (suc i) os) (drawn bar)) (drawn bar)
            ≡ cond bar (draw_hits rule hit_ppm (hits_from (suc i) os) (draw_hit rule (hit_ppm i) i c)) c
        go true = refl
        go false = refl

module _ (s : Sheet) (r : Rule) (t : Test) (rows cols flags : List ℕ) (k : Known) (knows : Knows s r.range t rows cols k) where
  abbrev outcomes_at : ℕ → ℕ → List Outcome
  outcomes_at i n = outcomes_from s r t rows cols flags i n

  outcome_only : (i : ℕ) → i < length rows → Only (paint_by t r.imported (get_or k.values i nan))
      (outcome s r t (coordinate_at rows cols i) (flagged (get_or flags i 0)))
  unfolding outcome
  outcome_only i h = go (not (eqb (get_or flags i 0) 0)) _ refl
    where
      go : (stopped within : Bool) → in_range r.range (coordinate_at rows cols i) ≡ within
          → Only (paint_by t r.imported (get_or k.values i nan))
          (cond stopped Outcome.Stopped (cond within (verdict s r (coordinate_at rows cols i) t) Outcome.Passed))
      go true within e = λ q g. cc
      go false true e = rw (← verdict_known s r t rows cols flags k knows i h e) (painted_by k t r.imported i)
      go false false e = passed_only

  marks_from_lem : (rule i n : ℕ) → i + n ≤ length rows → MarksFrom t r.imported k.values rule i (outcomes_at i n)
  unfolding outcomes_from marks_from hits_from
  marks_from_lem rule i zero h = refl
  marks_from_lem rule i (suc n) h =
      marks_onward t r.imported k.values rule i _ (outcomes_at (suc i) n) (outcome_only i (omega arith))
      (marks_from_lem rule (suc i) n (omega arith))

  bars_from : (rule i n : ℕ) → i + n ≤ length rows → BarsFrom t r.imported k.values rule i (outcomes_at i n)
  unfolding outcomes_from
  bars_from rule i zero h = bars_none t r.imported k.values rule i
  bars_from rule i (suc n) h =
      bars_onward t r.imported k.values rule i _ (outcomes_at (suc i) n) (outcome_only i (omega arith))
      (bars_from rule (suc i) n (omega arith))

  -- whatever the band: a region out of range is not painted
  pub whole_paints : Paints t r.imported k.values (outcomes_from s r t rows cols flags 0 (length rows))
  whole_paints =
      record {
        marks = λ rule. marks_from_lem rule 0 (length rows) (omega arith);
        bars = λ rule. bars_from rule 0 (length rows) (omega arith);
      }

pub none_paint : (t : Test) (imported : Bool) (values : List Float) → Paints t imported values []
unfolding marks_from hits_from
none_paint t imported values = record { marks = λ rule. refl; bars = λ rule. bars_none t imported values rule 0 }

-- ---- stop flags

pub stops_hits : (stop : Bool) (i : ℕ) (os : List Outcome) (flags : List ℕ)
    → stops stop i os flags ≡ cond stop (stop_hits (hits_from i os) flags) flags
unfolding stops stop_at stop_hits hits_from
stops_hits true i [] flags = refl
stops_hits false i [] flags = refl
stops_hits stop i (Outcome.Stopped ∷ os) flags = stops_hits stop (suc i) os flags
stops_hits stop i (Outcome.Passed ∷ os) flags = stops_hits stop (suc i) os flags
stops_hits stop i (Outcome.Unresolved ∷ os) flags = stops_hits stop (suc i) os flags
stops_hits true i (Outcome.Painted p ∷ os) flags = stops_hits true (suc i) os (set flags i 1)
stops_hits false i (Outcome.Painted p ∷ os) flags = stops_hits false (suc i) os flags
