-- What a rule that was judged leaves in the columns: its marks one after the other, the first bar of each region, and the stop flags
-- (document 01, 'Rules'). Past the end of a column nothing is written. Assumes nothing.
use Rattle.std.specs.Prelude.{ℕ, suc, ◌≡◌, Bool, cond, ◌&&◌, List, [], ◌∷◌, map, eqb, Float, get_or, set}
use Rattle.std.specs.Float.{nan}
use Rattle.model.specs.declared.Outcome.{Outcome}
use Rattle.model.specs.declared.Paint.{Paint}
use Rattle.model.specs.declared.Test.{Test}
use Rattle.model.specs.Run.{Mark, has_bar, marks_from}
use Rattle.plans.specs.Plans.{is_bar_test}
use Rattle.hits.specs.Hits.{hits_from}
use Rattle.hits.specs.Painted.{ppm_by, paint_by}

-- ---- the marks

-- the six columns of the marks
pub record MarkColumns : Type 0 where
  pub regions : List ℕ
  pub rules : List ℕ
  pub kinds : List ℕ
  pub colours : List ℕ
  pub ppms : List ℕ
  pub shapes : List ℕ

abbrev pub mark_columns : List ℕ → List ℕ → List ℕ → List ℕ → List ℕ → List ℕ → MarkColumns
mark_columns regions rules kinds colours ppms shapes =
    record { regions = regions; rules = rules; kinds = kinds; colours = colours; ppms = ppms; shapes = shapes }

abbrev pub mark_at : ℕ → ℕ → Paint → Mark
mark_at region rule paint = record { region = region; rule = rule; paint = paint }

-- a mark at place n
unfoldable pub put_mark : MarkColumns → ℕ → Mark → MarkColumns
put_mark c n m =
    record {
      regions = set c.regions n m.region;
      rules = set c.rules n m.rule;
      kinds = set c.kinds n m.paint.kind;
      colours = set c.colours n m.paint.colour;
      ppms = set c.ppms n m.paint.ppm;
      shapes = set c.shapes n m.paint.shape;
    }

-- the mark of a region that a test paints, by the numbers of the regions' cells
abbrev pub hit_mark : Test → Bool → List Float → ℕ → ℕ → Mark
hit_mark t imported values rule region = mark_at region rule (paint_by t imported (get_or values region nan))

-- marks from place n on
unfoldable pub put_marks : MarkColumns → ℕ → List Mark → MarkColumns
put_marks c n [] = c
put_marks c n (m ∷ ms) = put_marks (put_mark c n m) (suc n) ms

-- ---- the bars

-- the two columns of the bars: the rule plus one, 0 for no bar, and the ppm
pub record BarColumns : Type 0 where
  pub rules : List ℕ
  pub ppms : List ℕ

abbrev pub bar_columns : List ℕ → List ℕ → BarColumns
bar_columns rules ppms = record { rules = rules; ppms = ppms }

-- a bar goes to a region that has none
unfoldable pub draw_bar : ℕ → ℕ → Outcome → BarColumns → BarColumns
draw_bar rule region Outcome.Stopped c = c
draw_bar rule region Outcome.Passed c = c
draw_bar rule region Outcome.Unresolved c = c
draw_bar rule region (Outcome.Painted p) c =
    cond (has_bar p && eqb (get_or c.rules region 0) 0) (bar_columns (set c.rules region (suc rule)) (set c.ppms region p.ppm)) c

-- the outcomes of the regions from `region` on
unfoldable pub draw_bars : ℕ → ℕ → List Outcome → BarColumns → BarColumns
draw_bars rule region [] c = c
draw_bars rule region (o ∷ os) c = draw_bars rule (suc region) os (draw_bar rule region o c)

-- the same of a region that a bar test paints
abbrev pub draw_hit : ℕ → ℕ → ℕ → BarColumns → BarColumns
draw_hit rule ppm region c =
    cond (eqb (get_or c.rules region 0) 0) (bar_columns (set c.rules region (suc rule)) (set c.ppms region ppm)) c

unfoldable pub draw_hits : ℕ → (ℕ → ℕ) → List ℕ → BarColumns → BarColumns
draw_hits rule ppm [] c = c
draw_hits rule ppm (h ∷ hs) c = draw_hits rule ppm hs (draw_hit rule (ppm h) h c)

-- ---- the stop flags

-- a mark of a rule that stops sets its region's flag
unfoldable pub stop_at : Bool → ℕ → Outcome → List ℕ → List ℕ
stop_at stop region Outcome.Stopped flags = flags
stop_at stop region Outcome.Passed flags = flags
stop_at stop region Outcome.Unresolved flags = flags
stop_at stop region (Outcome.Painted p) flags = cond stop (set flags region 1) flags

-- the outcomes of the regions from `region` on
unfoldable pub stops : Bool → ℕ → List Outcome → List ℕ → List ℕ
stops stop region [] flags = flags
stops stop region (o ∷ os) flags = stops stop (suc region) os (stop_at stop region o flags)

-- the flags of the regions that were painted
unfoldable pub stop_hits : List ℕ → List ℕ → List ℕ
stop_hits [] flags = flags
stop_hits (h ∷ hs) flags = stop_hits hs (set flags h 1)

-- ---- outcomes by the regions that they paint

-- the marks and the bars of the outcomes are those of the painted regions, by the test and the numbers of their cells
pub record Paints (t : Test) (imported : Bool) (values : List Float) (os : List Outcome) : Type 0 where
  pub marks : (rule : ℕ) → marks_from rule 0 os ≡ map (hit_mark t imported values rule) (hits_from 0 os)
  pub bars : (rule : ℕ) (c : BarColumns) → draw_bars rule 0 os c
      ≡ cond (is_bar_test t) (draw_hits rule (λ h. ppm_by t (get_or values h nan)) (hits_from 0 os) c) c
