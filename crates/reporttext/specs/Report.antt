-- The text of a report, line by line (document 01, 'Job and report text'). Numbers and colours are written as in a job text.
-- Assumes nothing.
use Rattle.std.specs.Prelude.{ℕ, zero, suc, ◌-◌, Bool, false, cond, not, List, [], ◌∷◌, ◌++◌, eqb}
use Rattle.model.specs.declared.Paint.{Paint}
use Rattle.model.specs.declared.Rule.{Rule}
use Rattle.model.specs.Ratio.{bar_cells}
use Rattle.model.specs.Rule.{has_shape}
use Rattle.model.specs.Run.{Mark, RegionState, has_bar}
use Rattle.model.specs.Answer.{Summary, Result}
use Rattle.grammar.specs.Parts.{space, line_feed, bytes, times_text}
use Rattle.grammar.specs.Numbers.{decimal_text, hex_digits}

-- ---- fields, each with the byte that ends it

abbrev pub number : ℕ → ℕ → List ℕ
number end n = decimal_text n ++ (end ∷ [])

-- RRGGBB
abbrev pub colour : ℕ → ℕ → List ℕ
colour end c = hex_digits 6 c ++ (end ∷ [])

-- `-`
abbrev pub dash : ℕ → List ℕ
dash end = 45 ∷ end ∷ []

-- what is there, or `-`
abbrev pub or_dash : Bool → ℕ → List ℕ → List ℕ
or_dash there end text = cond there text (dash end)

-- ---- lines

unfoldable pub summary_names : List ℕ
summary_names = bytes "number place count actual marks deferred simplified\n"

unfoldable pub summary_line : Summary → List ℕ
summary_line s =
    number space s.number
    ++ (number space s.place
    ++ (number space s.count
    ++ (number space s.actual
    ++ (number space s.marks ++ (number space s.deferred ++ number line_feed s.simplified)))))

unfoldable pub mark_names : List ℕ
mark_names = bytes "region rule kind colour ppm cells shape\n"

-- kind 2, an imported style, has none
unfoldable pub has_colour : Paint → Bool
has_colour p = not (eqb p.kind 2)

-- how a mark is painted: its kind, and `-` where it has no colour, no bar or no shape; `shaped` says that its rule is a scale or a bar
unfoldable pub paint_text : Bool → Paint → List ℕ
paint_text shaped p =
    number space p.kind
    ++ (or_dash (has_colour p) space (colour space p.colour)
    ++ (or_dash (has_bar p) space (number space p.ppm)
    ++ (or_dash (has_bar p) space (number space (bar_cells p.ppm)) ++ or_dash shaped line_feed (number line_feed p.shape))))

-- here and below `shaped` says so of the rule at an index
unfoldable pub mark_line : (ℕ → Bool) → Mark → List ℕ
mark_line shaped m = number space m.region ++ (number space m.rule ++ paint_text (shaped m.rule) m.paint)

unfoldable pub bar_names : List ℕ
bar_names = bytes "region barrule ppm\n"

-- nothing for a region without a bar
unfoldable pub bar_line : ℕ → RegionState → List ℕ
bar_line region s =
    cond (eqb s.bar_rule 0) []
    (number space region ++ (number space (s.bar_rule - 1) ++ number line_feed s.bar_ppm))

-- the regions counted from `region` on
unfoldable pub bar_lines : ℕ → List RegionState → List ℕ
bar_lines region [] = []
bar_lines region (s ∷ states) = bar_line region s ++ bar_lines (suc region) states

-- how many regions have a bar
unfoldable pub bar_count : List RegionState → ℕ
bar_count [] = 0
bar_count (s ∷ states) = let rest = bar_count states in cond (eqb s.bar_rule 0) rest (suc rest)

-- ---- the report

unfoldable pub summary_text : Summary → List ℕ
summary_text s = summary_names ++ summary_line s

unfoldable pub marks_text : (ℕ → Bool) → List Mark → List ℕ
marks_text shaped marks = mark_names ++ times_text (mark_line shaped) marks

unfoldable pub bars_text : List RegionState → List ℕ
bars_text states = bar_names ++ bar_lines 0 states

-- whether the rule at an index is a scale or a bar; there is none past the end
unfoldable pub shaped_at : List Rule → ℕ → Bool
shaped_at [] i = false
shaped_at (r ∷ rs) zero = has_shape r.kind
shaped_at (r ∷ rs) (suc i) = shaped_at rs i

-- of a result by these rules; a refusal has the first two lines only
unfoldable pub report_of : List Rule → Result → List ℕ
report_of rules r =
    summary_text r.summary
    ++ cond (eqb r.summary.number 0) (marks_text (shaped_at rules) r.marks ++ bars_text r.states) []
