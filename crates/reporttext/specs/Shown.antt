-- The result that the lent columns hold beside an answer: the first marks of the mark columns, as many as the answer says, and a state for
-- each place of the bar columns, of which only the bar is printed. Past a column's end is 0. Assumes nothing.
use Rattle.std.specs.Prelude.{ℕ, zero, suc, Bool, false, List, [], ◌∷◌, leb, length, get_or}
use Rattle.model.specs.declared.Paint.{Paint}
use Rattle.model.specs.Run.{Mark, RegionState}
use Rattle.model.specs.Answer.{Summary, Result}
use Rattle.model.specs.Job.{mark_space}
use Rattle.model.specs.Columns.{Columns}
use Rattle.laws.specs.Demands.{lengths_of}

abbrev pub paint_of : ℕ → ℕ → ℕ → ℕ → Paint
paint_of kind colour ppm shape = record { kind = kind; colour = colour; ppm = ppm; shape = shape }

abbrev pub mark_of : ℕ → ℕ → Paint → Mark
mark_of region rule paint = record { region = region; rule = rule; paint = paint }

abbrev pub bar_of : ℕ → ℕ → RegionState
bar_of rule ppm = record { stopped = false; bar_rule = rule; bar_ppm = ppm }

module _ (regions rules kinds colours ppms shapes : List ℕ) where
  abbrev pub mark_in : ℕ → Mark
  mark_in i =
      mark_of (get_or regions i 0) (get_or rules i 0) (paint_of (get_or kinds i 0) (get_or colours i 0) (get_or ppms i 0) (get_or shapes i 0))

  -- n marks from i on
  unfoldable pub marks_in : ℕ → ℕ → List Mark
  marks_in i zero = []
  marks_in i (suc n) = mark_in i ∷ marks_in (suc i) n

module _ (bar_rules bar_ppms : List ℕ) where
  abbrev pub bar_in : ℕ → RegionState
  bar_in i = bar_of (get_or bar_rules i 0) (get_or bar_ppms i 0)

  -- n regions from i on
  unfoldable pub bars_in : ℕ → ℕ → List RegionState
  bars_in i zero = []
  bars_in i (suc n) = bar_in i ∷ bars_in (suc i) n

-- columns without scratch, of which a report shows nothing
abbrev pub printed : List ℕ → List ℕ → List ℕ → List ℕ → List ℕ → List ℕ → List ℕ → List ℕ → Columns
printed regions rules kinds colours ppms shapes bar_rules bar_ppms =
    record {
      regions = regions;
      rules = rules;
      kinds = kinds;
      colours = colours;
      ppms = ppms;
      shapes = shapes;
      bar_rules = bar_rules;
      bar_ppms = bar_ppms;
      scratch = [];
    }

unfoldable pub result_in : Summary → Columns → Result
result_in s c =
    record {
      summary = s;
      marks = marks_in c.regions c.rules c.kinds c.colours c.ppms c.shapes 0 s.marks;
      states = bars_in c.bar_rules c.bar_ppms 0 (length c.bar_rules);
    }

-- whether the mark columns hold all the marks of an answer
unfoldable pub holds_marks : Summary → Columns → Bool
holds_marks s c = leb s.marks (mark_space (lengths_of c))
