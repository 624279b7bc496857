-- The marks that six lent columns hold, and how many places all of them have. Assumes nothing.
use Rattle.std.specs.Prelude.{ℕ, List, length, min}
use Rattle.model.specs.Run.{Mark}
use Rattle.reporttext.specs.Shown.{mark_in, marks_in}
use Rattle.report.specs.declared.MarkColumns.{MarkColumns}

abbrev pub mark_held : MarkColumns → ℕ → Mark
mark_held m i = mark_in m.regions.now m.rules.now m.kinds.now m.colours.now m.ppms.now m.shapes.now i

-- the first n
abbrev pub marks_held : MarkColumns → ℕ → List Mark
marks_held m n = marks_in m.regions.now m.rules.now m.kinds.now m.colours.now m.ppms.now m.shapes.now 0 n

-- the length of the shortest
abbrev pub space_held : MarkColumns → ℕ
space_held m =
    min (length m.regions.now) (min (length m.rules.now) (min (length m.kinds.now)
    (min (length m.colours.now) (min (length m.ppms.now) (length m.shapes.now)))))
