-- The grammar of a whole job text: its lines in their order, each section under its line of names (document 01, 'Job and report text').
-- Assumes nothing.
use Rattle.std.specs.Prelude.{ℕ, List, length}
use Rattle.model.specs.declared.CellCoordinate.{CellCoordinate}
use Rattle.grammar.specs.Gram.{Gram}
use Rattle.grammar.specs.Parts.{space, line_feed, bytes, behind, following, both, times, read_as}
use Rattle.jobtext.specs.Written.{Value, CellLine, RuleLine, JobText}
use Rattle.jobtext.specs.Fields.{count, row, col, wraps, text_field, value}
use Rattle.jobtext.specs.Rules.{rule_line}

-- Of each pair `to_x`, `ofX` only `ofX` has to be read: it gives the text, and `to_x` undoes it (proofs/Text.antt, Rules.antt, Fields.antt).

-- ---- the lines of names

abbrev pub head_names : List ℕ
head_names = bytes "limit start cells regions rules name\n"

abbrev pub cell_names : List ℕ
cell_names = bytes "row col wraps value\n"

abbrev pub region_names : List ℕ
region_names = bytes "row col\n"

abbrev pub rule_names : List ℕ
rule_names = bytes "top left bottom right priority stop imported rule p1 p2 p3 p4\n"

-- ---- the first two lines

pub record Head : Type 0 where
  pub limit : ℕ
  pub start : ℕ
  pub cells : ℕ
  pub regions : ℕ
  pub rules : ℕ
  pub name : List ℕ

abbrev pub head_t : Type 0
head_t = ℕ × (ℕ × (ℕ × (ℕ × (ℕ × List ℕ))))

abbrev pub to_head : head_t → Head
to_head x =
    record {
      limit = x.0;
      start = x.1.0;
      cells = x.1.1.0;
      regions = x.1.1.1.0;
      rules = x.1.1.1.1.0;
      name = x.1.1.1.1.1;
    }

abbrev pub of_head : Head → head_t
of_head h = (h.limit, (h.start, (h.cells, (h.regions, (h.rules, h.name)))))

abbrev pub second_line : Gram Head
second_line = read_as to_head of_head (both count (both count (both count (both count (both count (text_field line_feed))))))

unfoldable pub head : Gram Head
head = behind head_names second_line

-- ---- the lines of cells and regions

abbrev pub to_cell : ℕ × (ℕ × (ℕ × Value)) → CellLine
to_cell x = record { row = x.0; col = x.1.0; wraps = x.1.1.0; value = x.1.1.1 }

abbrev pub of_cell : CellLine → ℕ × (ℕ × (ℕ × Value))
of_cell c = (c.row, (c.col, (c.wraps, c.value)))

unfoldable pub cell_line : Gram CellLine
cell_line = read_as to_cell of_cell (both (row space) (both (col space) (both wraps value)))

abbrev pub to_region : ℕ × ℕ → CellCoordinate
to_region x = record { row = x.0; col = x.1 }

abbrev pub of_region : CellCoordinate → ℕ × ℕ
of_region r = (r.row, r.col)

unfoldable pub region_line : Gram CellCoordinate
region_line = read_as to_region of_region (both (row space) (col line_feed))

-- ---- the whole

abbrev pub tail_t : Type 0
tail_t = List CellCoordinate × List RuleLine

-- the sections of regions and rules, with so many lines
unfoldable pub tail : ℕ → ℕ → Gram tail_t
tail regions rules = behind region_names (both (times regions region_line) (behind rule_names (times rules rule_line)))

abbrev pub body_t : Type 0
body_t = List CellLine × tail_t

-- all sections
unfoldable pub body_of : ℕ → ℕ → ℕ → Gram body_t
body_of cells regions rules = behind cell_names (both (times cells cell_line) (tail regions rules))

-- with as many lines as the second line says
abbrev pub body : Head → Gram body_t
body h = body_of h.cells h.regions h.rules

abbrev pub to_job : Head × body_t → JobText
to_job x =
    record {
      limit = x.0.limit;
      start = x.0.start;
      name = x.0.name;
      cells = x.1.0;
      regions = x.1.1.0;
      rules = x.1.1.1;
    }

abbrev pub of_job : JobText → Head × body_t
of_job j = (
  record {
    limit = j.limit;
    start = j.start;
    cells = length j.cells;
    regions = length j.regions;
    rules = length j.rules;
    name = j.name;
  },
  (j.cells, (j.regions, j.rules)),
)

unfoldable pub job : Gram JobText
job = read_as to_job of_job (following head body)
