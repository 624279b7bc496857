-- What a well-formed job of the declared types says has a text, and its counts are not over. Assumes nothing.
use Prim.Native.Nat.{ℕ, ◌+◌, ◌≤◌, ◌<◌}
use native.Mathlib.Omega.{arith}
use mathlib.Core.Path.{◌≡◌}
use mathlib.Core.Bool.{false}
use lib.ListN.{length, length-map, length-take}
use borrow.Author.Tests.{le-ltb}
use Rattle.model.specs.Sheet.{max_cells, max_regions, max_rules}
use Rattle.model.specs.Job.{Job, rules_of, cell_count, region_count}
use Rattle.laws.specs.Demands.{WellFormed}
use Rattle.grammar.specs.Parts.{times_ok}
use Rattle.jobtext.specs.Fields.{text_field}
use Rattle.jobtext.specs.Text.{of_job, head, cell_line, region_line, tail, body_of, job}
use Rattle.jobtext.specs.Read.{max_text, over, Readable}
use Rattle.jobtext.specs.Said.{cell_said, job_said}
use Rattle.savedtext.specs.Saved.{text_of}
use Rattle.savedtext.specs.Typed.{Typed}
use Rattle.savedtext.proofs.Listed.{listed_ok, cells_listed, region_of, regions_listed, cells_length, regions_length}
use Rattle.savedtext.proofs.Formed.{formed}
use Rattle.savedtext.proofs.LinesOk.{bytes_width, text_ok, cell_ok, rules_ok, region_ok}

module _ (l : ℕ) (j : Job) where
  rules_length : length (job_said l j).rules ≤ j.rules.number
  unfolding job_said rules_of
  rules_length = simp (length-map, length-take) (omega arith)

  module _ (t : Typed l j) (w : WellFormed j) where
    cells_ok : times_ok cell_line.Ok (length (job_said l j).cells) (job_said l j).cells
    unfolding job_said
    cells_ok =
        let pooled = bytes_width j.pool t.pool in
        let said = cell_said j.pool j.cells in
        let each : (i : ℕ) → 0 ≤ i → i < 0 + cell_count j → cell_line.Ok (said i) = λ i _ h.
        cell_ok j.pool pooled j.cells i ((formed j w).cell i (omega arith)) t.wraps t.nums in
        rw cells_listed (listed_ok cell_line.Ok said 0 (cell_count j) each)

    regions_ok : times_ok region_line.Ok (length (job_said l j).regions) (job_said l j).regions
    unfolding job_said
    regions_ok =
        let said = region_of j.region_rows j.region_cols in
        let each : (i : ℕ) → 0 ≤ i → i < 0 + region_count j → region_line.Ok (said i) = λ i _ h.
        region_ok j.region_rows j.region_cols i ((formed j w).region i (omega arith)) in
        rw regions_listed (listed_ok region_line.Ok said 0 (region_count j) each)

    pub said_counts : over (of_job (job_said l j)).0 ≡ false
    unfolding over
    said_counts =
        let f = formed j w in
        rw (
          le-ltb max_cells (length (job_said l j).cells) (omega (arith, cells_length l j, f.cells)),
          le-ltb max_regions (length (job_said l j).regions) (omega (arith, regions_length l j, f.regions)),
          le-ltb max_rules (length (job_said l j).rules) (omega (arith, rules_length, f.rules)),
        )

    head_ok : head.Ok (of_job (job_said l j)).0
    unfolding head text_field job_said
    head_ok =
        let f = formed j w in
        let cells = cells_length l j in
        let regions = regions_length l j in
        let name = text_ok j.pool (bytes_width j.pool t.pool) j.name in (
          omega (arith, t.limit),
          (
            omega (arith, t.start),
            (omega (arith, f.cells), (omega (arith, f.regions), (omega (arith, rules_length, f.rules), name))),
          ),
        )

    pub said_ok : job.Ok (job_said l j)
    unfolding job body_of tail job_said
    said_ok =
        let rules = rules_ok j.pool (bytes_width j.pool t.pool) (rules_of j) t.rules in
        (head_ok, (cells_ok, (regions_ok, rules)))

    pub said_readable : length (text_of l j) ≤ max_text → Readable (job_said l j)
    unfolding text_of
    said_readable fits = record { ok = said_ok; counts = said_counts; fits = fits }
