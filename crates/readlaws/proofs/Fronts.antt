-- The front of the memory of a whole job, after a text was read into it, is the job that the text says. Assumes nothing.
use Rattle.std.specs.Prelude.{Ok}
use Prim.Native.Nat.{ℕ, ◌-◌, ◌≤◌}
use mathlib.Core.Path.{◌≡◌, refl, sym, ap, ◌∙◌, subst}
use mathlib.Core.Bool.{true}
use mathlib.Core.List.{List}
use native.Mathlib.Omega.{arith}
use lib.ListN.{length, take, replicate, length-replicate, length-map}
use lib.Seq.{take_at, length-take-le}
use Rattle.memory.specs.Memory.{page_of}
use Rattle.memory.proofs.Laws.{page_fits}
use Rattle.model.specs.declared.CellCoordinate.{CellCoordinate}
use Rattle.model.specs.declared.Rules.{Rules}
use Rattle.model.specs.declared.Span.{Span}
use Rattle.model.specs.Job.{Job}
use Rattle.model.specs.Sheet.{CellColumns}
use Rattle.jobtext.specs.Written.{CellLine, JobText}
use Rattle.jobtext.specs.Read.{ReadResult, read}
use Rattle.jobtext.specs.Laid.{columns_from, laid}
use Rattle.checks.specs.Checked.{cell_columns, job_of}
use Rattle.celllines.specs.Columns.{pages}
use Rattle.celllines.proofs.Sections.{columns_eq}
use Rattle.reader.specs.declared.ReadJob.{ReadJob}
use Rattle.reader.specs.Held.{taken_as, Held, laid_in, read_job, held_after}
use Rattle.jobtext.proofs.Lengths.{ats_length}
use Rattle.readlaws.proofs.Fitting.{Fits, read_fits, whole_memory, never_short}

-- ---- the front of the memory

-- n elements at the front of a memory of k
front : (k n : ℕ) (xs : List ℕ) → length xs ≡ n → n ≤ k → take n (page_of true (length (replicate {A = ℕ} k 0)) xs) ≡ xs
front k n xs e h =
    let long : length xs ≤ length (replicate {A = ℕ} k 0) = simp length-replicate (omega arith) in
    let size = length (replicate {A = ℕ} k 0) in
    ap (take n) (page_fits 0 size xs long) ∙ take_at xs (replicate (size - length xs) 0) n e

abbrev taken : ℕ → CellColumns → CellColumns
taken n c =
    cell_columns (take n c.rows) (take n c.cols) (take n c.kinds) (take n c.wraps) (take n c.nums) (take n c.ats)
    (take n c.lens)

-- a job from the memory that a text was read into
abbrev pub job_in : ReadJob → Held → Job
job_in job h =
    job_of (taken job.cells h.cells) (take job.regions h.region_rows) (take job.regions h.region_cols)
    (take job.used h.pool) job.name job.rules job.start

cells_front : (u n : ℕ) (cs : List CellLine) → length cs ≡ n → n ≤ 1024
    → taken n (pages true (columns_from u cs) whole_memory.cells) ≡ columns_from u cs
unfolding columns_from
cells_front u n cs e h =
    columns_eq (front 1024 n _ (length-map cs _ ∙ e) h) (front 1024 n _ (length-map cs _ ∙ e) h) (front 1024 n _ (length-map cs _ ∙ e) h)
    (front 1024 n _ (length-map cs _ ∙ e) h) (front 1024 n _ (length-map cs _ ∙ e) h) (front 1024 n _ (ats_length u cs ∙ e) h)
    (front 1024 n _ (length-map cs _ ∙ e) h)

-- ---- a job that was read

job_eq : {c c' : CellColumns} {a a' b b' p p' : List ℕ} {name : Span} {rules : Rules} {start : ℕ} → c ≡ c' → a ≡ a' → b ≡ b' → p ≡ p'
    → job_of c a b p name rules start ≡ job_of c' a' b' p' name rules start
job_eq x1 x2 x3 x4 = rw (x1, x2, x3, x4)

laid_front : (j : JobText) → Fits j → job_in (taken_as (laid j) j.limit) (laid_in true (laid j) whole_memory) ≡ laid j
unfolding laid columns_from
laid_front j f =
    let rows : length j.cells ≡ length (laid j).cells.rows = sym (length-map j.cells _) in
    let regions : length (laid j).region_rows ≡ length j.regions = length-map j.regions _ in
    let cols : length (laid j).region_cols ≡ length (laid j).region_rows = length-map j.regions _ ∙ sym regions in
    job_eq
    (cells_front (length j.name) (length (laid j).cells.rows) j.cells rows (omega (arith, f.cells)))
    (front 1024 (length (laid j).region_rows) (laid j).region_rows refl (omega (arith, f.regions)))
    (front 1024 (length (laid j).region_rows) (laid j).region_cols cols (omega (arith, f.regions)))
    (front 32_768 (length (laid j).pool) (laid j).pool refl f.pool)

laid_cells : (j : JobText) → Fits j → length (laid j).cells.rows ≤ 1024
unfolding laid columns_from
laid_cells j f = omega (arith, f.cells, length-map j.cells (λ (c : CellLine). c.row))

laid_regions : (j : JobText) → Fits j → length (laid j).region_rows ≤ 1024
unfolding laid
laid_regions j f = omega (arith, f.regions, length-map j.regions (λ (r : CellCoordinate). r.row))

module _ (s : List ℕ) {job : ReadJob} {h : Held} (is : Ok job ≡ read_job whole_memory (read s))
    (left : h ≡ held_after (read s) whole_memory) where
  -- the text says a job, and the memory holds it
  pub record Read : Type 0 where
    pub said : JobText
    pub says : read s ≡ ReadResult.is said
    pub cells : job.cells ≤ 1024
    pub regions : job.regions ≤ 1024
    pub used : job.used ≤ 32_768
    pub limit : job.limit ≡ said.limit
    pub holds : job_in job h ≡ laid said

  read_as : (x : ReadResult) → read s ≡ x → Ok job ≡ read_job whole_memory x → h ≡ held_after x whole_memory → Read
  unfolding read_job held_after
  read_as (ReadResult.is j) e i₀ l₀ =
      let f = read_fits s j e in
      let fits = never_short s j e in
      let said : Ok job ≡ Ok (taken_as (laid j) j.limit) = i₀ ∙ rw fits in
      let i : job ≡ taken_as (laid j) j.limit = cc in
      let l : h ≡ laid_in true (laid j) whole_memory = l₀ ∙ rw fits in
      record {
        said = j;
        says = e;
        cells = subst (λ (k : ReadJob). k.cells ≤ 1024) (sym i) (laid_cells j f);
        regions = subst (λ (k : ReadJob). k.regions ≤ 1024) (sym i) (laid_regions j f);
        used = subst (λ (k : ReadJob). k.used ≤ 32_768) (sym i) f.pool;
        limit = ap (λ (k : ReadJob). k.limit) i;
        holds = ap (λ (k : ReadJob). job_in k h) i ∙ (ap (job_in (taken_as (laid j) j.limit)) l ∙ laid_front j f);
      }
  read_as ReadResult.too_long e i l = absurd (cc)
  read_as (ReadResult.bad_line line) e i l = absurd (cc)
  read_as (ReadResult.too_many start) e i l = absurd (cc)

  pub job_read : Read
  job_read = read_as (read s) refl is left

-- ---- a part of the memory

module _ (k : ℕ) {n : ℕ} (xs : List ℕ) (few : n ≤ k) (kept : length xs ≡ length (replicate {A = ℕ} k 0)) where
  pub inside : n ≤ length xs
  inside = omega (arith, kept, length-replicate {A = ℕ} k 0)

  pub part_long : n ≡ length (take n xs)
  part_long = sym (length-take-le n xs inside)
