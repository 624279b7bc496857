-- When a job fits what is lent: the numbers that were read against the lengths are `fits_in` of the job as it is laid. Assumes nothing.
use Prim.Native.Nat.{ℕ, ◌+◌, ◌≤◌}
use mathlib.Core.Path.{◌≡◌, refl, sym, ap, ◌∙◌}
use mathlib.Core.Bool.{Bool, true, false, ◌&&◌}
use mathlib.Core.List.{List, [], ◌∷◌, ◌++◌}
use Rattle.model.specs.Sheet.{CellColumns}
use native.Mathlib.Omega.{arith}
use lib.Dec.{leb}
use lib.ListN.{length, length-append, length-map}
use borrow.Author.Tests.{leb-true}
use Rattle.memory.specs.Memory.{all_or_zeros, page_of}
use Rattle.memory.proofs.Laws.{all_append}
use Rattle.grammar.proofs.Parts.{times_length}
use Rattle.std.specs.List.{list_all}
use Rattle.jobtext.specs.Text.{Head, tail, body_t, body_of, cell_line, region_line, body, to_job}
use Rattle.jobtext.specs.Laid.{cell_bytes, rule_bytes, columns_from, laid}
use Rattle.jobtext.proofs.Lengths.{ats_length}
use Rattle.reader.specs.Held.{Held, fits_in}
use Rattle.reader.specs.Results.{columns_fit, columns_in}

-- ---- the tests one by one

-- numbers of cells and regions that are within their columns
pub record Fitted (cells regions rows cols kinds wraps nums ats lens region_rows region_cols : ℕ) : Type 0 where
  pub row : cells ≤ rows
  pub col : cells ≤ cols
  pub kind : cells ≤ kinds
  pub wrap : cells ≤ wraps
  pub num : cells ≤ nums
  pub at : cells ≤ ats
  pub len : cells ≤ lens
  pub region : regions ≤ region_rows
  pub region_col : regions ≤ region_cols

pub and_first : (a b : Bool) → a && b ≡ true → a ≡ true
and_first true b e = refl
and_first false b e = cc

pub and_second : (a b : Bool) → a && b ≡ true → b ≡ true
and_second true b e = e
and_second false b e = cc

pub fitted : (cells regions rows cols kinds wraps nums ats lens region_rows region_cols : ℕ)
    → columns_fit cells regions rows cols kinds wraps nums ats lens region_rows region_cols ≡ true
    → Fitted cells regions rows cols kinds wraps nums ats lens region_rows region_cols
fitted cells regions rows cols kinds wraps nums ats lens region_rows region_cols e =
    let a2 = leb cells rows && leb cells cols in
    let a3 = a2 && leb cells kinds in
    let a4 = a3 && leb cells wraps in
    let a5 = a4 && leb cells nums in
    let a6 = a5 && leb cells ats in
    let a7 = a6 && leb cells lens in
    let a8 = a7 && leb regions region_rows in
    let e8 = and_first a8 (leb regions region_cols) e in
    let e7 = and_first a7 (leb regions region_rows) e8 in
    let e6 = and_first a6 (leb cells lens) e7 in
    let e5 = and_first a5 (leb cells ats) e6 in
    let e4 = and_first a4 (leb cells nums) e5 in
    let e3 = and_first a3 (leb cells wraps) e4 in
    let e2 = and_first a2 (leb cells kinds) e3 in
    record {
      row = leb-true cells rows (and_first (leb cells rows) (leb cells cols) e2);
      col = leb-true cells cols (and_second (leb cells rows) (leb cells cols) e2);
      kind = leb-true cells kinds (and_second a2 (leb cells kinds) e3);
      wrap = leb-true cells wraps (and_second a3 (leb cells wraps) e4);
      num = leb-true cells nums (and_second a4 (leb cells nums) e5);
      at = leb-true cells ats (and_second a5 (leb cells ats) e6);
      len = leb-true cells lens (and_second a6 (leb cells lens) e7);
      region = leb-true regions region_rows (and_second a7 (leb regions region_rows) e8);
      region_col = leb-true regions region_cols (and_second a8 (leb regions region_cols) e);
    }

assoc : (a b c : Bool) → (a && (b && c)) ≡ ((a && b) && c)
assoc true b c = refl
assoc false b c = refl

alone_so : (a : Bool) → (a && true) ≡ a
alone_so true = refl
alone_so false = refl

-- what `columns_fit` says of seven columns and of two
pub within_columns : (cells regions : ℕ) (d : CellColumns) (rows cols : List ℕ)
    → (list_all (λ size. leb cells size)
    (length d.rows ∷ length d.cols ∷ length d.kinds ∷ length d.wraps ∷ length d.nums ∷ length d.ats ∷ length d.lens ∷ [])
    && list_all (λ size. leb regions size) (length rows ∷ length cols ∷ []))
    ≡ columns_in cells regions d rows cols
within_columns cells regions d rows cols = simp (assoc, alone_so)

-- ---- the lengths of a job as it is laid

module _ (k : Head) (b : body_t) where
  pub pool_number : length (laid (to_job (k, b))).pool ≡ length k.name + length (cell_bytes b.0) + length (rule_bytes b.1.1)
  unfolding laid
  pool_number = simp length-append (omega arith)

  module _ (c : (body k).Ok b) where
    pub cells_number : length b.0 ≡ k.cells
    unfolding body_of tail
    cells_number = times_length cell_line.Ok k.cells b.0 c.0

    pub regions_number : length b.1.0 ≡ k.regions
    unfolding body_of tail
    regions_number = times_length region_line.Ok k.regions b.1.0 c.1.0

  -- the tests on the numbers that were read are those on the job
  pub fits_laid : (h : Held)
      → columns_in (length b.0) (length b.1.0) h.cells h.region_rows h.region_cols
      && leb (length k.name + length (cell_bytes b.0) + length (rule_bytes b.1.1)) (length h.pool)
      ≡ fits_in (laid (to_job (k, b))) h
  unfolding fits_in laid columns_from
  fits_laid h = rw (← pool_number) (simp (length-map, ats_length))

-- the three texts one after the other, in a pool of n bytes
pub pool_laid : (n : ℕ) (name cells rules : List ℕ)
    → all_or_zeros true (all_or_zeros true (page_of true n name) (length name) cells) (length name + length cells) rules
    ≡ page_of true n (name ++ (cells ++ rules))
pool_laid n name cells rules =
    let z : 0 + length name ≡ length name = omega arith in
    sym
    (all_append 0 _ 0 name (cells ++ rules)
    ∙ (ap (λ (k : ℕ). all_or_zeros true (page_of true n name) k (cells ++ rules)) z ∙ all_append 0 (page_of true n name) (length name) cells
    rules))
