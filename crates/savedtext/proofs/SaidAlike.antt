-- Jobs that say the same are alike: what a job says leaves free only what a text has no place for. Assumes nothing.
use Prim.Native.Nat.{ℕ, zero, suc, ◌≤◌, ◌<◌}
use native.Mathlib.Omega.{arith}
use mathlib.Core.Path.{◌≡◌, refl, sym, ap, ◌∙◌}
use mathlib.Core.Logic.{◌⊎◌, inl, inr}
use mathlib.Core.Bool.{cond}
use mathlib.Core.List.{List}
use lib.Dec.{eqb}
use lib.ListN.{length, get_or}
use lib.Seq.{ext_get_or}
use Rattle.model.specs.declared.CellCoordinate.{CellCoordinate}
use Rattle.model.specs.Sheet.{CellColumns, text_at}
use Rattle.model.specs.Job.{Job, rules_of, cell_count, region_count}
use Rattle.laws.specs.Demands.{WellFormed}
use Rattle.jobtext.specs.Written.{Value, CellLine, JobText}
use Rattle.jobtext.specs.Laid.{value_bytes, kind_of, num_of, len_of}
use Rattle.jobtext.specs.Said.{value_said, cell_said, job_said}
use Rattle.savedtext.specs.Alike.{CellAlike, Alike}
use Rattle.savedtext.specs.Typed.{Typed}
use Rattle.savedtext.proofs.Formed.{FormedValue}
use Rattle.savedtext.proofs.Listed.{listed_same, cells_listed, region_of, regions_listed, cells_length, regions_length}
use Rattle.savedtext.proofs.Plain.{Plain, plain_well_formed}
use Rattle.savedtext.proofs.RulesSaid.{rules_alike}

-- ---- cells

one_bit : (n : ℕ) → n ≤ 1 → cond (eqb n 1) 1 0 ≡ n
one_bit zero h = refl
one_bit (suc zero) h = refl
one_bit (suc (suc n)) h = absurd (omega arith)

-- what is told of two values that are the same
same_told : {X : Type 0} (tell : Value → X) {x y : X} {v w : Value} → tell v ≡ x → v ≡ w → tell w ≡ y → x ≡ y
same_told tell a e b = sym a ∙ (ap tell e ∙ b)

-- what is told of a value that is said
module _ (pool : List ℕ) (bits at len : ℕ) where
  kind_told : (kind : ℕ) → 1 ≤ kind → kind ≤ 5 → kind_of (value_said pool kind bits at len) ≡ kind
  unfolding kind_of value_said
  kind_told zero low high = absurd (omega arith)
  kind_told (suc zero) low high = refl
  kind_told (suc (suc zero)) low high = refl
  kind_told (suc (suc (suc zero))) low high = refl
  kind_told (suc (suc (suc (suc zero)))) low high = refl
  kind_told (suc (suc (suc (suc (suc zero))))) low high = refl
  kind_told (suc (suc (suc (suc (suc (suc n)))))) low high = absurd (omega arith)

  bits_told : (kind : ℕ) → (kind ≡ 1) ⊎ (kind ≡ 2) → num_of (value_said pool kind bits at len) ≡ bits
  unfolding num_of value_said
  bits_told kind (inl is) = rw is
  bits_told kind (inr is) = rw is

  text_told : (kind : ℕ) → kind ≡ 3 → value_bytes (value_said pool kind bits at len) ≡ text_at pool (record { at = at; len = len })
  unfolding value_bytes value_said
  text_told kind is = rw is

  bool_told : (kind : ℕ) → kind ≡ 4 → len ≤ 1 → len_of (value_said pool kind bits at len) ≡ len
  unfolding len_of value_said
  bool_told kind is small = rw is (one_bit len small)

module _ (p q : List ℕ) (c d : CellColumns) (i : ℕ) where
  cell_alike : FormedValue (get_or c.kinds i 0) (get_or c.lens i 0) → FormedValue (get_or d.kinds i 0) (get_or d.lens i 0)
      → cell_said p c i ≡ cell_said q d i → CellAlike p q c d i
  unfolding cell_said
  cell_alike f g e =
      let value = ap (λ (l : CellLine). l.value) e in
      let kind : get_or c.kinds i 0 ≡ get_or d.kinds i 0 =
      same_told kind_of (kind_told p _ _ _ _ f.low f.high) value (kind_told q _ _ _ _ g.low g.high) in
      record {
        row = ap (λ (l : CellLine). l.row) e;
        col = ap (λ (l : CellLine). l.col) e;
        kind = kind;
        wraps = ap (λ (l : CellLine). l.wraps) e;
        bits = λ is. same_told num_of (bits_told p _ _ _ _ is) value (bits_told q _ _ _ _ (rw kind at is));
        text = λ is. same_told value_bytes (text_told p _ _ _ _ is) value (text_told q _ _ _ _ (rw kind at is));
        bool = λ is.
            same_told len_of (bool_told p _ _ _ _ is (f.bool is)) value (bool_told q _ _ _ _ (rw kind at is) (g.bool (rw kind at is)));
      }

-- ---- the job

module _ (l m : ℕ) (j k : Job) (e : job_said l j ≡ job_said m k) where
  cells_count : cell_count j ≡ cell_count k
  cells_count = sym (cells_length l j) ∙ (ap (λ (t : JobText). length t.cells) e ∙ cells_length m k)

  regions_count : region_count j ≡ region_count k
  regions_count = sym (regions_length l j) ∙ (ap (λ (t : JobText). length t.regions) e ∙ regions_length m k)

  cell_same : (i : ℕ) → i < cell_count j → cell_said j.pool j.cells i ≡ cell_said k.pool k.cells i
  unfolding job_said
  cell_same i h =
      let f = cell_said j.pool j.cells in
      let g = cell_said k.pool k.cells in
      let same = simp cells_listed at (ap (λ (t : JobText). t.cells) e) in
      listed_same f g 0 (cell_count j) (cell_count k) same i (omega arith) (omega arith)

  region_same : (i : ℕ) → i < region_count j → region_of j.region_rows j.region_cols i ≡ region_of k.region_rows k.region_cols i
  unfolding job_said
  region_same i h =
      let f = region_of j.region_rows j.region_cols in
      let g = region_of k.region_rows k.region_cols in
      let same = simp regions_listed at (ap (λ (t : JobText). t.regions) e) in
      listed_same f g 0 (region_count j) (region_count k) same i (omega arith) (omega arith)

  pub plain_alike : Plain j → Plain k → Alike l j m k
  unfolding job_said
  plain_alike f g =
      let row : (i : ℕ) → i < region_count j → get_or j.region_rows i 0 ≡ get_or k.region_rows i 0 = λ i h.
      ap (λ (c : CellCoordinate). c.row) (region_same i h) in
      let col : (i : ℕ) → i < length j.region_cols → get_or j.region_cols i 0 ≡ get_or k.region_cols i 0 = λ i h.
      ap (λ (c : CellCoordinate). c.col) (region_same i (omega (arith, f.regions))) in
      record {
        limit = ap (λ (t : JobText). t.limit) e;
        start = ap (λ (t : JobText). t.start) e;
        name = ap (λ (t : JobText). t.name) e;
        count = cells_count;
        cells = λ i h.
            cell_alike j.pool k.pool j.cells k.cells i (f.cells i h) (g.cells i (omega (arith, cells_count))) (cell_same i h);
        region_rows = ext_get_or 0 j.region_rows k.region_rows regions_count row;
        region_cols = ext_get_or 0 j.region_cols k.region_cols (f.regions ∙ (regions_count ∙ sym g.regions)) col;
        rules = rules_alike j.pool k.pool (rules_of j) (rules_of k) f.rules g.rules (ap (λ (t : JobText). t.rules) e);
      }

pub said_alike : (l m : ℕ) (j k : Job) → Typed l j → Typed m k → WellFormed j → WellFormed k → job_said l j ≡ job_said m k
    → Alike l j m k
said_alike l m j k t u w x e = plain_alike l m j k e (plain_well_formed l j t w) (plain_well_formed m k u x)
