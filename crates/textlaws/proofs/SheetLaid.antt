-- A job text is laid as it says: the columns, the pool and the rules say every coordinate, wrap, kind and bit, the bytes of every text and
-- name, and every field of every rule. Assumes nothing.
use Prim.Native.Nat.{ℕ, zero, suc, ◌+◌, ◌-◌}
use mathlib.Core.Path.{◌≡◌, refl, sym, ap, ap₂, ◌∙◌}
use mathlib.Core.Bool.{Bool, true, false, not, cond}
use mathlib.Core.List.{List, [], ◌∷◌, ◌++◌, map, append_assoc, append-nil}
use mathlib.Core.Option.{Option, none, some}
use lib.Dec.{T, eqb}
use lib.Ieee.{Float, nan, inf, fin, binary64, of_bits, is_nan}
use lib.Ieee.Bits.{is_true, to_bits-of_bits}
use lib.ListN.{length, take, drop, replicate}
use lib.Seq.{take-append_seam, take_at, drop-append_seam, drop-drop}
use Rattle.model.specs.declared.CellCoordinate.{CellCoordinate}
use Rattle.model.specs.Comparison.{uses_second}
use Rattle.model.specs.Readings.{finite}
use Rattle.model.specs.Sheet.{max_rules, text_at, regions_from}
use Rattle.model.specs.Job.{rules_of}
use Rattle.grammar.specs.Parts.{times_ok}
use Rattle.grammar.specs.Numbers.{sixteens}
use Rattle.jobtext.specs.Written.{Value, CellLine, Reference, Operand, Kind, RuleLine, JobText}
use Rattle.jobtext.specs.Fields.{finite_bits, operand}
use Rattle.jobtext.specs.Rules.{second_if, cell_is, expr, kind, rule_line}
use Rattle.jobtext.specs.Text.{tail, body_of, job}
use Rattle.jobtext.specs.Read.{Readable}
use Rattle.jobtext.specs.Laid.{
  span_at,
  value_bytes,
  cell_bytes,
  kind_of,
  num_of,
  at_of,
  len_of,
  ats_from,
  columns_from,
  name_bytes,
  name_at,
  reference_at,
  operand_bytes,
  operand_at,
  kind_bytes,
  kind_at,
  rule_at,
  rule_bytes,
  rules_from,
  blank_rule,
  records_from,
  laid,
}
use Rattle.jobtext.specs.Said.{
  value_said,
  cell_said,
  cells_said,
  name_said,
  reference_said,
  literal_said,
  operand_said,
  kind_said,
  rule_said,
  job_said,
}

-- ---- bools and literals

one_or_none : (b : Bool) → eqb (cond b 1 0) 1 ≡ b
one_or_none true = refl
one_or_none false = refl

finite_number : (x : Float) → T (finite x) → T (not (is_nan x))
unfolding finite is_nan
finite_number nan f = absurd f
finite_number (inf negative) f = tt
finite_number (fin negative m e) f = tt

-- ---- the pool

-- the bytes from u on are bs, then rest
abbrev Next : List ℕ → ℕ → List ℕ → List ℕ → Type 0
Next pool u bs rest = drop u pool ≡ bs ++ rest

module _ (pool : List ℕ) where
  text_next : (u : ℕ) (bs rest : List ℕ) → Next pool u bs rest → text_at pool (span_at u bs) ≡ bs
  unfolding text_at
  text_next u bs rest h = rw h (take-append_seam bs rest)

  next_after : (u : ℕ) (bs rest : List ℕ) → Next pool u bs rest → drop (u + length bs) pool ≡ rest
  next_after u bs rest h = sym (drop-drop (length bs) u pool) ∙ rw h (drop-append_seam bs rest)

  -- of two texts one after the other
  next_first : (u : ℕ) (a b rest : List ℕ) → Next pool u (a ++ b) rest → Next pool u a (b ++ rest)
  next_first u a b rest h = h ∙ append_assoc a b rest

  next_second : (u : ℕ) (a b rest : List ℕ) → Next pool u (a ++ b) rest → Next pool (u + length a) b rest
  next_second u a b rest h = next_after u a (b ++ rest) (next_first u a b rest h)

  -- ---- cells

  value_laid : (u : ℕ) (v : Value) (rest : List ℕ) → Next pool u (value_bytes v) rest
      → value_said pool (kind_of v) (num_of v) (at_of u v) (len_of v) ≡ v
  unfolding value_said value_bytes kind_of num_of at_of len_of
  value_laid u (Value.number bits) rest h = refl
  value_laid u (Value.date bits) rest h = refl
  value_laid u (Value.text bs) rest h = ap Value.text (text_next u bs rest h)
  value_laid u (Value.bool b) rest h = ap Value.bool (one_or_none b)
  value_laid u Value.error rest h = refl

  cell_laid : (u : ℕ) (c : CellLine) (cs : List CellLine) (rest : List ℕ) → Next pool u (value_bytes c.value) rest
      → cell_said pool (columns_from u (c ∷ cs)) 0 ≡ c
  unfolding cell_said columns_from ats_from
  cell_laid u c cs rest h = λ i. record { row = c.row; col = c.col; wraps = c.wraps; value = value_laid u c.value rest h i }

  -- past the first cell
  cells_shifted : (u : ℕ) (c : CellLine) (cs : List CellLine) (i n : ℕ)
      → cells_said pool (columns_from u (c ∷ cs)) (suc i) n ≡ cells_said pool (columns_from (u + length (value_bytes c.value)) cs) i n
  unfolding cells_said cell_said columns_from ats_from
  cells_shifted u c cs i zero = refl
  cells_shifted u c cs i (suc n) = ap₂ ◌∷◌ refl (cells_shifted u c cs (suc i) n)

  cells_laid : (u : ℕ) (cs : List CellLine) (rest : List ℕ) → Next pool u (cell_bytes cs) rest
      → cells_said pool (columns_from u cs) 0 (length (columns_from u cs).rows) ≡ cs
  unfolding cells_said cell_bytes columns_from
  cells_laid u [] rest h = refl
  cells_laid u (c ∷ cs) rest h =
      let a = value_bytes c.value in
      ap₂ ◌∷◌ (cell_laid u c cs (cell_bytes cs ++ rest) (next_first u a (cell_bytes cs) rest h))
      (cells_shifted u c cs 0 (length (columns_from u cs).rows) ∙ cells_laid (u + length a) cs rest (next_second u a (cell_bytes cs) rest h))

  -- ---- operands

  name_laid : (u : ℕ) (n : Option (List ℕ)) (rest : List ℕ) → Next pool u (name_bytes n) rest → name_said pool (name_at u n) ≡ n
  unfolding name_bytes name_at name_said
  name_laid u none rest h = refl
  name_laid u (some bs) rest h = ap some (text_next u bs rest h)

  reference_laid : (u : ℕ) (r : Reference) (rest : List ℕ) → Next pool u (name_bytes r.name) rest
      → reference_said pool (reference_at u r) ≡ r
  unfolding reference_at reference_said
  reference_laid u r rest h = λ i.
      record {
        row = r.row;
        col = r.col;
        row_absolute = r.row_absolute;
        col_absolute = r.col_absolute;
        name = name_laid u r.name rest h i;
      }

  literal_laid : (bits : ℕ) → operand.Ok (Operand.literal bits) → literal_said pool (of_bits binary64 bits) ≡ Operand.literal bits
  unfolding operand finite_bits sixteens literal_said
  literal_laid bits o =
      rw (is_true (finite (of_bits binary64 bits)) o.1)
      (ap Operand.literal (to_bits-of_bits binary64 bits o.0 (finite_number (of_bits binary64 bits) o.1)))

  operand_laid : (u : ℕ) (o : Operand) (rest : List ℕ) → operand.Ok o → Next pool u (operand_bytes o) rest
      → operand_said pool (operand_at u o) ≡ o
  unfolding operand_bytes operand_at operand_said
  operand_laid u (Operand.literal bits) rest k h = literal_laid bits k
  operand_laid u (Operand.reference r) rest k h = ap Operand.reference (reference_laid u r rest h)
  operand_laid u Operand.unread rest k h = refl

  second_laid : (u : ℕ) (b : Bool) (o : Operand) (rest : List ℕ) → (second_if b).Ok o → Next pool u (operand_bytes o) rest
      → cond b (operand_said pool (operand_at u o)) Operand.unread ≡ o
  second_laid u true o rest k h = operand_laid u o rest k h
  second_laid u false o rest k h = sym k

  -- ---- rules

  kind_laid : (u : ℕ) (k : Kind) (rest : List ℕ) → kind.Ok k → Next pool u (kind_bytes k) rest → kind_said pool (kind_at u k) ≡ k
  unfolding kind cell_is expr kind_bytes kind_at kind_said
  kind_laid u (Kind.cell_is op first second fill) rest o h =
      let a = operand_bytes first in
      let b = operand_bytes second in
      ap₂ (λ (x y : Operand). Kind.cell_is op x y fill) (operand_laid u first (b ++ rest) o.1.0 (next_first u a b rest h))
      (second_laid (u + length a) (uses_second op) second rest o.1.1.0 (next_second u a b rest h))
  kind_laid u (Kind.scale2 min max) rest o h = refl
  kind_laid u (Kind.scale3 min mid max) rest o h = refl
  kind_laid u (Kind.bar colour) rest o h = refl
  kind_laid u (Kind.rank number bottom percent fill) rest o h = refl
  kind_laid u (Kind.mean below fill) rest o h = refl
  kind_laid u (Kind.same unique fill) rest o h = refl
  kind_laid u (Kind.expr op left right fill) rest o h =
      let a = operand_bytes left in
      let b = operand_bytes right in
      ap₂ (λ (x y : Operand). Kind.expr op x y fill) (operand_laid u left (b ++ rest) o.1.0 (next_first u a b rest h))
      (operand_laid (u + length a) right rest o.1.1.0 (next_second u a b rest h))

  rule_laid : (u : ℕ) (r : RuleLine) (rest : List ℕ) → rule_line.Ok r → Next pool u (kind_bytes r.kind) rest
      → rule_said pool (rule_at u r) ≡ r
  unfolding rule_line rule_at rule_said
  rule_laid u r rest o h = λ i.
      record {
        range = r.range;
        priority = r.priority;
        stop = r.stop;
        imported = r.imported;
        kind = kind_laid u r.kind rest o.1.1.1.1.1.1.1 h i;
      }

  rules_laid : (u n : ℕ) (rs : List RuleLine) (rest : List ℕ) → times_ok rule_line.Ok n rs → Next pool u (rule_bytes rs) rest
      → map (rule_said pool) (rules_from u rs) ≡ rs
  unfolding rules_from rule_bytes
  rules_laid u zero [] rest o h = refl
  rules_laid u (suc n) [] rest o h = absurd o
  rules_laid u zero (r ∷ rs) rest o h = absurd o
  rules_laid u (suc n) (r ∷ rs) rest o h =
      let a = kind_bytes r.kind in
      ap₂ ◌∷◌ (rule_laid u r (rule_bytes rs ++ rest) o.0 (next_first u a (rule_bytes rs) rest h))
      (rules_laid (u + length a) n rs rest o.1 (next_second u a (rule_bytes rs) rest h))

-- ---- regions

regions_shifted : (row col : ℕ) (rows cols : List ℕ) (i n : ℕ)
    → regions_from (row ∷ rows) (col ∷ cols) (suc i) n ≡ regions_from rows cols i n
unfolding regions_from
regions_shifted row col rows cols i zero = refl
regions_shifted row col rows cols i (suc n) = ap₂ ◌∷◌ refl (regions_shifted row col rows cols (suc i) n)

abbrev rows_of : List CellCoordinate → List ℕ
rows_of rs = map (λ (r : CellCoordinate). r.row) rs

abbrev cols_of : List CellCoordinate → List ℕ
cols_of rs = map (λ (r : CellCoordinate). r.col) rs

regions_laid : (rs : List CellCoordinate) → regions_from (rows_of rs) (cols_of rs) 0 (length (rows_of rs)) ≡ rs
unfolding regions_from
regions_laid [] = refl
regions_laid (r ∷ rs) =
    ap₂ ◌∷◌ refl (regions_shifted r.row r.col (rows_of rs) (cols_of rs) 0 (length (rows_of rs)) ∙ regions_laid rs)

-- ---- the job

rules_length : (u : ℕ) (rs : List RuleLine) → length (rules_from u rs) ≡ length rs
unfolding rules_from
rules_length u [] = refl
rules_length u (r ∷ rs) = ap suc (rules_length (u + length (kind_bytes r.kind)) rs)

-- the records past the number are not read
pub records_taken : (u : ℕ) (rs : List RuleLine) → take (length rs) (records_from u rs).records ≡ rules_from u rs
unfolding records_from
records_taken u rs = take_at (rules_from u rs) (replicate (max_rules - length rs) blank_rule) (length rs) (rules_length u rs)

module _ (j : JobText) where
  cells_next : Next (laid j).pool (length j.name) (cell_bytes j.cells) (rule_bytes j.rules)
  unfolding laid
  cells_next = drop-append_seam j.name (cell_bytes j.cells ++ rule_bytes j.rules)

  rules_next : Next (laid j).pool (length j.name + length (cell_bytes j.cells)) (rule_bytes j.rules) []
  rules_next =
      next_after (laid j).pool (length j.name) (cell_bytes j.cells) (rule_bytes j.rules) cells_next
      ∙ sym (append-nil (rule_bytes j.rules))

  pub sheet_laid : Readable j → job_said j.limit (laid j) ≡ j
  unfolding job_said laid rules_of records_from job body_of tail
  sheet_laid r =
      let u = length j.name in
      let pool = (laid j).pool in
      let rules = u + length (cell_bytes j.cells) in
      let taken =
      ap (map (rule_said pool)) (records_taken rules j.rules)
      ∙ rules_laid pool rules (length j.rules) j.rules [] r.ok.1.1.1 rules_next in
      λ i.
      record {
        limit = j.limit;
        start = j.start;
        name = text_next pool 0 j.name (cell_bytes j.cells ++ rule_bytes j.rules) refl i;
        cells = cells_laid pool u j.cells (rule_bytes j.rules) cells_next i;
        regions = regions_laid j.regions i;
        rules = taken i;
      }
