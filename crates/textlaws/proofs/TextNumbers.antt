-- The numbers that a text can come to: never 1, 5 or 6, and no 2 for one that is accepted as a job. The early 2 is the call's own.
-- Assumes nothing.
use Rattle.charging.specs.declared.ChargeError.{ChargeError}
use Rattle.std.specs.Prelude.{Ok, Err}
use Prim.Native.Nat.{ℕ, suc, ◌+◌, ◌≤◌}
use native.Mathlib.Omega.{arith}
use mathlib.Core.Path.{◌≡◌, refl, ap, ◌∙◌}
use mathlib.Core.Logic.{inl, inr}
use mathlib.Core.Bool.{Bool, true, false, cond, and-false}
use mathlib.Core.List.{List, [], ◌∷◌, ◌++◌}
use mathlib.Core.Option.{Option, none, some}
use lib.Dec.{leb}
use lib.ListN.{length, length-append, length-map}
use borrow.Author.Tests.{le-ltb, eq-eqb}
use types.Run.{OneOf, hit}
use Rattle.charging.specs.Charge.{Charged}
use Rattle.charging.specs.Charge.{spend}
use Rattle.model.specs.Comparison.{uses_second}
use Rattle.model.specs.Run.{Run}
use Rattle.model.specs.Answer.{Summary, Result, refusal, refused, answer, answered, settled, limited}
use Rattle.model.specs.Job.{
  Job,
  Lengths,
  mark_space,
  rules_of,
  outside,
  bad_name,
  bad_operand,
  bad_kind,
  first_bad_rule,
  lengths_differ,
  too_many,
  refuse_at,
  refuse_if,
  first_of,
  malformed,
  space_short,
  run_of,
  or_else,
  result,
}
use Rattle.jobtext.specs.Written.{Operand, Kind, RuleLine, JobText}
use Rattle.jobtext.specs.Text.{of_job}
use Rattle.jobtext.specs.Read.{ReadResult, over, Readable, read}
use Rattle.jobtext.specs.Laid.{
  span_at,
  cell_bytes,
  columns_from,
  name_bytes,
  name_at,
  reference_at,
  operand_bytes,
  operand_at,
  kind_bytes,
  kind_at,
  rule_at,
  rule_bytes,
  rules_from,
  records_from,
  laid,
}
use Rattle.jobtext.specs.Decided.{whole_space, decided}
use Rattle.jobtext.proofs.Lengths.{ats_length}
use Rattle.jobtext.proofs.Reading.{read_accepted}
use Rattle.textlaws.proofs.PoolHalf.{counts_few, pool_half}
use Rattle.textlaws.proofs.SheetLaid.{records_taken}

-- ---- names in the pool

module _ (pool : List ℕ) where
  span_inside : (u : ℕ) (bs : List ℕ) → u + length bs ≤ length pool → outside pool (span_at u bs) ≡ false
  unfolding outside
  span_inside u bs h = le-ltb _ _ h

  name_inside : (u : ℕ) (n : Option (List ℕ)) → u + length (name_bytes n) ≤ length pool → bad_name pool (name_at u n) ≡ false
  unfolding name_bytes name_at bad_name
  name_inside u none h = refl
  name_inside u (some bs) h = span_inside u bs h

  operand_inside : (u : ℕ) (o : Operand) → u + length (operand_bytes o) ≤ length pool → bad_operand pool (operand_at u o) ≡ false
  unfolding operand_bytes operand_at reference_at bad_operand
  operand_inside u (Operand.literal bits) h = refl
  operand_inside u (Operand.reference r) h = name_inside u r.name h
  operand_inside u Operand.unread h = refl

  -- of two operands, whether the second is used or not
  operands_inside : (u : ℕ) (a b : Operand) → u + length (operand_bytes a ++ operand_bytes b) ≤ length pool
      → (bad_operand pool (operand_at u a) ≡ false) × (bad_operand pool (operand_at (u + length (operand_bytes a)) b) ≡ false)
  operands_inside u a b h =
      let n = length-append (operand_bytes a) (operand_bytes b) in
      (operand_inside u a (omega arith), operand_inside (u + length (operand_bytes a)) b (omega arith))

  kind_inside : (u : ℕ) (k : Kind) → u + length (kind_bytes k) ≤ length pool → bad_kind pool (kind_at u k) ≡ false
  unfolding kind_bytes kind_at bad_kind
  kind_inside u (Kind.cell_is op first second fill) h =
      let b = operands_inside u first second h in rw (b.0, b.1) (and-false (uses_second op))
  kind_inside u (Kind.scale2 min max) h = refl
  kind_inside u (Kind.scale3 min mid max) h = refl
  kind_inside u (Kind.bar colour) h = refl
  kind_inside u (Kind.rank number bottom percent fill) h = refl
  kind_inside u (Kind.mean below fill) h = refl
  kind_inside u (Kind.same unique fill) h = refl
  kind_inside u (Kind.expr op left right fill) h = let b = operands_inside u left right h in rw (b.0, b.1)

  rules_inside : (u i : ℕ) (rs : List RuleLine) → u + length (rule_bytes rs) ≤ length pool → first_bad_rule pool i (rules_from u rs) ≡ none
  unfolding rule_bytes rules_from rule_at first_bad_rule
  rules_inside u i [] h = refl
  rules_inside u i (r ∷ rs) h =
      let a = kind_bytes r.kind in
      let n = length-append a (rule_bytes rs) in
      rw (kind_inside u r.kind (omega arith)) (rules_inside (u + length a) (suc i) rs (omega arith))

-- ---- the checks on a job as it is laid

module _ (j : JobText) where
  -- all columns are of one list
  lengths_same : lengths_differ (laid j) ≡ false
  unfolding lengths_differ laid columns_from
  lengths_same =
      simp (length-map, ats_length)
      (rw (eq-eqb (length j.cells) (length j.cells) refl, eq-eqb (length j.regions) (length j.regions) refl))

  pool_length : length (laid j).pool ≡ length j.name + length (cell_bytes j.cells) + length (rule_bytes j.rules)
  unfolding laid
  pool_length = simp length-append (omega arith)

  names_inside : first_bad_rule (laid j).pool 0 (rules_of (laid j)) ≡ none
  unfolding laid rules_of records_from
  names_inside =
      let u = length j.name + length (cell_bytes j.cells) in
      ap (first_bad_rule (laid j).pool 0) (records_taken u j.rules)
      ∙ rules_inside (laid j).pool u 0 j.rules (omega (arith, pool_length))

  sheet_inside : outside (laid j).pool (laid j).name ≡ false
  unfolding laid
  sheet_inside = span_inside (laid j).pool 0 j.name (omega (arith, pool_length))

  few_enough : Readable j → too_many (laid j) ≡ false
  unfolding too_many laid columns_from records_from
  few_enough r =
      let few = counts_few (of_job j).0 r.counts in
      let half = pool_half j r.ok in
      let pool = le-ltb 65_536 (length (laid j).pool) (omega (arith, r.fits)) in
      let rules = le-ltb 64 (length j.rules) few.2 in
      simp length-map (rw (le-ltb 1024 (length j.cells) few.0, le-ltb 1024 (length j.regions) few.1, rules, pool))

  roomy : Readable j → space_short (laid j) whole_space ≡ none
  unfolding space_short refuse_if laid columns_from whole_space
  roomy r =
      let few = counts_few (of_job j).0 r.counts in
      simp length-map (rw (le-ltb 1024 (length j.cells) few.0, le-ltb 1024 (length j.regions) few.1))

  -- ---- the early 2

  many : over (of_job j).0 ≡ true → too_many (laid j) ≡ true
  unfolding too_many over laid columns_from records_from
  many h = simp length-map (rw h)

  pub early_two : over (of_job j).0 ≡ true → (limit : ℕ) (l : Lengths) → result (laid j) limit l ≡ refused (refusal 2 0 j.start 0)
  unfolding result malformed refuse_if first_of laid
  early_two h limit l = rw (lengths_same, many h)

-- ---- numbers

-- a refusal, if it is one, with a number of the list
abbrev pub Among : List ℕ → Option Summary → Type 0
Among ks none = Unit
Among ks (some s) = OneOf ks s.number

data AllAmong (ks : List ℕ) : List (Option Summary) → Type 0 where
  done : AllAmong ks []
  also : {c : Option Summary} {cs : List (Option Summary)} → Among ks c → AllAmong ks cs → AllAmong ks (c ∷ cs)

first_among : {ks : List ℕ} {cs : List (Option Summary)} → AllAmong ks cs → Among ks (first_of cs)
unfolding first_of
first_among done = tt
first_among (also {c = none} here later) = first_among later
first_among (also {c = some s} here later) = here

else_among : (ks : List ℕ) (m : Option Summary) (x : Result) → Among ks m → OneOf ks x.summary.number
    → OneOf ks (or_else m x).summary.number
unfolding refused
else_among ks none x h k = k
else_among ks (some s) x h k = h

at_among : (ks : List ℕ) (j : Job) (number : ℕ) (o : Option ℕ) → OneOf ks number → Among ks (refuse_at j number o)
unfolding refuse_at refusal
at_among ks j number none h = tt
at_among ks j number (some place) h = h

-- a check that is not met
if_never : (ks : List ℕ) (j : Job) (number place : ℕ) (b : Bool) → b ≡ false → Among ks (refuse_if j number place b)
unfolding refuse_if
if_never ks j number place b h = rw h tt

at_never : (ks : List ℕ) (j : Job) (number : ℕ) (o : Option ℕ) → o ≡ none → Among ks (refuse_at j number o)
unfolding refuse_at
at_never ks j number o h = rw h tt

-- of an accepted job
abbrev job_numbers : List ℕ
job_numbers = 0 ∷ 3 ∷ 4 ∷ 7 ∷ 8 ∷ 9 ∷ []

limited_among : (limit start space : ℕ) (r : Run) → OneOf job_numbers (limited limit start space r).summary.number
unfolding limited settled refused refusal answered answer
limited_among limit start space r = go (spend limit start r.charges)
  where
    fitting : (b : Bool) (n : ℕ)
        → OneOf job_numbers (cond b (answered n r) (refused (refusal 9 0 n (length r.marks)))).summary.number
    fitting true n = hit job_numbers 0 tt
    fitting false n = hit job_numbers 9 tt

    go : (c : Charged) → OneOf job_numbers (settled space r c).summary.number
    go (Ok c) = fitting (leb (length r.marks) space) c.count
    go (Err (ChargeError.LimitExceeded c actual)) = hit job_numbers 7 tt
    go (Err (ChargeError.CoordinateOverflow c)) = hit job_numbers 8 tt

module _ (j : JobText) (r : Readable j) where
  -- the checks refuse it with 3 or 4 alone
  pub malformed_among : (ks : List ℕ) → OneOf ks 3 → OneOf ks 4 → Among ks (malformed (laid j))
  unfolding malformed
  malformed_among ks three four =
      let k = laid j in
      first_among (also (if_never ks k 1 0 _ (lengths_same j))
      (also (if_never ks k 2 0 _ (few_enough j r))
      (also (at_among ks k 3 _ three)
      (also (at_among ks k 3 _ three)
      (also (at_among ks k 4 _ four)
      (also (at_among ks k 4 _ four)
      (also (at_never ks k 5 _ (names_inside j)) (also (if_never ks k 5 64 _ (sheet_inside j)) done))))))))

  short_among : Among job_numbers (space_short (laid j) whole_space)
  short_among = rw (roomy j r) tt

  pub numbers_of_jobs : OneOf job_numbers (decided (ReadResult.is j)).summary.number
  unfolding decided result
  numbers_of_jobs =
      else_among job_numbers (malformed (laid j)) _ (malformed_among job_numbers (hit job_numbers 3 tt) (hit job_numbers 4 tt))
      (else_among job_numbers (space_short (laid j) whole_space) _ short_among
      (limited_among j.limit (laid j).start (mark_space whole_space) (run_of (laid j))))

abbrev text_numbers : List ℕ
text_numbers = 0 ∷ 2 ∷ 3 ∷ 4 ∷ 7 ∷ 8 ∷ 9 ∷ 10 ∷ 11 ∷ []

of_a_text : (n : ℕ) → OneOf job_numbers n → OneOf text_numbers n
of_a_text n (inl e) = rw e (hit text_numbers 0 tt)
of_a_text n (inr (inl e)) = rw e (hit text_numbers 3 tt)
of_a_text n (inr (inr (inl e))) = rw e (hit text_numbers 4 tt)
of_a_text n (inr (inr (inr (inl e)))) = rw e (hit text_numbers 7 tt)
of_a_text n (inr (inr (inr (inr (inl e))))) = rw e (hit text_numbers 8 tt)
of_a_text n (inr (inr (inr (inr (inr e))))) = rw e (hit text_numbers 9 tt)

pub numbers_of_texts : (s : List ℕ) → OneOf text_numbers (decided (read s)).summary.number
unfolding decided refused refusal
numbers_of_texts s = go (read s) refl
  where
    go : (r : ReadResult) → read s ≡ r → OneOf text_numbers (decided r).summary.number
    go (ReadResult.is j) e = of_a_text _ (numbers_of_jobs j (read_accepted s j e).readable)
    go ReadResult.too_long e = hit text_numbers 10 tt
    go (ReadResult.bad_line line) e = hit text_numbers 11 tt
    go (ReadResult.too_many start) e = hit text_numbers 2 tt
