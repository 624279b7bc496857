-- A comparison is split at the first operator that stands outside quotes: an even number of quotes stands before it (document 01, 'Split').
-- Assumes nothing.
use Rattle.std.specs.Prelude.{None, Some}
use Prim.Native.Nat.{ℕ, zero, suc, ◌+◌, ◌%◌, ◌<◌}
use native.Mathlib.Omega.{arith}
use mathlib.Core.Path.{◌≡◌, refl, ap, subst}
use mathlib.Core.Logic.{◌↔◌}
use mathlib.Core.Bool.{Bool, true, false, cond, not}
use mathlib.Core.List.{List, [], ◌∷◌}
use lib.Dec.{eqb}
use lib.ListN.{length, get_or, drop, drop_of_length-le}
use lib.Seq.{drop-cons}
use borrow.Author.Count.{below_more}
use borrow.Author.Tests.{eqb-true}
use Rattle.model.specs.declared.ConditionalComparison.{ConditionalComparison}
use Rattle.model.specs.Options.{Split}
use Rattle.model.specs.Split.{formula, operator_at, or_later, scan, split, split_at, behind, right_part}

-- how many of the first k bytes are quotes `'` (39)
abbrev pub quotes_before : ℕ → List ℕ → ℕ
quotes_before zero bs = 0
quotes_before (suc k) [] = 0
quotes_before (suc k) (b ∷ bs) = cond (eqb b 39) 1 0 + quotes_before k bs

-- position k is outside quotes
abbrev pub Outside : List ℕ → ℕ → Type 0
Outside bs k = quotes_before k bs % 2 ≡ 0

-- no operator stands at position k
abbrev pub NoOperator : List ℕ → ℕ → Type 0
NoOperator bs k = operator_at k (drop k bs) ≡ None

-- outside quotes no operator stands at the first n positions
abbrev pub NoneWithin : List ℕ → ℕ → Type 0
NoneWithin bs n = (k : ℕ) → k < n → Outside bs k → NoOperator bs k

-- the first operator outside quotes
pub record FirstOperator (bs : List ℕ) (op : ConditionalComparison) (at width : ℕ) : Type 0 where
  pub inside : at < length bs
  pub outside : Outside bs at
  pub stands : operator_at at (drop at bs) ≡ split_at op at width
  pub before : NoneWithin bs at

-- what a split says of the bytes
abbrev Says : List ℕ → Split → Type 0
Says bs (Some s) = FirstOperator bs s.op s.at s.width
Says bs None = NoneWithin bs (length bs)

-- ---- one byte further

-- whether position k is inside quotes
abbrev Quoted : Bool → List ℕ → ℕ → Type 0
Quoted quoted bs k = quotes_before k bs % 2 ≡ cond quoted 1 0

quotes_more : (bs : List ℕ) (k : ℕ) → k < length bs → quotes_before (suc k) bs ≡ cond (eqb (get_or bs k 0) 39) 1 0 + quotes_before k bs
quotes_more [] k h = absurd (omega arith)
quotes_more (b ∷ bs) zero h = refl
quotes_more (b ∷ bs) (suc k) h = omega (arith, quotes_more bs k (omega arith))

-- a quote opens and closes, any other byte does neither
quoted_more : (bs : List ℕ) (k : ℕ) → k < length bs → (quote quoted : Bool) → eqb (get_or bs k 0) 39 ≡ quote → Quoted quoted bs k
    → Quoted (cond quote (not quoted) quoted) bs (suc k)
quoted_more bs k h true true e q = let more = rw e at (quotes_more bs k h) in omega arith
quoted_more bs k h true false e q = let more = rw e at (quotes_more bs k h) in omega arith
quoted_more bs k h false quoted e q = let more = rw e at (quotes_more bs k h) in omega arith

none_more : (bs : List ℕ) (n : ℕ) → NoneWithin bs n → (Outside bs n → NoOperator bs n) → NoneWithin bs (suc n)
none_more bs n h here k a = below_more (λ (k : ℕ). Outside bs k → NoOperator bs k) n h here k (omega arith)

-- a quote is no operator
quote_none : (at b : ℕ) (bs : List ℕ) → eqb b 39 ≡ true → operator_at at (b ∷ bs) ≡ None
unfolding operator_at
quote_none at b bs e = rw (eqb-true b 39 e)

-- an operator says the position at which it was looked for
data Placed (at : ℕ) : Split → Type 0 where
  here : {op : ConditionalComparison} {width : ℕ} → Placed at (split_at op at width)
  nowhere : Placed at None

placed_either : (at : ℕ) (b : Bool) {s t : Split} → Placed at s → Placed at t → Placed at (cond b s t)
placed_either at true p q = p
placed_either at false p q = q

operator_placed : (at : ℕ) (bs : List ℕ) → Placed at (operator_at at bs)
unfolding operator_at
operator_placed at [] = nowhere
operator_placed at (b ∷ bs) = search (placed_either, here, nowhere) depth 8

-- ---- the scan, from a position before which no operator stands outside quotes

module _ (bs : List ℕ) (at : ℕ) (inside : at < length bs) (before : NoneWithin bs at) where
  -- an operator outside quotes is the first, and without one the scan goes on
  says_here : {s : Split} (later : Split) → Outside bs at → Placed at s → operator_at at (drop at bs) ≡ s
      → (NoneWithin bs (suc at) → Says bs later) → Says bs (or_later s later)
  unfolding or_later
  says_here later outside here e next = record { inside = inside; outside = outside; stands = e; before = before }
  says_here later outside nowhere e next = next (none_more bs at before (λ o. e))

  says_step : (quoted : Bool) → Quoted quoted bs at
      → ((q : Bool) → Quoted q bs (suc at) → NoneWithin bs (suc at) → Says bs (scan q (suc at) (drop (suc at) bs)))
      → Says bs (scan quoted at (drop at bs))
  unfolding scan
  says_step quoted q next = rw whole (go quoted (eqb b 39) refl q)
    where
      b : ℕ
      b = get_or bs at 0

      rest : List ℕ
      rest = drop (suc at) bs

      whole : drop at bs ≡ b ∷ rest
      whole = drop-cons bs at 0 inside

      more : (quoted quote : Bool) → eqb b 39 ≡ quote → Quoted quoted bs at → (Outside bs at → operator_at at (b ∷ rest) ≡ None)
          → Says bs (scan (cond quote (not quoted) quoted) (suc at) rest)
      more quoted quote e q none =
          next (cond quote (not quoted) quoted) (quoted_more bs at inside quote quoted e q) (none_more bs at before (rw whole none))

      go : (quoted quote : Bool) → eqb b 39 ≡ quote → Quoted quoted bs at
          → Says bs (cond quote (scan (not quoted) (suc at) rest)
          (cond quoted (scan quoted (suc at) rest) (or_later (operator_at at (b ∷ rest)) (scan quoted (suc at) rest))))
      go quoted true e q = more quoted true e q (λ o. quote_none at b rest e)
      go true false e q = more true false e q (λ o. absurd (omega arith))
      go false false e q =
          says_here (scan false (suc at) rest) q (operator_placed at (b ∷ rest)) (ap (operator_at at) whole)
          (next false (quoted_more bs at inside false false e q))

scan_says : (bs : List ℕ) (n at : ℕ) (quoted : Bool) → at + n ≡ length bs → Quoted quoted bs at → NoneWithin bs at
    → Says bs (scan quoted at (drop at bs))
unfolding scan
scan_says bs zero at quoted fits q before = rw (drop_of_length-le bs {i = at} (omega arith)) (λ k a o. before k (omega arith) o)
scan_says bs (suc n) at quoted fits q before =
    says_step bs at (omega arith) before quoted q (λ p r none. scan_says bs n (suc at) p (omega arith) r none)

split_says : (t : List ℕ) → Says (formula t) (split t)
unfolding split
split_says t = scan_says (formula t) (length (formula t)) 0 false (omega arith) refl (λ k a o. absurd (omega arith))

-- ---- one split only

first_within : (bs : List ℕ) (op : ConditionalComparison) (at width n : ℕ) → FirstOperator bs op at width → NoneWithin bs n → at < n → ⊥
first_within bs op at width n f none a =
    let stands = f.stands in let stood = none at a f.outside in let z : ◌≡◌ {A = ℕ} 0 1 = cc in omega arith

first_says : (bs : List ℕ) (op : ConditionalComparison) (at width : ℕ) → FirstOperator bs op at width → (s : Split) → Says bs s
    → s ≡ split_at op at width
first_says bs op at width f (Some s) g =
    let p : s.at ≡ at = omega (arith, first_within bs op at width s.at f g.before, first_within bs s.op s.at s.width at g f.before) in
    let stands : operator_at s.at (drop s.at bs) ≡ Some s = g.stands in cc
first_says bs op at width f None none = absurd (first_within bs op at width (length bs) f none f.inside)

none_says : (bs : List ℕ) → NoneWithin bs (length bs) → (s : Split) → Says bs s → s ≡ None
none_says bs none (Some s) f = absurd (first_within bs s.op s.at s.width (length bs) f none f.inside)
none_says bs none None f = refl

-- ---- the theorems

-- a comparison is split at an operator exactly if that is the first one outside quotes
pub split_least : (t : List ℕ) (op : ConditionalComparison) (at width : ℕ)
    → (split t ≡ split_at op at width) ↔ FirstOperator (formula t) op at width
split_least t op at width =
    (λ e. subst (Says (formula t)) e (split_says t), λ f. first_says (formula t) op at width f (split t) (split_says t))

-- it is not split exactly if no operator stands outside quotes
pub split_none : (t : List ℕ) → (split t ≡ None) ↔ NoneWithin (formula t) (length (formula t))
split_none t = (λ e. subst (Says (formula t)) e (split_says t), λ none. none_says (formula t) none (split t) (split_says t))

-- the right part is what stands behind the operator
pub right_part_at : (t : List ℕ) (op : ConditionalComparison) (at width : ℕ) → split t ≡ split_at op at width
    → right_part t ≡ drop (at + width) (formula t)
unfolding right_part behind
right_part_at t op at width e = ap (behind (formula t)) e

-- and nothing without an operator
pub right_part_none : (t : List ℕ) → split t ≡ None → right_part t ≡ []
unfolding right_part behind
right_part_none t e = ap (behind (formula t)) e
