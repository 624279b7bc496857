-- Every result is either the whole run, with all its charges and marks accepted, or a refusal with a number other than 0 and
-- nothing besides. Assumes nothing.
use Rattle.charging.specs.declared.ChargeError.{ChargeError}
use Rattle.std.specs.Prelude.{Ok, Err}
use Prim.Native.Nat.{ℕ, ◌+◌, ◌≤◌, ◌<◌}
use native.Mathlib.Omega.{arith}
use mathlib.Core.Path.{◌≡◌, refl, ap, ap₂, ◌∙◌}
use mathlib.Core.Logic.{◌⊎◌, inl, inr, ⊎_elim}
use mathlib.Core.Bool.{Bool, true, false, cond}
use mathlib.Core.List.{List, [], ◌∷◌}
use mathlib.Core.Option.{Option, none, some}
use lib.Dec.{leb}
use lib.ListN.{length}
use borrow.Author.Tests.{leb-true}
use Rattle.charging.specs.Charge.{Charged}
use Rattle.charging.specs.Charge.{counter, spend, total}
use Rattle.model.specs.Run.{Run}
use Rattle.model.specs.Answer.{Summary, Result, refusal, refused, answered, settled, limited}
use Rattle.model.specs.Job.{Job, Lengths, mark_space, first_of, refuse_if, refuse_at, malformed, space_short, run_of, result, or_else}
use Rattle.laws.proofs.Spending.{spend_count}

-- ---- a run under a limit

-- the whole run
pub record Whole (limit start space : ℕ) (r : Run) (x : Result) : Type 0 where
  pub is : x ≡ answered (start + total r.charges) r
  pub spent : spend limit start r.charges ≡ Ok (counter (start + total r.charges))
  pub fits : length r.marks ≤ space

pub record Refused (x : Result) : Type 0 where
  pub why : Summary
  pub is : x ≡ refused why
  pub number : why.number ≡ 0 → ⊥

refused_with : (number place count actual : ℕ) → 0 < number → Refused (refused (refusal number place count actual))
unfolding refusal
refused_with number place count actual h = record { why = refusal number place count actual; is = refl; number = λ e. omega arith }

pub limited_is : (limit start space : ℕ) (r : Run)
    → Whole limit start space r (limited limit start space r) ⊎ Refused (limited limit start space r)
unfolding limited settled
limited_is limit start space r = go (spend limit start r.charges) refl
  where
    fitting : (b : Bool) → leb (length r.marks) space ≡ b → (n : ℕ) → n ≡ start + total r.charges
        → spend limit start r.charges ≡ Ok (counter n)
        → Whole limit start space r (cond b (answered n r) (refused (refusal 9 0 n (length r.marks))))
        ⊎ Refused (cond b (answered n r) (refused (refusal 9 0 n (length r.marks))))
    fitting true e n same h =
        let spent = h ∙ ap (λ (k : ℕ). Ok (counter k)) same in
        inl (record { is = ap (λ (k : ℕ). answered k r) same; spent = spent; fits = leb-true _ _ e })
    fitting false e n same h = inr (refused_with 9 0 n (length r.marks) (omega arith))

    go : (c : Charged) → spend limit start r.charges ≡ c → Whole limit start space r (settled space r c) ⊎ Refused (settled space r c)
    go (Ok c) h = fitting (leb (length r.marks) space) refl c.count (spend_count limit start r.charges c h) h
    go (Err (ChargeError.LimitExceeded c actual)) h = inr (refused_with 7 0 c.count actual (omega arith))
    go (Err (ChargeError.CoordinateOverflow c)) h = inr (refused_with 8 0 c.count 0 (omega arith))

-- ---- the checks

abbrev Refusing : Option Summary → Type 0
Refusing none = Unit
Refusing (some s) = s.number ≡ 0 → ⊥

data AllRefusing : List (Option Summary) → Type 0 where
  done : AllRefusing []
  also : {c : Option Summary} {cs : List (Option Summary)} → Refusing c → AllRefusing cs → AllRefusing (c ∷ cs)

first_refusing : {cs : List (Option Summary)} → AllRefusing cs → Refusing (first_of cs)
unfolding first_of
first_refusing done = tt
first_refusing (also {c = none} here later) = first_refusing later
first_refusing (also {c = some s} here later) = here

if_refusing : (j : Job) (number place : ℕ) (b : Bool) → 0 < number → Refusing (refuse_if j number place b)
unfolding refuse_if refusal
if_refusing j number place true h = λ e. omega arith
if_refusing j number place false h = tt

at_refusing : (j : Job) (number : ℕ) (o : Option ℕ) → 0 < number → Refusing (refuse_at j number o)
unfolding refuse_at refusal
at_refusing j number none h = tt
at_refusing j number (some place) h = λ e. omega arith

malformed_refusing : (j : Job) → Refusing (malformed j)
unfolding malformed
malformed_refusing j =
    first_refusing (also (if_refusing j 1 0 _ (omega arith))
    (also (if_refusing j 2 0 _ (omega arith))
    (also (at_refusing j 3 _ (omega arith))
    (also (at_refusing j 3 _ (omega arith))
    (also (at_refusing j 4 _ (omega arith))
    (also (at_refusing j 4 _ (omega arith))
    (also (at_refusing j 5 _ (omega arith)) (also (if_refusing j 5 64 _ (omega arith)) done))))))))

short_refusing : (j : Job) (l : Lengths) → Refusing (space_short j l)
unfolding space_short
short_refusing j l = if_refusing j 6 0 _ (omega arith)

-- ---- a job

-- the whole run of a job whose checks pass
pub record WholeJob (j : Job) (limit : ℕ) (l : Lengths) : Type 0 where
  pub well_formed : malformed j ≡ none
  pub roomy : space_short j l ≡ none
  pub run : Whole limit j.start (mark_space l) (run_of j) (result j limit l)

-- the result by what the checks say
pub result_checked : (j : Job) (limit : ℕ) (l : Lengths) (m c : Option Summary) → malformed j ≡ m → space_short j l ≡ c
    → result j limit l ≡ or_else m (or_else c (limited limit j.start (mark_space l) (run_of j)))
unfolding result
result_checked j limit l m c p q =
    ap₂ (λ (x y : Option Summary). or_else x (or_else y (limited limit j.start (mark_space l) (run_of j)))) p q

pub result_is : (j : Job) (limit : ℕ) (l : Lengths) → WholeJob j limit l ⊎ Refused (result j limit l)
result_is j limit l = go (malformed j) (space_short j l) refl refl (malformed_refusing j) (short_refusing j l)
  where
    go : (m c : Option Summary) → malformed j ≡ m → space_short j l ≡ c → Refusing m → Refusing c
        → WholeJob j limit l ⊎ Refused (result j limit l)
    go (some s) c p q n k = inr (record { why = s; is = result_checked j limit l (some s) c p q; number = n })
    go none (some s) p q n k = inr (record { why = s; is = result_checked j limit l none (some s) p q; number = k })
    go none none p q n k =
        let same = result_checked j limit l none none p q in
        ⊎_elim
        (λ w. inl (record { well_formed = p; roomy = q; run = record { is = same ∙ w.is; spent = w.spent; fits = w.fits } }))
        (λ r. inr (record { why = r.why; is = same ∙ r.is; number = r.number }))
        (limited_is limit j.start (mark_space l) (run_of j))
