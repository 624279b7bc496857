-- What a job that is refused comes to. Assumes nothing.
use Prim.Native.Nat.{ℕ}
use mathlib.Core.Path.{◌≡◌, refl, sym, ap}
use mathlib.Core.List.{[], ◌∷◌}
use mathlib.Core.Option.{Option, none, some}
use Rattle.model.specs.Answer.{Summary, Result, limited}
use Rattle.model.specs.Job.{Job, Lengths, mark_space, first_of, malformed, space_short, run_of, or_else, result}
use Rattle.checks.specs.Checked.{space_of, refusal_of}

-- ---- the first of several

first_one : (a : Option Summary) → first_of (a ∷ []) ≡ a
unfolding first_of
first_one none = refl
first_one (some s) = refl

else_first : (a b : Option Summary) (r : Result) → or_else a (or_else b r) ≡ or_else (first_of (a ∷ b ∷ [])) r
unfolding first_of
else_first none b r = ap (λ o. or_else o r) (sym (first_one b))
else_first (some s) b r = refl

-- ---- for a caller

module _ (j : Job) (l : Lengths) where
  -- the lengths of the mark columns have no part in a refusal
  pub refusal_space : refusal_of j (space_of l.bar_rules l.bar_ppms l.scratch) ≡ refusal_of j l
  unfolding refusal_of space_short
  refusal_space = refl

  -- a job that is refused comes to its refusal, any other to its run
  pub result_refused : (limit : ℕ) → result j limit l ≡ or_else (refusal_of j l) (limited limit j.start (mark_space l) (run_of j))
  unfolding result refusal_of
  result_refused limit = else_first (malformed j) (space_short j l) (limited limit j.start (mark_space l) (run_of j))
