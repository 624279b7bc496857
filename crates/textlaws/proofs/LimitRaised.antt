-- No mark moves when the limit is raised: what is answered has the same result at every greater limit. Assumes nothing.
use Rattle.charging.specs.declared.ChargeError.{ChargeError}
use Rattle.std.specs.Prelude.{Ok, Err}
use Prim.Native.Nat.{ℕ, ◌+◌, ◌^◌, ◌≤◌}
use native.Mathlib.Omega.{arith}
use mathlib.Core.Path.{◌≡◌, refl, sym, ◌∙◌}
use mathlib.Core.Logic.{⊎_elim}
use mathlib.Core.Bool.{Bool, true, false, cond}
use mathlib.Core.List.{List, [], ◌∷◌}
use mathlib.Core.Option.{none}
use lib.Dec.{leb, ltb}
use borrow.Author.Tests.{leb-true, le-leb}
use Rattle.charging.specs.declared.Counter.{Counter}
use Rattle.charging.specs.Charge.{Charged}
use Rattle.charging.specs.Charge.{Charge, size, counter, stored, charge, and_then, spend}
use Rattle.model.specs.Answer.{settled, limited}
use Rattle.model.specs.Job.{Job, Lengths, mark_space, run_of, result}
use Rattle.laws.specs.Demands.{Answered}
use Rattle.laws.proofs.Results.{WholeJob, result_is, result_checked}
use Rattle.laws.proofs.DemandOne.{refused_unanswered}
use Rattle.jobtext.specs.Written.{JobText, with_limit}
use Rattle.jobtext.specs.Read.{ReadResult}
use Rattle.jobtext.specs.Laid.{laid}
use Rattle.jobtext.specs.Decided.{whole_space, decided}

-- ---- charges

-- a charge by its two tests
abbrev tested : ℕ → Charge → Bool → Bool → Charged
tested c e fits low =
    cond fits (cond low (Ok (counter (c + size e))) (Err (ChargeError.LimitExceeded (counter (stored c e)) (c + size e))))
    (Err (ChargeError.CoordinateOverflow (counter c)))

tested_raised : (c : ℕ) (e : Charge) (k : Counter) (fits low low' : Bool) → (low ≡ true → low' ≡ true)
    → tested c e fits low ≡ Ok k → tested c e fits low' ≡ Ok k
tested_raised c e k true true low' up h = rw (up refl) h
tested_raised c e k true false low' up h = absurd (let no : ◌≡◌ {A = ℕ} 0 1 = cc in omega arith)
tested_raised c e k false low low' up h = h

module _ (limit limit' : ℕ) (more : limit ≤ limit') where
  -- an accepted charge is accepted at a greater limit
  charge_raised : (c : ℕ) (e : Charge) (k : Counter) → charge limit c e ≡ Ok k → charge limit' c e ≡ Ok k
  unfolding charge
  charge_raised c e k =
      let n = c + size e in
      tested_raised c e k (ltb n (2 ^ 64)) (leb n limit) (leb n limit') (λ low. le-leb n limit' (omega (arith, leb-true n limit low)))

  spend_raised : (c : ℕ) (es : List Charge) (k : Counter) → spend limit c es ≡ Ok k → spend limit' c es ≡ Ok k
  unfolding spend and_then
  spend_raised c [] k h = h
  spend_raised c (e ∷ es) k h = go (charge limit c e) refl h (λ d. spend_raised d es k)
    where
      go : (r : Charged) → charge limit c e ≡ r → and_then r (λ d. spend limit d es) ≡ Ok k
          → ((d : ℕ) → spend limit d es ≡ Ok k → spend limit' d es ≡ Ok k)
          → and_then (charge limit' c e) (λ d. spend limit' d es) ≡ Ok k
      go (Ok d) is h later = rw (charge_raised c e d is) (later d.count h)
      go (Err (ChargeError.LimitExceeded d a)) is h later = absurd (let no : ◌≡◌ {A = ℕ} 0 1 = cc in omega arith)
      go (Err (ChargeError.CoordinateOverflow d)) is h later = absurd (let no : ◌≡◌ {A = ℕ} 0 1 = cc in omega arith)

  -- ---- jobs

  whole_raised : (j : Job) (l : Lengths) → WholeJob j limit l → result j limit' l ≡ result j limit l
  unfolding limited settled
  whole_raised j l w =
      let spent = spend_raised j.start (run_of j).charges _ w.run.spent in
      result_checked j limit' l none none w.well_formed w.roomy
      ∙ (rw (spent, le-leb _ (mark_space l) w.run.fits) (sym w.run.is))

  pub result_raised : (j : Job) (l : Lengths) → Answered j limit l → result j limit' l ≡ result j limit l
  result_raised j l z = ⊎_elim (whole_raised j l) (λ r. absurd (refused_unanswered j limit l r z)) (result_is j limit l)

pub monotone : (j : JobText) (limit : ℕ) → (decided (ReadResult.is j)).summary.number ≡ 0 → j.limit ≤ limit
    → decided (ReadResult.is (with_limit limit j)) ≡ decided (ReadResult.is j)
unfolding decided laid
monotone j limit z more = result_raised j.limit limit more (laid j) whole_space z
