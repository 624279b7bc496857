-- Every result of the definition is the number and the values of an answer of the call. Assumes nothing.
use Rattle.model.specs.declared.Refusal.{Refusal}
use Rattle.charging.specs.declared.ChargeError.{ChargeError}
use Rattle.std.specs.Prelude.{Ok, Err}
use Prim.Native.Nat.{ℕ}
use mathlib.Core.Path.{◌≡◌, refl, sym, ap, ◌∙◌}
use mathlib.Core.Bool.{Bool, true, false, cond}
use mathlib.Core.List.{List, [], ◌∷◌}
use mathlib.Core.Option.{Option, none, some}
use lib.Dec.{leb}
use lib.ListN.{length}
use Rattle.charging.specs.Charge.{Charged}
use Rattle.charging.specs.Charge.{spend}
use Rattle.model.specs.Options.{Answer}
use Rattle.model.specs.Run.{Run}
use Rattle.model.specs.Answer.{totals, refused_by, Summary, Result, refusal, refused, answered, summary, settled, limited}
use Rattle.model.specs.Job.{Job, Lengths, mark_space, first_of, refuse_if, refuse_at, malformed, space_short, run_of, result}
use Rattle.laws.proofs.Results.{result_checked}

pub record Told (s : Summary) : Type 0 where
  pub by : Answer
  pub is : summary by ≡ s

-- a declared refusal with this number and these values
pub record Turned (s : Summary) : Type 0 where
  pub by : Refusal
  pub is : refused_by by ≡ s

turned_told : {s : Summary} → Turned s → Told s
unfolding summary
turned_told t = record { by = Err t.by; is = t.is }

-- ---- the checks

pub data Checks : Option Summary → Type 0 where
  passed : Checks none
  met : {s : Summary} → Turned s → Checks (some s)

data AllChecks : List (Option Summary) → Type 0 where
  done : AllChecks []
  also : {c : Option Summary} {cs : List (Option Summary)} → Checks c → AllChecks cs → AllChecks (c ∷ cs)

first_told : {cs : List (Option Summary)} → AllChecks cs → Checks (first_of cs)
unfolding first_of
first_told done = passed
first_told (also passed later) = first_told later
first_told (also (met t) later) = met t

module _ (j : Job) where
  if_told : (number place : ℕ) (b : Bool) → Turned (refusal number place j.start 0) → Checks (refuse_if j number place b)
  unfolding refuse_if
  if_told number place true t = met t
  if_told number place false t = passed

  at_told : (number : ℕ) (o : Option ℕ) → ((place : ℕ) → Turned (refusal number place j.start 0)) → Checks (refuse_at j number o)
  unfolding refuse_at
  at_told number none t = passed
  at_told number (some place) t = met (t place)

  pub malformed_told : Checks (malformed j)
  unfolding malformed refused_by
  malformed_told =
      first_told (also (if_told 1 0 _ (record { by = Refusal.LengthsDiffer j.start; is = refl }))
      (also (if_told 2 0 _ (record { by = Refusal.TooMany j.start; is = refl }))
      (also (at_told 3 _ (λ place. record { by = Refusal.OutOfBounds place j.start; is = refl }))
      (also (at_told 3 _ (λ place. record { by = Refusal.OutOfBounds place j.start; is = refl }))
      (also (at_told 4 _ (λ place. record { by = Refusal.NotRising place j.start; is = refl }))
      (also (at_told 4 _ (λ place. record { by = Refusal.NotRising place j.start; is = refl }))
      (also (at_told 5 _ (λ place. record { by = Refusal.NameOutside place j.start; is = refl }))
      (also (if_told 5 64 _ (record { by = Refusal.NameOutside 64 j.start; is = refl })) done))))))))

  space_told : (l : Lengths) → Checks (space_short j l)
  unfolding space_short refused_by
  space_told l = if_told 6 0 _ (record { by = Refusal.SpaceShort j.start; is = refl })

-- ---- the run

settled_told : (space : ℕ) (r : Run) (x : Charged) → Told (settled space r x).summary
unfolding settled refused answered summary refused_by
settled_told space r (Ok c) = go (leb (length r.marks) space)
  where
    go : (b : Bool) → Told (cond b (answered c.count r) (refused (refusal 9 0 c.count (length r.marks)))).summary
    go true = record { by = Ok (totals c.count (length r.marks) r.deferred r.simplified); is = refl }
    go false = record { by = Err (Refusal.MarksExceedSpace c.count (length r.marks)); is = refl }
settled_told space r (Err (ChargeError.LimitExceeded c actual)) = record { by = Err (Refusal.LimitExceeded c.count actual); is = refl }
settled_told space r (Err (ChargeError.CoordinateOverflow c)) = record { by = Err (Refusal.CoordinateOverflow c.count); is = refl }

pub result_told : (j : Job) (limit : ℕ) (l : Lengths) → Told (result j limit l).summary
unfolding limited refused
result_told j limit l = go (malformed j) (space_short j l) refl refl (malformed_told j) (space_told j l)
  where
    same : {s u : Summary} → s ≡ u → Told u → Told s
    same e t = record { by = t.by; is = t.is ∙ sym e }

    go : (m c : Option Summary) → malformed j ≡ m → space_short j l ≡ c → Checks m → Checks c → Told (result j limit l).summary
    go (some s) c p q (met t) k = same (ap (λ (x : Result). x.summary) (result_checked j limit l (some s) c p q)) (turned_told t)
    go none (some s) p q n (met t) = same (ap (λ (x : Result). x.summary) (result_checked j limit l none (some s) p q)) (turned_told t)
    go none none p q n k =
        same (ap (λ (x : Result). x.summary) (result_checked j limit l none none p q))
        (settled_told (mark_space l) (run_of j) (spend limit j.start (run_of j).charges))
