-- The answer by what the rules came to, and whether it is one or a refusal. Assumes nothing.
use Rattle.charging.specs.declared.ChargeError.{ChargeError}
use Rattle.std.specs.Prelude.{ℕ, Bool, cond, leb, eqb, is_ok, Ok, Err}
use Rattle.charging.specs.Charge.{Charged}
use Rattle.model.specs.Options.{Answer}
use Rattle.model.specs.Answer.{Summary, refusal, answer, summary}
use Rattle.settling.specs.declared.Ran.{Ran}

-- by what the charges came to, with space for so many marks
abbrev pub settled_by : ℕ → ℕ → ℕ → ℕ → Charged → Summary
settled_by space marks deferred simplified (Ok c) =
    cond (leb marks space) (answer c.count marks deferred simplified) (refusal 9 0 c.count marks)
settled_by space marks deferred simplified (Err (ChargeError.LimitExceeded c actual)) = refusal 7 0 c.count actual
settled_by space marks deferred simplified (Err (ChargeError.CoordinateOverflow c)) = refusal 8 0 c.count 0

abbrev pub settled_as : ℕ → Ran → Summary
settled_as space ran = settled_by space ran.marks ran.deferred ran.simplified ran.charged

abbrev pub is_answered : Summary → Bool
is_answered s = eqb s.number 0

-- the answer in words of the definition, and whether the job is answered
abbrev pub told : Answer → Summary × Bool
told a = (summary a, is_ok a)

abbrev pub settled_to : ℕ → Ran → Summary × Bool
settled_to space ran = (settled_as space ran, is_answered (settled_as space ran))
