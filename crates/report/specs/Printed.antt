-- A report that is printed or refused: how many bytes it takes, 0 where it is refused. Assumes nothing.
use Rattle.std.specs.Prelude.{ℕ, Bool, cond, not, List, eqb}
use Rattle.memory.specs.Memory.{page_length}

abbrev pub printed_length : Bool → ℕ → List ℕ → ℕ
printed_length ok n text = cond ok (page_length n text) 0

-- 0 is no refusal's number
abbrev pub is_refusal : ℕ → Bool
is_refusal number = not (eqb number 0)
