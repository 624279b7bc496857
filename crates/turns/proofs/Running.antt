-- The loop over the rules: the rules left, taken from the state that the loop has, come to what all rules come to from the first state,
-- and the counts stay small. Assumes nothing.
use Prim.Native.Nat.{ℕ, ◌+◌, ◌*◌, ◌≤◌, ◌<◌}
use native.Mathlib.Omega.{arith}
use mathlib.Core.Path.{◌≡◌, refl, ap, ◌∙◌}
use mathlib.Core.List.{List}
use lib.ListN.{length, get_or, drop}
use lib.Seq.{drop-length}
use lib.Ieee.{Float}
use Rattle.charging.specs.Charge.{Charged}
use Rattle.model.specs.declared.Rule.{Rule}
use Rattle.model.specs.declared.Rules.{Rules}
use Rattle.order.specs.Order.{order_of, ordered_rules}
use Rattle.order.proofs.Laws.{taken_length, taken_next, entry_within}
use Rattle.turns.specs.Emit.{MarkColumns, BarColumns}
use Rattle.turns.specs.Step.{Step}
use Rattle.settling.specs.declared.Ran.{Ran}
use Rattle.turns.specs.Turns.{State, indexed, turn, turns}

-- k rules have at most 1,024 marks each, and count once each
pub record Small (ran : Ran) (k : ℕ) : Type 0 where
  pub marks : ran.marks ≤ 1024 * k
  pub deferred : ran.deferred ≤ k
  pub simplified : ran.simplified ≤ k

pub small_next : {ran next : Ran} {k : ℕ} → Small ran k → next.marks ≤ ran.marks + 1024 → next.deferred ≤ ran.deferred + 1
    → next.simplified ≤ ran.simplified + 1 → Small next (k + 1)
small_next h m d s =
    record { marks = omega (arith, h.marks, m); deferred = omega (arith, h.deferred, d); simplified = omega (arith, h.simplified, s) }

-- the lent columns and the flags keep their lengths
pub record Kept (m₀ m : MarkColumns) (b₀ b : BarColumns) (s₀ s : List Float) (flags : List ℕ) : Type 0 where
  pub regions : length m.regions ≡ length m₀.regions
  pub rules : length m.rules ≡ length m₀.rules
  pub kinds : length m.kinds ≡ length m₀.kinds
  pub colours : length m.colours ≡ length m₀.colours
  pub ppms : length m.ppms ≡ length m₀.ppms
  pub shapes : length m.shapes ≡ length m₀.shapes
  pub bar_rules : length b.rules ≡ length b₀.rules
  pub bar_ppms : length b.ppms ≡ length b₀.ppms
  pub scratch : length s ≡ length s₀
  pub flagged : length flags ≡ 1024

module _ (say : Rule → Charged → List ℕ → Step) (rules : Rules) where
  -- what is left from here is the whole from the start
  pub record Running (first st : State) (k : ℕ) : Type 0 where
    pub left : turns say (drop k (ordered_rules rules)) st ≡ turns say (ordered_rules rules) first

  pub running_begun : (st : State) → Running st st 0
  running_begun st = record { left = refl }

  pub running_next : (first st next : State) (k : ℕ) (d : Rule) (order : List ℕ) (now : Rule → Charged → List ℕ → Step)
      → order ≡ order_of rules → now ≡ say → k < length (ordered_rules rules) → Running first st k
      → let i = indexed (get_or order k 0) (get_or rules.records (get_or order k 0) d) in
      next ≡ turn i (now i.rule st.ran.charged st.flags) st → Running first next (k + 1)
  unfolding turns
  running_next first st next k d order now o n below h e =
      record { left = ap (turns say (drop (k + 1) (ordered_rules rules))) (rw (o, n) at e) ∙ rw (taken_next rules k below d) at h.left }

  pub running_ended : (first st : State) (k : ℕ) → k ≡ length (ordered_rules rules) → Running first st k
      → st ≡ turns say (ordered_rules rules) first
  unfolding turns
  running_ended first st k end h = rw (end, drop-length (ordered_rules rules)) at h.left

-- the record that a turn takes is one of the first
pub record_within : (rules : Rules) (order : List ℕ) (k count : ℕ) → order ≡ order_of rules → count ≡ length (ordered_rules rules) → k < count
    → get_or order k 0 < count
record_within rules order k count e c h = rw e (omega (arith, c, entry_within rules k (omega (arith, c, h)), taken_length rules))
