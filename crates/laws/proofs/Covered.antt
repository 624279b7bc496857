-- When a duplicate rule runs: its range is upright and within the grid, and each coordinate of it has a cell with a key
-- (document 01, 'Rules'). In any other case it is deferred. Assumes nothing.
use Prim.Native.Nat.{ℕ, suc, ◌-◌, ◌≤◌}
use native.Mathlib.Omega.{arith}
use mathlib.Core.Path.{◌≡◌, refl}
use mathlib.Core.Logic.Iff
use mathlib.Core.Logic.{◌↔◌}
use mathlib.Core.Bool.{Bool, true, false, cond, ◌&&◌, false≢true}
use lib.Dec.{leb}
use borrow.Author.Tests.{leb-true}
use Rattle.model.specs.declared.Range.{Range}
use Rattle.model.specs.declared.Rgb.{Rgb}
use Rattle.model.specs.declared.CfRule.{CfRule}
use Rattle.model.specs.declared.Rule.{Rule}
use Rattle.model.specs.declared.Test.{Test}
use Rattle.model.specs.declared.Plan.{Plan}
use Rattle.model.specs.Sheet.{Sheet, upright, within_grid}
use Rattle.model.specs.Readings.{has_key, key_at}
use Rattle.model.specs.Rule.{each, covered, plan_of, plan}
use Rattle.laws.proofs.Each.{each_through}

-- the cell at a coordinate has a key
abbrev pub keyed_at : Sheet → ℕ → ℕ → Bool
keyed_at s row col = has_key (key_at s.pool s.cells (record { row = row; col = col }))

-- each coordinate of a range has a cell with a key
abbrev pub EachKeyed : Sheet → Range → Type 0
EachKeyed s r = (row col : ℕ) → r.top ≤ row → row ≤ r.bottom → r.left ≤ col → col ≤ r.right → keyed_at s row col ≡ true

-- when a duplicate rule runs
pub record Runs (s : Sheet) (r : Range) : Type 0 where
  pub is_upright : upright r ≡ true
  pub is_within : within_grid r ≡ true
  pub each_keyed : EachKeyed s r

-- a conjunction is true exactly if both parts are
pub and_true : (a b : Bool) → (a && b ≡ true) ↔ ((a ≡ true) × (b ≡ true))
and_true true b = (λ e. (refl, e), λ h. h.1)
and_true false b = (λ e. absurd (false≢true e), λ h. h.0)

-- an upright range has no first row or column past its last
pub upright_true : (r : Range) → upright r ≡ true → (r.top ≤ r.bottom) × (r.left ≤ r.right)
unfolding upright
upright_true r e =
    let h = (and_true (leb r.top r.bottom) (leb r.left r.right)).0 e in (leb-true _ _ h.0, leb-true _ _ h.1)

-- an upright range is covered exactly if each of its coordinates has a cell with a key
pub covered_true : (s : Sheet) (r : Range) → upright r ≡ true → (covered s r ≡ true) ↔ EachKeyed s r
unfolding covered
covered_true s r up = (
  λ e row col a b c d. (along row).0 (down.0 e row a b) col c d,
  λ h. down.1 (λ row a b. (along row).1 (λ col c d. h row col a b c d)),
)
  where
    row_keyed : ℕ → Bool
    row_keyed row = each (keyed_at s row) r.left (suc (r.right - r.left))

    along : (row : ℕ) → (row_keyed row ≡ true) ↔ ((col : ℕ) → r.left ≤ col → col ≤ r.right → keyed_at s row col ≡ true)
    along row = each_through (keyed_at s row) r.left r.right (upright_true r up).1

    down : (covered s r ≡ true) ↔ ((row : ℕ) → r.top ≤ row → row ≤ r.bottom → row_keyed row ≡ true)
    down = each_through row_keyed r.top r.bottom (upright_true r up).0

-- ---- the plan

runs : Sheet → Range → Bool
runs s r = upright r && within_grid r && covered s r

runs_true : (s : Sheet) (r : Range) → (runs s r ≡ true) ↔ Runs s r
unfolding runs
runs_true s r = (
  λ e. let g = (and_true (upright r && within_grid r) (covered s r)).0 e in let h = (and_true (upright r) (within_grid r)).0 g.0 in
      record { is_upright = h.0; is_within = h.1; each_keyed = (covered_true s r h.0).0 g.1 },
  λ h. rw (h.is_upright, h.is_within, (covered_true s r h.is_upright).1 h.each_keyed),
)

module _ (t : Test) where
  tested_if : Bool → Plan
  tested_if b = cond b (Plan.Tested t) Plan.Deferred

  tested_if_all : (a b c : Bool) → cond a (cond b (tested_if c) Plan.Deferred) Plan.Deferred ≡ tested_if (a && b && c)
  unfolding tested_if
  tested_if_all true true c = refl
  tested_if_all true false c = refl
  tested_if_all false b c = refl

  tested_if_tested : (b : Bool) → (tested_if b ≡ Plan.Tested t) ↔ (b ≡ true)
  unfolding tested_if
  tested_if_tested true = (λ e. refl, λ e. refl)
  tested_if_tested false = (λ e. cc, λ e. cc)

  tested_if_deferred : (b : Bool) → (tested_if b ≡ Plan.Deferred) ↔ (b ≡ true → ⊥)
  unfolding tested_if
  tested_if_deferred true = (λ e h. let z : ◌≡◌ {A = ℕ} 0 1 = cc in omega arith, λ h. absurd (h refl))
  tested_if_deferred false = (λ e h. false≢true h, λ h. refl)

module _ (s : Sheet) (r : Rule) (unique : Bool) (fill : Rgb) (kind : r.kind ≡ CfRule.DuplicateValues unique fill) where
  planned : plan s r ≡ tested_if (Test.DuplicateValues unique fill) (runs s r.range)
  unfolding plan plan_of runs tested_if
  planned = rw kind (tested_if_all (Test.DuplicateValues unique fill) (upright r.range) (within_grid r.range) (covered s r.range))

  -- a duplicate rule runs exactly if its range is upright and within the grid and each coordinate of it has a cell with a key
  pub duplicate_tested : (plan s r ≡ Plan.Tested (Test.DuplicateValues unique fill)) ↔ Runs s r.range
  duplicate_tested =
      rw planned (Iff.trans (tested_if_tested (Test.DuplicateValues unique fill) (runs s r.range)) (runs_true s r.range))

  -- and is deferred in any other case
  pub duplicate_deferred : (plan s r ≡ Plan.Deferred) ↔ (Runs s r.range → ⊥)
  duplicate_deferred =
      rw planned (Iff.trans (tested_if_deferred (Test.DuplicateValues unique fill) (runs s r.range)) (Iff.not (runs_true s r.range)))

  -- over an upright range within the grid, the keys alone decide
  pub duplicate_keyed : upright r.range ≡ true → within_grid r.range ≡ true
      → (plan s r ≡ Plan.Tested (Test.DuplicateValues unique fill)) ↔ EachKeyed s r.range
  duplicate_keyed up within = (
    λ e. (duplicate_tested.0 e).each_keyed,
    λ h. duplicate_tested.1 (record { is_upright = up; is_within = within; each_keyed = h }),
  )
