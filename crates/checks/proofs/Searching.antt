-- Searches for the first index at which a test holds: among the numbers below n, by a loop that tells whether there is one and by `find`,
-- and among a job's rules. Assumes nothing.
use Rattle.std.specs.Prelude.{Some, None, Option as Optional}
use Rattle.std.specs.List.{position_or_len, find, range_with_len}
use Rattle.std.specs.Option.{option_map}
use Prim.Native.Nat.{ℕ, zero, suc, ◌+◌, ◌-◌, ◌≤◌, ◌<◌}
use mathlib.Core.Path.{◌≡◌, refl, sym, ap, ◌∙◌}
use mathlib.Core.Bool.{Bool, true, false, cond, not, ◌||◌, true≢false}
use mathlib.Core.List.{List, [], ◌∷◌}
use mathlib.Core.Option.{Option, some}
use native.Mathlib.Nat.{add-zero, zero-add}
use native.Mathlib.Numerals.{add-one, one-add}
use native.Mathlib.Omega.{arith}
use Rattle.std.proofs.lemmas.Bool.{cases_lt, lt-ltb, le-ltb}
use mathlib.Core.Logic.{inl, inr}
use lib.Dec.{ltb}
use lib.ListN.{length}
use Rattle.model.specs.declared.Rule.{Rule}
use Rattle.model.specs.Job.{first_from, bad_kind, first_bad_rule}
use Rattle.checks.specs.Checked.{found}

-- ---- a loop that has come to i

module _ (test : ℕ → Bool) (n i : ℕ) {whole : Option ℕ} (same : first_from test i (n - i) ≡ whole) where
  number_passed : i < n → test i ≡ false → first_from test (i + 1) (n - (i + 1)) ≡ whole
  unfolding first_from
  number_passed h e = let left : n - i ≡ suc (n - suc i) = omega arith in rw add-one (rw (left, e) at same)

  pub numbers_ended : n ≤ i → None ≡ found whole
  unfolding first_from
  numbers_ended h = let e : n - i ≡ 0 = omega arith in ap found (rw e at same)

-- `bad` says whether the test held at one that was passed
pub none_passed : (test : ℕ → Bool) (n i : ℕ) {whole : Option ℕ} (bad : Bool) {here : Bool}
    → (bad ≡ false → first_from test i (n - i) ≡ whole) → i < n → here ≡ test i → bad || here ≡ false
    → first_from test (i + 1) (n - (i + 1)) ≡ whole
none_passed test n i true same h e o = absurd (true≢false o)
none_passed test n i false same h e o = number_passed test n i (same refl) h (sym e ∙ o)

-- ---- what `find` answers over the numbers

same_option : {X : Type 0} (o : Optional X) → option_map (λ x. x) o ≡ o
same_option None = refl
same_option (Some x) = refl

found_from : (test : ℕ → Bool) (i n : ℕ) → find test (range_with_len i n) ≡ found (first_from test i n)
unfolding first_from
found_from test i zero = refl
found_from test i (suc n) = rw (add-one i) (go (test i) (found_from test (suc i) n))
  where
    go : (t : Bool) → find test (range_with_len (suc i) n) ≡ found (first_from test (suc i) n)
        → cond t (Some i) (find test (range_with_len (suc i) n)) ≡ found (cond t (some i) (first_from test (suc i) n))
    go true e = refl
    go false e = e

pub find_first : (test : ℕ → Bool) (i n : ℕ) {r : Optional ℕ} → option_map (λ x. x) r ≡ find test (range_with_len i n) → r ≡ found (first_from test i n)
find_first test i n {r} e = sym (same_option r) ∙ e ∙ found_from test i n

-- ---- among a job's rules

-- how many rules come before the first that is bad
abbrev pub good : List ℕ → List Rule → ℕ
good pool rs = position_or_len (λ (r : Rule). bad_kind pool r.kind) rs

ltb_both : (p n : ℕ) → ltb (suc p) (suc n) ≡ ltb p n
ltb_both p n =
    elim (cases_lt p n) [
      | inl h ↦ lt-ltb (suc p) (suc n) (omega arith) ∙ sym (lt-ltb p n h)
      | inr h ↦ le-ltb (suc p) (suc n) (omega arith) ∙ sym (le-ltb p n h)
    ]

-- the first bad rule, the rules counted from i on
rule_from : (pool : List ℕ) (i : ℕ) (rs : List Rule)
    → cond (ltb (good pool rs) (length rs)) (Some (i + good pool rs)) None ≡ found (first_bad_rule pool i rs)
unfolding first_bad_rule
rule_from pool i [] = refl
rule_from pool i (r ∷ rs) = go (bad_kind pool r.kind) (rule_from pool (suc i) rs)
  where
    go : (t : Bool)
        → cond (ltb (good pool rs) (length rs)) (Some (suc i + good pool rs)) None ≡ found (first_bad_rule pool (suc i) rs)
        → cond (ltb (cond (not t) (1 + good pool rs) 0) (suc (length rs))) (Some (i + cond (not t) (1 + good pool rs) 0)) None
        ≡ found (cond t (some i) (first_bad_rule pool (suc i) rs))
    go true e = rw (add-zero, lt-ltb 0 (suc (length rs)) (omega arith))
    go false e = let along : i + (1 + good pool rs) ≡ suc i + good pool rs = omega arith in rw along (rw (one-add, ltb_both) e)

-- what `position` answers
pub first_rule : (pool : List ℕ) (rs : List Rule)
    → cond (ltb (good pool rs) (length rs)) (Some (good pool rs)) None ≡ found (first_bad_rule pool 0 rs)
first_rule pool rs = rw zero-add at (rule_from pool 0 rs)
