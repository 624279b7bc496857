-- `first_from` of the model finds the first number at which a test holds, `first_bad_rule` the index of the first rule whose kind is bad.
-- Assumes nothing.
use Prim.Native.Nat.{ℕ, zero, suc, ◌+◌, ◌≤◌, ◌<◌}
use native.Mathlib.Nat.{zero-add, add-zero}
use native.Mathlib.Omega.{arith}
use mathlib.Core.Path.{◌≡◌, refl, sym, ap, subst, ◌∙◌}
use mathlib.Core.Logic.{◌↔◌}
use mathlib.Core.Bool.{Bool, true, false, cond, true≢false}
use mathlib.Core.List.{List, [], ◌∷◌}
use mathlib.Core.Option.{Option, none, some}
use lib.ListN.{length, get_or}
use Rattle.model.specs.declared.Rule.{Rule}
use Rattle.model.specs.Job.{first_from, first_bad_rule, bad_kind}
use Rattle.laws.proofs.Each.{Throughout, throughout_more}

-- k is the first of the n numbers from i on at which the test holds
pub record First (test : ℕ → Bool) (i n k : ℕ) : Type 0 where
  pub low : i ≤ k
  pub high : k < i + n
  pub holds : test k ≡ true
  pub before : Throughout test false i k

module _ (test : ℕ → Bool) where
  -- what a search says of the numbers
  abbrev Says : ℕ → ℕ → Option ℕ → Type 0
  Says i n none = Throughout test false i (i + n)
  Says i n (some k) = First test i n k

  says_later : (i n : ℕ) (o : Option ℕ) → test i ≡ false → Says (suc i) n o → Says i (suc n) o
  says_later i n none e h = throughout_more test false i (i + suc n) e (λ k a b. h k a (omega arith))
  says_later i n (some k) e f =
      record { low = omega arith; high = omega arith; holds = f.holds; before = throughout_more test false i k e f.before }

  first_from_says : (i n : ℕ) → Says i n (first_from test i n)
  unfolding first_from
  first_from_says i zero = λ k a b. absurd (omega arith)
  first_from_says i (suc n) = go (test i) refl (first_from_says (suc i) n)
    where
      go : (b : Bool) → test i ≡ b → Says (suc i) n (first_from test (suc i) n)
          → Says i (suc n) (cond b (some i) (first_from test (suc i) n))
      go true e later = record { low = omega arith; high = omega arith; holds = e; before = λ k a b. absurd (omega arith) }
      go false e later = says_later i n (first_from test (suc i) n) e later

  first_within : (i n k j : ℕ) → First test i n k → Throughout test false i j → k < j → ⊥
  first_within i n k j f h b = true≢false (sym f.holds ∙ h k f.low b)

  first_says : (i n k : ℕ) → First test i n k → (o : Option ℕ) → Says i n o → o ≡ some k
  first_says i n k f none h = absurd (first_within i n k (i + n) f h f.high)
  first_says i n k f (some l) g = ap some (omega (arith, first_within i n k l f g.before, first_within i n l k g f.before))

  none_says : (i n : ℕ) → Throughout test false i (i + n) → (o : Option ℕ) → Says i n o → o ≡ none
  none_says i n h none f = refl
  none_says i n h (some k) f = absurd (first_within i n k (i + n) f h f.high)

  -- a search finds k exactly if k is the first number at which the test holds
  pub first_from_some : (i n k : ℕ) → (first_from test i n ≡ some k) ↔ First test i n k
  first_from_some i n k =
      (λ e. subst (Says i n) e (first_from_says i n), λ f. first_says i n k f (first_from test i n) (first_from_says i n))

  -- it finds none exactly if the test holds at no number
  pub first_from_none : (i n : ℕ) → (first_from test i n ≡ none) ↔ Throughout test false i (i + n)
  first_from_none i n =
      (λ e. subst (Says i n) e (first_from_says i n), λ h. none_says i n h (first_from test i n) (first_from_says i n))

-- ---- rules

-- the rule at an index has a bad kind; `past` stands past the end
abbrev pub bad_at : List ℕ → Rule → List Rule → ℕ → Bool
bad_at pool past rules k = bad_kind pool (get_or rules k past).kind

bad_from : (pool : List ℕ) (past : Rule) (rules : List Rule) (test : ℕ → Bool) (i : ℕ)
    → ((k : ℕ) → k < length rules → test (i + k) ≡ bad_at pool past rules k) → first_bad_rule pool i rules ≡ first_from test i (length rules)
unfolding first_bad_rule first_from
bad_from pool past [] test i h = refl
bad_from pool past (r ∷ rs) test i h =
    rw (
      sym (h 0 (omega arith)) ∙ ap test (add-zero i),
      bad_from pool past rs test (suc i) (λ k b. ap test (omega arith) ∙ h (suc k) (omega arith)),
    )

-- `first_bad_rule` is the search for the first index at which a bad rule stands
pub first_bad_rule_is : (pool : List ℕ) (past : Rule) (rules : List Rule)
    → first_bad_rule pool 0 rules ≡ first_from (bad_at pool past rules) 0 (length rules)
first_bad_rule_is pool past rules =
    bad_from pool past rules (bad_at pool past rules) 0 (λ k h. ap (bad_at pool past rules) (zero-add k))

-- it is some k exactly if the rule at k is the first bad one
pub first_bad_rule_some : (pool : List ℕ) (past : Rule) (rules : List Rule) (k : ℕ)
    → (first_bad_rule pool 0 rules ≡ some k) ↔ First (bad_at pool past rules) 0 (length rules) k
first_bad_rule_some pool past rules k = rw (first_bad_rule_is pool past rules) (first_from_some (bad_at pool past rules) 0 (length rules) k)

-- it is none exactly if no rule is bad
pub first_bad_rule_none : (pool : List ℕ) (past : Rule) (rules : List Rule)
    → (first_bad_rule pool 0 rules ≡ none) ↔ Throughout (bad_at pool past rules) false 0 (length rules)
first_bad_rule_none pool past rules =
    rw (first_bad_rule_is pool past rules) (rw zero-add at (first_from_none (bad_at pool past rules) 0 (length rules)))
