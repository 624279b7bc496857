-- What the bytes of outcomes say of them: which regions are hit, whether one leaves the test unresolved, and which is the first that does.
-- And the outcomes of a test have the bytes that it says. Assumes nothing.
use Prim.Native.Nat.{ℕ, zero, suc, ◌+◌, ◌≤◌, ◌<◌}
use mathlib.Core.Path.{◌≡◌, refl, sym, ap, ◌∙◌}
use mathlib.Core.Bool.{Bool, true, false, cond, not, ◌&&◌, ◌||◌, and-true, and-false}
use mathlib.Core.List.{List, [], ◌∷◌}
use native.Mathlib.Nat.{add-zero, not-suc-le-zero}
use native.Mathlib.Omega.{arith}
use lib.Dec.{eqb}
use lib.ListN.{length, get_or}
use Rattle.model.specs.declared.Outcome.{Outcome}
use Rattle.model.specs.declared.Range.{Range}
use Rattle.model.specs.declared.Test.{Test}
use Rattle.model.specs.Run.{is_unresolved}
use Rattle.hits.specs.Said.{byte_of}
use Rattle.hits.specs.Hits.{Known, verdict_by, column_in, outcome_by, outcomes_by, hits_from, unresolved_from}
use Rattle.hits.specs.Chosen.{stands, chosen_from, Tells}
use Rattle.hits.proofs.Chosen.{ahead}

pub neither : (a b : Bool) → a || b ≡ false → (a ≡ false) × (b ≡ false)
neither true b e = (cc, cc)
neither false b e = (refl, e)

-- ---- one region

module _ (later : List Outcome) where
  hits_first : (i : ℕ) (o : Outcome) → hits_from i (o ∷ later) ≡ ahead (eqb (byte_of o) 1) i (hits_from (suc i) later)
  unfolding hits_from byte_of
  hits_first i Outcome.Stopped = refl
  hits_first i Outcome.Passed = refl
  hits_first i Outcome.Unresolved = refl
  hits_first i (Outcome.Painted p) = refl

  unresolved_first : (o : Outcome) → is_unresolved (o ∷ later) ≡ eqb (byte_of o) 2 || is_unresolved later
  unfolding is_unresolved byte_of
  unresolved_first Outcome.Stopped = refl
  unresolved_first Outcome.Passed = refl
  unresolved_first Outcome.Unresolved = refl
  unresolved_first (Outcome.Painted p) = refl

  place_first : (i : ℕ) (o : Outcome) → unresolved_from i (o ∷ later) ≡ cond (eqb (byte_of o) 2) i (unresolved_from (suc i) later)
  unfolding unresolved_from byte_of
  place_first i Outcome.Stopped = refl
  place_first i Outcome.Passed = refl
  place_first i Outcome.Unresolved = refl
  place_first i (Outcome.Painted p) = refl

-- ---- the regions

abbrev byte_at : List Outcome → ℕ → ℕ
byte_at os i = byte_of (get_or os i Outcome.Passed)

hits_chosen : (i : ℕ) (os : List Outcome) (bytes : List ℕ) → length os ≡ length bytes
    → ((j : ℕ) → j < length bytes → eqb (byte_at os j) 1 ≡ eqb (get_or bytes j 0) 1) → hits_from i os ≡ chosen_from i bytes
unfolding hits_from chosen_from
hits_chosen i [] [] l same = refl
hits_chosen i [] (byte ∷ bytes) l same = absurd (omega arith)
hits_chosen i (o ∷ os) [] l same = absurd (omega arith)
hits_chosen i (o ∷ os) (byte ∷ bytes) l same =
    hits_first os i o
    ∙ rw (same 0 (omega arith), hits_chosen (suc i) os bytes (omega arith) (λ j h. same (suc j) (omega arith)))

-- where no byte says so, none is unresolved
none_unresolved : (i : ℕ) (os : List Outcome) → ((j : ℕ) → j < length os → eqb (byte_at os j) 2 ≡ false)
    → (is_unresolved os ≡ false) × (unresolved_from i os ≡ i + length os)
unfolding is_unresolved unresolved_from
none_unresolved i [] none = (refl, sym (add-zero i))
none_unresolved i (o ∷ os) none =
    let rest = none_unresolved (suc i) os (λ j h. none (suc j) (omega arith)) in (
      unresolved_first os o ∙ rw (none 0 (omega arith)) rest.0,
      place_first os i o ∙ rw (none 0 (omega arith)) (rest.1 ∙ omega arith),
    )

-- the first that is unresolved is r regions behind i
first_unresolved : (r i : ℕ) (os : List Outcome) → r < length os → ((j : ℕ) → j < r → eqb (byte_at os j) 2 ≡ false)
    → eqb (byte_at os r) 2 ≡ true → (is_unresolved os ≡ true) × (unresolved_from i os ≡ i + r)
first_unresolved r i [] few none here = absurd (not-suc-le-zero few)
first_unresolved zero i (o ∷ os) few none here =
    (unresolved_first os o ∙ rw here, place_first os i o ∙ rw (here, add-zero i))
first_unresolved (suc r) i (o ∷ os) few none here =
    let rest = first_unresolved r (suc i) os (omega arith) (λ j h. none (suc j) (omega arith)) here in (
      unresolved_first os o ∙ rw (none 0 (omega arith)) rest.0,
      place_first os i o ∙ rw (none 0 (omega arith)) (rest.1 ∙ omega arith),
    )

-- ---- outcomes that the bytes tell

counts : (byte said : ℕ) (live within : Bool) → eqb 0 byte ≡ false
    → eqb (cond (live && within) said 0) byte ≡ eqb said byte && live && within
counts byte said true true e = sym (and-true _ ∙ and-true _)
counts byte said true false e = e ∙ sym (and-false (eqb said byte && true))
counts byte said false within e = e ∙ sym (ap (λ t. t && within) (and-false (eqb said byte)))

one : (t : Bool) → eqb (cond t 1 0) 1 ≡ t
one true = refl
one false = refl

module _ {range : Range} {flags cols said : List ℕ} {os : List Outcome} (tells : Tells range flags cols said os) (i : ℕ) where
  -- a byte besides 0
  told : (byte : ℕ) → eqb 0 byte ≡ false → (j : ℕ) → j < length said → eqb (byte_at os j) byte ≡ stands byte range flags cols said j
  told byte e j h = ap (λ b. eqb b byte) (tells.each j h) ∙ counts byte _ _ _ e

  pub hits_told : (bytes : List ℕ) → length bytes ≡ length said
      → ((j : ℕ) → j < length said → get_or bytes j 0 ≡ cond (stands 1 range flags cols said j) 1 0) → hits_from i os ≡ chosen_from i bytes
  hits_told bytes l each =
      hits_chosen i os bytes (tells.long ∙ sym l)
      (λ j h. told 1 refl j (omega (arith, l)) ∙ sym (ap (λ b. eqb b 1) (each j (omega (arith, l))) ∙ one _))

  pub none_told : (r : ℕ) → length said ≤ r → ((j : ℕ) → j < r → stands 2 range flags cols said j ≡ false)
      → (is_unresolved os ≡ false) × (unresolved_from i os ≡ i + length said)
  none_told r all none =
      rw tells.long at (none_unresolved i os (λ j h. told 2 refl j (omega (arith, tells.long)) ∙ none j (omega (arith, tells.long))))

  pub first_told : (r : ℕ) → r < length said → ((j : ℕ) → j < r → stands 2 range flags cols said j ≡ false)
      → stands 2 range flags cols said r ≡ true → (is_unresolved os ≡ true) × (unresolved_from i os ≡ i + r)
  first_told r few none here =
      first_unresolved r i os (omega (arith, tells.long)) (λ j h. told 2 refl j (omega arith) ∙ none j h) (told 2 refl r few ∙ here)

-- ---- the outcomes of a test

module _ (k : Known) (range : Range) (t : Test) (imported : Bool) (cols flags : List ℕ) where
  outcome_byte : (live within : Bool) (v : Outcome)
      → byte_of (cond (not live) Outcome.Stopped (cond within v Outcome.Passed)) ≡ cond (live && within) (byte_of v) 0
  unfolding byte_of
  outcome_byte true true v = refl
  outcome_byte true false v = refl
  outcome_byte false within v = refl

  pub outcomes_long : (i n : ℕ) → length (outcomes_by k range t imported cols flags i n) ≡ n
  unfolding outcomes_by
  outcomes_long i zero = refl
  outcomes_long i (suc n) = ap suc (outcomes_long (suc i) n)

  pub outcomes_byte : (i n j : ℕ) → j < n → byte_at (outcomes_by k range t imported cols flags i n) j
      ≡ cond (eqb (get_or flags (i + j) 0) 0 && column_in range (get_or cols (i + j) 0)) (byte_of (verdict_by k t imported (i + j))) 0
  unfolding outcomes_by outcome_by
  outcomes_byte i zero j h = absurd (not-suc-le-zero h)
  outcomes_byte i (suc n) zero h =
      rw (add-zero i) (outcome_byte (eqb (get_or flags i 0) 0) (column_in range (get_or cols i 0)) (verdict_by k t imported i))
  outcomes_byte i (suc n) (suc j) h =
      let e : i + suc j ≡ suc i + j = omega arith in
      rw e (outcomes_byte (suc i) n j (omega arith))
