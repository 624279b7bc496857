-- Codes along an order: a key that comes next has the code of the one before it, if they are the same, and else its own index plus one.
-- Where each key then has a code, the codes are the names. Assumes nothing.
use Rattle.std.specs.Prelude.{None}
use Prim.Native.Nat.{ℕ, zero, suc, ◌-◌, ◌≤◌, ◌<◌}
use mathlib.Core.Path.{◌≡◌, refl, sym, ap, ◌∙◌}
use mathlib.Core.Bool.{Bool, true, false, cond}
use mathlib.Core.List.{List}
use mathlib.Core.Logic.{◌⊎◌, inl, inr, ⊎_elim}
use native.Mathlib.Omega.{arith}
use lib.Dec.{eqb, ltb}
use lib.ListN.{length, get_or, set, replicate, length-append, length-map, length-replicate, length-set}
use lib.Seq.{get_or-set_same, get_or-set_other, ext_get_or}
use borrow.Author.Tests.{eqb-true, eqb-false, ltb-true, eq-eqb, ne_eqb, lt-ltb, le-ltb}
use Rattle.model.specs.Options.{Key}
use Rattle.model.specs.Readings.{same_key, has_key}
use Rattle.keys.specs.Names.{first_same, name_of, names_of}
use Rattle.keys.specs.Held.{HeldBy}
use Rattle.keys.specs.Codes.{list_before, rank_of, code_after, Coded, Covering}
use Rattle.keys.proofs.SameKeys.{differ, key_swap, key_itself, second_keyed, key_turned}
use Rattle.keys.proofs.Naming.{zeros_at, padded_at, keyed_within, first_below, first_same_lem, first_within, name_keyed, name_none}
use Rattle.keys.proofs.Comparing.{tag_none, held_tag, rank_shared}
use Rattle.keys.proofs.Ordering.{before_itself, before_through}

-- what is at an index after a store
pub stored : (xs : List ℕ) (i x j y : ℕ) → i < length xs → get_or (set xs i x) j 0 ≡ y → ((j ≡ i) × (x ≡ y)) ⊎ (get_or xs j 0 ≡ y)
stored xs i x j y h e = at (eqb j i) refl
  where
    at : (b : Bool) → eqb j i ≡ b → ((j ≡ i) × (x ≡ y)) ⊎ (get_or xs j 0 ≡ y)
    at true q =
        let here : j ≡ i = eqb-true j i q in
        inl (here, sym (get_or-set_same xs i x 0 h) ∙ rw here at e)
    at false q = inr (sym (get_or-set_other xs i j x 0 (eqb-false j i q)) ∙ e)

abbrev pub key : List Key → ℕ → Key
key ks i = get_or ks i None

abbrev rank : List ℕ → List Key → ℕ → List ℕ
rank pool ks i = rank_of pool (key ks i)

-- i comes before p, or is the same and not after it
abbrev Ahead : List ℕ → List Key → ℕ → ℕ → Type 0
Ahead pool ks i p = (list_before (rank pool ks i) (rank pool ks p) ≡ true) ⊎ ((rank pool ks i ≡ rank pool ks p) × (i ≤ p))

-- ---- one code more

module _ (pool : List ℕ) (ks : List Key) where
  module _ {codes : List ℕ} (v : Coded pool ks codes) (i f : ℕ) (h : i < 1024) (same : same_key pool (key ks f) (key ks i) ≡ true) (first : f ≤ i)
      (after : (j g : ℕ) → get_or codes j 0 ≡ suc g → same_key pool (key ks j) (key ks i) ≡ true → f ≤ j)
      (before : (j g : ℕ) → get_or codes j 0 ≡ suc g → same_key pool (key ks i) (key ks j) ≡ true → g ≤ i) where
    inside : i < length codes
    inside = omega (arith, v.sized)

    same_more : (j g : ℕ) → get_or (set codes i (suc f)) j 0 ≡ suc g → same_key pool (key ks g) (key ks j) ≡ true
    same_more j g e =
        ⊎_elim (λ w. let own : g ≡ f = omega (arith, w.1) in rw (w.0, own) same) (v.same j g) (stored codes i (suc f) j (suc g) inside e)

    least_more : (j l g m : ℕ) → get_or (set codes i (suc f)) j 0 ≡ suc g → get_or (set codes i (suc f)) l 0 ≡ suc m
        → same_key pool (key ks l) (key ks j) ≡ true → g ≤ l
    least_more j l g m e d s = at (stored codes i (suc f) j (suc g) inside e) (stored codes i (suc f) l (suc m) inside d)
      where
        at : ((j ≡ i) × (suc f ≡ suc g)) ⊎ (get_or codes j 0 ≡ suc g) → ((l ≡ i) × (suc f ≡ suc m)) ⊎ (get_or codes l 0 ≡ suc m) → g ≤ l
        at (inl p) (inl q) = omega (arith, p.1, q.0)
        at (inl p) (inr q) = omega (arith, p.1, after l m q (rw p.0 at s))
        at (inr p) (inl q) = omega (arith, q.0, before j g p (rw q.0 at s))
        at (inr p) (inr q) = v.least j l g m p q s

    pub coded_more : Coded pool ks (set codes i (suc f))
    coded_more = record { sized = length-set codes i (suc f) ∙ v.sized; same = same_more; least = least_more }

-- ---- along an order

-- codes up to the key at p, which has the last of them; 0 where there are none
pub record Along (pool : List ℕ) (ks : List Key) (codes : List ℕ) (p code : ℕ) : Type 0 where
  pub coded : Coded pool ks codes
  pub ahead : (j g : ℕ) → get_or codes j 0 ≡ suc g → Ahead pool ks j p
  pub last : get_or codes p 0 ≡ code
  pub none : code ≡ 0 → (j g : ℕ) → get_or codes j 0 ≡ suc g → ⊥

module _ (pool : List ℕ) (ks : List Key) where
  zeros_uncoded : (j g : ℕ) → get_or (replicate 1024 0) j 0 ≡ suc g → ⊥
  zeros_uncoded j g e = omega (arith, zeros_at 1024 j, e)

  pub along_begun : Along pool ks (replicate 1024 0) 0 0
  along_begun =
      record {
        coded = record {
          sized = length-replicate {A = ℕ} 1024 0;
          same = λ i f e. absurd (zeros_uncoded i f e);
          least = λ i j f g e d s. absurd (zeros_uncoded i f e);
        };
        ahead = λ j g e. absurd (zeros_uncoded j g e);
        last = refl;
        none = λ e. zeros_uncoded;
      }

  module _ {codes : List ℕ} {p code : ℕ} (v : Along pool ks codes p code) (i : ℕ) (h : i < 1024)
      (keyed : has_key (key ks i) ≡ true) where
    not_same : (j l : ℕ) → list_before (rank pool ks j) (rank pool ks l) ≡ true → rank pool ks j ≡ rank pool ks l → ⊥
    not_same j l b e = differ (sym (before_itself (rank pool ks l)) ∙ rw e at b)

    -- a key that all before it come before
    new_more : ((j g : ℕ) → get_or codes j 0 ≡ suc g → list_before (rank pool ks j) (rank pool ks i) ≡ true)
        → Along pool ks (set codes i (suc i)) i (suc i)
    new_more b =
        record {
          coded = coded_more pool ks v.coded i i h (key_itself pool _ keyed) (omega arith)
              (λ j g e s. absurd (not_same j i (b j g e) (rank_shared pool _ _ s)))
              (λ j g e s. absurd (not_same j i (b j g e) (sym (rank_shared pool _ _ s))));
          ahead = λ j g e.
              ⊎_elim (λ w. inr (ap (rank pool ks) w.0, omega (arith, w.0))) (λ w. inl (b j g w))
              (stored codes i (suc i) j (suc g) (omega (arith, v.coded.sized)) e);
          last = get_or-set_same codes i (suc i) 0 (omega (arith, v.coded.sized));
          none = λ e. absurd (omega (arith, e));
        }

    before_all : list_before (rank pool ks p) (rank pool ks i) ≡ true → (j g : ℕ) → get_or codes j 0 ≡ suc g
        → list_before (rank pool ks j) (rank pool ks i) ≡ true
    before_all b j g e =
        ⊎_elim (λ w. before_through (rank pool ks j) (rank pool ks p) (rank pool ks i) w b)
        (λ w. rw w.0 b) (v.ahead j g e)

    -- a key that is the same as the one before it
    equal_more : (f : ℕ) → code ≡ suc f → p < i → same_key pool (key ks p) (key ks i) ≡ true
        → Along pool ks (set codes i (suc f)) i (suc f)
    equal_more f c less s =
        let here : get_or codes p 0 ≡ suc f = v.last ∙ c in
        let lead = v.coded.same p f here in
        let own = key_itself pool (key ks p) (second_keyed pool _ _ lead) in
        let low : f ≤ p = v.coded.least p p f f here here own in
        let swap : (m : ℕ) → same_key pool (key ks m) (key ks p) ≡ same_key pool (key ks m) (key ks i) =
        λ m. key_swap pool (key ks p) (key ks i) (key ks m) s in
        record {
          coded = coded_more pool ks v.coded i f h (sym (swap f) ∙ lead) (omega arith)
              (λ j g e t. v.coded.least p j f g here e (swap j ∙ t))
              (λ j g e t.
              let t' = sym (key_swap pool (key ks i) (key ks j) (key ks p) t) ∙ s in
              omega (arith, v.coded.least j p g f e here t'));
          ahead = λ j g e.
              ⊎_elim (λ w. inr (ap (rank pool ks) w.0, omega (arith, w.0)))
              (λ w. ⊎_elim (λ u. inl (rw (← rank_shared pool _ _ s) u)) (λ u. inr (u.0 ∙ rank_shared pool _ _ s, omega (arith, u.1)))
              (v.ahead j g w))
              (stored codes i (suc f) j (suc g) (omega (arith, v.coded.sized)) e);
          last = get_or-set_same codes i (suc f) 0 (omega (arith, v.coded.sized));
          none = λ e. absurd (omega (arith, e));
        }

  pub along_more : {codes : List ℕ} {p code : ℕ} → Along pool ks codes p code → (i : ℕ) → i < 1024 → {r : ℕ}
      → r ≡ code_after pool ks code p i → (r ≡ 0 → ⊥) → Along pool ks (set codes i r) i r
  unfolding code_after
  along_more {codes} {p} {code} v i h {r} e n =
      at (has_key (key ks i)) (eqb code 0) (same_key pool (key ks p) (key ks i)) (ltb p i) (list_before (rank pool ks p) (rank pool ks i))
      refl refl refl refl refl e
    where
      at : (keyed none same later before : Bool) → has_key (key ks i) ≡ keyed → eqb code 0 ≡ none
          → same_key pool (key ks p) (key ks i) ≡ same → ltb p i ≡ later → list_before (rank pool ks p) (rank pool ks i) ≡ before
          → r ≡ cond keyed (cond none (suc i) (cond same (cond later code 0) (cond before (suc i) 0))) 0
          → Along pool ks (set codes i r) i r
      at false none same later before k z s l b q = absurd (n q)
      at true true same later before k z s l b q = rw q (new_more v i h k (λ j g d. absurd (v.none (eqb-true code 0 z) j g d)))
      at true false true true before k z s l b q =
          let some : code ≡ suc (code - 1) = omega (arith, eqb-false code 0 z) in
          rw (q ∙ some) (equal_more v i h k (code - 1) some (ltb-true p i l) s)
      at true false true false before k z s l b q = absurd (n q)
      at true false false later true k z s l b q = rw q (new_more v i h k (before_all v i h k b))
      at true false false later false k z s l b q = absurd (n q)

-- ---- the code that comes next, case by case

module _ (pool : List ℕ) (ks : List Key) (code p i : ℕ) where
  pub after_none : has_key (key ks i) ≡ false → 0 ≡ code_after pool ks code p i
  unfolding code_after
  after_none k = rw k

  module _ (keyed : has_key (key ks i) ≡ true) where
    pub after_first : code ≡ 0 → suc i ≡ code_after pool ks code p i
    unfolding code_after
    after_first z = rw (keyed, eq-eqb code 0 z)

    module _ (some : code ≡ 0 → ⊥) where
      pub after_same : same_key pool (key ks p) (key ks i) ≡ true → p < i → code ≡ code_after pool ks code p i
      unfolding code_after
      after_same s l = rw (keyed, ne_eqb code 0 some, s, lt-ltb p i l)

      pub after_fall : same_key pool (key ks p) (key ks i) ≡ true → i ≤ p → 0 ≡ code_after pool ks code p i
      unfolding code_after
      after_fall s l = rw (keyed, ne_eqb code 0 some, s, le-ltb p i l)

      pub after_new : same_key pool (key ks p) (key ks i) ≡ false → list_before (rank pool ks p) (rank pool ks i) ≡ true
          → suc i ≡ code_after pool ks code p i
      unfolding code_after
      after_new s b = rw (keyed, ne_eqb code 0 some, s, b)

      pub after_other : same_key pool (key ks p) (key ks i) ≡ false → list_before (rank pool ks p) (rank pool ks i) ≡ false
          → 0 ≡ code_after pool ks code p i
      unfolding code_after
      after_other s b = rw (keyed, ne_eqb code 0 some, s, b)

-- ---- the names

module _ {pool tags words ats lens : List ℕ} {ks : List Key} (held : HeldBy pool tags words ats lens ks) (few : length ks ≤ 1024)
    {codes : List ℕ} (v : Coded pool ks codes) (all : Covering tags codes (length ks)) where
  uncoded : (i : ℕ) → get_or codes i 0 ≡ 0 → has_key (key ks i) ≡ false
  uncoded i e = at (has_key (key ks i)) refl
    where
      at : (b : Bool) → has_key (key ks i) ≡ b → has_key (key ks i) ≡ false
      at true k = tag_none _ (sym (held_tag pool held i) ∙ all i (keyed_within ks i k) e)
      at false k = k

  -- the index that a code is made of is the first
  coded_first : (i f : ℕ) → get_or codes i 0 ≡ suc f → f ≡ first_same pool (key ks i) ks
  coded_first i f e = at (get_or codes q 0) refl
    where
      q : ℕ
      q = first_same pool (key ks i) ks

      keyed : has_key (key ks i) ≡ true
      keyed = second_keyed pool _ _ (v.same i f e)

      low : q ≤ f
      low = first_below pool (key ks i) ks f (v.same i f e)

      inside : q < length ks
      inside = omega (arith, first_within pool ks i keyed, keyed_within ks i keyed)

      same : same_key pool (key ks q) (key ks i) ≡ true
      same = first_same_lem pool (key ks i) ks inside

      at : (n : ℕ) → get_or codes q 0 ≡ n → f ≡ q
      at zero z = differ (sym (uncoded q z) ∙ second_keyed pool _ _ (key_turned pool _ _ same))
      at (suc g) z = omega (arith, low, v.least i q f g e z same)

  coded_name : (i : ℕ) → get_or codes i 0 ≡ name_of pool ks (key ks i)
  coded_name i = at (get_or codes i 0) refl
    where
      at : (n : ℕ) → get_or codes i 0 ≡ n → n ≡ name_of pool ks (key ks i)
      at zero e = sym (name_none pool ks (key ks i) (uncoded i e))
      at (suc f) e = ap suc (coded_first i f e) ∙ sym (name_keyed pool ks (key ks i) (second_keyed pool _ _ (v.same i f e)))

  names_sized : length (names_of pool ks) ≡ 1024
  names_sized = simp (length-append, length-map, length-replicate) (omega arith)

  pub codes_named : codes ≡ names_of pool ks
  unfolding has_key
  codes_named =
      ext_get_or 0 codes (names_of pool ks) (v.sized ∙ sym names_sized)
      (λ i h. coded_name i ∙ sym (padded_at (name_of pool ks) (name_none pool ks None refl) ks i))
