-- Codes by a table of places: a first key stands in the table where no free place is between it and the place that its word gives. So a
-- key for which a free place is found is the first of its kind. Assumes nothing.
use Prim.Native.Nat.{ℕ, suc, ◌+◌, ◌-◌, ◌≤◌, ◌<◌}
use mathlib.Core.Path.{◌≡◌, refl, sym, ap, ◌∙◌}
use mathlib.Core.Bool.{Bool, true, false}
use mathlib.Core.List.{List}
use mathlib.Core.Logic.{⊎_elim}
use native.Mathlib.Omega.{arith}
use lib.Dec.{eqb, ltb}
use lib.ListN.{length, get_or, set, replicate, length-replicate, length-set}
use lib.Seq.{get_or-set_same, get_or-set_other}
use borrow.Author.Tests.{eqb-true, eqb-false, ltb-true, ltb-false}
use Rattle.model.specs.Options.{Key}
use Rattle.model.specs.Readings.{same_key, has_key}
use Rattle.keys.specs.Held.{word_of}
use Rattle.keys.specs.Codes.{Coded}
use Rattle.keys.specs.Places.{place_of, holds, Found}
use Rattle.keys.proofs.SameKeys.{differ, key_swap, key_itself, second_keyed}
use Rattle.keys.proofs.Naming.{zeros_at}
use Rattle.keys.proofs.Comparing.{word_shared}
use Rattle.keys.proofs.Along.{key, stored, coded_more, along_begun}

-- ---- a search

-- from start on, up to p, other keys than the one at i are held
pub record Passed (pool : List ℕ) (ks : List Key) (places : List ℕ) (start i p : ℕ) : Type 0 where
  pub taken : (q : ℕ) → start ≤ q → q < p → get_or places q 0 ≡ 0 → ⊥
  pub others : (q : ℕ) → start ≤ q → q < p → holds pool ks places q i ≡ false

module _ {pool : List ℕ} {ks : List Key} {places : List ℕ} {start i : ℕ} where
  pub passed_begun : Passed pool ks places start i start
  passed_begun = record { taken = λ q h k. absurd (omega arith); others = λ q h k. absurd (omega arith) }

  module _ {p : ℕ} (v : Passed pool ks places start i p) where
    pub passed_more : (get_or places p 0 ≡ 0 → ⊥) → holds pool ks places p i ≡ false → Passed pool ks places start i (p + 1)
    passed_more n e = record { taken = λ q h k. taken q h (eqb q p) refl k; others = λ q h k. other q h (eqb q p) refl k }
      where
        taken : (q : ℕ) → start ≤ q → (b : Bool) → eqb q p ≡ b → q < p + 1 → get_or places q 0 ≡ 0 → ⊥
        taken q h true t k = rw (← eqb-true q p t) at n
        taken q h false t k = v.taken q h (omega (arith, eqb-false q p t))

        other : (q : ℕ) → start ≤ q → (b : Bool) → eqb q p ≡ b → q < p + 1 → holds pool ks places q i ≡ false
        other q h true t k = rw (eqb-true q p t) e
        other q h false t k = v.others q h (omega (arith, eqb-false q p t))

    pub found_free : start ≤ p → get_or places p 0 ≡ 0 → Found pool ks places start i p
    found_free h e = record { from = h; taken = v.taken; others = v.others; here = λ n. absurd (n e) }

    pub found_held : start ≤ p → holds pool ks places p i ≡ true → Found pool ks places start i p
    found_held h e = record { from = h; taken = v.taken; others = v.others; here = λ n. e }

-- ---- the table

-- the key at g has a place, and from start on there is none free before it
pub record Seated (places : List ℕ) (start g : ℕ) : Type 0 where
  pub at : ℕ
  pub from : start ≤ at
  pub held : get_or places at 0 ≡ suc g
  pub full : (q : ℕ) → start ≤ q → q < at → get_or places q 0 ≡ 0 → ⊥

-- the keys before i have codes, and a key of whose index a code is made has a place
pub record Tabled (pool : List ℕ) (ks : List Key) (codes places : List ℕ) (i : ℕ) : Type 0 where
  pub coded : Coded pool ks codes
  pub sized : length places ≡ 4128
  pub below : (j g : ℕ) → get_or codes j 0 ≡ suc g → j < i
  pub seated : (j g : ℕ) → get_or codes j 0 ≡ suc g → Seated places (place_of (word_of pool (key ks g))) g
  pub own : (p g : ℕ) → get_or places p 0 ≡ suc g → get_or codes g 0 ≡ suc g

module _ {pool : List ℕ} {ks : List Key} where
  pub tabled_begun : Tabled pool ks (replicate 1024 0) (replicate 4128 0) 0
  tabled_begun =
      record {
        coded = (along_begun pool ks).coded;
        sized = length-replicate {A = ℕ} 4128 0;
        below = λ j g e. absurd (omega (arith, zeros_at 1024 j, e));
        seated = λ j g e. absurd (omega (arith, zeros_at 1024 j, e));
        own = λ p g e. absurd (omega (arith, zeros_at 4128 p, e));
      }

  module _ {codes places : List ℕ} {i : ℕ} (v : Tabled pool ks codes places i) where
    pub tabled_passed : Tabled pool ks codes places (suc i)
    tabled_passed =
        record {
          coded = v.coded;
          sized = v.sized;
          below = λ j g e. omega (arith, v.below j g e);
          seated = v.seated;
          own = v.own;
        }

    -- a code is made of an index that is not after it
    low : (j g : ℕ) → get_or codes j 0 ≡ suc g → g ≤ j
    low j g e = v.coded.least j j g g e e (key_itself pool (key ks j) (second_keyed pool _ _ (v.coded.same j g e)))

    module _ (h : i < 1024) where
      inside : i < length codes
      inside = omega (arith, v.coded.sized, h)

      -- what a code more leaves of the codes before
      uncoded : (x g : ℕ) → get_or codes g 0 ≡ suc g → get_or (set codes i x) g 0 ≡ suc g
      uncoded x g e = get_or-set_other codes i g x 0 (λ q. omega (arith, q, v.below g g e)) ∙ e

      below_more : (x j g : ℕ) → get_or (set codes i x) j 0 ≡ suc g → j < suc i
      below_more x j g e =
          ⊎_elim (λ w. omega (arith, w.0)) (λ w. omega (arith, v.below j g w)) (stored codes i x j (suc g) inside e)

      -- the key at i is the one of a place
      module _ (p g : ℕ) (e : get_or places p 0 ≡ suc g) (s : same_key pool (key ks g) (key ks i) ≡ true) where
        mine : get_or codes g 0 ≡ suc g
        mine = v.own p g e

        same_more : Tabled pool ks (set codes i (suc g)) places (suc i)
        same_more =
            record {
              coded = coded_more pool ks v.coded i g h s (omega (arith, v.below g g mine))
                  (λ j m d t. v.coded.least g j g m mine d (key_swap pool (key ks g) (key ks i) (key ks j) s ∙ t))
                  (λ j m d t. omega (arith, v.below j m d, low j m d));
              sized = v.sized;
              below = below_more (suc g);
              seated = λ j m d.
                  ⊎_elim (λ w. let one : g ≡ m = omega (arith, w.1) in rw (← one) (v.seated g g mine)) (v.seated j m)
                  (stored codes i (suc g) j (suc m) inside d);
              own = λ q m d. uncoded (suc g) m (v.own q m d);
            }

      module _ (keyed : has_key (key ks i) ≡ true) {p : ℕ} (f : Found pool ks places (place_of (word_of pool (key ks i))) i p) where
        pub tabled_same : (get_or places p 0 ≡ 0 → ⊥) → Tabled pool ks (set codes i (get_or places p 0)) places (suc i)
        tabled_same n =
            let some : get_or places p 0 ≡ suc (get_or places p 0 - 1) = omega (arith, n) in
            rw some (same_more p (get_or places p 0 - 1) some (f.here n))

        -- the key at i is the same as none before it
        module _ (free : get_or places p 0 ≡ 0) (few : p < 4128) where
          abbrev start : ℕ
          start = place_of (word_of pool (key ks i))

          apart : (m : ℕ) → Seated places start m → same_key pool (key ks m) (key ks i) ≡ true → ⊥
          apart m d s = at (ltb d.at p) (eqb d.at p) refl refl
            where
              at : (less equal : Bool) → ltb d.at p ≡ less → eqb d.at p ≡ equal → ⊥
              at true equal a b =
                  let one : get_or places d.at 0 - 1 ≡ m = omega (arith, d.held) in
                  differ (sym (rw one at (f.others d.at d.from (ltb-true d.at p a))) ∙ s)
              at false true a b = omega (arith, free, d.held, ap (λ (q : ℕ). get_or places q 0) (eqb-true d.at p b))
              at false false a b = d.full p f.from (omega (arith, ltb-false d.at p a, eqb-false d.at p b)) free

          fresh : (j m : ℕ) → get_or codes j 0 ≡ suc m → same_key pool (key ks j) (key ks i) ≡ true → ⊥
          fresh j m d s =
              let s' : same_key pool (key ks m) (key ks i) ≡ true =
              sym (key_swap pool (key ks j) (key ks i) (key ks m) s) ∙ v.coded.same j m d in
              apart m (rw (ap place_of (word_shared pool (key ks m) (key ks i) s')) at (v.seated j m d)) s'

          room : p < length places
          room = omega (arith, v.sized, few)

          -- a place that was held is so still
          kept : (q m : ℕ) → get_or places q 0 ≡ suc m → get_or (set places p (suc i)) q 0 ≡ suc m
          kept q m e =
              get_or-set_other places p q (suc i) 0 (λ d. omega (arith, free, e, ap (λ (r : ℕ). get_or places r 0) d)) ∙ e

          full_still : (q : ℕ) → (get_or places q 0 ≡ 0 → ⊥) → get_or (set places p (suc i)) q 0 ≡ 0 → ⊥
          full_still q n e =
              let some : get_or places q 0 ≡ suc (get_or places q 0 - 1) = omega (arith, n) in
              omega (arith, e, kept q _ some)

          seated_still : (s m : ℕ) → Seated places s m → Seated (set places p (suc i)) s m
          seated_still s m d =
              record { at = d.at; from = d.from; held = kept d.at m d.held; full = λ q h k. full_still q (d.full q h k) }

          seated_own : Seated (set places p (suc i)) start i
          seated_own =
              record {
                at = p;
                from = f.from;
                held = get_or-set_same places p (suc i) 0 room;
                full = λ q h k. full_still q (f.taken q h k);
              }

          pub tabled_new : Tabled pool ks (set codes i (suc i)) (set places p (suc i)) (suc i)
          tabled_new =
              record {
                coded = coded_more pool ks v.coded i i h (key_itself pool (key ks i) keyed) (omega arith)
                    (λ j m d t. absurd (fresh j m d t))
                    (λ j m d t. omega (arith, v.below j m d, low j m d));
                sized = length-set places p (suc i) ∙ v.sized;
                below = below_more (suc i);
                seated = λ j m d.
                    ⊎_elim (λ w. let one : i ≡ m = omega (arith, w.1) in rw (← one) seated_own)
                    (λ w. seated_still _ m (v.seated j m w))
                    (stored codes i (suc i) j (suc m) inside d);
                own = λ q m d.
                    ⊎_elim (λ w. let one : i ≡ m = omega (arith, w.1) in rw (← one) (get_or-set_same codes i (suc i) 0 inside))
                    (λ w. uncoded (suc i) m (v.own q m w))
                    (stored places p (suc i) q (suc m) room d);
              }
