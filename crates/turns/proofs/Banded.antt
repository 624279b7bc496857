-- What the regions of a rule's band say is what all regions say: those outside of the band are out of range, so that they are only passed
-- over or stopped. They paint nothing and leave nothing unresolved, but they are asked. Assumes nothing.
use Prim.Native.Nat.{ℕ, zero, suc, ◌+◌, ◌-◌, ◌≤◌, ◌<◌}
use native.Mathlib.Nat.{add-zero, zero-add}
use native.Mathlib.Omega.{arith}
use mathlib.Core.Path.{◌≡◌, refl, ap, ◌∙◌}
use mathlib.Core.Bool.{Bool, true, false, cond, not}
use mathlib.Core.List.{List, [], ◌∷◌, ◌++◌}
use lib.Dec.{eqb}
use lib.ListN.{length, get_or}
use Rattle.model.specs.declared.Outcome.{Outcome}
use Rattle.model.specs.declared.Rule.{Rule}
use Rattle.model.specs.declared.Test.{Test}
use Rattle.model.specs.Sheet.{Sheet, in_range}
use Rattle.model.specs.Run.{outcome, asked, is_unresolved}
use Rattle.cells.specs.Columns.{coordinate_at}
use Rattle.hits.specs.Hits.{Known, outcomes_by, hits_from, hits_of, unresolved_from, live_from}
use Rattle.turns.specs.Step.{outcomes_from, judged_as, judged_of}
use Rattle.turns.specs.Knowing.{Knows}
use Rattle.turns.specs.Bands.{BandOf}
use Rattle.turns.proofs.Bands.{before_band, after_band}
use Rattle.turns.proofs.Known.{outcomes_known}
use Rattle.turns.proofs.Hits.{outcomes_long}
use Rattle.turns.proofs.Asked.{first_most, asked_live, asked_first}

-- ---- outcomes that are only stopped or passed

abbrev Quiet : List Outcome → Type 0
Quiet [] = Unit {0}
Quiet (Outcome.Stopped ∷ os) = Quiet os
Quiet (Outcome.Passed ∷ os) = Quiet os
Quiet (Outcome.Unresolved ∷ os) = ⊥
Quiet (Outcome.Painted p ∷ os) = ⊥

-- ahead of others

module _ (os : List Outcome) where
  front_unresolved : (front : List Outcome) → Quiet front → is_unresolved (front ++ os) ≡ is_unresolved os
  unfolding is_unresolved
  front_unresolved [] quiet = refl
  front_unresolved (Outcome.Stopped ∷ front) quiet = front_unresolved front quiet
  front_unresolved (Outcome.Passed ∷ front) quiet = front_unresolved front quiet
  front_unresolved (Outcome.Unresolved ∷ front) quiet = absurd quiet
  front_unresolved (Outcome.Painted p ∷ front) quiet = absurd quiet

  front_first : (i : ℕ) (front : List Outcome) → Quiet front → unresolved_from i (front ++ os) ≡ unresolved_from (i + length front) os
  unfolding unresolved_from
  front_first i [] quiet = rw (add-zero i)
  front_first i (Outcome.Stopped ∷ front) quiet =
      let e : i + suc (length front) ≡ suc i + length front = omega arith in rw e (front_first (suc i) front quiet)
  front_first i (Outcome.Passed ∷ front) quiet =
      let e : i + suc (length front) ≡ suc i + length front = omega arith in rw e (front_first (suc i) front quiet)
  front_first i (Outcome.Unresolved ∷ front) quiet = absurd quiet
  front_first i (Outcome.Painted p ∷ front) quiet = absurd quiet

  front_hits : (i : ℕ) (front : List Outcome) → Quiet front → hits_from i (front ++ os) ≡ hits_from (i + length front) os
  unfolding hits_from
  front_hits i [] quiet = rw (add-zero i)
  front_hits i (Outcome.Stopped ∷ front) quiet =
      let e : i + suc (length front) ≡ suc i + length front = omega arith in rw e (front_hits (suc i) front quiet)
  front_hits i (Outcome.Passed ∷ front) quiet =
      let e : i + suc (length front) ≡ suc i + length front = omega arith in rw e (front_hits (suc i) front quiet)
  front_hits i (Outcome.Unresolved ∷ front) quiet = absurd quiet
  front_hits i (Outcome.Painted p ∷ front) quiet = absurd quiet

-- behind others

quiet_resolved : (os : List Outcome) → Quiet os → is_unresolved os ≡ false
unfolding is_unresolved
quiet_resolved [] quiet = refl
quiet_resolved (Outcome.Stopped ∷ os) quiet = quiet_resolved os quiet
quiet_resolved (Outcome.Passed ∷ os) quiet = quiet_resolved os quiet
quiet_resolved (Outcome.Unresolved ∷ os) quiet = absurd quiet
quiet_resolved (Outcome.Painted p ∷ os) quiet = absurd quiet

quiet_hits : (i : ℕ) (os : List Outcome) → Quiet os → hits_from i os ≡ []
unfolding hits_from
quiet_hits i [] quiet = refl
quiet_hits i (Outcome.Stopped ∷ os) quiet = quiet_hits (suc i) os quiet
quiet_hits i (Outcome.Passed ∷ os) quiet = quiet_hits (suc i) os quiet
quiet_hits i (Outcome.Unresolved ∷ os) quiet = absurd quiet
quiet_hits i (Outcome.Painted p ∷ os) quiet = absurd quiet

module _ (rest : List Outcome) (quiet : Quiet rest) where
  rest_unresolved : (os : List Outcome) → is_unresolved (os ++ rest) ≡ is_unresolved os
  unfolding is_unresolved
  rest_unresolved [] = quiet_resolved rest quiet
  rest_unresolved (Outcome.Stopped ∷ os) = rest_unresolved os
  rest_unresolved (Outcome.Passed ∷ os) = rest_unresolved os
  rest_unresolved (Outcome.Unresolved ∷ os) = refl
  rest_unresolved (Outcome.Painted p ∷ os) = rest_unresolved os

  rest_hits : (i : ℕ) (os : List Outcome) → hits_from i (os ++ rest) ≡ hits_from i os
  unfolding hits_from
  rest_hits i [] = quiet_hits i rest quiet
  rest_hits i (Outcome.Stopped ∷ os) = rest_hits (suc i) os
  rest_hits i (Outcome.Passed ∷ os) = rest_hits (suc i) os
  rest_hits i (Outcome.Unresolved ∷ os) = rest_hits (suc i) os
  rest_hits i (Outcome.Painted p ∷ os) = ap (λ hits. i ∷ hits) (rest_hits (suc i) os)

-- the first unresolved one, whatever stands behind it
rest_first : (i : ℕ) (os rest : List Outcome) → is_unresolved os ≡ true → unresolved_from i (os ++ rest) ≡ unresolved_from i os
unfolding unresolved_from is_unresolved
rest_first i [] rest some = cc
rest_first i (Outcome.Stopped ∷ os) rest some = rest_first (suc i) os rest some
rest_first i (Outcome.Passed ∷ os) rest some = rest_first (suc i) os rest some
rest_first i (Outcome.Unresolved ∷ os) rest some = refl
rest_first i (Outcome.Painted p ∷ os) rest some = rest_first (suc i) os rest some

-- ---- the regions ahead of the band, in it and behind it

module _ (s : Sheet) (r : Rule) (t : Test) (rows cols flags : List ℕ) where
  abbrev outcomes_at : ℕ → ℕ → List Outcome
  outcomes_at i n = outcomes_from s r t rows cols flags i n

  split : (i m n : ℕ) → outcomes_at i (m + n) ≡ outcomes_at i m ++ outcomes_at (i + m) n
  unfolding outcomes_from
  split i zero n = rw (zero-add n, add-zero i)
  split i (suc m) n =
      let e : suc m + n ≡ suc (m + n) = omega arith in
      let f : i + suc m ≡ suc i + m = omega arith in
      rw (e, f, split (suc i) m n)

  -- out of range
  quiet_from : (i n : ℕ) → ((j : ℕ) → i ≤ j → j < i + n → in_range r.range (coordinate_at rows cols j) ≡ false)
      → Quiet (outcomes_at i n)
  unfolding outcomes_from outcome
  quiet_from i zero out = tt
  quiet_from i (suc n) out =
      rw (out i (omega arith) (omega arith))
      (go (not (eqb (get_or flags i 0) 0)) (quiet_from (suc i) n (λ j a b. out j (omega arith) (omega arith))))
    where
      go : (stopped : Bool) → Quiet (outcomes_at (suc i) n)
          → Quiet (cond stopped Outcome.Stopped Outcome.Passed ∷ outcomes_at (suc i) n)
      go true later = later
      go false later = later

module _ (s : Sheet) (r : Rule) (t : Test) (rows cols flags : List ℕ) (k : Known) (knows : Knows s r.range t rows cols k) {from to : ℕ}
    (band : BandOf r.range rows from to) where
  abbrev whole : List Outcome
  whole = outcomes_from s r t rows cols flags 0 (length rows)

  abbrev mid : List Outcome
  mid = outcomes_by k r.range t r.imported cols flags from (to - from)

  abbrev front : List Outcome
  front = outcomes_from s r t rows cols flags 0 from

  abbrev rest : List Outcome
  rest = outcomes_from s r t rows cols flags to (length rows - to)

  mid_known : mid ≡ outcomes_from s r t rows cols flags from (to - from)
  mid_known = outcomes_known s r t rows cols flags k knows band from (to - from) (omega arith) (omega (arith, band.ordered))

  parts : whole ≡ front ++ (mid ++ rest)
  parts =
      let up : from + (to - from) ≡ to = omega (arith, band.ordered) in
      let all : length rows ≡ from + (to - from + (length rows - to)) = omega (arith, band.ordered, band.within) in
      ap (λ n. outcomes_from s r t rows cols flags 0 n) all
      ∙ split s r t rows cols flags 0 from (to - from + (length rows - to))
      ∙ rw (zero-add from, split s r t rows cols flags from (to - from) (length rows - to), mid_known, up)

  front_quiet : Quiet front
  front_quiet = quiet_from s r t rows cols flags 0 from (λ j a b. before_band band cols j (omega arith))

  rest_quiet : Quiet rest
  rest_quiet =
      quiet_from s r t rows cols flags to (length rows - to) (λ j a b. after_band band cols j a (omega (arith, band.within)))

  front_long : length front ≡ from
  front_long = outcomes_long s r t rows cols flags 0 from

  mid_long : length mid ≡ to - from
  mid_long = rw mid_known (outcomes_long s r t rows cols flags from (to - from))

  pub band_unresolved : is_unresolved whole ≡ is_unresolved mid
  band_unresolved = rw parts (front_unresolved (mid ++ rest) front front_quiet ∙ rest_unresolved rest rest_quiet mid)

  pub band_hits : hits_from 0 whole ≡ hits_from from mid
  band_hits = rw parts (front_hits (mid ++ rest) 0 front front_quiet ∙ rw (front_long, zero-add from) (rest_hits rest rest_quiet from mid))

  -- the first unresolved of all is that of the band
  band_first : is_unresolved mid ≡ true → unresolved_from 0 whole ≡ unresolved_from from mid
  band_first some =
      rw parts (front_first (mid ++ rest) 0 front front_quiet ∙ rw (front_long, zero-add from) (rest_first from mid rest some))

  pub band_first_within : is_unresolved mid ≡ true → unresolved_from from mid < to
  band_first_within some = omega (arith, first_most from mid some, mid_long, band.ordered)

  pub band_asked : is_unresolved mid ≡ false → asked whole ≡ live_from flags 0 (length rows)
  band_asked none = asked_live s r t rows cols flags 0 (length rows) (band_unresolved ∙ none)

  pub band_asked_first : is_unresolved mid ≡ true → asked whole ≡ live_from flags 0 (suc (unresolved_from from mid))
  band_asked_first some =
      let e : unresolved_from 0 whole - 0 ≡ unresolved_from from mid = omega (arith, band_first some) in
      asked_first s r t rows cols flags 0 (length rows) (band_unresolved ∙ some) ∙ rw e

  pub band_judged : (a : ℕ) → a ≡ asked whole → judged_as (cond (is_unresolved mid) [] whole) a (is_unresolved mid) ≡ judged_of whole
  unfolding judged_of
  band_judged a e = rw (e, band_unresolved)

  pub band_painted : hits_of from mid ≡ hits_from 0 (cond (is_unresolved mid) [] whole)
  unfolding hits_of hits_from
  band_painted = rw (← band_hits) (go (is_unresolved mid))
    where
      go : (unresolved : Bool) → cond unresolved [] (hits_from 0 whole) ≡ hits_from 0 (cond unresolved [] whole)
      go true = refl
      go false = refl

  pub band_counted : length (hits_of from mid) ≡ length (hits_from 0 (cond (is_unresolved mid) [] whole))
  band_counted = ap length band_painted
