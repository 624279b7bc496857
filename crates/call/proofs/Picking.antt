-- The regions whose column is the range's say all that a test says of the regions in its rows: the others are only passed over or stopped.
-- So what is found among these alone, picked into columns of their own, is found among all, each picked region at its own index.
-- Assumes nothing.
use Rattle.std.specs.Prelude.{Some, None}
use Prim.Native.Nat.{ℕ, zero, suc, ◌+◌, ◌-◌, ◌≤◌, ◌<◌}
use native.Mathlib.Nat.{not-suc-le-zero, add-zero, zero-add}
use native.Mathlib.Omega.{arith}
use mathlib.Core.Path.{◌≡◌, refl, sym, ap, ◌∙◌}
use mathlib.Core.Bool.{Bool, true, false, cond, not}
use mathlib.Core.List.{List, [], ◌∷◌, ◌++◌, map}
use lib.Dec.{eqb}
use lib.Ieee.{Float, nan}
use lib.ListN.{length, get_or, take, replicate, length-map}
use lib.Seq.{take_at, get_or-take}
use Rattle.memory.specs.Memory.{page_of}
use Rattle.memory.proofs.Laws.{page_fits}
use Rattle.model.specs.declared.Outcome.{Outcome}
use Rattle.model.specs.declared.Range.{Range}
use Rattle.model.specs.Options.{Reading}
use Rattle.model.specs.declared.Test.{Test}
use Rattle.model.specs.Run.{is_unresolved}
use Rattle.hits.specs.declared.Found.{Found}
use Rattle.hits.specs.Hits.{Known, by_literals, number_at, verdict_by, column_in, outcome_by, outcomes_by, hits_from, hits_of}
use Rattle.hits.specs.Hits.{unresolved_from, found_among}
use Rattle.hits.proofs.Hitting.{outcomes_long}
use Rattle.hits.proofs.Finding.{found_unresolved, found_resolved, hits_resolved, unresolved_at, all_resolved}
use Rattle.turns.specs.Knowing.{takes_first, takes_second, counts_keys}
use Rattle.turns.proofs.Known.{verdict_needs}
use Rattle.turns.proofs.Hits.{hits_few, hits_within}
use Rattle.turns.proofs.Asked.{first_most}
use Rattle.call.specs.Tables.{inside_from, looks_at_operands}

-- ---- the indices

module _ (range : Range) (cols : List ℕ) where
  pub inside_few : (i n : ℕ) → length (inside_from range cols i n) ≤ n
  unfolding inside_from
  inside_few i zero = omega arith
  inside_few i (suc n) = go (column_in range (get_or cols i 0)) (inside_from range cols (suc i) n) (inside_few (suc i) n)
    where
      go : (b : Bool) (ps : List ℕ) → length ps ≤ n → length (cond b (i ∷ ps) ps) ≤ suc n
      go true ps few = omega arith
      go false ps few = omega arith

  pub inside_between : (i n j : ℕ) → j < length (inside_from range cols i n)
      → (i ≤ get_or (inside_from range cols i n) j 0) × (get_or (inside_from range cols i n) j 0 < i + n)
  unfolding inside_from
  inside_between i zero j h = absurd (not-suc-le-zero h)
  inside_between i (suc n) j h =
      go (column_in range (get_or cols i 0)) (inside_from range cols (suc i) n) (inside_between (suc i) n) j h
    where
      go : (b : Bool) (ps : List ℕ) → ((j : ℕ) → j < length ps → (suc i ≤ get_or ps j 0) × (get_or ps j 0 < suc i + n)) → (j : ℕ)
          → j < length (cond b (i ∷ ps) ps)
          → (i ≤ get_or (cond b (i ∷ ps) ps) j 0) × (get_or (cond b (i ∷ ps) ps) j 0 < i + suc n)
      go true ps later zero h = (omega arith, omega arith)
      go true ps later (suc j) h = let between = later j (omega arith) in (omega arith, omega arith)
      go false ps later j h = let between = later j h in (omega arith, omega arith)

-- ---- one region

second_takes_first : (t : Test) → takes_second t ≡ true → takes_first t ≡ true
unfolding takes_first takes_second
second_takes_first (Test.CellIs op first second fill) h = refl
second_takes_first (Test.ColorScale2 min max low high) h = h
second_takes_first (Test.ColorScale3 min mid max low middle high) h = h
second_takes_first (Test.DataBar color low high) h = h
second_takes_first (Test.TopBottom bottom bound fill) h = h
second_takes_first (Test.AboveAverage below bound fill) h = h
second_takes_first (Test.DuplicateValues unique fill) h = h
second_takes_first (Test.Expression op left right fill) h = refl

-- what an operand reads as, by a literal or by a column that the test looks at
column_picked : (t : Test) (xs' xs : List Float) (r : Reading) (j p : ℕ) → (looks_at_operands t ≡ true → get_or xs' j nan ≡ get_or xs p nan)
    → takes_first t ≡ true → cond (by_literals t) r (number_at xs' j) ≡ cond (by_literals t) r (number_at xs p)
unfolding looks_at_operands
column_picked t xs' xs r j p same takes = go (by_literals t) same
  where
    go : (b : Bool) → (cond b false (takes_first t) ≡ true → get_or xs' j nan ≡ get_or xs p nan)
        → cond b r (number_at xs' j) ≡ cond b r (number_at xs p)
    go true same = refl
    go false same = rw (same takes)

verdict_picked : (k' k : Known) (t : Test) (imported : Bool) (j p : ℕ) → get_or k'.values j nan ≡ get_or k.values p nan
    → (looks_at_operands t ≡ true → get_or k'.firsts j nan ≡ get_or k.firsts p nan)
    → (looks_at_operands t ≡ true → get_or k'.seconds j nan ≡ get_or k.seconds p nan)
    → (counts_keys t ≡ true → get_or k'.founds j 0 ≡ get_or k.founds p 0)
    → verdict_by k' t imported j ≡ verdict_by k t imported p
unfolding verdict_by
verdict_picked k' k t imported j p value first second found =
    rw value
    (verdict_needs t imported _ _ _ _ _ _ _ (column_picked t k'.firsts k.firsts _ j p first)
    (λ takes. column_picked t k'.seconds k.seconds _ j p second (second_takes_first t takes)) found)

-- what is said of a region whose entries are those of another one, in the columns that the test looks at
pub outcome_picked : (k' k : Known) (range : Range) (t : Test) (imported : Bool) (cols' flags' cols flags : List ℕ) (j p : ℕ)
    → get_or k'.values j nan ≡ get_or k.values p nan
    → (looks_at_operands t ≡ true → get_or k'.firsts j nan ≡ get_or k.firsts p nan)
    → (looks_at_operands t ≡ true → get_or k'.seconds j nan ≡ get_or k.seconds p nan)
    → (counts_keys t ≡ true → get_or k'.founds j 0 ≡ get_or k.founds p 0)
    → get_or cols' j 0 ≡ get_or cols p 0 → get_or flags' j 0 ≡ get_or flags p 0
    → outcome_by k' range t imported cols' flags' j ≡ outcome_by k range t imported cols flags p
unfolding outcome_by
outcome_picked k' k range t imported cols' flags' cols flags j p value first second found col flag =
    rw (verdict_picked k' k t imported j p value first second found, col, flag)

-- ---- outcomes of which the quiet ones may be left out

-- the outcomes from index i on, and those of them from index j on that are picked: all but some that are stopped or passed
data Picks (ps : List ℕ) : ℕ → List Outcome → ℕ → List Outcome → Type 0 where
  ended : {i j : ℕ} → Picks ps i [] j []
  stopped : {i j : ℕ} {os qs : List Outcome} → Picks ps (suc i) os j qs → Picks ps i (Outcome.Stopped ∷ os) j qs
  passed : {i j : ℕ} {os qs : List Outcome} → Picks ps (suc i) os j qs → Picks ps i (Outcome.Passed ∷ os) j qs
  same : {i j : ℕ} (o : Outcome) {os qs : List Outcome} → get_or ps j 0 ≡ i → Picks ps (suc i) os (suc j) qs
      → Picks ps i (o ∷ os) j (o ∷ qs)

module _ (ps : List ℕ) where
  picks_unresolved : {i j : ℕ} {os qs : List Outcome} → Picks ps i os j qs → is_unresolved os ≡ is_unresolved qs
  unfolding is_unresolved
  picks_unresolved ended = refl
  picks_unresolved (stopped later) = picks_unresolved later
  picks_unresolved (passed later) = picks_unresolved later
  picks_unresolved (same Outcome.Stopped e later) = picks_unresolved later
  picks_unresolved (same Outcome.Passed e later) = picks_unresolved later
  picks_unresolved (same Outcome.Unresolved e later) = refl
  picks_unresolved (same (Outcome.Painted p) e later) = picks_unresolved later

  picks_first : {i j : ℕ} {os qs : List Outcome} → Picks ps i os j qs → is_unresolved qs ≡ true
      → unresolved_from i os ≡ get_or ps (unresolved_from j qs) 0
  unfolding is_unresolved unresolved_from
  picks_first ended some = cc
  picks_first (stopped later) some = picks_first later some
  picks_first (passed later) some = picks_first later some
  picks_first (same Outcome.Stopped e later) some = picks_first later some
  picks_first (same Outcome.Passed e later) some = picks_first later some
  picks_first (same Outcome.Unresolved e later) some = sym e
  picks_first (same (Outcome.Painted p) e later) some = picks_first later some

  picks_hits : {i j : ℕ} {os qs : List Outcome} → Picks ps i os j qs → hits_from i os ≡ map (λ h. get_or ps h 0) (hits_from j qs)
  unfolding hits_from
  picks_hits ended = refl
  picks_hits (stopped later) = picks_hits later
  picks_hits (passed later) = picks_hits later
  picks_hits (same Outcome.Stopped e later) = picks_hits later
  picks_hits (same Outcome.Passed e later) = picks_hits later
  picks_hits (same Outcome.Unresolved e later) = picks_hits later
  picks_hits (same (Outcome.Painted p) e later) = rw (e, picks_hits later)

record_of : (f : Found) → f.unresolved ≡ None → f ≡ record { unresolved = None; count = f.count }
record_of f none = λ i. record { unresolved = none i; count = f.count }

-- the hits that count
module _ (i : ℕ) (os : List Outcome) where
  hits_of_few : length (hits_of i os) ≤ length os
  unfolding hits_of
  hits_of_few = go (is_unresolved os)
    where
      go : (b : Bool) → length (cond b [] (hits_from i os)) ≤ length os
      go true = omega arith
      go false = hits_few i os

  hits_of_within : (j : ℕ) → j < length (hits_of i os) → get_or (hits_of i os) j 0 < i + length os
  unfolding hits_of
  hits_of_within j = go (is_unresolved os)
    where
      go : (b : Bool) → j < length (cond b [] (hits_from i os)) → get_or (cond b [] (hits_from i os)) j 0 < i + length os
      go true h = absurd (not-suc-le-zero h)
      go false h = hits_within i os j h

-- ---- the outcomes of a test

module _ (k' k : Known) (range : Range) (t : Test) (imported : Bool) (cols' flags' cols flags : List ℕ) where
  abbrev long_at : ℕ → Outcome
  long_at p = outcome_by k range t imported cols flags p

  abbrev short_at : ℕ → Outcome
  short_at j = outcome_by k' range t imported cols' flags' j

  abbrev long_from : ℕ → ℕ → List Outcome
  long_from i n = outcomes_by k range t imported cols flags i n

  abbrev short_from : ℕ → ℕ → List Outcome
  short_from j n = outcomes_by k' range t imported cols' flags' j n

  -- a region out of range
  out_picked : (all : List ℕ) {i j : ℕ} {os qs : List Outcome} → column_in range (get_or cols i 0) ≡ false → Picks all (suc i) os j qs
      → Picks all i (long_at i ∷ os) j qs
  unfolding outcome_by
  out_picked all {i} {j} {os} {qs} out later = rw out (go (not (eqb (get_or flags i 0) 0)))
    where
      go : (b : Bool) → Picks all i (cond b Outcome.Stopped Outcome.Passed ∷ os) j qs
      go true = stopped later
      go false = passed later

  -- the indices ps stand from j on among all that are picked, and what is said of each is said of the one that is picked for it
  abbrev Stand : List ℕ → ℕ → List ℕ → Type 0
  Stand all j ps = (m : ℕ) → m < length ps → (get_or all (j + m) 0 ≡ get_or ps m 0) × (short_at (j + m) ≡ long_at (get_or ps m 0))

  picks : (all : List ℕ) (i n j : ℕ) → Stand all j (inside_from range cols i n)
      → Picks all i (long_from i n) j (short_from j (length (inside_from range cols i n)))
  unfolding inside_from outcomes_by
  picks all i zero j stand = ended
  picks all i (suc n) j stand = go (column_in range (get_or cols i 0)) refl (λ j s. picks all (suc i) n j s) stand
    where
      ps : List ℕ
      ps = inside_from range cols (suc i) n

      go : (b : Bool) → column_in range (get_or cols i 0) ≡ b
          → ((j : ℕ) → Stand all j ps → Picks all (suc i) (long_from (suc i) n) j (short_from j (length ps)))
          → Stand all j (cond b (i ∷ ps) ps)
          → Picks all i (long_at i ∷ long_from (suc i) n) j (short_from j (length (cond b (i ∷ ps) ps)))
      go true e later stand =
          let here = rw (add-zero j) at (stand 0 (omega arith)) in
          let onward = later (suc j) (λ m h. let f : suc j + m ≡ j + suc m = omega arith in rw f (stand (suc m) (omega arith))) in
          rw here.1 (same (long_at i) here.0 onward)
      go false e later stand = out_picked all e (later j stand)

  -- ---- the regions in range of those from `from` on, and what is said of each in the columns that they are picked into

  module _ (from n : ℕ)
      (picked : (j : ℕ) → j < length (inside_from range cols from n) → short_at j ≡ long_at (get_or (inside_from range cols from n) j 0)) where
    abbrev ps : List ℕ
    ps = inside_from range cols from n

    abbrev os : List Outcome
    os = long_from from n

    abbrev qs : List Outcome
    qs = short_from 0 (length ps)

    all_picked : Picks ps from os 0 qs
    all_picked = picks ps from n 0 (λ m h. rw (zero-add m) (refl, picked m h))

    shorts_long : length qs ≡ length ps
    shorts_long = outcomes_long k' range t imported cols' flags' 0 (length ps)

    pub picked_unresolved : is_unresolved os ≡ is_unresolved qs
    picked_unresolved = picks_unresolved ps all_picked

    pub picked_first : is_unresolved qs ≡ true → unresolved_from from os ≡ get_or ps (unresolved_from 0 qs) 0
    picked_first some = picks_first ps all_picked some

    pub picked_first_within : is_unresolved qs ≡ true → unresolved_from 0 qs < length ps
    picked_first_within some = omega (arith, first_most 0 qs some, shorts_long)

    pub picked_hits : hits_from from os ≡ map (λ h. get_or ps h 0) (hits_from 0 qs)
    picked_hits = picks_hits ps all_picked

    pub picked_hits_of : hits_of from os ≡ map (λ h. get_or ps h 0) (hits_of 0 qs)
    unfolding hits_of
    picked_hits_of = rw (picked_unresolved, picked_hits) (go (is_unresolved qs))
      where
        go : (b : Bool) → cond b [] (map (λ h. get_or ps h 0) (hits_from 0 qs)) ≡ map (λ h. get_or ps h 0) (cond b [] (hits_from 0 qs))
        go true = refl
        go false = refl

    -- what is found in these columns
    module _ (f : Found) (is : f ≡ found_among 0 qs) where
      short_count : f.count ≡ length (hits_of 0 qs)
      unfolding found_among
      short_count = ap (λ (x : Found). x.count) is

      pub picked_at_within : (at : ℕ) → f.unresolved ≡ Some at → at < length ps
      picked_at_within at some = let u = unresolved_at 0 qs is some in omega (arith, u.1, picked_first_within u.0)

      pub picked_few : f.count ≤ length ps
      picked_few = omega (arith, short_count, hits_of_few 0 qs, shorts_long)

      pub found_picked_unresolved : (at : ℕ) → f.unresolved ≡ Some at
          → record { unresolved = Some (get_or ps at 0); count = 0 } ≡ found_among from os
      found_picked_unresolved at some =
          let u = unresolved_at 0 qs is some in
          found_unresolved from os (picked_unresolved ∙ u.0) (picked_first u.0 ∙ ap (λ j. get_or ps j 0) u.1)

      pub found_picked_resolved : f.unresolved ≡ None → f ≡ found_among from os
      found_picked_resolved none =
          let e : is_unresolved qs ≡ false = all_resolved 0 qs is none in
          record_of f none ∙ found_resolved from os (picked_unresolved ∙ e)
          (short_count ∙ sym (length-map (hits_of 0 qs) (λ h. get_or ps h 0)) ∙ ap length (sym picked_hits_of)
          ∙ ap length (sym (hits_resolved from os (picked_unresolved ∙ e))))

      -- the hits at the front of a table
      module _ (hits : List ℕ) (front : take f.count hits ≡ hits_of 0 qs) where
        pub front_picked : map (λ h. get_or ps h 0) (take f.count hits) ≡ hits_of from os
        front_picked = rw front (sym picked_hits_of)

        pub front_below : (i : ℕ) → i < f.count → get_or hits i 0 < length ps
        front_below i h =
            let same : get_or hits i 0 ≡ get_or (hits_of 0 qs) i 0 = sym (get_or-take f.count hits i 0 h)
            ∙ ap (λ (l : List ℕ). get_or l i 0) front in
            omega (arith, same, hits_of_within 0 qs i (omega (arith, short_count)), shorts_long)

      -- a page holds them at its front
      module _ (room : ℕ) (large : f.count ≤ room) (page : List ℕ) (held : page ≡ page_of true room (hits_of 0 qs)) where
        page_is : page ≡ hits_of 0 qs ++ replicate (room - length (hits_of 0 qs)) 0
        page_is = held ∙ page_fits 0 room (hits_of 0 qs) (omega (arith, short_count))

        pub page_front : take f.count page ≡ hits_of 0 qs
        page_front = ap (take f.count) page_is ∙ take_at (hits_of 0 qs) _ f.count (sym short_count)

        pub page_picked : map (λ h. get_or ps h 0) (take f.count page) ≡ hits_of from os
        page_picked = front_picked page page_front
