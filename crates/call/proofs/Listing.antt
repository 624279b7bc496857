-- The list of the regions in range, one region a turn; the way back from places of it to the regions; and what is found in the columns that
-- are picked by it, told of the regions. Assumes nothing.
use Rattle.std.specs.Prelude.{Some, None}
use Rattle.hits.proofs.Finding.{fit_found}
use Prim.Native.Nat.{ℕ, suc, ◌+◌, ◌-◌, ◌≤◌, ◌<◌, min}
use native.Mathlib.Nat.{zero-add}
use native.Mathlib.Numerals.{add-one}
use native.Mathlib.Omega.{arith, min_cases}
use mathlib.Core.Path.{◌≡◌, refl, sym, ap, ◌∙◌}
use mathlib.Core.Bool.{Bool, true, false}
use mathlib.Core.List.{List, [], ◌∷◌, ◌++◌, map, append_assoc, append-nil}
use lib.Ieee.{nan}
use lib.ListN.{length, get_or, take, set, replicate, length-set, length-map, length-replicate}
use lib.Seq.{take-suc-set}
use Rattle.memory.specs.Memory.{page_of}
use Rattle.memory.proofs.Laws.{all_fits}
use Rattle.model.specs.declared.Outcome.{Outcome}
use Rattle.model.specs.declared.Range.{Range}
use Rattle.model.specs.declared.Test.{Test}
use Rattle.hits.specs.declared.Found.{Found}
use Rattle.hits.specs.Hits.{Known, column_in, outcome_by, outcomes_by, hits_of, found_among, found_in}
use Rattle.turns.specs.Knowing.{counts_keys}
use Rattle.call.specs.Tables.{inside_from, looks_at_operands}
use Rattle.call.proofs.Jumping.{inside_skips}
use Rattle.call.proofs.Picking.{inside_few, inside_between, outcome_picked, picked_at_within, picked_few, front_below}
use Rattle.call.proofs.Picking.{page_front, page_picked, found_picked_unresolved, found_picked_resolved}
use Rattle.call.proofs.Putting.{PutBy, by_turn, by_ended}

-- ---- the list

-- the regions up to i are done: those in range stand at the front, and those left behind them make up the whole
pub record Listed (range : Range) (cols : List ℕ) (from to : ℕ) (first list : List ℕ) (count start i : ℕ) : Type 0 where
  pub long : length list ≡ length first
  pub few : count ≤ length first
  pub begun : start ≤ i
  pub within : i ≤ to
  pub listed : take count list ++ inside_from range cols i (to - i) ≡ inside_from range cols from (to - from)

module _ (range : Range) (cols list : List ℕ) (count i to : ℕ) (h : i < to) (room : count < length list)
    (inside : column_in range (get_or cols i 0) ≡ true) where
  later_first : inside_from range cols i (to - i) ≡ i ∷ inside_from range cols (i + 1) (to - (i + 1))
  unfolding inside_from
  later_first = let e : to - i ≡ suc (to - (i + 1)) = omega arith in rw (e, inside, add-one i)

  stored : take (count + 1) (set list count i) ++ inside_from range cols (i + 1) (to - (i + 1))
      ≡ take count list ++ inside_from range cols i (to - i)
  stored =
      rw (later_first, add-one count, take-suc-set list count i room)
      (append_assoc (take count list) (i ∷ []) (inside_from range cols (i + 1) (to - (i + 1))))

module _ {range : Range} {cols : List ℕ} {from to : ℕ} {first : List ℕ} where
  pub listed_begun : from ≤ to → Listed range cols from to first first 0 from from
  listed_begun h = record { long = refl; few = omega arith; begun = omega arith; within = h; listed = refl }

  module _ {list : List ℕ} {count start i : ℕ} (v : Listed range cols from to first list count start i) where
    -- a region in range
    pub listed_more : i < to → count < length list → column_in range (get_or cols i 0) ≡ true
        → Listed range cols from to first (set list count i) (count + 1) (i + 1) (i + 1)
    listed_more h room inside =
        record {
          long = length-set list count i ∙ v.long;
          few = omega (arith, v.long);
          begun = omega arith;
          within = omega arith;
          listed = stored range cols list count i to h room inside ∙ v.listed;
        }

    -- regions out of range
    pub listed_skip : (next : ℕ) → i < next → next ≤ to
        → ((k : ℕ) → i ≤ k → k < next → column_in range (get_or cols k 0) ≡ false)
        → Listed range cols from to first list count start next
    listed_skip next a b out =
        let e : to - i ≡ (next - i) + (to - next) = omega arith in
        let f : i + (next - i) ≡ next = omega arith in
        let skips = inside_skips range cols (next - i) i (to - next) (λ k p q. out k p (omega arith)) in
        let left = ap (inside_from range cols i) e ∙ skips ∙ ap (λ j. inside_from range cols j (to - next)) f in
        record {
          long = v.long;
          few = v.few;
          begun = omega (arith, v.begun);
          within = b;
          listed = ap (λ l. take count list ++ l) (sym left) ∙ v.listed;
        }

    pub listed_ended : to ≤ i → take count list ≡ inside_from range cols from (to - from)
    unfolding inside_from
    listed_ended h =
        let e : to - i ≡ 0 = omega arith in
        sym (append-nil (take count list)) ∙ ap (λ n. take count list ++ inside_from range cols i n) (sym e) ∙ v.listed

-- ---- the way back

module _ {f : ℕ → ℕ} {places first now : List ℕ} {k : ℕ} (v : PutBy 0 f places first now k) where
  pub back_turn : k < length places → PutBy 0 f places first (set now k (f (get_or places k 0))) (k + 1)
  back_turn h = rw (zero-add k) at (by_turn v h refl)

  pub back_ended : (room : ℕ) → first ≡ replicate room 0 → length places ≤ room → length places ≤ k
      → now ≡ page_of true room (map f places)
  back_ended room cleared few h =
      let long : length first ≡ room = ap length cleared ∙ length-replicate {A = ℕ} room 0 in
      let end : length places ≡ min (length places) (length first - 0) = min_cases (length places) (length first - 0)
      (length places ≡ min (length places) (length first - 0)) (λ a m. omega arith) (λ b m. omega arith) in
      by_ended v end h ∙ rw cleared
      (sym (all_fits 0 (replicate room 0) 0 (map f places) (omega (arith, length-map places f, length-replicate {A = ℕ} room 0))))

-- ---- what is found among the regions of the list

module _ (range : Range) (cols : List ℕ) (from to : ℕ) {list : List ℕ} (is : list ≡ inside_from range cols from (to - from)) where
  pub listed_few : length list ≤ to - from
  listed_few = rw is (inside_few range cols from (to - from))

  pub listed_below : (k : ℕ) → k < length list → from ≤ to → get_or list k 0 < to
  listed_below = rw is (λ k h l. omega (arith, (inside_between range cols from (to - from) k h).1))

-- the short columns have the entries that the list picks, as far as the test looks at them
pub record PickedBy (t : Test) (list : List ℕ) (k' k : Known) (cols' flags' cols flags : List ℕ) : Type 0 where
  pub value : (j : ℕ) → j < length list → get_or k'.values j nan ≡ get_or k.values (get_or list j 0) nan
  pub first : looks_at_operands t ≡ true → (j : ℕ) → j < length list → get_or k'.firsts j nan ≡ get_or k.firsts (get_or list j 0) nan
  pub second : looks_at_operands t ≡ true → (j : ℕ) → j < length list → get_or k'.seconds j nan ≡ get_or k.seconds (get_or list j 0) nan
  pub found : counts_keys t ≡ true → (j : ℕ) → j < length list → get_or k'.founds j 0 ≡ get_or k.founds (get_or list j 0) 0
  pub col : (j : ℕ) → j < length list → get_or cols' j 0 ≡ get_or cols (get_or list j 0) 0
  pub flag : (j : ℕ) → j < length list → get_or flags' j 0 ≡ get_or flags (get_or list j 0) 0

module _ (k' k : Known) (range : Range) (t : Test) (cols' flags' cols flags : List ℕ) (from to : ℕ) (f : Found) (page : List ℕ) where
  abbrev shorts : Bool → ℕ → List Outcome
  shorts imported n = outcomes_by k' range t imported cols' flags' 0 n

  abbrev longs : Bool → List Outcome
  longs imported = outcomes_by k range t imported cols flags from (to - from)

  -- what is found in the short columns, and the page of hits, told of the regions
  pub record Back (list : List ℕ) : Type 0 where
    pub at_within : (at : ℕ) → f.unresolved ≡ Some at → at < length list
    pub few : f.count ≤ length list
    pub below : (i : ℕ) → i < f.count → get_or page i 0 < length list
    pub unresolved : (at : ℕ) → f.unresolved ≡ Some at → (imported : Bool)
        → record { unresolved = Some (get_or list at 0); count = 0 } ≡ found_among from (longs imported)
    pub resolved : f.unresolved ≡ None → (imported : Bool) → f ≡ found_among from (longs imported)
    pub hits : (imported : Bool) → map (λ h. get_or list h 0) (take f.count page) ≡ hits_of from (longs imported)

  module _ (ordered : from ≤ to) (room : ℕ) where
    abbrev ps : List ℕ
    ps = inside_from range cols from (to - from)

    said : PickedBy t ps k' k cols' flags' cols flags → (imported : Bool) (j : ℕ) → j < length ps
        → outcome_by k' range t imported cols' flags' j ≡ outcome_by k range t imported cols flags (get_or ps j 0)
    said p imported j h =
        outcome_picked k' k range t imported cols' flags' cols flags j (get_or ps j 0) (p.value j h)
        (λ e. p.first e j h) (λ e. p.second e j h) (λ e. p.found e j h) (p.col j h) (p.flag j h)

    back : PickedBy t ps k' k cols' flags' cols flags → length ps ≤ room
        → ((imported : Bool) → f ≡ found_among 0 (shorts imported (length ps)))
        → ((imported : Bool) → page ≡ page_of true room (hits_of 0 (shorts imported (length ps)))) → Back ps
    back p small is held =
        let n = to - from in
        let count : f.count ≤ length ps =
        picked_few k' k range t false cols' flags' cols flags from n (said p false) f (is false) in
        let large : f.count ≤ room = omega arith in
        record {
          at_within = picked_at_within k' k range t false cols' flags' cols flags from n (said p false) f (is false);
          few = count;
          below = front_below k' k range t false cols' flags' cols flags from n (said p false) f (is false) page
              (page_front k' k range t false cols' flags' cols flags from n (said p false) f (is false) room large page (held false));
          unresolved = λ at some imported.
              found_picked_unresolved k' k range t imported cols' flags' cols flags from n (said p imported) f (is imported) at some;
          resolved = λ none imported.
              found_picked_resolved k' k range t imported cols' flags' cols flags from n (said p imported) f (is imported) none;
          hits = λ imported.
              page_picked k' k range t imported cols' flags' cols flags from n (said p imported) f (is imported) room large page
              (held imported);
        }

    pub told_back : {list : List ℕ} → list ≡ ps → PickedBy t list k' k cols' flags' cols flags → length list ≤ room → (n : ℕ)
        → n ≡ length list → (fitted : Bool) → fitted ≡ true
        → ((imported : Bool) → Some f ≡ found_in fitted 0 (shorts imported n))
        → ((imported : Bool) → page ≡ page_of fitted room (hits_of 0 (shorts imported n))) → Back list
    told_back {list} listed p small n long fitted fits is held =
        go listed p small (λ imported. fit_found 0 (shorts imported (length list)) fits (rw long at (is imported))) (rw (fits, long) at held)
      where
        go : list ≡ ps → PickedBy t list k' k cols' flags' cols flags → length list ≤ room
            → ((imported : Bool) → f ≡ found_among 0 (shorts imported (length list)))
            → ((imported : Bool) → page ≡ page_of true room (hits_of 0 (shorts imported (length list)))) → Back list
        go e = rw e back
