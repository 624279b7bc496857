-- What is decided of a rule up to its marks is the definition's step of the rule: a rule without outcomes, the hits that are found among
-- the regions in its rows, none where all regions are stopped, and these by the plan of the rule. Assumes nothing.
use Rattle.hits.proofs.Finding.{unresolved_at}
use Rattle.std.specs.Option.{is_some}
use Rattle.std.specs.Prelude.{Some, None, Ok, Err, MatchOption}
use Rattle.std.specs.Result.{is_ok, is_err}
use Prim.Native.Nat.{ℕ, zero, suc, ◌+◌, ◌-◌, ◌≤◌, ◌<◌}
use native.Mathlib.Nat.{not-suc-le-zero}
use native.Mathlib.Numerals.{add-one}
use native.Mathlib.Omega.{arith}
use mathlib.Core.Path.{◌≡◌, refl, sym, ap, subst, ◌∙◌}
use mathlib.Core.Bool.{Bool, true, false, cond, ◌&&◌, ◌||◌, false≢true}
use mathlib.Core.List.{List, [], ◌∷◌, ◌++◌, append_assoc}
use lib.Ieee.{Float}
use lib.ListN.{length, get_or, take, replicate}
use lib.Seq.{take_at, get_or-take}
use Rattle.memory.specs.Memory.{page_of}
use Rattle.memory.proofs.Laws.{page_fits}
use Rattle.charging.specs.declared.Counter.{Counter}
use Rattle.charging.specs.Charge.{Charged, one, and_then, spend}
use Rattle.model.specs.declared.CellCoordinate.{CellCoordinate}
use Rattle.model.specs.declared.CfRule.{CfRule}
use Rattle.model.specs.declared.Outcome.{Outcome}
use Rattle.model.specs.declared.Plan.{Plan}
use Rattle.model.specs.declared.Range.{Range}
use Rattle.model.specs.Options.{Reading}
use Rattle.model.specs.declared.Rgb.{Rgb}
use Rattle.model.specs.declared.Rule.{Rule}
use Rattle.model.specs.declared.Span.{Span}
use Rattle.model.specs.declared.Test.{Test}
use Rattle.model.specs.Sheet.{Sheet, CellColumns, upright}
use Rattle.model.specs.References.{unread, resolved}
use Rattle.model.specs.Comparison.{uses_second}
use Rattle.model.specs.Values.{average}
use Rattle.model.specs.Rule.{scale2, scale3, bar, rank, against, mean, plan_of, plan}
use Rattle.model.specs.Run.{asked, is_unresolved}
use Rattle.order.specs.Order.{is_duplicates}
use Rattle.cells.specs.Columns.{cells_of, coordinate_at, sheet_with}
use Rattle.cells.proofs.Operands.{resolved_bare}
use Rattle.ranges.specs.Turns.{sheet_from}
use Rattle.plans.specs.Plans.{plan_of_values, is_bar_test, tests_bar}
use Rattle.plans.proofs.Laws.{plan_inverted, plan_upright}
use Rattle.hits.specs.declared.Found.{Found}
use Rattle.hits.specs.Verdict.{first_operand, second_operand}
use Rattle.hits.specs.Hits.{Known, known, first_at, second_at, outcomes_by, hits_from, hits_of, unresolved_from, fits_hits, found_among, live_from}
use Rattle.turns.specs.Step.{outcomes_from, Judged, judged_as, judged_of, judged_in}
use Rattle.turns.specs.Step.{Step, ahead_of_regions, said_step, step_from, step_of}
use Rattle.turns.specs.Knowing.{takes_first, takes_second, counts_keys, InRange, Knows}
use Rattle.turns.specs.Bands.{BandOf}
use Rattle.turns.specs.Emit.{Paints}
use Rattle.turns.proofs.Stepping.{step_by_parts}
use Rattle.turns.proofs.Painted.{whole_paints, none_paint}
use Rattle.turns.proofs.Hits.{hits_few, hits_within}
use Rattle.turns.proofs.Asked.{first_most}
use Rattle.turns.proofs.Banded.{band_asked, band_asked_first, band_judged, band_painted}
use Rattle.turns.proofs.Stopped.{stopped, stopped_judged, stopped_hits, stopped_paint, none_live}
use Rattle.call.specs.declared.Decided.{Decided}
use Rattle.call.specs.Tables.{Valued, Founded}
use Rattle.call.specs.Decides.{Decides}
use Rattle.call.proofs.Tables.{valued_at}

-- ---- by what the charges came to

pub decides_same : (imported : Bool) (values : List Float) (hits : List ℕ) (d : Decided) (x y : Step) → x ≡ y
    → Decides x imported values hits d → Decides y imported values hits d
decides_same imported values hits d x y e h = rw (← e) h

-- without outcomes: to charge no region leaves the charges as they are
pub untested_decides : (limit : ℕ) (unresolved imported : Bool) (values : List Float) (hits : List ℕ) (test : Test) (charged : Charged)
    → Decides (step_from limit false (judged_as [] 0 unresolved) charged) imported values hits
    (record { charged = charged; test = test; count = 0; deferred = is_ok charged && unresolved; simplified = false })
unfolding said_step and_then spend hits_from
untested_decides limit unresolved imported values hits test (Ok c) =
    record {
      charged = refl;
      deferred = refl;
      simplified = refl;
      count = refl;
      painted = refl;
      paints = none_paint test imported values;
    }
untested_decides limit unresolved imported values hits test (Err e) =
    record {
      charged = refl;
      deferred = refl;
      simplified = refl;
      count = refl;
      painted = refl;
      paints = none_paint test imported values;
    }

-- by what the charges come to with those of the regions
module _ (limit : ℕ) (test : Test) (os : List Outcome) (asked : ℕ) (unresolved imported : Bool) (values : List Float) (hits : List ℕ)
    (charged all : Charged) (is : all ≡ and_then charged (λ c. spend limit c (replicate asked one))) where
  abbrev DecidesFound : Decided → Type 0
  DecidesFound d = Decides (step_from limit (is_bar_test test) (judged_as os asked unresolved) charged) imported values hits d

  -- once a charge is refused, what is judged does not count
  pub refused_decides : is_err all ≡ true → (d : Decided) → Decides (step_from limit false (judged_as [] 0 false) all) imported values hits d
      → DecidesFound d
  unfolding said_step and_then
  refused_decides h d told = decides_same imported values hits d _ _ (go all h ∙ ap (said_step (is_bar_test test) (judged_as os asked unresolved)) is) told
    where
      go : (x : Charged) → is_err x ≡ true → step_from limit false (judged_as [] 0 false) x
          ≡ said_step (is_bar_test test) (judged_as os asked unresolved) x
      go (Ok c) h = absurd (false≢true h)
      go (Err e) h = refl

  pub accepted_decides : is_err all ≡ false → (count : ℕ) → count ≡ length (hits_from 0 os) → take count hits ≡ hits_from 0 os
      → Paints test imported values os
      → DecidesFound (record { charged = all; test = test; count = count; deferred = unresolved; simplified = is_bar_test test })
  unfolding said_step
  accepted_decides h count counted front paints =
      decides_same imported values hits _ _ _ (ap (said_step (is_bar_test test) (judged_as os asked unresolved)) is) (go all h)
    where
      go : (x : Charged) → is_err x ≡ false → Decides (said_step (is_bar_test test) (judged_as os asked unresolved) x) imported values hits
          (record { charged = x; test = test; count = count; deferred = unresolved; simplified = is_bar_test test })
      go (Ok c) h = record { charged = refl; deferred = refl; simplified = refl; count = counted; painted = front; paints = paints }
      go (Err e) h = absurd (false≢true (sym h))

-- ---- a plan that counts keys is that of duplicates

abbrev counts : Plan → Bool
counts Plan.Deferred = false
counts Plan.Skipped = false
counts (Plan.Tested t) = counts_keys t

against_counts : (below : Bool) (fill : Rgb) (m : Reading) → counts (against below fill m) ≡ false
unfolding against counts_keys
against_counts below fill (Some x) = refl
against_counts below fill None = refl

values_count : (k : CfRule) (xs : List Float) → counts (plan_of_values k xs) ≡ false
unfolding counts_keys plan_of_values scale2 scale3 bar rank mean
values_count (CfRule.CellIs op first second fill) xs = refl
values_count (CfRule.ColorScale2 min max) [] = refl
values_count (CfRule.ColorScale2 min max) (x ∷ xs) = refl
values_count (CfRule.ColorScale3 min mid max) [] = refl
values_count (CfRule.ColorScale3 min mid max) (x ∷ xs) = refl
values_count (CfRule.DataBar color) [] = refl
values_count (CfRule.DataBar color) (x ∷ xs) = refl
values_count (CfRule.TopBottom number bottom percent fill) [] = refl
values_count (CfRule.TopBottom zero bottom percent fill) (x ∷ xs) = refl
values_count (CfRule.TopBottom (suc n) bottom percent fill) (x ∷ xs) = refl
values_count (CfRule.AboveAverage below fill) [] = refl
values_count (CfRule.AboveAverage below fill) (x ∷ xs) = against_counts below fill (average (x ∷ xs))
values_count (CfRule.DuplicateValues unique fill) xs = refl
values_count (CfRule.Expression op left right fill) xs = refl

deferred_counts : (t : Test) → counts_keys t ≡ false → (b : Bool) → counts (cond b Plan.Deferred (Plan.Tested t)) ≡ false
deferred_counts t e true = refl
deferred_counts t e false = e

module _ (s : Sheet) (range : Range) where
  plan_of_counts : (k : CfRule) → is_duplicates k ≡ false → counts (plan_of s range k) ≡ false
  unfolding plan_of plan_of_values is_duplicates counts_keys
  plan_of_counts (CfRule.CellIs op first second fill) e =
      deferred_counts (Test.CellIs op first second fill) refl (unread first || (uses_second op && unread second))
  plan_of_counts (CfRule.ColorScale2 min max) e = values_count (CfRule.ColorScale2 min max) _
  plan_of_counts (CfRule.ColorScale3 min mid max) e = values_count (CfRule.ColorScale3 min mid max) _
  plan_of_counts (CfRule.DataBar color) e = values_count (CfRule.DataBar color) _
  plan_of_counts (CfRule.TopBottom number bottom percent fill) e =
      values_count (CfRule.TopBottom number bottom percent fill) _
  plan_of_counts (CfRule.AboveAverage below fill) e = values_count (CfRule.AboveAverage below fill) _
  plan_of_counts (CfRule.DuplicateValues unique fill) e = absurd (false≢true (sym e))
  plan_of_counts (CfRule.Expression op left right fill) e =
      deferred_counts (Test.Expression op left right fill) refl (unread left || unread right)

pub counts_duplicates : (s : Sheet) (r : Rule) (t : Test) → Plan.Tested t ≡ plan s r → counts_keys t ≡ true → is_duplicates r.kind ≡ true
counts_duplicates s r t is keys = go (upright r.range) refl (is_duplicates r.kind) refl
  where
    go : (b : Bool) → upright r.range ≡ b → (d : Bool) → is_duplicates r.kind ≡ d → d ≡ true
    go b u true e = refl
    go true u false e =
        sym (plan_of_counts s r.range r.kind e) ∙ sym (ap counts (is ∙ plan_upright s r u)) ∙ keys
    go false u false e = sym (ap counts (is ∙ plan_inverted s r u)) ∙ keys

-- ---- what is known of the regions

module _ (c : CellColumns) (pool : List ℕ) (name : Span) (regions : List CellCoordinate) (range : Range) (t : Test) (rows cols : List ℕ)
    (k : Known) where
  -- the sheet's regions have no part in an operand
  pub known_by : Valued c rows cols k.values
      → (takes_first t ≡ true → InRange range rows cols (λ i. first_at k t i
      ≡ resolved (sheet_with (cells_of c) pool name) range (coordinate_at rows cols i) (first_operand t)))
      → (takes_second t ≡ true → InRange range rows cols (λ i. second_at k t i
      ≡ resolved (sheet_with (cells_of c) pool name) range (coordinate_at rows cols i) (second_operand t)))
      → (counts_keys t ≡ true → Founded pool c range rows cols k.founds)
      → Knows (sheet_from (cells_of c) regions pool name) range t rows cols k
  known_by valued first second found =
      let bare = resolved_bare (sheet_from (cells_of c) regions pool name) range in
      record {
        values = valued_at c rows cols k.values valued;
        first = λ takes i h m. first takes i h m ∙ bare (coordinate_at rows cols i) (first_operand t);
        second = λ takes i h m. second takes i h m ∙ bare (coordinate_at rows cols i) (second_operand t);
        found = found;
      }

-- other counts of keys, as many as those that fit
pub fits_kept : (from to : ℕ) (values firsts seconds : List Float) (founds new : List ℕ) (cols flags : List ℕ) (room : ℕ)
    → length new ≡ length founds → fits_hits from to (known values firsts seconds founds) cols flags room ≡ true
    → fits_hits from to (known values firsts seconds new) cols flags room ≡ true
fits_kept from to values firsts seconds founds new cols flags room e fits = rw e fits

-- ---- outcomes of the regions from one on

by_long : (k : Known) (range : Range) (t : Test) (imported : Bool) (cols flags : List ℕ) (i n : ℕ)
    → length (outcomes_by k range t imported cols flags i n) ≡ n
unfolding outcomes_by
by_long k range t imported cols flags i zero = refl
by_long k range t imported cols flags i (suc n) = ap suc (by_long k range t imported cols flags (suc i) n)

-- the hits that count
module _ (i : ℕ) (os : List Outcome) where
  hits_of_few : length (hits_of i os) ≤ length os
  unfolding hits_of
  hits_of_few = go (is_unresolved os)
    where
      go : (b : Bool) → length (cond b [] (hits_from i os)) ≤ length os
      go true = omega arith
      go false = hits_few i os

  hits_of_between : (k : ℕ) → k < length (hits_of i os) → get_or (hits_of i os) k 0 < i + length os
  unfolding hits_of
  hits_of_between k = go (is_unresolved os)
    where
      go : (b : Bool) → k < length (cond b [] (hits_from i os)) → get_or (cond b [] (hits_from i os)) k 0 < i + length os
      go true h = absurd (not-suc-le-zero h)
      go false h = hits_within i os k h

-- ---- what is found of the regions in the rows of a rule

-- by tables that fit
module _ (k : Known) (range : Range) (t : Test) (imported : Bool) (cols flags : List ℕ) (from to : ℕ) (f : Found)
    (is : f ≡ found_among from (outcomes_by k range t imported cols flags from (to - from))) where
  abbrev outcomes : List Outcome
  outcomes = outcomes_by k range t imported cols flags from (to - from)

  outcomes_many : length outcomes ≡ to - from
  outcomes_many = by_long k range t imported cols flags from (to - from)

  found_unresolved : f.unresolved ≡ cond (is_unresolved outcomes) (Some (unresolved_from from outcomes)) None
  unfolding found_among
  found_unresolved = ap (λ (x : Found). x.unresolved) is

  found_count : f.count ≡ length (hits_of from outcomes)
  unfolding found_among
  found_count = ap (λ (x : Found). x.count) is

  -- the region that leaves the test unresolved is one of them
  pub found_within : from ≤ to → (at : ℕ) → f.unresolved ≡ Some at → at < to
  found_within ordered at some =
      let u = unresolved_at from outcomes is some in
      omega (arith, ordered, u.1, first_most from outcomes u.0, outcomes_many)

  pub found_few : f.count ≤ to - from
  found_few = omega (arith, found_count, hits_of_few from outcomes, outcomes_many)

  -- the hits are at the front of a table
  module _ (room : ℕ) (large : to - from ≤ room) (page rest : List ℕ) (held : page ≡ page_of true room (hits_of from outcomes)) where
    pub found_front : take f.count (page ++ rest) ≡ hits_of from outcomes
    found_front =
        let xs = hits_of from outcomes in
        ap (λ (l : List ℕ). take f.count (l ++ rest))
        (held ∙ page_fits 0 room xs (omega (arith, found_count, found_few, large)))
        ∙ ap (take f.count) (append_assoc xs (replicate (room - length xs) 0) rest)
        ∙ take_at xs (replicate (room - length xs) 0 ++ rest) f.count (sym found_count)

    pub found_below : from ≤ to → (i : ℕ) → i < f.count → get_or (page ++ rest) i 0 < to
    found_below ordered i h =
        let same : get_or (page ++ rest) i 0 ≡ get_or (hits_of from outcomes) i 0 = sym (get_or-take f.count (page ++ rest) i 0 h)
        ∙ ap (λ (l : List ℕ). get_or l i 0) found_front in
        omega (arith, ordered, same, hits_of_between from outcomes i (omega (arith, h, found_count)), outcomes_many)

-- held against all regions, where what is known of them is what the sheet has
module _ (s : Sheet) (r : Rule) (t : Test) (rows cols flags : List ℕ) (k : Known) (knows : Knows s r.range t rows cols k) {from to : ℕ}
    (band : BandOf r.range rows from to) where
  abbrev whole : List Outcome
  whole = outcomes_from s r t rows cols flags 0 (length rows)

  abbrev mid : List Outcome
  mid = outcomes_by k r.range t r.imported cols flags from (to - from)

  counting_paint : (unresolved : Bool) → Paints t r.imported k.values (cond unresolved [] whole)
  counting_paint true = none_paint t r.imported k.values
  counting_paint false = whole_paints s r t rows cols flags k knows

  all_asked : (alive : ℕ) → alive ≡ live_from flags 0 (length rows)
      → cond (is_unresolved mid) (live_from flags 0 (unresolved_from from mid + 1)) alive ≡ asked whole
  all_asked alive all = go (is_unresolved mid) refl
    where
      go : (unresolved : Bool) → is_unresolved mid ≡ unresolved
          → cond unresolved (live_from flags 0 (unresolved_from from mid + 1)) alive ≡ asked whole
      go true e = rw add-one (sym (band_asked_first s r t rows cols flags k knows band e))
      go false e = all ∙ sym (band_asked s r t rows cols flags k knows band e)

  -- whether a test is unresolved, and how many regions are charged then
  some_when : (b : Bool) (u : ℕ) → is_some (cond b (Some u) None) ≡ b
  some_when true u = refl
  some_when false u = refl

  asked_when : (b : Bool) (u n alive : ℕ) → MatchOption (cond b (Some u) None) (n ≡ alive) (λ at. n ≡ live_from flags 0 (at + 1))
      → n ≡ cond b (live_from flags 0 (u + 1)) alive
  asked_when true u n alive h = h
  asked_when false u n alive h = h

  module _ (f : Found) (is : f ≡ found_among from mid) where
    pub found_decides : (alive n : ℕ) → alive ≡ live_from flags 0 (length rows)
        → MatchOption f.unresolved (n ≡ alive) (λ at. n ≡ live_from flags 0 (at + 1)) → (hits : List ℕ) → take f.count hits ≡ hits_of from mid
        → (limit : ℕ) (spent : Charged) (d : Decided)
        → ((os : List Outcome) → f.count ≡ length (hits_from 0 os) → take f.count hits ≡ hits_from 0 os
        → Paints t r.imported k.values os
        → Decides (step_from limit (is_bar_test t) (judged_as os n (is_some f.unresolved)) spent) r.imported k.values hits d)
        → Decides (step_from limit (is_bar_test t) (judged_of whole) spent) r.imported k.values hits d
    found_decides alive n all charged hits front limit spent d told =
        let unresolved = found_unresolved k r.range t r.imported cols flags from to f is in
        let count = found_count k r.range t r.imported cols flags from to f is in
        let first = unresolved_from from mid in
        let painted = band_painted s r t rows cols flags k knows band in
        let regions : n ≡ asked whole = asked_when (is_unresolved mid) first n alive (rw unresolved at charged) ∙ all_asked alive all in
        decides_same r.imported k.values hits d _ _
        (ap (λ (j : Judged). step_from limit (is_bar_test t) j spent)
        ((rw (unresolved, some_when (is_unresolved mid) first)) ∙ band_judged s r t rows cols flags k knows band n regions))
        (told (cond (is_unresolved mid) [] whole) (count ∙ ap length painted) (front ∙ painted) (counting_paint (is_unresolved mid)))

-- ---- all regions are stopped

-- nothing is found, as no region is looked at
module _ (s : Sheet) (r : Rule) (t : Test) (rows cols flags : List ℕ) (none : live_from flags 0 (length rows) ≡ 0) (f : Found)
    (is : f ≡ record { unresolved = None; count = 0 }) where
  pub stopped_decides : (values : List Float) (hits : List ℕ) (limit : ℕ) (spent : Charged) (d : Decided)
      → ((os : List Outcome) → f.count ≡ length (hits_from 0 os) → take f.count hits ≡ hits_from 0 os
      → Paints t r.imported values os
      → Decides (step_from limit (is_bar_test t) (judged_as os 0 (is_some f.unresolved)) spent) r.imported values hits d)
      → Decides (step_from limit (is_bar_test t) (judged_of (outcomes_from s r t rows cols flags 0 (length rows))) spent) r.imported values
      hits d
  stopped_decides values hits limit spent d told =
      let n = length rows in
      let no-hits = stopped_hits 0 n in
      decides_same r.imported values hits d _ _
      (ap (λ (j : Judged). step_from limit (is_bar_test t) j spent)
      ((rw is) ∙ sym (stopped_judged n) ∙ ap judged_of (sym (none_live s r t rows cols flags 0 n none))))
      (told (stopped n) (rw (is, no-hits)) (rw (is, no-hits)) (stopped_paint t r.imported values n))

-- ---- by the plan

module _ (s : Sheet) (r : Rule) (limit : ℕ) (rows cols flags : List ℕ) (charged spent : Charged)
    (ahead : spent ≡ ahead_of_regions s r limit charged) (p : Plan) (planned : (c : Counter) → spent ≡ Ok c → p ≡ plan s r)
    (values : List Float) (hits : List ℕ) (d : Decided) where
  abbrev DecidesBy : Step → Type 0
  DecidesBy x = Decides x r.imported values hits d

  abbrev DecidesRule : Type 0
  DecidesRule = DecidesBy (step_of s r charged limit rows cols flags)

  by_plan : (q : Plan) → p ≡ q → DecidesBy (step_from limit (tests_bar q) (judged_in s r rows cols flags q) spent) → DecidesRule
  by_plan q e h =
      subst DecidesBy
      (ap (λ (x : Plan). step_from limit (tests_bar x) (judged_in s r rows cols flags x) spent) (sym e)
      ∙ step_by_parts s r limit rows cols flags charged spent p ahead planned) h

  pub by_deferred : p ≡ Plan.Deferred → DecidesBy (step_from limit false (judged_as [] 0 true) spent) → DecidesRule
  unfolding tests_bar judged_in
  by_deferred e h = by_plan Plan.Deferred e h

  pub by_skipped : p ≡ Plan.Skipped → DecidesBy (step_from limit false (judged_as [] 0 false) spent) → DecidesRule
  unfolding tests_bar judged_in
  by_skipped e h = by_plan Plan.Skipped e h

  pub by_tested : (t : Test) → p ≡ Plan.Tested t
      → DecidesBy (step_from limit (is_bar_test t) (judged_of (outcomes_from s r t rows cols flags 0 (length rows))) spent) → DecidesRule
  unfolding tests_bar judged_in
  by_tested t e h = by_plan (Plan.Tested t) e h
