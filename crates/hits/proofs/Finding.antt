-- What is found of a test whose outcomes are known, what there is where the tables fit, and that the columns may be cut to the regions.
-- Assumes nothing.
use Rattle.std.specs.Prelude.{Some, None}
use Prim.Native.Nat.{ℕ, ◌+◌, ◌-◌, ◌≤◌, ◌<◌}
use mathlib.Core.Path.{◌≡◌, refl, sym, ap, ◌∙◌}
use mathlib.Core.Bool.{Bool, true, false, cond, ◌&&◌}
use mathlib.Core.List.{List}
use native.Mathlib.Omega.{arith}
use lib.Ieee.{nan}
use lib.ListN.{length, get_or, take, drop, replicate, length-drop}
use lib.Seq.{get_or-take, get_or-drop, length-take-le}
use borrow.Author.Tests.{leb-true, ltb-true}
use Rattle.memory.specs.Memory.{page_of}
use Rattle.memory.proofs.Laws.{all_none}
use Rattle.model.specs.declared.Outcome.{Outcome}
use Rattle.model.specs.declared.Range.{Range}
use Rattle.model.specs.declared.Test.{Test}
use Rattle.model.specs.Run.{is_unresolved}
use Rattle.hits.specs.Said.{byte_of}
use Rattle.hits.specs.Hits.{Known, known, verdict_by, outcomes_by, Says, hits_from, hits_of, unresolved_from, fits_hits, found_among, found_in}
use Rattle.hits.specs.declared.Found.{Found}
use Rattle.hits.specs.Chosen.{Tells}
use Rattle.hits.proofs.Hitting.{outcomes_long, outcomes_byte}

-- ---- what is found

module _ (from : ℕ) (os : List Outcome) where
  pub found_unresolved : {at : ℕ} → is_unresolved os ≡ true → unresolved_from from os ≡ at
      → record { unresolved = Some at; count = 0 } ≡ found_among from os
  unfolding found_among hits_of
  found_unresolved e a = rw (e, a)

  pub page_unresolved : (room : ℕ) → is_unresolved os ≡ true → replicate room 0 ≡ page_of true room (hits_of from os)
  unfolding hits_of
  page_unresolved room e = rw e (sym (all_none 0 (replicate room 0) 0 (omega arith)))

  pub found_resolved : {count : ℕ} → is_unresolved os ≡ false → count ≡ length (hits_from from os)
      → record { unresolved = None; count = count } ≡ found_among from os
  unfolding found_among hits_of
  found_resolved e c = rw (e, c)

  pub hits_resolved : is_unresolved os ≡ false → hits_from from os ≡ hits_of from os
  unfolding hits_of
  hits_resolved e = rw e

  pub found_unfit : None ≡ found_in false from os
  unfolding found_in
  found_unfit = refl

  pub found_fit : {f : Found} → f ≡ found_among from os → Some f ≡ found_in true from os
  unfolding found_in
  found_fit e = ap Some e

  -- what is found where the tables fit
  pub fit_found : {fits : Bool} {f : Found} → fits ≡ true → Some f ≡ found_in fits from os → f ≡ found_among from os
  unfolding found_in
  fit_found e is = let some = rw e at is in cc

  pub never_unfit : {fits : Bool} → fits ≡ true → None ≡ found_in fits from os → ⊥
  unfolding found_in
  never_unfit e is = let some = rw e at is in cc

  -- what it says of the test
  pub unresolved_at : {f : Found} {at : ℕ} → f ≡ found_among from os → f.unresolved ≡ Some at
      → (is_unresolved os ≡ true) × (unresolved_from from os ≡ at)
  unfolding found_among
  unresolved_at is some = decided (is_unresolved os) (sym (ap (λ (g : Found). g.unresolved) is) ∙ some)
    where
      decided : (b : Bool) {u at : ℕ} → cond b (Some u) None ≡ Some at → (b ≡ true) × (u ≡ at)
      decided true e = (refl, cc)
      decided false e = (cc, cc)

  pub all_resolved : {f : Found} → f ≡ found_among from os → f.unresolved ≡ None → is_unresolved os ≡ false
  unfolding found_among
  all_resolved is none = decided (is_unresolved os) (unresolved_from from os) (sym (ap (λ (g : Found). g.unresolved) is) ∙ none)
    where
      decided : (b : Bool) (u : ℕ) → cond b (Some u) None ≡ None → b ≡ false
      decided true u e = cc
      decided false u e = refl

-- ---- what fits

both : (a b : Bool) → a && b ≡ true → (a ≡ true) × (b ≡ true)
both true b e = (refl, e)
both false b e = (e, cc)

-- the regions from `from` up to `to` of a test whose tables fit
pub record Fitting (from to : ℕ) (k : Known) (cols flags : List ℕ) (room : ℕ) : Type 0 where
  pub ordered : from ≤ to
  pub few : to ≤ 1024
  pub within : to - from < room
  pub for_cols : to ≤ length cols
  pub for_flags : to ≤ length flags
  pub for_values : to ≤ length k.values
  pub for_firsts : to ≤ length k.firsts
  pub for_seconds : to ≤ length k.seconds
  pub for_founds : to ≤ length k.founds

pub fitting : (from to : ℕ) (k : Known) (cols flags : List ℕ) (room : ℕ) → fits_hits from to k cols flags room ≡ true
    → Fitting from to k cols flags room
fitting from to k cols flags room e =
    let founds = both _ _ e in
    let seconds = both _ _ founds.0 in
    let firsts = both _ _ seconds.0 in
    let values = both _ _ firsts.0 in
    let stops = both _ _ values.0 in
    let places = both _ _ stops.0 in
    let sizes = both _ _ places.0 in
    let ends = both _ _ sizes.0 in
    record {
      ordered = leb-true _ _ ends.0;
      few = leb-true _ _ ends.1;
      within = ltb-true _ _ sizes.1;
      for_cols = leb-true _ _ places.1;
      for_flags = leb-true _ _ stops.1;
      for_values = leb-true _ _ values.1;
      for_firsts = leb-true _ _ firsts.1;
      for_seconds = leb-true _ _ seconds.1;
      for_founds = leb-true _ _ founds.1;
    }

-- ---- columns cut to the regions

module _ {A : Type 0} (from to : ℕ) (l : List A) where
  abbrev part : List A
  part = take (to - from) (drop from l)

  part_at : (j : ℕ) (d : A) → j < to - from → get_or part j d ≡ get_or l (from + j) d
  part_at j d h = get_or-take (to - from) (drop from l) j d h ∙ get_or-drop from l j d

  pub part_long : to ≤ length l → length part ≡ to - from
  part_long h = length-take-le (to - from) (drop from l) (rw (length-drop from l) (omega arith))

module _ (from to : ℕ) (k : Known) (t : Test) where
  abbrev cut : Known
  cut = known (part from to k.values) (part from to k.firsts) (part from to k.seconds) (part from to k.founds)

  verdict_cut : (imported : Bool) (j : ℕ) → j < to - from → verdict_by cut t imported j ≡ verdict_by k t imported (from + j)
  unfolding verdict_by
  verdict_cut imported j h =
      rw (
        part_at from to k.values j nan h,
        part_at from to k.firsts j nan h,
        part_at from to k.seconds j nan h,
        part_at from to k.founds j 0 h,
      )

  module _ (range : Range) (cols flags said : List ℕ) (all : to ≤ length k.values) (room : to - from ≤ length said) (imported : Bool)
      (s : (j : ℕ) → j < length (part from to k.values) → get_or said j 0 ≡ byte_of (verdict_by cut t imported j)) where
    says_cut : Says (take (to - from) said) k t imported from (to - from)
    says_cut j h =
        get_or-take (to - from) said j 0 h
        ∙ (s j (omega (arith, part_long from to k.values all)) ∙ ap byte_of (verdict_cut imported j h))

    -- the outcomes of the regions have the bytes that the test says of them
    pub tells_cut : Tells range (part from to flags) (part from to cols) (take (to - from) said)
        (outcomes_by k range t imported cols flags from (to - from))
    tells_cut =
        let l = length-take-le (to - from) said room in
        record {
          long = outcomes_long k range t imported cols flags from (to - from) ∙ sym l;
          each = λ j h.
              let g : j < to - from = omega (arith, l) in
              outcomes_byte k range t imported cols flags from (to - from) j g
              ∙ rw (part_at from to flags j 0 g, part_at from to cols j 0 g, says_cut j g);
        }
