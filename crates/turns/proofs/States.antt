-- Bars and stop flags that say what the rules so far left at the regions say after a rule what `all_afterwards` leaves, and at the start
-- those of regions that no rule has touched. Assumes nothing.
use Prim.Native.Nat.{ℕ, zero, suc, ◌+◌, ◌≤◌, ◌<◌}
use mathlib.Core.Path.{◌≡◌, refl, sym, ap, ◌∙◌}
use mathlib.Core.Bool.{Bool, true, false, cond, not, ◌&&◌, ◌||◌}
use mathlib.Core.List.{List, [], ◌∷◌}
use native.Mathlib.Nat.{sub-zero, suc-sub-suc, zero-add}
use native.Mathlib.Omega.{arith}
use lib.Dec.{eqb}
use lib.ListN.{length, get_or, set, replicate, length-set, length-replicate, get_or-replicate}
use Rattle.model.specs.declared.Outcome.{Outcome}
use Rattle.model.specs.Run.{RegionState, untouched, has_bar, painted, afterwards, all_afterwards}
use Rattle.model.specs.Columns.{column}
use Rattle.turns.specs.Emit.{BarColumns, bar_columns, draw_bar, draw_bars, stop_at, stops}
use Rattle.turns.proofs.Judging.{StoppedBy}

-- a column with one entry more
column_cons : {A : Type 0} (field : A → ℕ) (n : ℕ) (a : A) (entries : List A)
    → column (suc n) field (a ∷ entries) ≡ field a ∷ column n field entries
unfolding column
column_cons field n a entries = rw suc-sub-suc

-- ---- the bars

-- the bar of a region in front of the others
abbrev with_bar : ℕ → ℕ → BarColumns → BarColumns
with_bar bar ppm c = bar_columns (bar ∷ c.rules) (ppm ∷ c.ppms)

cond_with_bar : (t : Bool) (bar ppm : ℕ) (c d : BarColumns) → cond t (with_bar bar ppm c) (with_bar bar ppm d) ≡ with_bar bar ppm (cond t c d)
cond_with_bar true bar ppm c d = refl
cond_with_bar false bar ppm c d = refl

cond_bar : (t : Bool) (x y u v : ℕ) (c : BarColumns) → cond t (with_bar x y c) (with_bar u v c) ≡ with_bar (cond t x u) (cond t y v) c
cond_bar true x y u v c = refl
cond_bar false x y u v c = refl

-- the bars that the states say
abbrev pub bars_of : ℕ → ℕ → List RegionState → BarColumns
bars_of a b states = bar_columns (column a (λ (s : RegionState). s.bar_rule) states) (column b (λ (s : RegionState). s.bar_ppm) states)

bars_of_cons : (a b : ℕ) (s : RegionState) (states : List RegionState)
    → bars_of (suc a) (suc b) (s ∷ states) ≡ with_bar s.bar_rule s.bar_ppm (bars_of a b states)
bars_of_cons a b s states = simp column_cons

module _ (rule : ℕ) where
  bar_later : (i : ℕ) (o : Outcome) (bar ppm : ℕ) (c : BarColumns)
      → draw_bar rule (suc i) o (with_bar bar ppm c) ≡ with_bar bar ppm (draw_bar rule i o c)
  unfolding draw_bar
  bar_later i Outcome.Stopped bar ppm c = refl
  bar_later i Outcome.Passed bar ppm c = refl
  bar_later i Outcome.Unresolved bar ppm c = refl
  bar_later i (Outcome.Painted p) bar ppm c = cond_with_bar (has_bar p && eqb (get_or c.rules i 0) 0) bar ppm _ _

  bars_later : (i : ℕ) (os : List Outcome) (bar ppm : ℕ) (c : BarColumns)
      → draw_bars rule (suc i) os (with_bar bar ppm c) ≡ with_bar bar ppm (draw_bars rule i os c)
  unfolding draw_bars
  bars_later i [] bar ppm c = refl
  bars_later i (o ∷ os) bar ppm c = rw (bar_later i o bar ppm c) (bars_later (suc i) os bar ppm (draw_bar rule i o c))

  bar_first : (stop : Bool) (s : RegionState) (o : Outcome) (c : BarColumns)
      → draw_bar rule 0 o (with_bar s.bar_rule s.bar_ppm c)
      ≡ with_bar (afterwards rule stop s o).bar_rule (afterwards rule stop s o).bar_ppm c
  unfolding draw_bar afterwards painted
  bar_first stop s Outcome.Stopped c = refl
  bar_first stop s Outcome.Passed c = refl
  bar_first stop s Outcome.Unresolved c = refl
  bar_first stop s (Outcome.Painted p) c = cond_bar (has_bar p && eqb s.bar_rule 0) _ _ _ _ c

  pub bars_after : (stop : Bool) (a b : ℕ) (states : List RegionState) (os : List Outcome)
      → length os ≤ length states → length states ≤ a → length states ≤ b
      → draw_bars rule 0 os (bars_of a b states) ≡ bars_of a b (all_afterwards rule stop states os)
  unfolding draw_bars all_afterwards
  bars_after stop a b [] [] h ha hb = refl
  bars_after stop a b [] (o ∷ os) h ha hb = absurd (omega arith)
  bars_after stop a b (s ∷ states) [] h ha hb = refl
  bars_after stop zero b (s ∷ states) (o ∷ os) h ha hb = absurd (omega arith)
  bars_after stop (suc a) zero (s ∷ states) (o ∷ os) h ha hb = absurd (omega arith)
  bars_after stop (suc a) (suc b) (s ∷ states) (o ∷ os) h ha hb =
      let next = afterwards rule stop s o in
      ap (λ c. draw_bars rule 1 os (draw_bar rule 0 o c)) (bars_of_cons a b s states)
      ∙ ap (λ c. draw_bars rule 1 os c) (bar_first stop s o (bars_of a b states))
      ∙ bars_later 0 os next.bar_rule next.bar_ppm (bars_of a b states)
      ∙ ap (with_bar next.bar_rule next.bar_ppm) (bars_after stop a b states os (omega arith) (omega arith) (omega arith))
      ∙ sym (bars_of_cons a b next (all_afterwards rule stop states os))

-- ---- the stop flags

cond_later : (t : Bool) (x : ℕ) (xs ys : List ℕ) → cond t (x ∷ xs) (x ∷ ys) ≡ x ∷ cond t xs ys
cond_later true x xs ys = refl
cond_later false x xs ys = refl

cond_first : (t : Bool) (x y : ℕ) (xs : List ℕ) → cond t (x ∷ xs) (y ∷ xs) ≡ cond t x y ∷ xs
cond_first true x y xs = refl
cond_first false x y xs = refl

length_set_if : (stop : Bool) (i : ℕ) (flags : List ℕ) → length (cond stop (set flags i 1) flags) ≡ length flags
length_set_if true i flags = length-set flags i 1
length_set_if false i flags = refl

module _ (stop : Bool) where
  length_stop : (i : ℕ) (o : Outcome) (flags : List ℕ) → length (stop_at stop i o flags) ≡ length flags
  unfolding stop_at
  length_stop i Outcome.Stopped flags = refl
  length_stop i Outcome.Passed flags = refl
  length_stop i Outcome.Unresolved flags = refl
  length_stop i (Outcome.Painted p) flags = length_set_if stop i flags

  pub length_stops : (i : ℕ) (os : List Outcome) (flags : List ℕ) → length (stops stop i os flags) ≡ length flags
  unfolding stops
  length_stops i [] flags = refl
  length_stops i (o ∷ os) flags = length_stops (suc i) os (stop_at stop i o flags) ∙ length_stop i o flags

  stop_later : (i : ℕ) (o : Outcome) (x : ℕ) (flags : List ℕ) → stop_at stop (suc i) o (x ∷ flags) ≡ x ∷ stop_at stop i o flags
  unfolding stop_at
  stop_later i Outcome.Stopped x flags = refl
  stop_later i Outcome.Passed x flags = refl
  stop_later i Outcome.Unresolved x flags = refl
  stop_later i (Outcome.Painted p) x flags = cond_later stop x (set flags i 1) flags

  stops_later : (i : ℕ) (os : List Outcome) (x : ℕ) (flags : List ℕ) → stops stop (suc i) os (x ∷ flags) ≡ x ∷ stops stop i os flags
  unfolding stops
  stops_later i [] x flags = refl
  stops_later i (o ∷ os) x flags = rw (stop_later i o x flags) (stops_later (suc i) os x (stop_at stop i o flags))

  -- the flag of a region with an outcome
  unfoldable flag_after : Outcome → ℕ → ℕ
  flag_after Outcome.Stopped x = x
  flag_after Outcome.Passed x = x
  flag_after Outcome.Unresolved x = x
  flag_after (Outcome.Painted p) x = cond stop 1 x

  stop_first : (o : Outcome) (x : ℕ) (flags : List ℕ) → stop_at stop 0 o (x ∷ flags) ≡ flag_after o x ∷ flags
  unfolding stop_at flag_after
  stop_first Outcome.Stopped x flags = refl
  stop_first Outcome.Passed x flags = refl
  stop_first Outcome.Unresolved x flags = refl
  stop_first (Outcome.Painted p) x flags = cond_first stop 1 x flags

or_true : (b : Bool) → b || true ≡ true
or_true true = refl
or_true false = refl

or_false : (b : Bool) → b || false ≡ b
or_false true = refl
or_false false = refl

flag_says : (rule : ℕ) (stop : Bool) (s : RegionState) (o : Outcome) (x : ℕ)
    → s.stopped ≡ not (eqb x 0) → (afterwards rule stop s o).stopped ≡ not (eqb (flag_after stop o x) 0)
unfolding afterwards painted flag_after
flag_says rule stop s Outcome.Stopped x e = e
flag_says rule stop s Outcome.Passed x e = e
flag_says rule stop s Outcome.Unresolved x e = e
flag_says rule true s (Outcome.Painted p) x e = or_true s.stopped
flag_says rule false s (Outcome.Painted p) x e = or_false s.stopped ∙ e

module _ {x : ℕ} {flags : List ℕ} {n : ℕ} {s : RegionState} {states : List RegionState} where
  stopped_rest : StoppedBy (x ∷ flags) 0 (suc n) (s ∷ states) → StoppedBy flags 0 n states
  stopped_rest h = record { many = omega (arith, h.many); flag = λ k b. rw zero-add (rw zero-add at (h.flag (suc k) (omega arith))) }

module _ (x : ℕ) {flags : List ℕ} {n : ℕ} (s : RegionState) {states : List RegionState} (e : s.stopped ≡ not (eqb x 0))
    (h : StoppedBy flags 0 n states) where
  flag_cons : (k : ℕ) → k < suc n → (get_or (s ∷ states) k untouched).stopped ≡ not (eqb (get_or (x ∷ flags) (0 + k) 0) 0)
  flag_cons zero b = e
  flag_cons (suc k) b = rw zero-add (rw zero-add at (h.flag k (omega arith)))

  stopped_cons : StoppedBy (x ∷ flags) 0 (suc n) (s ∷ states)
  stopped_cons = record { many = omega (arith, h.many); flag = flag_cons }

module _ (rule : ℕ) (stop : Bool) where
  pub stops_after : (flags : List ℕ) (n : ℕ) (states : List RegionState) (os : List Outcome) → StoppedBy flags 0 n states
      → length os ≤ n → n ≤ length flags → StoppedBy (stops stop 0 os flags) 0 n (all_afterwards rule stop states os)
  unfolding stops all_afterwards
  stops_after flags n [] [] h l k = h
  stops_after flags n (s ∷ states) [] h l k = h
  stops_after flags n [] (o ∷ os) h l k = absurd (omega (arith, h.many))
  stops_after [] n (s ∷ states) (o ∷ os) h l k = absurd (omega arith)
  stops_after (x ∷ flags) zero (s ∷ states) (o ∷ os) h l k = absurd (omega arith)
  stops_after (x ∷ flags) (suc n) (s ∷ states) (o ∷ os) h l k =
      rw (stop_first stop o x flags, stops_later stop 0 os (flag_after stop o x) flags)
      (stopped_cons _ _ (flag_says rule stop s o x (h.flag 0 (omega arith)))
      (stops_after flags n states os (stopped_rest h) (omega arith) (omega arith)))

-- ---- regions that no rule has touched

-- of a field that they have as 0: the rule of the bar, or its ppm
pub bars_untouched : (field : RegionState → ℕ) → field untouched ≡ 0 → (a n : ℕ) → n ≤ a
    → column a field (replicate n untouched) ≡ replicate a 0
unfolding column
bars_untouched field e a zero h = rw sub-zero
bars_untouched field e zero (suc n) h = absurd (omega arith)
bars_untouched field e (suc a) (suc n) h = rw (suc-sub-suc, e) (ap (λ l. 0 ∷ l) (bars_untouched field e a n (omega arith)))

zero_get_d : (k i : ℕ) → get_or {A = ℕ} (replicate k 0) i 0 ≡ 0
zero_get_d zero i = refl
zero_get_d (suc k) zero = refl
zero_get_d (suc k) (suc i) = zero_get_d k i

pub stops_none : (k n : ℕ) → StoppedBy (replicate k 0) 0 n (replicate n untouched)
stops_none k n =
    record {
      many = length-replicate n untouched;
      flag = λ i b. rw (get_or-replicate n i untouched untouched b, zero_get_d k (0 + i));
    }
