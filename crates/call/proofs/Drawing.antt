-- The bars of a rule and its stop flags, one painted region a turn. Assumes nothing.
use Prim.Native.Nat.{ℕ, suc, ◌+◌, ◌≤◌, ◌<◌}
use mathlib.Core.Path.{◌≡◌, refl, ◌∙◌}
use mathlib.Core.Bool.{Bool, true, false, cond}
use mathlib.Core.List.{List, [], ◌∷◌}
use native.Mathlib.Numerals.{add-one}
use lib.Dec.{eqb}
use lib.ListN.{length, get_or, set, length-set}
use borrow.Author.Tests.{eq-eqb, ne_eqb}
use Rattle.turns.specs.Emit.{BarColumns, bar_columns, draw_hit, draw_hits, stop_hits}
use Rattle.call.proofs.Left.{Left, left_begun, left_turn, left_ended, left_same}

-- ---- a bar

module _ (rule ppm region : ℕ) (rules ppms : List ℕ) where
  pub bar_kept : (get_or rules region 0 ≡ 0 → ⊥) → draw_hit rule ppm region (bar_columns rules ppms) ≡ bar_columns rules ppms
  bar_kept h = rw (ne_eqb _ _ h)

  pub bar_new : {rules' ppms' : List ℕ} → get_or rules region 0 ≡ 0 → rules' ≡ set rules region (rule + 1) → ppms' ≡ set ppms region ppm
      → bar_columns rules' ppms' ≡ draw_hit rule ppm region (bar_columns rules ppms)
  bar_new e r p = rw (r, p, eq-eqb _ _ e, add-one rule)

abbrev pub bar_lengths : BarColumns → List ℕ
bar_lengths c = length c.rules ∷ length c.ppms ∷ []

bar_long : (rule ppm region : ℕ) (c : BarColumns) → bar_lengths (draw_hit rule ppm region c) ≡ bar_lengths c
bar_long rule ppm region c = go (eqb (get_or c.rules region 0) 0)
  where
    go : (b : Bool)
        → bar_lengths (cond b (bar_columns (set c.rules region (suc rule)) (set c.ppms region ppm)) c) ≡ bar_lengths c
    go true = simp length-set
    go false = refl

bars_long : (rule : ℕ) (ppm : ℕ → ℕ) (hits : List ℕ) (c : BarColumns) → bar_lengths (draw_hits rule ppm hits c) ≡ bar_lengths c
unfolding draw_hits
bars_long rule ppm [] c = refl
bars_long rule ppm (h ∷ hs) c = bars_long rule ppm hs (draw_hit rule (ppm h) h c) ∙ bar_long rule (ppm h) h c

-- ---- a loop over the painted regions

pub record Drawn (rule : ℕ) (ppm : ℕ → ℕ) (hits : List ℕ) (first now : BarColumns) (k : ℕ) : Type 0 where
  pub left : Left (λ j hs c. draw_hits rule ppm hs c) hits first now k

module _ {rule : ℕ} {ppm : ℕ → ℕ} {hits : List ℕ} {first : BarColumns} where
  pub drawn_begun : Drawn rule ppm hits first first 0
  drawn_begun = record { left = left_begun }

  module _ {now : BarColumns} {k : ℕ} (v : Drawn rule ppm hits first now k) where
    pub drawn_turn : {next : BarColumns} {x : ℕ} → k < length hits → x ≡ ppm (get_or hits k 0)
        → next ≡ draw_hit rule x (get_or hits k 0) now → Drawn rule ppm hits first next (k + 1)
    unfolding draw_hits
    drawn_turn h p e = record { left = left_turn v.left 0 h (rw (e, p)) }

    pub drawn_long : bar_lengths now ≡ bar_lengths first
    drawn_long = left_same v.left bar_lengths (λ j hs c. bars_long rule ppm hs c)

    pub drawn_ended : length hits ≤ k → now ≡ draw_hits rule ppm hits first
    unfolding draw_hits
    drawn_ended h = left_ended v.left h refl

-- ---- the stop flags

stops_long : (hits flags : List ℕ) → length (stop_hits hits flags) ≡ length flags
unfolding stop_hits
stops_long [] flags = refl
stops_long (h ∷ hs) flags = stops_long hs (set flags h 1) ∙ length-set flags h 1

pub record Flagged (hits first now : List ℕ) (k : ℕ) : Type 0 where
  pub left : Left (λ j hs flags. stop_hits hs flags) hits first now k

module _ {hits first : List ℕ} where
  pub flagged_begun : Flagged hits first first 0
  flagged_begun = record { left = left_begun }

  module _ {now : List ℕ} {k : ℕ} (v : Flagged hits first now k) where
    pub flagged_turn : {next : List ℕ} → k < length hits → next ≡ set now (get_or hits k 0) 1 → Flagged hits first next (k + 1)
    unfolding stop_hits
    flagged_turn h e = record { left = left_turn v.left 0 h (rw e) }

    pub flagged_long : length now ≡ length first
    flagged_long = left_same v.left length (λ j hs flags. stops_long hs flags)

    pub flagged_ended : length hits ≤ k → now ≡ stop_hits hits first
    unfolding stop_hits
    flagged_ended h = left_ended v.left h refl
