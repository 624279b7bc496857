-- The tables of a job: codes of keys are small, and the numbers of the cells and the places and numbers of the regions, each at the front
-- of an array, make up what a rule needs. Assumes nothing.
use Rattle.std.specs.Prelude.{None}
use Prim.Native.Nat.{ℕ, ◌≤◌, ◌<◌, min}
use native.Mathlib.Omega.{arith}
use mathlib.Core.Path.{◌≡◌, refl, sym, ap, ◌∙◌}
use mathlib.Core.Bool.{Bool, true, false}
use mathlib.Core.List.{List, ◌++◌}
use lib.Ieee.{Float, nan}
use lib.ListN.{length, get_or, take, drop, replicate, length-append, length-replicate}
use lib.Seq.{length-take-le, length_front, take_at, get_or-take}
use borrow.Author.Tests.{le-leb}
use Rattle.model.specs.declared.CfRule.{CfRule}
use Rattle.model.specs.Options.{Key}
use Rattle.model.specs.Sheet.{CellColumns}
use Rattle.model.specs.Readings.{has_key}
use Rattle.places.specs.Walk.{walk_fits}
use Rattle.keys.specs.Names.{keys_held, name_of, names_of}
use Rattle.keys.proofs.Naming.{padded_at, keyed_within, first_within, name_keyed, name_none}
use Rattle.keys.proofs.Keys.{held_length}
use Rattle.order.specs.Order.{is_duplicates}
use Rattle.call.specs.Tables.{number_named, Numbered, Followed, Coded, Tabled}
use Rattle.call.proofs.Tables.{values_of}

-- ---- codes

-- a name is at most as great as there are keys
name_within : (pool : List ℕ) (ks : List Key) (i : ℕ) → get_or (names_of pool ks) i 0 ≤ length ks
unfolding has_key
name_within pool ks i =
    rw (padded_at (name_of pool ks) (name_none pool ks None refl) ks i) (go (has_key (get_or ks i None)) refl)
  where
    go : (keyed : Bool) → has_key (get_or ks i None) ≡ keyed → name_of pool ks (get_or ks i None) ≤ length ks
    go true e = rw (name_keyed pool ks (get_or ks i None) e) (omega (arith, keyed_within ks i e, first_within pool ks i e))
    go false e = rw (name_none pool ks (get_or ks i None) e) (omega arith)

pub coded_small : (pool : List ℕ) (c : CellColumns) (codes : List ℕ) → Coded pool c codes → (i : ℕ) → get_or codes i 0 < 1025
coded_small pool c codes coded i =
    let n = min (length c.rows) 1024 in
    rw coded (omega (arith, name_within pool (keys_held pool c 0 n) i, held_length pool c 0 n))

-- ---- places

-- a table with an entry for each region is fit for what the checks let through
pub table_fits : (cells regions room : ℕ) → cells ≤ 1024 → regions ≤ room → walk_fits cells regions room ≡ true
table_fits cells regions room c r = rw (le-leb regions room r, le-leb cells 65_535 (omega (arith, c)))

-- ---- the front of an array

-- of 1,024 entries
module _ {A : Type 0} (n : ℕ) (a : A) where
  pub cut_within : n ≤ 1024 → n ≤ length (replicate 1024 a)
  cut_within h = omega (arith, h, length-replicate 1024 a)

  pub cut_long : n ≤ 1024 → length (take n (replicate 1024 a)) ≡ n
  cut_long h = length-take-le n (replicate 1024 a) (cut_within h)

  -- another front as long
  pub cut_kept : (front : List A) → length front ≡ length (take n (replicate 1024 a)) → 1024 ≡ length (front ++ drop n (replicate 1024 a))
  cut_kept front e = sym (length_front (replicate 1024 a) front n e ∙ length-replicate 1024 a)

-- n entries with others behind them
module _ {A : Type 0} (n : ℕ) (front rest : List A) (long : length front ≡ n) where
  pub front_within : n ≤ length (front ++ rest)
  front_within = omega (arith, long, length-append front rest)

  front_taken : take n (front ++ rest) ≡ front
  front_taken = take_at front rest n long

  pub front_long : n ≡ length (take n (front ++ rest))
  front_long = rw (front_taken, long)

  -- by itself and in the array
  pub taken_at : (i : ℕ) (d : A) → get_or (take n (front ++ rest)) i d ≡ get_or front i d
  taken_at i d = ap (λ (l : List A). get_or l i d) front_taken

  pub front_at : (i : ℕ) (d : A) → i < n → get_or (front ++ rest) i d ≡ get_or front i d
  front_at i d h = sym (get_or-take n (front ++ rest) i d h) ∙ taken_at i d

-- ---- all of them

pub tabled_of : (c : CellColumns) (rows cols places : List ℕ) (floats values : List Float) → Followed c rows cols places → Numbered c floats
    → length c.rows ≡ length floats
    → ((i : ℕ) → i < length rows → get_or values i nan ≡ number_named floats (get_or places i 0))
    → (pool : List ℕ) (kind : CfRule) (codes : List ℕ) → (is_duplicates kind ≡ true → Coded pool c codes)
    → Tabled c pool kind rows cols places floats values codes
tabled_of c rows cols places floats values followed numbered same named pool kind codes coded =
    record {
      numbered = numbered;
      followed = followed;
      valued = values_of c rows cols places floats values followed numbered same named;
      coded = coded;
    }
