-- The loop that keeps the places of the bytes that are 1: each place is stored behind those kept so far, and stays there only if its byte
-- is 1. Once the entry behind them is 0 again, they are alone in their memory. Assumes nothing.
use Prim.Native.Nat.{ℕ, zero, suc, ◌+◌, ◌≤◌, ◌<◌}
use mathlib.Core.Path.{◌≡◌, refl, sym, ap, ◌∙◌}
use mathlib.Core.Bool.{true}
use mathlib.Core.List.{List, [], ◌∷◌, ◌++◌, append-nil}
use native.Mathlib.Nat.{add-zero}
use native.Mathlib.Omega.{arith}
use lib.Dec.{eqb}
use lib.ListN.{length, get_or, set, replicate, length-set, length-append, length-replicate, get_or-replicate}
use lib.Seq.{sets, length-sets, set-set, set-get_or, get_or-set_other, take-length}
use Rattle.memory.specs.Memory.{page_of}
use Rattle.memory.proofs.Laws.{all_fits, sets_append}
use Rattle.hits.specs.Chosen.{chosen_from}
use Rattle.hits.proofs.Chosen.{ahead, chosen, chosen_none, chosen_more, chosen_few}

-- the first i bytes are done; the entry behind the kept places may be any
pub record Keeping (from : ℕ) (bytes : List ℕ) (room : ℕ) (hits : List ℕ) (count i : ℕ) : Type 0 where
  pub counted : count ≡ length (chosen from bytes i)
  pub cleared : set hits count 0 ≡ sets (replicate room 0) 0 (chosen from bytes i)

-- ---- a store

-- behind what is stored a memory is as it was
sets_past : (xs d : List ℕ) (at k : ℕ) → at + length xs ≤ k → get_or (sets d at xs) k 0 ≡ get_or d k 0
sets_past [] d at k h = refl
sets_past (x ∷ xs) d at k h =
    sets_past xs (set d at x) (suc at) k (omega arith) ∙ get_or-set_other d at k x 0 (λ e. omega arith)

-- 0 is stored where it is already
zero_kept : (d : List ℕ) (i : ℕ) → get_or d i 0 ≡ 0 → set d i 0 ≡ d
zero_kept d i e = ap (set d i) (sym e) ∙ set-get_or d i 0

-- a byte of at most 1 counts as many places as it chooses
counted_one : (byte i : ℕ) → byte ≤ 1 → length (ahead (eqb byte 1) i []) ≡ byte
counted_one zero i h = refl
counted_one (suc zero) i h = refl
counted_one (suc (suc byte)) i h = absurd (omega arith)

-- ---- the turns

module _ {from : ℕ} {bytes : List ℕ} {room : ℕ} where
  pub keeping_begun : {hits : List ℕ} → hits ≡ replicate room 0 → 0 < room → Keeping from bytes room hits 0 0
  keeping_begun {hits} z h =
      record {
        counted = ap length (sym (chosen_none from bytes));
        cleared = rw (z, chosen_none from bytes) (zero_kept (replicate room 0) 0 (get_or-replicate room 0 0 0 h));
      }

  module _ {hits : List ℕ} {count i : ℕ} (v : Keeping from bytes room hits count i) where
    pub keeping_few : count ≤ i
    keeping_few = omega (arith, v.counted, chosen_few from bytes i)

    pub keeping_long : length hits ≡ room
    keeping_long =
        sym (length-set hits count 0) ∙ ap length v.cleared
        ∙ (length-sets (replicate room 0) 0 (chosen from bytes i) ∙ length-replicate {A = ℕ} room 0)

    module _ (h : i + 1 < room) where
      -- behind the place that is stored now
      zero_next : (place : ℕ) → get_or (set hits count place) (count + 1) 0 ≡ 0
      zero_next place =
          let l : count + 1 < room = omega (arith, keeping_few) in
          let past = sets_past (chosen from bytes i) (replicate room 0) 0 (count + 1) (omega (arith, v.counted)) in
          get_or-set_other hits count (count + 1) place 0 (λ e. omega arith)
          ∙ (sym (get_or-set_other hits count (count + 1) 0 0 (λ e. omega arith))
          ∙ (ap (λ d. get_or d (count + 1) 0) v.cleared ∙ (past ∙ get_or-replicate room (count + 1) 0 0 l)))

      stored : (byte place : ℕ) → byte ≤ 1
          → set (set hits count place) (count + byte) 0 ≡ sets (replicate room 0) 0 (chosen from bytes i ++ ahead (eqb byte 1) place [])
      stored zero place few = rw (add-zero, append-nil) (set-set hits count place 0 ∙ v.cleared)
      stored (suc zero) place few =
          let e : 0 + length (chosen from bytes i) ≡ count = omega (arith, v.counted) in
          zero_kept (set hits count place) (count + 1) (zero_next place)
          ∙ (sym (set-set hits count 0 place)
          ∙ (ap (λ d. set d count place) v.cleared
          ∙ sym (sets_append (replicate room 0) 0 (chosen from bytes i) (place ∷ []) ∙ rw e)))
      stored (suc (suc byte)) place few = absurd (omega arith)

      pub keeping_turn : i < length bytes → get_or bytes i 0 ≤ 1
          → Keeping from bytes room (set hits count (from + i)) (count + get_or bytes i 0) (i + 1)
      keeping_turn l few =
          let more = chosen_more from bytes i l in
          record {
            counted = rw (more, length-append, counted_one (get_or bytes i 0) (from + i) few, ← v.counted);
            cleared = stored (get_or bytes i 0) (from + i) few ∙ ap (sets (replicate room 0) 0) (sym more);
          }

    pub keeping_ended : i ≡ length bytes → i < room
        → (count ≡ length (chosen_from from bytes)) × (set hits count 0 ≡ page_of true room (chosen_from from bytes))
    keeping_ended e h =
        let all : chosen from bytes i ≡ chosen_from from bytes = rw (e, take-length bytes) in
        let l = length-replicate {A = ℕ} room 0 in
        let fits = all_fits 0 (replicate room 0) 0 (chosen from bytes i) (omega (arith, chosen_few from bytes i, l)) in
        rw (← all) (v.counted, v.cleared ∙ sym fits)
