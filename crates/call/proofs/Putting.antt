-- A column that takes values from place n on, one store a turn, as far as it goes: past its end nothing is written. Assumes nothing.
use Prim.Native.Nat.{ℕ, zero, suc, ◌+◌, ◌-◌, ◌≤◌, ◌<◌, min}
use mathlib.Core.Path.{◌≡◌, refl, sym, ap, ◌∙◌}
use mathlib.Core.List.{List, [], ◌∷◌, ◌++◌, map, map-map, map-append, map_congr_left}
use native.Mathlib.Nat.{add-zero}
use native.Mathlib.Omega.{arith, min_cases}
use lib.ListN.{length, get_or, set, take, drop, length-map, length-drop, take-append-drop, get_or-map}
use lib.Seq.{sets, length-sets, sets-eq, length-take-le, take_at, drop-drop}
use Rattle.memory.proofs.Laws.{sets_out, sets_append}
use Rattle.call.proofs.Left.{Left, left_begun, left_turn, left_ended, left_same}

drop_map : (f : ℕ → ℕ) (l : List ℕ) (k : ℕ) → drop k (map f l) ≡ map f (drop k l)
drop_map f l zero = refl
drop_map f [] (suc k) = refl
drop_map f (x ∷ l) (suc k) = drop_map f l k

-- at turn k the store is at n + k
abbrev storing : ℕ → ℕ → List ℕ → List ℕ → List ℕ
storing n k xs column = sets column (n + k) xs

pub record Put (n : ℕ) (xs first now : List ℕ) (k : ℕ) : Type 0 where
  pub left : Left (storing n) xs first now k

module _ {n : ℕ} {xs first : List ℕ} where
  pub put_begun : Put n xs first first 0
  put_begun = record { left = left_begun }

  module _ {now : List ℕ} {k : ℕ} (v : Put n xs first now k) where
    pub put_long : length now ≡ length first
    put_long = left_same v.left length (λ j ys column. length-sets column (n + j) ys)

    pub put_turn : {x : ℕ} (d : ℕ) → k < length xs → x ≡ get_or xs k d → Put n xs first (set now (n + k) x) (k + 1)
    put_turn d h e =
        let onward : suc (n + k) ≡ n + (k + 1) = omega arith in
        record { left = left_turn v.left d h (rw (e, ← onward)) }

    -- some at once
    pub put_turns : (ys : List ℕ) {to : ℕ} → k + length ys ≡ to → drop k xs ≡ ys ++ drop to xs → Put n xs first (sets now (n + k) ys) to
    put_turns ys {to} e parts =
        let onward : n + k + length ys ≡ n + to = omega arith in
        let at : sets now (n + k) (drop k xs) ≡ sets (sets now (n + k) ys) (n + to) (drop to xs) =
        ap (sets now (n + k)) parts ∙ sets_append now (n + k) ys (drop to xs)
        ∙ ap (λ z. sets (sets now (n + k) ys) z (drop to xs)) onward in
        record { left = record { left = sym at ∙ v.left.left } }

    pub put_ended : {end : ℕ} → end ≡ min (length xs) (length first - n) → end ≤ k → now ≡ sets first n xs
    put_ended e h =
        min_cases (length xs) (length first - n) (now ≡ sets first n xs)
        (λ all m. left_ended v.left (omega arith) refl ∙ rw add-zero)
        (λ full m. sym (sets_out (drop k xs) now (n + k) (omega (arith, put_long))) ∙ v.left.left ∙ rw add-zero)

-- ---- by a function of the painted regions

pub record PutBy (n : ℕ) (f : ℕ → ℕ) (hits first now : List ℕ) (k : ℕ) : Type 0 where
  pub put : Put n (map f hits) first now k

module _ {n : ℕ} {f : ℕ → ℕ} {hits first : List ℕ} where
  pub by_begun : PutBy n f hits first first 0
  by_begun = record { put = put_begun }

  module _ {now : List ℕ} {k : ℕ} (v : PutBy n f hits first now k) where
    pub by_long : length now ≡ length first
    by_long = put_long v.put

    pub by_turn : {x : ℕ} → k < length hits → x ≡ f (get_or hits k 0) → PutBy n f hits first (set now (n + k) x) (k + 1)
    by_turn h e = record { put = put_turn v.put (f 0) (omega (arith, length-map hits f)) (e ∙ sym (get_or-map f hits k 0)) }

    pub by_ended : {end : ℕ} → end ≡ min (length hits) (length first - n) → end ≤ k → now ≡ sets first n (map f hits)
    by_ended e = put_ended v.put (rw length-map e)

    -- the regions from k up to `to` at once
    pub by_turns : {to : ℕ} → k ≤ to → to ≤ length hits → PutBy n f hits first (sets now (n + k) (map f (take (to - k) (drop k hits)))) to
    by_turns {to} h l =
        let some = take (to - k) (drop k hits) in
        let long : length some ≡ to - k = length-take-le (to - k) (drop k hits) (omega (arith, length-drop k hits)) in
        let on : k + (to - k) ≡ to = omega arith in
        let rest : drop (to - k) (drop k hits) ≡ drop to hits = drop-drop (to - k) k hits ∙ ap (λ z. drop z hits) on in
        let parts : drop k (map f hits) ≡ map f some ++ drop to (map f hits) =
        drop_map f hits k ∙ ap (map f) (sym (take-append-drop (to - k) (drop k hits))) ∙ map-append f some (drop (to - k) (drop k hits))
        ∙ ap (λ z. map f some ++ z) (ap (map f) rest ∙ sym (drop_map f hits to)) in
        record { put = put_turns v.put (map f some) (omega (arith, long, length-map some f)) parts }

-- ---- two maps, the first into memory of its own

front : (d ys : List ℕ) (count : ℕ) → length ys ≡ count → count ≤ length d → take count (sets d 0 ys) ≡ ys
front d ys count e h = ap (take count) (sets-eq ys d 0 (omega arith)) ∙ take_at ys (drop (0 + length ys) d) count e

pub in_two : (g r f : ℕ → ℕ) (d hits : List ℕ) {count : ℕ} → length hits ≡ count → count ≤ length d → ((h : ℕ) → g (r h) ≡ f h)
    → map g (take count (sets d 0 (map r hits))) ≡ map f hits
in_two g r f d hits {count} e h same =
    ap (map g) (front d (map r hits) count (length-map hits r ∙ e) h) ∙ map-map g r hits ∙ map_congr_left {l = hits} (λ a m. same a)
