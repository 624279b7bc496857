-- The bytes of a quoted name that are left to put, one byte of the name a turn. Assumes nothing.
use Prim.Native.Nat.{ℕ, ◌+◌, ◌≤◌, ◌<◌}
use native.Mathlib.Numerals.{add-one}
use native.Mathlib.Omega.{arith}
use mathlib.Core.Path.{◌≡◌}
use mathlib.Core.List.{List, [], ◌∷◌, ◌++◌}
use lib.ListN.{length, get_or, drop, drop_of_length-le}
use lib.Seq.{drop-cons}
use borrow.Author.Tests.{ne_eqb}
use Rattle.a1text.specs.Names.{doubled}
use Rattle.put.specs.declared.Cursor.{Cursor}
use Rattle.put.specs.Put.{last, Puts, Ready}
use Rattle.put.proofs.Laws.{PutsLeft, puts_then, puts_begun, left_length, puts_more, puts_done}

-- putting the name from byte i on at e gives what putting all of it at d gives
pub record Doubling (d : Cursor) (name : List ℕ) (e : Cursor) (i : ℕ) : Type 0 where
  pub left : PutsLeft d (doubled name) e (doubled (drop i name))

pub doubling_begun : {d : Cursor} {name : List ℕ} → Ready d.bytes.now d.at → Doubling d name d 0
doubling_begun r = record { left = puts_begun r }

module _ (name : List ℕ) (i : ℕ) (h : i < length name) where
  quote_twice : get_or name i 0 ≡ 39
      → doubled (drop i name) ≡ (get_or name i 0 ∷ get_or name i 0 ∷ []) ++ doubled (drop (i + 1) name)
  unfolding doubled
  quote_twice e = rw (add-one, drop-cons name i 0, e)

  other_once : (get_or name i 0 ≡ 39 → ⊥) → doubled (drop i name) ≡ (get_or name i 0 ∷ []) ++ doubled (drop (i + 1) name)
  unfolding doubled
  other_once e = rw (add-one, drop-cons name i 0, ne_eqb (get_or name i 0) 39 e)

none_left : (name : List ℕ) (i : ℕ) → length name ≤ i → doubled (drop i name) ≡ []
unfolding doubled
none_left name i h = rw (drop_of_length-le name h)

module _ {d : Cursor} {name : List ℕ} {e : Cursor} {i : ℕ} (l : Doubling d name e i) where
  module _ (room : length d.bytes.now < last) (h : i < length name) where
    pub doubling_quote : {f g : Cursor} → get_or name i 0 ≡ 39 → Puts e (get_or name i 0 ∷ []) f → Puts f (get_or name i 0 ∷ []) g
        → Doubling d name g (i + 1)
    doubling_quote k a b =
        let long : length e.bytes.now < last = omega (arith, left_length l.left.left) in
        record { left = puts_more room l.left (quote_twice name i h k) (puts_then long a b) }

    pub doubling_other : {f : Cursor} → (get_or name i 0 ≡ 39 → ⊥) → Puts e (get_or name i 0 ∷ []) f → Doubling d name f (i + 1)
    doubling_other k a = record { left = puts_more room l.left (other_once name i h k) a }

  pub doubling_done : length name ≤ i → Puts d (doubled name) e
  doubling_done h = puts_done l.left (none_left name i h)
