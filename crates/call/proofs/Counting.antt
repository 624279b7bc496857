-- How many cells in range have a code: two runs of cells, none outside of the band, the loop over the band that counts all codes at once,
-- and the code of an entry. Assumes nothing.
use Prim.Native.Nat.{ℕ, zero, suc, ◌+◌, ◌-◌, ◌≤◌, ◌<◌}
use native.Mathlib.Nat.{add-zero, zero-add}
use native.Mathlib.Omega.{arith}
use mathlib.Core.Path.{◌≡◌, refl, sym, ap₂, ◌∙◌}
use mathlib.Core.Bool.{Bool, true, false, cond, ◌&&◌, true≢false}
use mathlib.Core.List.{List}
use mir.Val.{bool_byte}
use lib.Dec.{eqb}
use lib.ListN.{length, get_or, set, length-set}
use lib.Seq.{get_or-set_same, get_or-set_other}
use borrow.Author.Tests.{eqb-true, eqb-false}
use Rattle.model.specs.declared.Range.{Range}
use Rattle.model.specs.Sheet.{in_range}
use Rattle.cells.specs.Columns.{coordinate_at}
use Rattle.ranges.proofs.Laws.{byte_few}
use Rattle.hits.specs.Hits.{column_in}
use Rattle.turns.specs.Bands.{BandOf}
use Rattle.turns.proofs.Bands.{within_band, before_band, after_band}
use Rattle.call.specs.Tables.{code_named, coded_from}

byte_bit : (b : Bool) → bool_byte b ≡ cond b 1 0
byte_bit true = refl
byte_bit false = refl

module _ (range : Range) (rows cols codes : List ℕ) where
  abbrev inside : ℕ → Bool
  inside i = in_range range (coordinate_at rows cols i)

  -- whether the cell at an index is in range and has a code
  abbrev is_coded : ℕ → ℕ → Bool
  is_coded code i = inside i && eqb (get_or codes i 0) code

  module _ (code : ℕ) where
    -- one run of cells after another
    coded_append : (i m n : ℕ) → coded_from range rows cols codes code i (m + n)
        ≡ coded_from range rows cols codes code i m + coded_from range rows cols codes code (i + m) n
    unfolding coded_from
    coded_append i zero n = rw (zero-add n, add-zero i) (sym (zero-add _))
    coded_append i (suc m) n =
        let e : suc m + n ≡ suc (m + n) = omega arith in
        let f : i + suc m ≡ suc i + m = omega arith in
        rw (e, f) (omega (arith, coded_append (suc i) m n))

    -- one more cell at the end
    coded_more : (n : ℕ) → coded_from range rows cols codes code 0 (n + 1)
        ≡ coded_from range rows cols codes code 0 n + cond (is_coded code n) 1 0
    unfolding coded_from
    coded_more n = coded_append 0 n 1 ∙ rw (zero-add n, add-zero)

    -- where no cell in range has it
    pub coded_none : (i n : ℕ) → ((j : ℕ) → i ≤ j → j < i + n → inside j ≡ true → eqb (get_or codes j 0) code ≡ false)
        → coded_from range rows cols codes code i n ≡ 0
    unfolding coded_from
    coded_none i zero other = refl
    coded_none i (suc n) other = go (inside i) refl (coded_none (suc i) n (λ j a b. other j (omega arith) (omega arith)))
      where
        go : (here : Bool) → inside i ≡ here → coded_from range rows cols codes code (suc i) n ≡ 0
            → cond (here && eqb (get_or codes i 0) code) 1 0 + coded_from range rows cols codes code (suc i) n ≡ 0
        go true e later = rw (other i (omega arith) (omega arith) e, later)
        go false e later = rw later

    -- outside of the band no cell is counted
    module _ {from to : ℕ} (band : BandOf range rows from to) where
      coded_before : coded_from range rows cols codes code 0 from ≡ 0
      coded_before =
          coded_none 0 from (λ j a b e. absurd (true≢false (sym e ∙ before_band band cols j (omega arith))))

      pub coded_band : coded_from range rows cols codes code 0 to ≡ coded_from range rows cols codes code 0 (length rows)
      coded_band =
          let all : to + (length rows - to) ≡ length rows = omega (arith, band.within) in
          let after = coded_none to (length rows - to)
          (λ j a b e. absurd (true≢false (sym e ∙ after_band band cols j a (omega arith)))) in
          omega (arith, rw (all, zero-add) at (coded_append 0 to (length rows - to)), after)

-- the cells up to i are counted, each under its code; before the band none is in range, whatever the rows are
pub record Counting (range : Range) (from to : ℕ) (cols codes : List ℕ) (room : ℕ) (counts : List ℕ) (i : ℕ) : Type 0 where
  pub long : length counts ≡ room
  pub few : (code : ℕ) → get_or counts code 0 ≤ i
  pub counted : (rows : List ℕ) → BandOf range rows from to → (code : ℕ) → code < room
      → get_or counts code 0 ≡ coded_from range rows cols codes code 0 i

module _ {range : Range} {from to : ℕ} {cols codes : List ℕ} where
  pub counting_begun : (counts : List ℕ) → ((code : ℕ) → get_or counts code 0 ≡ 0)
      → Counting range from to cols codes (length counts) counts from
  counting_begun counts none =
      record {
        long = refl;
        few = λ code. omega (arith, none code);
        counted = λ rows band code h. none code ∙ sym (coded_before range rows cols codes code band);
      }

  module _ {room : ℕ} {counts : List ℕ} {i : ℕ} (v : Counting range from to cols codes room counts i) where
    -- a cell in range
    module _ (within : get_or codes i 0 < room) (inside : column_in range (get_or cols i 0) ≡ true) where
      abbrev here : ℕ
      here = get_or codes i 0

      abbrev added : List ℕ
      added = set counts here (get_or counts here 0 + 1)

      -- what is counted under a code with this cell
      added_at : (code : ℕ) (same : Bool) → eqb here code ≡ same → get_or added code 0 ≡ get_or counts code 0 + cond same 1 0
      added_at code true e =
          let same : here ≡ code = eqb-true here code e in
          rw (← same) (get_or-set_same counts here _ 0 (omega (arith, within, v.long)))
      added_at code false e =
          rw add-zero (get_or-set_other counts here code _ 0 (λ q. eqb-false here code e (sym q)))

      pub counting_turn : from ≤ i → i < to → Counting range from to cols codes room added (i + 1)
      counting_turn a b =
          record {
            long = length-set counts here _ ∙ v.long;
            few = λ code.
                let bit = eqb here code in
                omega (arith, added_at code bit refl, v.few code, byte_few bit, byte_bit bit);
            counted = λ rows band code h.
                added_at code (eqb here code) refl
                ∙ ap₂ (λ n inside. n + cond (inside && eqb here code) 1 0) (v.counted rows band code h)
                (sym (within_band band cols i a b ∙ inside))
                ∙ sym (coded_more range rows cols codes code i);
          }

    -- cells out of range
    pub counting_skip : (j : ℕ) → from ≤ i → i ≤ j → j ≤ to
        → ((k : ℕ) → i ≤ k → k < j → column_in range (get_or cols k 0) ≡ false) → Counting range from to cols codes room counts j
    counting_skip j a b d out =
        record {
          long = v.long;
          few = λ code. omega (arith, v.few code, b);
          counted = λ rows band code h.
              let all : i + (j - i) ≡ j = omega arith in
              let none = coded_none range rows cols codes code i (j - i) (λ k p q e. absurd (true≢false (sym e
              ∙ within_band band cols k (omega arith) (omega arith) ∙ out k p (omega arith)))) in
              omega (arith, v.counted rows band code h, none, rw (all, zero-add) at (coded_append range rows cols codes code 0 i (j - i)));
        }

-- ---- the code that an entry names

module _ (codes : List ℕ) where
  pub no_code : {entry : ℕ} → entry ≡ 0 → 0 ≡ code_named codes entry
  unfolding code_named
  no_code e = rw e

  pub named_code : (entry : ℕ) → 0 < entry → get_or codes (entry - 1) 0 ≡ code_named codes entry
  unfolding code_named
  named_code zero h = absurd (omega arith)
  named_code (suc place) h = let back : suc place - 1 ≡ place = omega arith in rw back

  pub named_below : {room : ℕ} → 0 < room → ((i : ℕ) → get_or codes i 0 < room) → (entry : ℕ) → code_named codes entry < room
  unfolding code_named
  named_below some below zero = some
  named_below some below (suc place) = below place
