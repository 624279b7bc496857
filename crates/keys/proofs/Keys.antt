-- The keys of the cells: as many as cells, each at its cell's index, a text where the cell columns have it. Assumes nothing.
use Rattle.std.specs.Prelude.{Some, None}
use Prim.Native.Nat.{ℕ, zero, suc, ◌+◌, ◌<◌}
use mathlib.Core.Path.{◌≡◌, refl, sym, ap, ◌∙◌}
use mathlib.Core.Bool.{Bool, true, false, cond}
use mathlib.Core.List.{List}
use native.Mathlib.Nat.{add-zero, zero-add}
use native.Mathlib.Omega.{arith}
use lib.Dec.{leb, eqb}
use lib.ListN.{length, get_or}
use lib.Ieee.{Float, binary64, of_bits}
use Rattle.model.specs.declared.CellValue.{CellValue}
use Rattle.model.specs.Options.{Key}
use Rattle.model.specs.declared.ConditionalValueKey.{ConditionalValueKey}
use Rattle.model.specs.declared.Span.{Span}
use Rattle.model.specs.Sheet.{CellColumns, cell_from, value_of, text_at}
use Rattle.model.specs.Readings.{finite, max_wraps, key_bits, plain_text, key_of_value, conditional_value_key}
use Rattle.keys.specs.Names.{keys_held}
use Rattle.keys.specs.Held.{span_at}

-- ---- where a text is

module _ (pool : List ℕ) (c : CellColumns) (t : Span) where
  number_no_text : {A : Type 0} (a : ℕ) (f : Bool) → cond f (Some (ConditionalValueKey.Number a)) None ≡ Some (ConditionalValueKey.Text t) → A
  number_no_text a true h = absurd (let z : ◌≡◌ {A = ℕ} 0 1 = cc in omega arith)
  number_no_text a false h = absurd (let z : ◌≡◌ {A = ℕ} 0 1 = cc in omega arith)

  text_if : (s : Span) (plain : Bool) → cond plain (Some (ConditionalValueKey.Text s)) None ≡ Some (ConditionalValueKey.Text t) → t ≡ s
  text_if s true h = cc
  text_if s false h = absurd (let z : ◌≡◌ {A = ℕ} 0 1 = cc in omega arith)

  value_text : (x : Float) (s : Span) (b one two three four : Bool)
      → key_of_value pool (cond one (CellValue.Number x) (cond two (CellValue.Date x) (cond three (CellValue.Text s)
      (cond four (CellValue.Bool b) CellValue.Error)))) ≡ Some (ConditionalValueKey.Text t) → t ≡ s
  unfolding key_of_value
  value_text x s b true two three four h = number_no_text (key_bits x) (finite x) h
  value_text x s b false true three four h = number_no_text (key_bits x) (finite x) h
  value_text x s b false false true four h = text_if s (plain_text (text_at pool s)) h
  value_text x s b false false false true h = absurd (let z : ◌≡◌ {A = ℕ} 0 1 = cc in omega arith)
  value_text x s b false false false false h = absurd (let z : ◌≡◌ {A = ℕ} 0 1 = cc in omega arith)

  key_if : (read : Bool) {k : Key} → cond read k None ≡ Some (ConditionalValueKey.Text t) → k ≡ Some (ConditionalValueKey.Text t)
  key_if true h = h
  key_if false h = absurd (let z : ◌≡◌ {A = ℕ} 0 1 = cc in omega arith)

  cell_text : (i : ℕ) → conditional_value_key pool (cell_from c i).cell ≡ Some (ConditionalValueKey.Text t) → t ≡ span_at c.ats c.lens i
  unfolding conditional_value_key cell_from value_of
  cell_text i h =
      value_text (of_bits binary64 (get_or c.nums i 0)) (span_at c.ats c.lens i) (eqb (get_or c.lens i 0) 1)
      (eqb (get_or c.kinds i 0) 1) (eqb (get_or c.kinds i 0) 2) (eqb (get_or c.kinds i 0) 3) (eqb (get_or c.kinds i 0) 4)
      (key_if (leb (get_or c.wraps i 0) max_wraps) h)

-- ---- the keys

module _ (pool : List ℕ) (c : CellColumns) where
  pub held_length : (i n : ℕ) → length (keys_held pool c i n) ≡ n
  unfolding keys_held
  held_length i zero = refl
  held_length i (suc n) = ap suc (held_length (suc i) n)

  held_from : (i n k : ℕ) → k < n → get_or (keys_held pool c i n) k None ≡ conditional_value_key pool (cell_from c (i + k)).cell
  unfolding keys_held
  held_from i zero k h = absurd (omega arith)
  held_from i (suc n) zero h = rw add-zero
  held_from i (suc n) (suc k) h =
      held_from (suc i) n k (omega arith) ∙ ap (λ (m : ℕ). conditional_value_key pool (cell_from c m).cell) (omega arith)

  pub held_at : (n i : ℕ) → i < n → get_or (keys_held pool c 0 n) i None ≡ conditional_value_key pool (cell_from c i).cell
  held_at n i h = held_from 0 n i h ∙ ap (λ (m : ℕ). conditional_value_key pool (cell_from c m).cell) (zero-add i)

  pub held_spanned : (n i : ℕ) → i < length (keys_held pool c 0 n) → (t : Span)
      → get_or (keys_held pool c 0 n) i None ≡ Some (ConditionalValueKey.Text t) → t ≡ span_at c.ats c.lens i
  held_spanned n i h t e =
      let inside : i < n = omega (arith, held_length 0 n) in
      cell_text pool c t i (sym (held_at n i inside) ∙ e)
