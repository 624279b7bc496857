-- Codes of keys: a cell in range has the code of another just when it has the same key, and code 0 just when it has none. So a code stands
-- in range as often as its key, and code 0 as often as there are cells without one. Assumes nothing.
use Rattle.std.specs.Prelude.{None}
use Prim.Native.Nat.{ℕ, zero, suc, ◌+◌, ◌≤◌, ◌<◌, min}
use native.Mathlib.Nat.{zero-add}
use native.Mathlib.Omega.{arith}
use mathlib.Core.Path.{◌≡◌, refl, ap, ◌∙◌}
use mathlib.Core.Bool.{Bool, true, false, not}
use mathlib.Core.List.{List}
use lib.Dec.{eqb, eqb-suc-zero}
use lib.ListN.{length, get_or}
use Rattle.model.specs.Options.{Key}
use Rattle.model.specs.declared.Range.{Range}
use Rattle.model.specs.Sheet.{CellColumns, cell_from, cells_from, in_range}
use Rattle.model.specs.Readings.{conditional_value_key, same_key, has_key}
use Rattle.model.specs.Rule.{cells_in, keys, times}
use Rattle.laws.proofs.Counted.{keys_in}
use Rattle.cells.specs.Columns.{coordinate_at}
use Rattle.keys.specs.Names.{keys_held, name_of}
use Rattle.keys.proofs.Naming.{padded_at, name_keyed, name_none, named_alike}
use Rattle.keys.proofs.Keys.{held_at}
use Rattle.call.specs.Tables.{Coded, coded_from}

-- the key of the cell at an index
abbrev pub key_of_cell : List ℕ → CellColumns → ℕ → Key
key_of_cell pool c i = conditional_value_key pool (cell_from c i).cell

module _ (pool : List ℕ) (c : CellColumns) (codes : List ℕ) (coded : Coded pool c codes) (few : length c.rows ≤ 1024) where
  abbrev all : List Key
  all = keys_held pool c 0 (length c.rows)

  abbrev key : ℕ → Key
  key i = key_of_cell pool c i

  code_at : (i : ℕ) → i < length c.rows → get_or codes i 0 ≡ name_of pool all (key i)
  unfolding has_key
  code_at i h =
      let whole : min (length c.rows) 1024 ≡ length c.rows = omega arith in
      rw (coded, whole)
      (padded_at (name_of pool all) (name_none pool all None refl) all i
      ∙ ap (name_of pool all) (held_at pool c (length c.rows) i h))

  pub code_none : (i : ℕ) → i < length c.rows → eqb (get_or codes i 0) 0 ≡ not (has_key (key i))
  code_none i h = rw (code_at i h) (go (has_key (key i)) refl)
    where
      go : (keyed : Bool) → has_key (key i) ≡ keyed → eqb (name_of pool all (key i)) 0 ≡ not keyed
      go true e = rw (name_keyed pool all (key i) e, eqb-suc-zero)
      go false e = rw (name_none pool all (key i) e)

  module _ (range : Range) where
    abbrev coding : ℕ → ℕ → ℕ → ℕ
    coding code i n = coded_from range c.rows c.cols codes code i n

    -- as many cells have a key's code as have the key
    module _ (j : ℕ) (h : j < length c.rows) (keyed : has_key (key j) ≡ true) where
      code_alike : (i : ℕ) → i < length c.rows → eqb (get_or codes i 0) (get_or codes j 0) ≡ same_key pool (key j) (key i)
      code_alike i l =
          let held = held_at pool c (length c.rows) j h in
          rw (code_at i l, code_at j h) (rw held at (named_alike pool all j (rw held keyed) (key i)))

      pub coded_times : (i n : ℕ) → i + n ≤ length c.rows
          → coding (get_or codes j 0) i n ≡ times pool (key j) (keys pool (cells_in range (cells_from c i n)))
      unfolding coded_from cells_from cells_in cell_from keys times
      coded_times i zero l = refl
      coded_times i (suc n) l = go (in_range range (coordinate_at c.rows c.cols i)) refl (coded_times (suc i) n (omega arith))
        where
          go : (here : Bool) → in_range range (coordinate_at c.rows c.cols i) ≡ here
              → coding (get_or codes j 0) (suc i) n ≡ times pool (key j) (keys pool (cells_in range (cells_from c (suc i) n)))
              → coding (get_or codes j 0) i (suc n) ≡ times pool (key j) (keys pool (cells_in range (cells_from c i (suc n))))
          go true e later = rw (e, code_alike i (omega arith), later)
          go false e later = rw (e, later) (zero-add _)

    -- the cells without a key and those with one are all cells in range
    pub coded_rest : (i n : ℕ) → i + n ≤ length c.rows
        → coding 0 i n + keys_in pool range (cells_from c i n) ≡ length (cells_in range (cells_from c i n))
    unfolding coded_from cells_from cells_in cell_from keys_in
    coded_rest i zero l = refl
    coded_rest i (suc n) l =
        go (in_range range (coordinate_at c.rows c.cols i)) refl (has_key (key i)) refl (coded_rest (suc i) n (omega arith))
      where
        go : (here : Bool) → in_range range (coordinate_at c.rows c.cols i) ≡ here → (keyed : Bool) → has_key (key i) ≡ keyed
            → coding 0 (suc i) n + keys_in pool range (cells_from c (suc i) n) ≡ length (cells_in range (cells_from c (suc i) n))
            → coding 0 i (suc n) + keys_in pool range (cells_from c i (suc n)) ≡ length (cells_in range (cells_from c i (suc n)))
        go true e true k later = rw (e, code_none i (omega arith), k) (omega arith)
        go true e false k later = rw (e, code_none i (omega arith), k) (omega arith)
        go false e keyed k later = rw e (omega arith)
