-- Lines of cells one after the other: what is left from a line on is what the whole leaves (`Rest`), and a law for each turn of the loop.
-- Assumes nothing.
use Prim.Native.Nat.{ℕ, suc, ◌+◌, ◌-◌, ◌≤◌, ◌<◌}
use mathlib.Core.Path.{◌≡◌, refl, sym, ap, ◌∙◌, subst}
use Rattle.std.specs.Prelude.{Result, Ok, Err}
use mathlib.Core.List.{List, ◌∷◌, ◌++◌}
use native.Mathlib.Omega.{arith}
use lib.ListN.{length, set, length-set, length-append}
use lib.Seq.{sets, length-sets}
use Rattle.memory.proofs.Laws.{sets_append}
use Rattle.model.specs.Sheet.{CellColumns}
use Rattle.grammar.specs.Gram.{Got}
use Rattle.grammar.specs.Gram.Got.{got, bad}
use Rattle.grammar.specs.Parts.{then, times_p}
use Rattle.grammar.proofs.Times.{times_next}
use Rattle.fields.specs.Room.{Room}
use Rattle.fields.specs.declared.Malformed.{Malformed}
use Rattle.fields.proofs.Room.{room_past}
use Rattle.jobtext.specs.Written.{CellLine}
use Rattle.jobtext.specs.Text.{cell_line}
use Rattle.jobtext.specs.Laid.{value_bytes, cell_bytes, kind_of, num_of, at_of, len_of, ats_from, columns_from}
use Rattle.jobtext.proofs.Text.{cell_exact}
use Rattle.jobtext.proofs.Lengths.{cell_length}
use Rattle.celllines.specs.declared.ReadCell.{ReadCell}
use Rattle.celllines.specs.declared.LinesRead.{LinesRead}
use Rattle.celllines.specs.Lines.{cell_of, CellStored}
use Rattle.celllines.specs.Columns.{columns, stored_cell, CellsLeft, left_of, IsLeft}

pub columns_eq : {a b c d e f g a' b' c' d' e' f' g' : List ℕ} → a ≡ a' → b ≡ b' → c ≡ c' → d ≡ d' → e ≡ e' → f ≡ f' → g ≡ g'
    → columns a b c d e f g ≡ columns a' b' c' d' e' f' g'
columns_eq x1 x2 x3 x4 x5 x6 x7 = rw (x1, x2, x3, x4, x5, x6, x7)

-- the columns have the lengths that they began with
pub record Long (d e : CellColumns) : Type 0 where
  pub rows : length d.rows ≡ length e.rows
  pub cols : length d.cols ≡ length e.cols
  pub kinds : length d.kinds ≡ length e.kinds
  pub wraps : length d.wraps ≡ length e.wraps
  pub nums : length d.nums ≡ length e.nums
  pub ats : length d.ats ≡ length e.ats
  pub lens : length d.lens ≡ length e.lens

-- `whole` is what the texts so far leave in a pool that drops what does not fit: the pool, as long as all of them fit
pub record Rest (s : List ℕ) (at n used : ℕ) (d₀ : CellColumns) (pool₀ : List ℕ) (d : CellColumns) (pool : List ℕ)
    (q u i : ℕ) : Type 0 where
  pub whole : List ℕ
  pub same : left_of i u (times_p (n - i) cell_line.parse s q) d whole ≡ left_of 0 used (times_p n cell_line.parse s at) d₀ pool₀
  pub stored : u ≤ length pool₀ → pool ≡ whole
  pub wide : length whole ≡ length pool₀
  pub room : Room s q u
  pub long : Long d d₀
  pub deep : length pool ≡ length pool₀

pub rest_begun : (s : List ℕ) (at n used : ℕ) (d : CellColumns) (pool : List ℕ) → Room s at used → Rest s at n used d pool d pool at
    used 0
rest_begun s at n used d pool r =
    let z : n - 0 ≡ n = omega arith in
    record {
      whole = pool;
      same = rw z;
      stored = λ h. refl;
      wide = refl;
      room = r;
      long = record { rows = refl; cols = refl; kinds = refl; wraps = refl; nums = refl; ats = refl; lens = refl };
      deep = refl;
    }

-- a line that was read, and what the rest leaves
module _ (i u : ℕ) (c : CellLine) (d : CellColumns) (pool : List ℕ) where
  abbrev step : CellColumns
  step =
      columns (set d.rows i c.row) (set d.cols i c.col) (set d.kinds i (kind_of c.value)) (set d.wraps i c.wraps)
      (set d.nums i (num_of c.value)) (set d.ats i (at_of u c.value)) (set d.lens i (len_of c.value))

  left_next : (g : Got (List CellLine)) → left_of i u (then g (λ l e. got (c ∷ l) e)) d pool
      ≡ left_of (i + 1) (u + length (value_bytes c.value)) g step (sets pool u (value_bytes c.value))
  unfolding columns_from ats_from cell_bytes
  left_next (got cs q) =
      let b = value_bytes c.value in
      let z : u + length (b ++ cell_bytes cs) ≡ u + length b + length (cell_bytes cs) = simp length-append (omega arith) in
      let y : i + 1 ≡ suc i = omega arith in
      rw (z, y, sets_append pool u b (cell_bytes cs))
  left_next (bad p) = refl

module _ {s : List ℕ} {at n used : ℕ} {d₀ : CellColumns} {pool₀ : List ℕ} {d : CellColumns} {pool : List ℕ} {q u i : ℕ}
    (w : Rest s at n used d₀ pool₀ d pool q u i) where
  pub rest_done : n ≤ i
      → IsLeft (left_of 0 used (times_p n cell_line.parse s at) d₀ pool₀) (Ok (record { next = q; used = u })) d pool
  unfolding times_p columns_from ats_from cell_bytes
  rest_done h =
      let z : n - i ≡ 0 = omega arith in
      let y : u + 0 ≡ u = omega arith in
      let l = w.wide in
      subst (λ (l : CellsLeft). IsLeft l (Ok (record { next = q; used = u })) d pool) w.same
      (rw (z, y) (refl, refl, λ k. w.stored (omega arith)))

  pub rest_stopped : {m : Malformed} (r : Result LinesRead Malformed) (e : CellColumns) (after : List ℕ) → i < n
      → Err m ≡ cell_of u (cell_line.parse s q) → r ≡ Err m → IsLeft (left_of 0 used (times_p n cell_line.parse s at) d₀ pool₀) r e after
  rest_stopped {m} r e after h k y =
      subst (λ (l : CellsLeft). IsLeft l r e after) w.same
      (rw (times_next n i cell_line.parse s q h) (go (cell_line.parse s q) k))
    where
      go : (g : Got CellLine) → Err m ≡ cell_of u g
          → IsLeft (left_of i u (then g (λ a k. then (times_p (n - (i + 1)) cell_line.parse s k) (λ l e. got (a ∷ l) e))) d w.whole) r
          e after
      go (got a p) k = absurd (cc)
      go (bad p) k = let z : m ≡ record { at = p } = cc in rw z at y

  pub rest_next : {c : ReadCell} (e : CellColumns) (after : List ℕ) → i < n → Ok c ≡ cell_of u (cell_line.parse s q)
      → CellStored (cell_line.parse s q) u pool after → length after ≡ length pool
      → e ≡ stored_cell i c d → Rest s at n used d₀ pool₀ e after c.next c.used (i + 1)
  rest_next {c} e after h k y m z = go (cell_line.parse s q) refl k y
    where
      go : (g : Got CellLine) → cell_line.parse s q ≡ g → Ok c ≡ cell_of u g → CellStored g u pool after
          → Rest s at n used d₀ pool₀ e after c.next c.used (i + 1)
      go (got a p) f j y =
          let l = w.long in
          let b = value_bytes a.value in
          let deep = w.deep in
          let k : c ≡ record {
            row = a.row;
            col = a.col;
            kind = kind_of a.value;
            wraps = a.wraps;
            num = num_of a.value;
            at = at_of u a.value;
            len = len_of a.value;
            next = p;
            used = u + length (value_bytes a.value);
          } = cc in
          let more : Got (List CellLine) = times_p (n - (i + 1)) cell_line.parse s p in
          let t : times_p (n - i) cell_line.parse s q ≡ then more (λ l e. got (a ∷ l) e) =
          times_next n i cell_line.parse s q h
          ∙ ap (λ (g : Got CellLine). then g (λ b k. then (times_p (n - (i + 1)) cell_line.parse s k) (λ l e. got (b ∷ l) e))) f in
          rw (z, k)
          (record {
            whole = sets w.whole u b;
            same = sym (left_next i u a d w.whole more)
                ∙ (sym (ap (λ (g : Got (List CellLine)). left_of i u g d w.whole) t) ∙ w.same);
            stored = λ o. y (omega arith) ∙ ap (λ (l : List ℕ). sets l u b) (w.stored (omega arith));
            wide = length-sets w.whole u b ∙ w.wide;
            room = room_past cell_exact a p (length b) w.room f (cell_length a);
            long = record {
              rows = length-set d.rows i a.row ∙ l.rows;
              cols = length-set d.cols i a.col ∙ l.cols;
              kinds = length-set d.kinds i (kind_of a.value) ∙ l.kinds;
              wraps = length-set d.wraps i a.wraps ∙ l.wraps;
              nums = length-set d.nums i (num_of a.value) ∙ l.nums;
              ats = length-set d.ats i (at_of u a.value) ∙ l.ats;
              lens = length-set d.lens i (len_of a.value) ∙ l.lens;
            };
            deep = m ∙ deep;
          })
      go (bad p) f j y = absurd (cc)
