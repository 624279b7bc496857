-- The line of the head and of a cell, piece by piece; and the lines that are left to put of a list that goes by index, one line a turn: of
-- the cells, and of the regions. Assumes nothing.
use Prim.Native.Nat.{ℕ, suc, ◌+◌, ◌-◌, ◌≤◌, ◌<◌}
use native.Mathlib.Numerals.{add-one}
use native.Mathlib.Omega.{arith}
use mathlib.Core.Path.{◌≡◌, refl}
use mathlib.Core.List.{List, [], ◌∷◌, ◌++◌, append_assoc}
use lib.ListN.{length, get_or}
use Rattle.model.specs.Sheet.{CellColumns, regions_from}
use Rattle.grammar.specs.Parts.{space, line_feed, bytes, times_text}
use Rattle.grammar.specs.Numbers.{decimal_text, pairs_text}
use Rattle.jobtext.specs.Fields.{text_field, value}
use Rattle.jobtext.specs.Text.{head_names, head, cell_line}
use Rattle.jobtext.specs.Said.{value_said, cell_said, cells_said}
use Rattle.put.specs.declared.Cursor.{Cursor}
use Rattle.put.specs.Put.{last, Puts, Ready}
use Rattle.put.proofs.Laws.{PutsLeft, puts_begun, puts_more, puts_done}
use Rattle.sheetwriter.specs.Lines.{head_with, coordinate_in}

-- ---- pieces

abbrev number : ℕ → List ℕ
number n = decimal_text n ++ (space ∷ [])

pub head_joined : (limit start cells regions rules : ℕ) {bs name : List ℕ} → bs ≡ name
    → head.text (head_with limit start cells regions rules name)
    ≡ (((((head_names ++ number limit) ++ number start) ++ number cells) ++ number regions) ++ number rules)
    ++ (bytes "t" ++ (pairs_text bs ++ (line_feed ∷ [])))
unfolding text_field head
head_joined limit start cells regions rules e = rw e (simp append_assoc)

module _ (pool : List ℕ) (c : CellColumns) (i : ℕ) where
  pub cell_joined : {row col wraps kind bits at len : ℕ}
      → row ≡ get_or c.rows i 0
      → col ≡ get_or c.cols i 0
      → wraps ≡ get_or c.wraps i 0
      → kind ≡ get_or c.kinds i 0
      → bits ≡ get_or c.nums i 0
      → at ≡ get_or c.ats i 0
      → len ≡ get_or c.lens i 0
      → cell_line.text (cell_said pool c i)
      ≡ ((number row ++ number col) ++ number wraps) ++ value.text (value_said pool kind bits at len)
  unfolding cell_line cell_said
  cell_joined r k w n b a l = rw (r, k, w, n, b, a, l) (simp append_assoc)

-- ---- lists by index

-- `items i n` are the n items from index i on
pub record Listed {A : Type 0} (item : ℕ → A) (items : ℕ → ℕ → List A) : Type 0 where
  pub none : (i : ℕ) → items i 0 ≡ []
  pub some : (i n : ℕ) → items i (suc n) ≡ item i ∷ items (suc i) n

pub cells_listed : (pool : List ℕ) (c : CellColumns) → Listed (cell_said pool c) (cells_said pool c)
unfolding cells_said
cells_listed pool c = record { none = λ i. refl; some = λ i n. refl }

pub regions_listed : (rows cols : List ℕ) → Listed (coordinate_in rows cols) (regions_from rows cols)
unfolding regions_from
regions_listed rows cols = record { none = λ i. refl; some = λ i n. refl }

-- of the lines of n items those from index i on are left to put
pub record LinesLeft {A : Type 0} (line : A → List ℕ) (items : ℕ → ℕ → List A) (n : ℕ) (c : Cursor) (i : ℕ) (d : Cursor) : Type 0 where
  pub left : PutsLeft c (times_text line (items 0 n)) d (times_text line (items i (n - i)))

module _ {A : Type 0} {line : A → List ℕ} {items : ℕ → ℕ → List A} {n : ℕ} where
  pub lines_begun : {c : Cursor} → Ready c.bytes.now c.at → LinesLeft line items n c 0 c
  lines_begun r = let e : n - 0 ≡ n = omega arith in record { left = rw e (puts_begun r) }

  -- a line more
  pub lines_more : {item : ℕ → A} {c d e : Cursor} {i : ℕ} → Listed item items → length c.bytes.now < last → i < n
      → LinesLeft line items n c i d → Puts d (line (item i)) e → LinesLeft line items n c (i + 1) e
  unfolding times_text
  lines_more {item} {i = i} listed room h l a = record { left = puts_more room l.left next a }
    where
      next : times_text line (items i (n - i)) ≡ line (item i) ++ times_text line (items (i + 1) (n - (i + 1)))
      next = let e : n - i ≡ suc (n - suc i) = omega arith in rw (add-one, e, listed.some i (n - suc i))

  pub lines_done : {item : ℕ → A} {c d : Cursor} {i : ℕ} → Listed item items → n ≤ i → LinesLeft line items n c i d
      → Puts c (times_text line (items 0 n)) d
  unfolding times_text
  lines_done {i = i} listed h l = puts_done l.left none
    where
      none : times_text line (items i (n - i)) ≡ []
      none = let e : n - i ≡ 0 = omega arith in rw (e, listed.none i)
