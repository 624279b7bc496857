-- All sections behind the first two lines, part by part, and the answers of their reader. Assumes nothing.
use Prim.Native.Nat.{ℕ, ◌+◌, ◌≤◌}
use mathlib.Core.Path.{◌≡◌, refl, ap, ◌∙◌, subst}
use mathlib.Core.Bool.{true}
use Rattle.std.specs.Prelude.{Result, Ok, Err}
use mathlib.Core.List.{List, [], ◌∷◌}
use native.Mathlib.Omega.{arith}
use lib.Dec.{leb}
use lib.ListN.{length}
use borrow.Author.Tests.{leb-true, le-leb}
use Rattle.memory.proofs.Laws.{length_all}
use Rattle.model.specs.Sheet.{CellColumns}
use Rattle.grammar.specs.Gram.{Got}
use Rattle.grammar.specs.Gram.Got.{got, bad}
use Rattle.grammar.specs.Parts.{bytes, word_p, times_p}
use Rattle.grammar.proofs.Parts.{word_exact, times_exact}
use Rattle.fields.specs.declared.Malformed.{Malformed}
use Rattle.fields.specs.Field.{word_of}
use Rattle.fields.specs.Room.{Room}
use Rattle.fields.proofs.Laws.{word_got, word_bad}
use Rattle.fields.proofs.Room.{room_on, room_past, room_roomy}
use Rattle.jobtext.specs.Written.{CellLine}
use Rattle.jobtext.specs.Text.{cell_line, tail_t, tail, body_of}
use Rattle.jobtext.specs.Laid.{cell_bytes, rule_bytes}
use Rattle.jobtext.proofs.Text.{cell_exact}
use Rattle.jobtext.proofs.Lengths.{cells_half}
use Rattle.celllines.specs.declared.Section.{Section}
use Rattle.celllines.specs.Columns.{cells_at, section_of, columns_after}
use Rattle.celllines.specs.Columns.{all_fit, pool_after as cellsPool}
use Rattle.rulelines.specs.declared.RuleSection.{RuleSection}
use Rattle.reader.specs.Held.{Held, held}
use Rattle.reader.specs.Results.{IsTail, columns_in, IsBody}
use Rattle.reader.proofs.Fits.{and_first, and_second, fitted}

-- the names above the cells
abbrev pub cell_names : List ℕ
cell_names = 114 ∷ 111 ∷ 119 ∷ 32 ∷ 99 ∷ 111 ∷ 108 ∷ 32 ∷ 119 ∷ 114 ∷ 97 ∷ 112 ∷ 115 ∷ 32 ∷ 118 ∷ 97 ∷ 108 ∷ 117 ∷ 101 ∷ 10 ∷ []

-- ---- the cells, where there is room

cells_here : (s : List ℕ) (at n used : ℕ) → Room s at used → cells_at s at n used ≡ times_p n cell_line.parse s at
unfolding cells_at
cells_here s at n used r = rw (room_roomy r)

cells_bad : (used : ℕ) (g : Got (List CellLine)) (d : CellColumns) (pool : List ℕ) {e : Malformed} → Err e ≡ section_of used g d pool
    → g ≡ bad e.at
cells_bad used (got cs q) d pool x = cc
cells_bad used (bad p) d pool {e} x = let z : e ≡ record { at = p } = cc in rw z

-- the names were read
module _ (s : List ℕ) (at cells used : ℕ) (d : CellColumns) (pool : List ℕ) {a : ℕ} (ea : Ok a ≡ word_of (word_p cell_names s at))
    (room : Room s at used) where
  cells_room : Room s a used
  cells_room = room_on (word_exact cell_names) tt a room (word_got (word_p cell_names s at) ea)

  lines : {r : Result Section Malformed} → r ≡ section_of used (cells_at s a cells used) d pool
      → r ≡ section_of used (times_p cells cell_line.parse s a) d pool
  lines e = e ∙ ap (λ (g : Got (List CellLine)). section_of used g d pool) (cells_here s a cells used cells_room)

  -- and the cells
  pub tail_room : {b : Section} → Ok b ≡ section_of used (cells_at s a cells used) d pool → Room s b.next b.used
  tail_room {b} eb = go (times_p cells cell_line.parse s a) refl (lines eb)
    where
      go : (g : Got (List CellLine)) → times_p cells cell_line.parse s a ≡ g → Ok b ≡ section_of used g d pool → Room s b.next b.used
      go (got cs q) f e =
          let half = cells_half cs in
          let k : b ≡ record { fits = all_fit used cs d pool; next = q; used = used + length (cell_bytes cs) } = cc in
          rw k (room_past (times_exact cell_exact cells) cs q (length (cell_bytes cs)) cells_room f (omega arith))
      go (bad p) f e = absurd (cc)

-- cells that are within the columns and the pool
cells_fit : (used regions : ℕ) (cs : List CellLine) (d : CellColumns) (pool rows cols : List ℕ)
    → columns_in (length cs) regions d rows cols ≡ true → used + length (cell_bytes cs) ≤ length pool → all_fit used cs d pool ≡ true
cells_fit used regions cs d pool rows cols e h =
    let n = length cs in
    let f = fitted n regions (length d.rows) (length d.cols) (length d.kinds) (length d.wraps) (length d.nums)
    (length d.ats) (length d.lens) (length rows) (length cols) e in
    rw (
      le-leb n (length d.rows) f.row,
      le-leb n (length d.cols) f.col,
      le-leb n (length d.kinds) f.kind,
      le-leb n (length d.wraps) f.wrap,
      le-leb n (length d.nums) f.num,
      le-leb n (length d.ats) f.at,
      le-leb n (length d.lens) f.len,
      le-leb (used + length (cell_bytes cs)) (length pool) h,
    )

module _ (s : List ℕ) (at cells regions rules used : ℕ) (h : Held) where
  abbrev Says : Result RuleSection Malformed → Held → Type 0
  Says r e = IsBody ((body_of cells regions rules).parse s at) used h r e

  refused : {m : Malformed} (r : Result RuleSection Malformed) (e : Held) → (body_of cells regions rules).parse s at ≡ bad m.at
      → r ≡ Err m → Says r e
  refused r e f x = rw f x

  -- what all sections leave, from what the cells and the tail leave
  body_laid : (cs : List CellLine) (q : ℕ) (t : tail_t) (p : ℕ) (r : Result RuleSection Malformed) {d : CellColumns} {after : List ℕ}
      (rows' cols' pool' : List ℕ) → d ≡ columns_after used (got cs q) h.cells h.pool
      → after ≡ cellsPool used (got cs q) h.cells h.pool
      → IsTail (got t p) (used + length (cell_bytes cs)) h.region_rows h.region_cols after r rows' cols' pool'
      → IsBody (got (cs, t) p) used h r (held d rows' cols' pool')
  body_laid cs q t p r {d} {after} rows' cols' pool' x y i =
      let u = used + length (cell_bytes cs) in
      let c = h.cells in
      let l : length after ≡ length h.pool = ap length y ∙ length_all 0 h.pool used (cell_bytes cs) (all_fit used cs c h.pool) in (
        rw l at i.0,
        λ f.
            let ok = columns_in (length cs) (length t.0) c h.region_rows h.region_cols in
            let last = u + length (rule_bytes t.1) in
            let e = and_first ok (leb last (length h.pool)) f in
            let m = leb-true last (length h.pool) (and_second ok (leb last (length h.pool)) f) in
            let g = fitted (length cs) (length t.0) (length c.rows) (length c.cols) (length c.kinds) (length c.wraps)
            (length c.nums) (length c.ats) (length c.lens) (length h.region_rows) (length h.region_cols) e in
            let k = cells_fit used (length t.0) cs c h.pool h.region_rows h.region_cols e (omega arith) in
            let w = i.1 g.region g.region_col in
            rw (x, w.0, w.1, i.2, y, k),
      )

  pub no_cell_names : {m : Malformed} (r : Result RuleSection Malformed) (e : Held) → Err m ≡ word_of (word_p cell_names s at)
      → r ≡ Err m → Says r e
  unfolding body_of bytes
  no_cell_names r e x y = refused r e (rw (word_bad (word_p cell_names s at) x)) y

  module _ {a : ℕ} (ea : Ok a ≡ word_of (word_p cell_names s at)) (room : Room s at used) where
    pub no_cells : {m : Malformed} (r : Result RuleSection Malformed) (e : Held)
        → Err m ≡ section_of used (cells_at s a cells used) h.cells h.pool → r ≡ Err m → Says r e
    unfolding body_of bytes
    no_cells r e x y = refused r e (rw (
      word_got (word_p cell_names s at) ea,
      cells_bad used (times_p cells cell_line.parse s a) h.cells h.pool (lines s at cells used h.cells h.pool ea room x),
    )) y

    pub body_answer : {b : Section} (r : Result RuleSection Malformed) {d : CellColumns} {after : List ℕ} (rows' cols' pool' : List ℕ)
        → Ok b ≡ section_of used (cells_at s a cells used) h.cells h.pool
        → d ≡ columns_after used (cells_at s a cells used) h.cells h.pool
        → after ≡ cellsPool used (cells_at s a cells used) h.cells h.pool
        → IsTail ((tail regions rules).parse s b.next) b.used h.region_rows h.region_cols after r rows' cols' pool'
        → Says r (held d rows' cols' pool')
    unfolding body_of bytes
    body_answer {b} r {d} {after} rows' cols' pool' eb ed ep i =
        let z = cells_here s a cells used (cells_room s at cells used h.cells h.pool ea room) in
        go (times_p cells cell_line.parse s a) refl (lines s at cells used h.cells h.pool ea room eb)
        (ed ∙ ap (λ (g : Got (List CellLine)). columns_after used g h.cells h.pool) z)
        (ep ∙ ap (λ (g : Got (List CellLine)). cellsPool used g h.cells h.pool) z)
      where
        last : (cs : List CellLine) (q : ℕ) → times_p cells cell_line.parse s a ≡ got cs q
            → d ≡ columns_after used (got cs q) h.cells h.pool → after ≡ cellsPool used (got cs q) h.cells h.pool
            → (g : Got tail_t) → (tail regions rules).parse s q ≡ g
            → IsTail g (used + length (cell_bytes cs)) h.region_rows h.region_cols after r rows' cols' pool'
            → Says r (held d rows' cols' pool')
        last cs q f x y (got t e) n i =
            rw (word_got (word_p cell_names s at) ea, f, n) (body_laid cs q t e r rows' cols' pool' x y i)
        last cs q f x y (bad p) n i = rw (word_got (word_p cell_names s at) ea, f, n) i

        go : (g : Got (List CellLine)) → times_p cells cell_line.parse s a ≡ g → Ok b ≡ section_of used g h.cells h.pool
            → d ≡ columns_after used g h.cells h.pool → after ≡ cellsPool used g h.cells h.pool
            → Says r (held d rows' cols' pool')
        go (got cs q) f e x y =
            let k : b ≡ record { fits = all_fit used cs h.cells h.pool; next = q; used = used + length (cell_bytes cs) } = cc in
            last cs q f x y ((tail regions rules).parse s q) refl
            (subst (λ (k : Section). IsTail ((tail regions rules).parse s k.next) k.used h.region_rows h.region_cols after r
            rows' cols' pool') k i)
        go (bad p) f e x y = absurd (cc)
