-- The section of cells as a whole: its answer, its columns and its pool, read or refused. Assumes nothing.
use Prim.Native.Nat.{ℕ, suc, ◌+◌, ◌≤◌}
use mathlib.Core.Path.{◌≡◌, refl, sym, ap, ◌∙◌}
use mathlib.Core.Bool.{Bool, true, false, ◌&&◌}
use Rattle.std.specs.Prelude.{Result, Ok, Err}
use Rattle.std.specs.List.{list_all}
use mathlib.Core.List.{List, [], ◌∷◌, map}
use native.Mathlib.Omega.{arith}
use lib.Dec.{leb}
use lib.ListN.{length, replicate, length-map, length-replicate}
use lib.Seq.{sets, length-sets}
use borrow.Author.Tests.{leb-true}
use Rattle.memory.specs.Memory.{page_of}
use Rattle.memory.proofs.Laws.{all_fits, all_refused, page_refused}
use Rattle.model.specs.Sheet.{CellColumns}
use Rattle.grammar.specs.Gram.{Got}
use Rattle.grammar.specs.Gram.Got.{got, bad}
use Rattle.grammar.specs.Parts.{times_p}
use Rattle.grammar.proofs.Parts.{times_exact, times_length}
use Rattle.fields.specs.Room.{Room, roomy}
use Rattle.fields.specs.declared.Malformed.{Malformed}
use Rattle.fields.proofs.Room.{roomy_room}
use Rattle.jobtext.specs.Written.{CellLine}
use Rattle.jobtext.specs.Text.{cell_line}
use Rattle.jobtext.specs.Laid.{value_bytes, cell_bytes, kind_of, num_of, len_of, ats_from, columns_from}
use Rattle.jobtext.proofs.Text.{cell_exact}
use Rattle.celllines.specs.declared.LinesRead.{LinesRead}
use Rattle.celllines.specs.declared.Section.{Section}
use Rattle.celllines.specs.Columns.{
  overlaid,
  left_of,
  IsLeft,
  zeroed,
  zero_columns,
  cells_at,
  held,
  section_of,
  pages,
  columns_after,
  pool_after,
}
use Rattle.celllines.proofs.Sections.{columns_eq, Long}

pub lines_room : (s : List ℕ) (at used : ℕ) {b : Bool} → b ≡ roomy s at used → b ≡ true → Room s at used
lines_room s at used {b} x y = roomy_room s at used (sym x ∙ y)

-- zeros of columns that kept their lengths
pub blank_long : (d e : CellColumns) → Long d e → zero_columns d ≡ zero_columns e
blank_long d e l = rw (l.rows, l.cols, l.kinds, l.wraps, l.nums, l.ats, l.lens)

-- ---- what fits

assoc : (a b c : Bool) → (a && (b && c)) ≡ ((a && b) && c)
assoc true b c = refl
assoc false b c = refl

alone_so : (a : Bool) → (a && true) ≡ a
alone_so true = refl
alone_so false = refl

-- what `within` says of seven columns
pub within_held : (n : ℕ) (d : CellColumns)
    → list_all (λ size. leb n size)
    (length d.rows ∷ length d.cols ∷ length d.kinds ∷ length d.wraps ∷ length d.nums ∷ length d.ats ∷ length d.lens ∷ [])
    ≡ held n d
within_held n d = simp (assoc, alone_so)

both_so : (a b : Bool) → (a && b) ≡ true → (a ≡ true) × (b ≡ true)
both_so true b e = (refl, e)
both_so false b e = cc

-- n cells are within each column
record Inside (n : ℕ) (d : CellColumns) : Type 0 where
  rows : n ≤ length d.rows
  cols : n ≤ length d.cols
  kinds : n ≤ length d.kinds
  wraps : n ≤ length d.wraps
  nums : n ≤ length d.nums
  ats : n ≤ length d.ats
  lens : n ≤ length d.lens

inside : (n : ℕ) (d : CellColumns) → held n d ≡ true → Inside n d
inside n d e =
    let r = leb n (length d.rows) in
    let c = leb n (length d.cols) in
    let k = leb n (length d.kinds) in
    let w = leb n (length d.wraps) in
    let m = leb n (length d.nums) in
    let a = leb n (length d.ats) in
    let s7 = both_so (r && c && k && w && m && a) (leb n (length d.lens)) e in
    let s6 = both_so (r && c && k && w && m) a s7.0 in
    let s5 = both_so (r && c && k && w) m s6.0 in
    let s4 = both_so (r && c && k) w s5.0 in
    let s3 = both_so (r && c) k s4.0 in
    let s2 = both_so r c s3.0 in
    record {
      rows = leb-true _ _ s2.0;
      cols = leb-true _ _ s2.1;
      kinds = leb-true _ _ s3.1;
      wraps = leb-true _ _ s4.1;
      nums = leb-true _ _ s5.1;
      ats = leb-true _ _ s6.1;
      lens = leb-true _ _ s7.1;
    }

-- stored over zeros, where it fits, it is alone in its memory
alone : (l xs : List ℕ) → length xs ≤ length l → sets (zeroed l) 0 xs ≡ page_of true (length l) xs
alone l xs h = sym (all_fits 0 (zeroed l) 0 xs (omega (arith, length-replicate {A = ℕ} (length l) 0)))

length_ats : (u : ℕ) (cs : List CellLine) → length (ats_from u cs) ≡ length cs
unfolding ats_from
length_ats u [] = refl
length_ats u (c ∷ cs) = ap suc (length_ats (u + length (value_bytes c.value)) cs)

pages_alone : (used : ℕ) (cs : List CellLine) (d : CellColumns) → Inside (length cs) d
    → overlaid 0 (columns_from used cs) (zero_columns d) ≡ pages true (columns_from used cs) d
unfolding columns_from
pages_alone used cs d i =
    columns_eq (alone d.rows (map (λ (c : CellLine). c.row) cs) (omega (arith, length-map cs (λ (c : CellLine). c.row), i.rows)))
    (alone d.cols (map (λ (c : CellLine). c.col) cs) (omega (arith, length-map cs (λ (c : CellLine). c.col), i.cols)))
    (alone d.kinds (map (λ (c : CellLine). kind_of c.value) cs) (omega (
      arith,
      length-map cs (λ (c : CellLine). kind_of c.value),
      i.kinds,
    )))
    (alone d.wraps (map (λ (c : CellLine). c.wraps) cs) (omega (arith, length-map cs (λ (c : CellLine). c.wraps), i.wraps)))
    (alone d.nums (map (λ (c : CellLine). num_of c.value) cs) (omega (
      arith,
      length-map cs (λ (c : CellLine). num_of c.value),
      i.nums,
    )))
    (alone d.ats (ats_from used cs) (omega (arith, length_ats used cs, i.ats)))
    (alone d.lens (map (λ (c : CellLine). len_of c.value) cs) (omega (
      arith,
      length-map cs (λ (c : CellLine). len_of c.value),
      i.lens,
    )))

pages_refused : (c d : CellColumns) → zero_columns d ≡ pages false c d
pages_refused c d =
    columns_eq (sym (page_refused 0 (length d.rows) c.rows)) (sym (page_refused 0 (length d.cols) c.cols))
    (sym (page_refused 0 (length d.kinds) c.kinds)) (sym (page_refused 0 (length d.wraps) c.wraps))
    (sym (page_refused 0 (length d.nums) c.nums)) (sym (page_refused 0 (length d.ats) c.ats))
    (sym (page_refused 0 (length d.lens) c.lens))

-- ---- the section

module _ (s : List ℕ) (at n used : ℕ) (d : CellColumns) (pool : List ℕ) where
  abbrev Says : Got (List CellLine) → Result Section Malformed → CellColumns → List ℕ → Type 0
  Says g r e after = (r ≡ section_of used g d pool) × ((e ≡ columns_after used g d pool) × (after ≡ pool_after used g d pool))

  pub no_room : {b : Bool} (e : CellColumns) (after : List ℕ) → b ≡ roomy s at used → b ≡ false → e ≡ zero_columns d → after ≡ zeroed pool
      → Says (cells_at s at n used) (Err (record { at = at })) e after
  unfolding cells_at
  no_room {b} e after x y i j = rw (sym x ∙ y) (refl, (i, j))

  abbrev lines : Got (List CellLine)
  lines = times_p n cell_line.parse s at

  number : (cs : List CellLine) (q : ℕ) → lines ≡ got cs q → length cs ≡ n
  number cs q e = times_length cell_line.Ok n cs ((times_exact cell_exact n).ok s at cs q e)

  -- d₁: the columns cleared; d₂ and pool₂: what the lines left
  module _ {b : Bool} (x : b ≡ roomy s at used) (y : b ≡ true) (d₁ d₂ : CellColumns) (pool₂ : List ℕ)
      (clean : d₁ ≡ zero_columns d) (kept₁ : Long d₁ d) (kept₂ : Long d₂ d₁) (deep : length pool₂ ≡ length pool) where
    long : Long d₂ d
    long = record {
      rows = kept₂.rows ∙ kept₁.rows;
      cols = kept₂.cols ∙ kept₁.cols;
      kinds = kept₂.kinds ∙ kept₁.kinds;
      wraps = kept₂.wraps ∙ kept₁.wraps;
      nums = kept₂.nums ∙ kept₁.nums;
      ats = kept₂.ats ∙ kept₁.ats;
      lens = kept₂.lens ∙ kept₁.lens;
    }

    in_room : cells_at s at n used ≡ lines
    unfolding cells_at
    in_room = rw (sym x ∙ y)

    -- what was cleared after it had been read into
    module _ (e : CellColumns) (after : List ℕ) (j : e ≡ zero_columns d₂) (o : after ≡ zeroed pool₂) where
      cleared : after ≡ zeroed pool
      cleared = o ∙ ap (λ (l : ℕ). replicate l 0) deep

      pub lines_refused : {m : Malformed} → IsLeft (left_of 0 used lines d₁ pool) (Err m) d₂ pool₂
          → Says (cells_at s at n used) (Err m) e after
      lines_refused {m} i = rw in_room (go lines i)
        where
          go : (g : Got (List CellLine)) → IsLeft (left_of 0 used g d₁ pool) (Err m) d₂ pool₂ → Says g (Err m) e after
          go (got cs q) i = let h = i.0 in absurd (cc)
          go (bad p) i = let z : m ≡ record { at = p } = cc in (rw z, (j ∙ blank_long d₂ d long, cleared))

    -- h: all cells are within the columns; f: and the texts within the pool
    module _ (r : LinesRead) {h f : Bool} (i : IsLeft (left_of 0 used lines d₁ pool) (Ok r) d₂ pool₂)
        (eh : h ≡ held n d₂) (ef : f ≡ (h && leb r.used (length pool₂))) where
      fit : f ≡ (held n d && leb r.used (length pool))
      fit = ef ∙ rw (eh, long.rows, long.cols, long.kinds, long.wraps, long.nums, long.ats, long.lens, deep)

      abbrev answer : Section
      answer = record { fits = f; next = r.next; used = r.used }

      pub lines_read : f ≡ true → Says (cells_at s at n used) (Ok answer) d₂ pool₂
      lines_read held_so = rw in_room (go lines refl i)
        where
          go : (g : Got (List CellLine)) → lines ≡ g → IsLeft (left_of 0 used g d₁ pool) (Ok r) d₂ pool₂ → Says g (Ok answer) d₂ pool₂
          go (got cs q) e i =
              let k : length cs ≡ n = number cs q e in
              let u = used + length (cell_bytes cs) in
              let j : r ≡ record { next = q; used = u } = let t = i.0 in cc in
              let h : (held (length cs) d && leb u (length pool)) ≡ true = rw k (rw j at (sym fit ∙ held_so)) in
              let w = both_so (held (length cs) d) (leb u (length pool)) h in
              let v : u ≤ length pool = leb-true _ _ w.1 in
              rw h (
                rw (j, held_so),
                (
                  i.1 ∙ rw clean (pages_alone used cs d (inside (length cs) d w.0)),
                  i.2 (omega (arith, length-sets pool used (cell_bytes cs))) ∙ sym (all_fits 0 pool used (cell_bytes cs) v),
                ),
              )
          go (bad p) e i = absurd (cc)

      pub lines_unfit : (e : CellColumns) (after : List ℕ) → f ≡ false → e ≡ zero_columns d₂ → after ≡ zeroed pool₂
          → Says (cells_at s at n used) (Ok answer) e after
      lines_unfit e after held_not j o = rw in_room (go lines refl i)
        where
          go : (g : Got (List CellLine)) → lines ≡ g → IsLeft (left_of 0 used g d₁ pool) (Ok r) d₂ pool₂ → Says g (Ok answer) e after
          go (got cs q) t i =
              let k : length cs ≡ n = number cs q t in
              let u = used + length (cell_bytes cs) in
              let y : r ≡ record { next = q; used = u } = let t = i.0 in cc in
              let h : (held (length cs) d && leb u (length pool)) ≡ false = rw k (rw y at (sym fit ∙ held_not)) in
              rw h (
                rw (y, held_not),
                (
                  j ∙ (blank_long d₂ d long ∙ pages_refused (columns_from used cs) d),
                  cleared e after j o ∙ sym (all_refused 0 pool used (cell_bytes cs)),
                ),
              )
          go (bad p) t i = absurd (cc)
