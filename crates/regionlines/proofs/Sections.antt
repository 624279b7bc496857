-- Lines of regions one after the other: what holds of the lines from one on holds of all of them (`Rest`), with a law for each turn of
-- the loop; and the section as a whole, read or refused. Assumes nothing.
use Prim.Native.Nat.{ℕ, suc, ◌+◌, ◌-◌, ◌≤◌, ◌<◌}
use mathlib.Core.Path.{◌≡◌, refl, sym, ap, ◌∙◌}
use mathlib.Core.Bool.{Bool, true, false, ◌&&◌}
use Rattle.std.specs.Prelude.{Result, Ok, Err}
use mathlib.Core.List.{List, [], ◌∷◌}
use Rattle.std.specs.List.{list_all}
use native.Mathlib.Omega.{arith}
use lib.Dec.{leb}
use lib.ListN.{length, set, replicate, length-set, length-map, length-replicate}
use lib.Seq.{sets}
use borrow.Author.Tests.{leb-true}
use Rattle.memory.specs.Memory.{page_of}
use Rattle.memory.proofs.Laws.{all_fits, page_refused}
use Rattle.model.specs.declared.CellCoordinate.{CellCoordinate}
use Rattle.grammar.specs.Gram.{Got}
use Rattle.grammar.specs.Gram.Got.{got, bad}
use Rattle.grammar.specs.Parts.{then, times_p}
use Rattle.grammar.proofs.Parts.{times_exact, times_length}
use Rattle.grammar.proofs.Times.{times_next}
use Rattle.fields.specs.declared.Malformed.{Malformed}
use Rattle.jobtext.specs.Text.{region_line}
use Rattle.jobtext.proofs.Text.{region_exact}
use Rattle.regionlines.specs.declared.ReadRegion.{ReadRegion}
use Rattle.regionlines.specs.declared.RegionSection.{RegionSection}
use Rattle.regionlines.specs.Regions.{rows_of, cols_of, region_of, AreRegions, section_of, rows_after, cols_after}

pub record Rest (s : List ℕ) (at n : ℕ) (rows₀ cols₀ rows cols : List ℕ) (q i : ℕ) : Type 0 where
  pub on : (r : Result ℕ Malformed) (rows' cols' : List ℕ)
      → AreRegions i (times_p (n - i) region_line.parse s q) rows cols r rows' cols'
      → AreRegions 0 (times_p n region_line.parse s at) rows₀ cols₀ r rows' cols'
  pub rows_long : length rows ≡ length rows₀
  pub cols_long : length cols ≡ length cols₀

pub rest_begun : (s : List ℕ) (at n : ℕ) (rows cols : List ℕ) → Rest s at n rows cols rows cols at 0
rest_begun s at n rows cols =
    let z : n - 0 ≡ n = omega arith in
    record { on = λ r rows' cols' x. rw z at x; rows_long = refl; cols_long = refl }

-- a line that was read, and the lines after it
are_next : (i : ℕ) (c : CellCoordinate) (rows cols : List ℕ) (r : Result ℕ Malformed) (rows' cols' : List ℕ) (g : Got (List CellCoordinate))
    → AreRegions (i + 1) g (set rows i c.row) (set cols i c.col) r rows' cols'
    → AreRegions i (then g (λ l e. got (c ∷ l) e)) rows cols r rows' cols'
are_next i c rows cols r rows' cols' (got cs q) x = let z : i + 1 ≡ suc i = omega arith in rw z at x
are_next i c rows cols r rows' cols' (bad p) x = x

module _ {s : List ℕ} {at n : ℕ} {rows₀ cols₀ rows cols : List ℕ} {q i : ℕ} (w : Rest s at n rows₀ cols₀ rows cols q i) where
  pub rest_done : n ≤ i → AreRegions 0 (times_p n region_line.parse s at) rows₀ cols₀ (Ok q) rows cols
  unfolding times_p
  rest_done h = let z : n - i ≡ 0 = omega arith in w.on (Ok q) rows cols (rw z (refl, refl, refl))

  pub rest_stopped : {e : Malformed} (r : Result ℕ Malformed) (rows' cols' : List ℕ) → i < n → Err e ≡ region_of (region_line.parse s q)
      → r ≡ Err e → AreRegions 0 (times_p n region_line.parse s at) rows₀ cols₀ r rows' cols'
  rest_stopped {e} r rows' cols' h k y =
      w.on r rows' cols' (rw (times_next n i region_line.parse s q h) (go (region_line.parse s q) k))
    where
      go : (g : Got CellCoordinate) → Err e ≡ region_of g
          → AreRegions i (then g (λ a k. then (times_p (n - (i + 1)) region_line.parse s k) (λ l e. got (a ∷ l) e))) rows cols r
          rows' cols'
      go (got a p) k = absurd (cc)
      go (bad p) k = let z : e ≡ record { at = p } = cc in rw z at y

  pub rest_next : {c : ReadRegion} {rows₁ cols₁ : List ℕ} → i < n → Ok c ≡ region_of (region_line.parse s q)
      → rows₁ ≡ set rows i c.row → cols₁ ≡ set cols i c.col → Rest s at n rows₀ cols₀ rows₁ cols₁ c.next (i + 1)
  rest_next {c} {rows₁} {cols₁} h k y z = go (region_line.parse s q) refl k
    where
      go : (g : Got CellCoordinate) → region_line.parse s q ≡ g → Ok c ≡ region_of g → Rest s at n rows₀ cols₀ rows₁ cols₁ c.next (i + 1)
      go (got a p) f k =
          let m : c ≡ record { row = a.row; col = a.col; next = p } = cc in
          let more : Got (List CellCoordinate) = times_p (n - (i + 1)) region_line.parse s p in
          let t : times_p (n - i) region_line.parse s q ≡ then more (λ l e. got (a ∷ l) e) =
          times_next n i region_line.parse s q h
          ∙ ap (λ (g : Got CellCoordinate). then g (λ b k. then (times_p (n - (i + 1)) region_line.parse s k) (λ l e. got (b ∷ l) e)))
          f in
          rw (y, z, m)
          (record {
            on = λ r rows' cols' m. w.on r rows' cols' (rw t (are_next i a rows cols r rows' cols' more m));
            rows_long = length-set rows i a.row ∙ w.rows_long;
            cols_long = length-set cols i a.col ∙ w.cols_long;
          })
      go (bad p) f k = absurd (cc)

-- ---- the whole section

length_rows : (rs : List CellCoordinate) → length (rows_of rs) ≡ length rs
length_rows rs = length-map rs (λ (r : CellCoordinate). r.row)

length_cols : (rs : List CellCoordinate) → length (cols_of rs) ≡ length rs
length_cols rs = length-map rs (λ (r : CellCoordinate). r.col)

-- stored over zeros, where it fits, it is alone in its memory
alone : (n : ℕ) (xs : List ℕ) → length xs ≤ n → sets (replicate n 0) 0 xs ≡ page_of true n xs
alone n xs h = sym (all_fits 0 (replicate n 0) 0 xs (omega (arith, length-replicate {A = ℕ} n 0)))

-- what `within` says of two columns
pub within_two : (n : ℕ) {a b c d : ℕ} → a ≡ c → b ≡ d → list_all (λ size. leb n size) (a ∷ b ∷ []) ≡ (leb n c && leb n d)
within_two n {a} {b} {c} {d} e f = rw (e, f) (go (leb n c) (leb n d))
  where
    go : (x y : Bool) → (x && (y && true)) ≡ (x && y)
    go true true = refl
    go true false = refl
    go false y = refl

within_so : (n a b : ℕ) → (leb n a && leb n b) ≡ true → (n ≤ a) × (n ≤ b)
within_so n a b e = go (leb n a) (leb n b) refl refl e
  where
    go : (x y : Bool) → leb n a ≡ x → leb n b ≡ y → (x && y) ≡ true → (n ≤ a) × (n ≤ b)
    go true true f g e = (leb-true _ _ f, leb-true _ _ g)
    go true false f g e = cc
    go false y f g e = cc

module _ (s : List ℕ) (at n : ℕ) (rows cols : List ℕ) where
  abbrev Says : Got (List CellCoordinate) → Result RegionSection Malformed → List ℕ → List ℕ → Type 0
  Says g r rows' cols' = (r ≡ section_of g rows cols) × ((rows' ≡ rows_after g rows cols) × (cols' ≡ cols_after g rows cols))

  abbrev lines : Got (List CellCoordinate)
  lines = times_p n region_line.parse s at

  number : (rs : List CellCoordinate) (q : ℕ) → lines ≡ got rs q → length rs ≡ n
  number rs q e = times_length region_line.Ok n rs ((times_exact region_exact n).ok s at rs q e)

  -- rows₁ and cols₁: both columns cleared; rows₂ and cols₂: what the lines left in them; f: the regions fit
  module _ (rows₁ cols₁ rows₂ cols₂ : List ℕ) {f : Bool}
      (clean : (rows₁ ≡ replicate (length rows) 0) × (cols₁ ≡ replicate (length cols) 0))
      (fit : f ≡ (leb n (length rows) && leb n (length cols))) where
    pub lines_read : {q : ℕ} → AreRegions 0 lines rows₁ cols₁ (Ok q) rows₂ cols₂ → f ≡ true
        → Says lines (Ok (record { fits = f; next = q })) rows₂ cols₂
    lines_read {q} i so = go lines refl i
      where
        go : (g : Got (List CellCoordinate)) → lines ≡ g → AreRegions 0 g rows₁ cols₁ (Ok q) rows₂ cols₂
            → Says g (Ok (record { fits = f; next = q })) rows₂ cols₂
        go (got rs k) e i =
            let m : length rs ≡ n = number rs k e in
            let h : (leb n (length rows) && leb n (length cols)) ≡ true = sym fit ∙ so in
            let w = within_so n (length rows) (length cols) h in
            let x = w.0 in
            let y = w.1 in
            let z : q ≡ k = let j = i.0 in cc in
            rw (m, h) (
              rw (z, so),
              (
                i.1 ∙ rw clean.0 (alone (length rows) (rows_of rs) (omega (arith, length_rows rs))),
                i.2 ∙ rw clean.1 (alone (length cols) (cols_of rs) (omega (arith, length_cols rs))),
              ),
            )
        go (bad p) e i = absurd (cc)

    pub lines_unfit : {q : ℕ} {rows₃ cols₃ : List ℕ} → AreRegions 0 lines rows₁ cols₁ (Ok q) rows₂ cols₂ → f ≡ false
        → (length rows₂ ≡ length rows) × (length cols₂ ≡ length cols)
        → rows₃ ≡ replicate (length rows₂) 0 → cols₃ ≡ replicate (length cols₂) 0
        → Says lines (Ok (record { fits = f; next = q })) rows₃ cols₃
    lines_unfit {q} {rows₃} {cols₃} i so long j l = go lines refl i
      where
        go : (g : Got (List CellCoordinate)) → lines ≡ g → AreRegions 0 g rows₁ cols₁ (Ok q) rows₂ cols₂
            → Says g (Ok (record { fits = f; next = q })) rows₃ cols₃
        go (got rs k) e i =
            let m : length rs ≡ n = number rs k e in
            let h : (leb n (length rows) && leb n (length cols)) ≡ false = sym fit ∙ so in
            let z : q ≡ k = let j = i.0 in cc in
            rw (m, h) (
              rw (z, so),
              (
                j ∙ (ap (λ (l : ℕ). replicate l 0) long.0 ∙ sym (page_refused 0 (length rows) (rows_of rs))),
                l ∙ (ap (λ (l : ℕ). replicate l 0) long.1 ∙ sym (page_refused 0 (length cols) (cols_of rs))),
              ),
            )
        go (bad p) e i = absurd (cc)
