-- The scan byte by byte: the end, a quote, a byte inside quotes, an operator, any other byte; and the right part. Assumes nothing.
use Rattle.std.specs.Prelude.{Some, None, is_some}
use Prim.Native.Nat.{ℕ, suc, ◌+◌, ◌≤◌, ◌<◌}
use mathlib.Core.Path.{◌≡◌, refl, sym, ◌∙◌}
use mathlib.Core.List.{List, [], ◌∷◌}
use mathlib.Core.Bool.{Bool, true, false, cond, not}
use native.Mathlib.Nat.{add-zero}
use native.Mathlib.Numerals.{add-one}
use lib.ListN.{length, drop, get_or, drop_of_length-le}
use lib.Seq.{drop-cons, drop-drop, get_or-drop}
use lib.Dec.{eqb, eqb-zero-suc}
use borrow.Author.Tests.{eq-eqb, ne_eqb}
use Rattle.model.specs.Options.{Split}
use Rattle.model.specs.Split.{begins, operator_at, or_later, scan}

-- ---- an operator is told by its byte and the next, where 0 stands for no byte

begins_next : (b : ℕ) (bs : List ℕ) → begins (suc b) bs ≡ begins (suc b) (get_or bs 0 0 ∷ [])
unfolding begins
begins_next b [] = sym (eqb-zero-suc b)
begins_next b (c ∷ bs) = refl

operator_at_two : (at b : ℕ) (bs : List ℕ) → operator_at at (b ∷ bs) ≡ operator_at at (b ∷ get_or bs 0 0 ∷ [])
unfolding operator_at
operator_at_two at b bs = rw (begins_next 61 bs, begins_next 60 bs)

-- ---- a turn of the scan, which has come to `i`: what is left says what the whole says

-- what is left at `i`
abbrev pub left_at : List ℕ → ℕ → Bool → Split
left_at bs i quoted = scan quoted i (drop i bs)

leftAt-step
    : (bs : List ℕ) (i : ℕ) (quoted : Bool) → i < length bs
    → left_at bs i quoted
    ≡ cond (eqb (get_or bs i 0) 39) (left_at bs (i + 1) (not quoted))
    (cond quoted (left_at bs (i + 1) quoted)
    (or_later (operator_at i (get_or bs i 0 ∷ get_or bs (i + 1) 0 ∷ [])) (left_at bs (i + 1) quoted)))
unfolding scan
leftAt-step bs i quoted h =
    rw (add-one, drop-cons bs i 0 h, operator_at_two i (get_or bs i 0) (drop (suc i) bs), get_or-drop (suc i) bs 0 0, add-zero)

found_first : (here later : Split) → is_some here ≡ true → here ≡ or_later here later
unfolding or_later
found_first (Some s) later e = refl
found_first None later e = cc

found_later : (here later : Split) → is_some here ≡ false → or_later here later ≡ later
unfolding or_later
found_later (Some s) later e = cc
found_later None later e = refl

module _ (bs : List ℕ) (i : ℕ) (quoted : Bool) (whole : Split) (left : left_at bs i quoted ≡ whole) where
  pub scan_end : length bs ≤ i → None ≡ whole
  unfolding scan
  scan_end h = rw (drop_of_length-le bs h) at left

  pub scan_quote : i < length bs → get_or bs i 0 ≡ 39 → left_at bs (i + 1) (not quoted) ≡ whole
  scan_quote h e = rw (leftAt-step bs i quoted h, eq-eqb _ _ e) at left

  pub scan_quoted : i < length bs → (get_or bs i 0 ≡ 39 → ⊥) → quoted ≡ true → left_at bs (i + 1) quoted ≡ whole
  scan_quoted h n t = rw t (rw (leftAt-step bs i quoted h, ne_eqb _ _ n, t) at left)

  module _ (h : i < length bs) (n : get_or bs i 0 ≡ 39 → ⊥) (t : quoted ≡ false) (next : ℕ) (read : next ≡ get_or bs (i + 1) 0) (here : Split)
      (found : here ≡ operator_at i (get_or bs i 0 ∷ next ∷ [])) where
    scan_here : or_later here (left_at bs (i + 1) quoted) ≡ whole
    scan_here = rw t (rw (leftAt-step bs i quoted h, ne_eqb _ _ n, t, ← read, ← found) at left)

    pub scan_operator : is_some here ≡ true → here ≡ whole
    scan_operator e = found_first here _ e ∙ scan_here

    pub scan_on : is_some here ≡ false → left_at bs (i + 1) quoted ≡ whole
    scan_on e = sym (found_later here _ e) ∙ scan_here

-- ---- the right part is cut twice

pub drop_twice : (width at : ℕ) (bs : List ℕ) → drop width (drop at bs) ≡ drop (at + width) bs
drop_twice width at bs = drop-drop width at bs
