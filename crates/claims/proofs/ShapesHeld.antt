-- Each claim of specs/Shapes.antt, held. A place of a mark column is that of a mark of the run, or it is 0. Assumes nothing.
use Prim.Native.Nat.{ℕ, zero, suc, ◌-◌, ◌≤◌, ◌<◌}
use native.Mathlib.Omega.{arith}
use mathlib.Core.Path.{◌≡◌, refl, sym, ap, ◌∙◌, subst}
use mathlib.Core.Logic.{◌⊎◌, inl, inr}
use mathlib.Core.Bool.{Bool, true, false}
use mathlib.Core.List.{List, [], ◌∷◌, ◌++◌, map, Memᴰ}
use lib.Dec.{ltb, eqb}
use lib.ListN.{length, get_or, replicate}
use borrow.Author.Tests.{ltb-true, ltb-false, eqb-true, eqb-false}
use Rattle.model.specs.Rule.{has_shape}
use Rattle.model.specs.Run.{Mark}
use Rattle.model.specs.Answer.{summary, answered}
use Rattle.model.specs.Job.{Job, Lengths, rules_of, run_of}
use Rattle.model.specs.Columns.{Columns, column, written}
use Rattle.laws.specs.Demands.{reached, zeros, lengths_of}
use Rattle.laws.proofs.Shapes as Shapes
use Rattle.laws.proofs.ShapesOfMarks as OfMarks
use Rattle.claims.specs.Claims.{One}
use Rattle.claims.specs.Shapes.{PlainExactly, PlainRises, FlatExactly, FlatFull, TooWideEmpty, ShapesOf, ShapesOfMarks}
use Rattle.claims.proofs.Held.{call_demand_one}

-- ---- of a ratio

pub plain_exactly : PlainExactly
plain_exactly = Shapes.plain_exactly

pub plain_rises : PlainRises
plain_rises = Shapes.plain_rises

pub flat_exactly : FlatExactly
flat_exactly = Shapes.flat_exactly

pub flat_full : FlatFull
flat_full = Shapes.flat_full

pub too_wide_empty : TooWideEmpty
too_wide_empty = Shapes.too_wide_empty

-- ---- a place of a mark column

zeros_at : (n i : ℕ) → ◌≡◌ {A = ℕ} (get_or (replicate n 0) i 0) 0
zeros_at zero i = refl
zeros_at (suc n) zero = refl
zeros_at (suc n) (suc i) = zeros_at n i

-- the mark at place i of all columns
pub record MarkAt (ms : List Mark) (i : ℕ) : Type 0 where
  pub mark : Mark
  pub there : Memᴰ mark ms
  pub field : (f : Mark → ℕ) (rest : List ℕ) → get_or (map f ms ++ rest) i 0 ≡ f mark

pub mark_at : (ms : List Mark) (i : ℕ) → i < length ms → MarkAt ms i
mark_at [] i h = absurd (omega arith)
mark_at (m ∷ ms) zero h = record { mark = m; there = Memᴰ.head refl; field = λ f rest. refl }
mark_at (m ∷ ms) (suc i) h =
    let later = mark_at ms i (omega arith) in
    record { mark = later.mark; there = Memᴰ.tail later.there; field = λ f rest. later.field f rest }

-- behind the last mark all is 0
behind : (ms : List Mark) (f : Mark → ℕ) (n i : ℕ) → length ms ≤ i → get_or (map f ms ++ replicate n 0) i 0 ≡ 0
behind [] f n i h = zeros_at n i
behind (m ∷ ms) f n zero h = absurd (omega arith)
behind (m ∷ ms) f n (suc i) h = behind ms f n i (omega arith)

module _ (j : Job) (l : Lengths) where
  -- the columns of the complete result
  abbrev whole : Columns
  whole = written (answered (reached j) (run_of j)) l

  shape_from : (i : ℕ) → (get_or whole.shapes i 0 ≡ 0)
      ⊎ ((m : Mark) × Memᴰ m (run_of j).marks × (get_or whole.shapes i 0 ≡ m.paint.shape))
  unfolding written answered column
  shape_from i = by (ltb i (length (run_of j).marks)) refl
    where
      by : (t : Bool) → ltb i (length (run_of j).marks) ≡ t → (get_or whole.shapes i 0 ≡ 0)
          ⊎ ((m : Mark) × Memᴰ m (run_of j).marks × (get_or whole.shapes i 0 ≡ m.paint.shape))
      by true e =
          let at = mark_at (run_of j).marks i (ltb-true i _ e) in
          inr (at.mark, at.there, at.field (λ m. m.paint.shape) _)
      by false e = inl (behind (run_of j).marks (λ m. m.paint.shape) (l.shapes - length (run_of j).marks) i (ltb-false i _ e))

  whole_shapes : ShapesOf j whole
  unfolding written answered column
  whole_shapes =
      record {
        at_most_five = λ i. elim (shape_from i) [
          | inl e ↦ omega (arith, e)
          | inr (m, there, e) ↦ omega (arith, e, OfMarks.at_most_five j m ∣ there ∣₁)
        ];
        never_four = λ i four. elim (shape_from i) [
          | inl e ↦ omega (arith, e, four)
          | inr (m, there, e) ↦ OfMarks.never_four j m ∣ there ∣₁ (sym e ∙ four)
        ];
        others = λ i d h none.
            let at = mark_at (run_of j).marks i h in
            at.field (λ m. m.paint.shape) _ ∙ OfMarks.others_nought j d at.mark ∣ at.there ∣₁
            (ap (λ r. has_shape (get_or (rules_of j) r d).kind) (sym (at.field (λ m. m.rule) _)) ∙ none);
      }

  no_shapes : ShapesOf j (zeros l)
  unfolding zeros
  no_shapes =
      record {
        at_most_five = λ i. omega (arith, zeros_at l.shapes i);
        never_four = λ i four. omega (arith, zeros_at l.shapes i, four);
        others = λ i d h none. zeros_at l.shapes i;
      }

pub shapes_of_marks : ShapesOfMarks
shapes_of_marks w j limit before after a e = by (eqb (summary a).number 0) refl
  where
    one : One j before after a
    one = call_demand_one w j limit before after a e

    by : (t : Bool) → eqb (summary a).number 0 ≡ t → ShapesOf j after
    by true z = subst (ShapesOf j) (sym (one.complete (eqb-true _ 0 z))) (whole_shapes j (lengths_of before))
    by false z = subst (ShapesOf j) (sym (one.refused (eqb-false _ 0 z))) (no_shapes j (lengths_of before))
