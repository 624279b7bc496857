-- What the fields of a mark come to where a test is not told apart from others of its kind: for a test without bars, for one that is no
-- scale, and for one that is neither. Assumes nothing.
use Prim.Native.Nat.{ℕ, ◌+◌}
use native.Mathlib.Omega.{arith}
use mathlib.Core.Path.{◌≡◌, refl, ap}
use mathlib.Core.Bool.{Bool, true, false, cond, true≢false}
use mathlib.Core.List.{List, [], ◌∷◌, map}
use lib.Ieee.{Float, le}
use lib.ListN.{length, replicate}
use lib.Seq.{sets}
use types.Run.{OneOf, miss}
use denote.Enum.Declared.{tag_of}
use Rattle.model.specs.contracts.Test.{the_type}
use Rattle.model.specs.declared.Rgb.{Rgb}
use Rattle.model.specs.declared.Test.{Test}
use Rattle.model.specs.Ratio.{normalized, shape_number}
use Rattle.plans.specs.Plans.{is_bar_test}
use Rattle.hits.specs.Painted.{kind_by, fill_by, colour_by, ppm_by, shape_by}

pub record Unbarred (t : Test) : Type 0 where
  pub kind : (imported : Bool) → kind_by t imported ≡ cond imported 2 1
  pub colour : (x : Float) → colour_by t true x ≡ 0
  pub ppm : (x : Float) → ppm_by t x ≡ 0

pub unbarred : (t : Test) → is_bar_test t ≡ false → Unbarred t
unfolding is_bar_test kind_by colour_by ppm_by
unbarred (Test.CellIs op first second fill) h = record { kind = λ b. refl; colour = λ x. refl; ppm = λ x. refl }
unbarred (Test.ColorScale2 min max low high) h = record { kind = λ b. refl; colour = λ x. refl; ppm = λ x. refl }
unbarred (Test.ColorScale3 min mid max low middle high) h = record { kind = λ b. refl; colour = λ x. refl; ppm = λ x. refl }
unbarred (Test.DataBar color low high) h = absurd (true≢false h)
unbarred (Test.TopBottom bottom bound fill) h = record { kind = λ b. refl; colour = λ x. refl; ppm = λ x. refl }
unbarred (Test.AboveAverage below bound fill) h = record { kind = λ b. refl; colour = λ x. refl; ppm = λ x. refl }
unbarred (Test.DuplicateValues unique fill) h = record { kind = λ b. refl; colour = λ x. refl; ppm = λ x. refl }
unbarred (Test.Expression op left right fill) h = record { kind = λ b. refl; colour = λ x. refl; ppm = λ x. refl }

-- besides the scales, in the order of `Test`
abbrev pub without_scales : List ℕ
without_scales = 0 ∷ 3 ∷ 4 ∷ 5 ∷ 6 ∷ 7 ∷ []

-- besides these and the bar
abbrev pub without_shapes : List ℕ
without_shapes = 0 ∷ 4 ∷ 5 ∷ 6 ∷ 7 ∷ []

pub unshaped : (t : Test) → OneOf without_shapes (tag_of the_type t) → (x : Float) → shape_by t x ≡ 0
unfolding shape_by
unshaped (Test.CellIs op first second fill) h x = refl
unshaped (Test.ColorScale2 min max low high) h x = absurd (miss without_shapes 1 tt h)
unshaped (Test.ColorScale3 min mid max low middle high) h x = absurd (miss without_shapes 2 tt h)
unshaped (Test.DataBar color low high) h x = absurd (miss without_shapes 3 tt h)
unshaped (Test.TopBottom bottom bound fill) h x = refl
unshaped (Test.AboveAverage below bound fill) h x = refl
unshaped (Test.DuplicateValues unique fill) h x = refl
unshaped (Test.Expression op left right fill) h x = refl

pub unscaled : (t : Test) → OneOf without_scales (tag_of the_type t) → (x : Float) → colour_by t false x ≡ fill_by t
unfolding colour_by fill_by
unscaled (Test.CellIs op first second fill) h x = refl
unscaled (Test.ColorScale2 min max low high) h x = absurd (miss without_scales 1 tt h)
unscaled (Test.ColorScale3 min mid max low middle high) h x = absurd (miss without_scales 2 tt h)
unscaled (Test.DataBar color low high) h x = refl
unscaled (Test.TopBottom bottom bound fill) h x = refl
unscaled (Test.AboveAverage below bound fill) h x = refl
unscaled (Test.DuplicateValues unique fill) h x = refl
unscaled (Test.Expression op left right fill) h x = refl

-- ---- one value for all marks

all_same : (f : ℕ → ℕ) (value : ℕ) → ((h : ℕ) → f h ≡ value) → (hs : List ℕ) → replicate (length hs) value ≡ map f hs
all_same f value e [] = refl
all_same f value e (h ∷ hs) = rw (e h, all_same f value e hs)

pub alike : (column : List ℕ) (n : ℕ) (f : ℕ → ℕ) (value : ℕ) → ((h : ℕ) → f h ≡ value) → (hs : List ℕ)
    → sets column n (replicate (length hs) value) ≡ sets column n (map f hs)
alike column n f value e hs = ap (λ xs. sets column n xs) (all_same f value e hs)

-- one value of each mark, by another name
pub alike_by : (column : List ℕ) (n : ℕ) (f g : ℕ → ℕ) → ((h : ℕ) → f h ≡ g h) → (hs : List ℕ)
    → sets column n (map f hs) ≡ sets column n (map g hs)
alike_by column n f g e hs = ap (λ xs. sets column n xs) (each hs)
  where
    each : (hs : List ℕ) → map f hs ≡ map g hs
    each [] = refl
    each (h ∷ hs) = rw (e h, each hs)

-- the halves of a scale
pub shape_of_half : (min mid max : Rgb) (low middle high x : Float) (m n : ℕ) → m ≡ shape_number (normalized x low middle).shape
    → n ≡ shape_number (normalized x middle high).shape
    → cond (le x middle) m (n + 3) ≡ shape_by (Test.ColorScale3 min mid max low middle high) x
unfolding shape_by
shape_of_half min mid max low middle high x m n p q = by (le x middle)
  where
    by : (lower : Bool) → cond lower m (n + 3)
        ≡ cond lower (shape_number (normalized x low middle).shape) (3 + shape_number (normalized x middle high).shape)
    by true = p
    by false = omega (arith, q)
