-- The bytes that the comparisons of floats give are those of the verdicts, test by test, whether a cell or an operand has a number or not.
-- Assumes nothing.
use Rattle.std.specs.Prelude.{Some, None}
use Prim.Native.Nat.{ℕ}
use mathlib.Core.Path.{◌≡◌, refl, sym, ap, ◌∙◌}
use mathlib.Core.Bool.{Bool, true, false, cond, not, ◌&&◌, ◌||◌, and-false, or-false, true≢false, false≢true}
use lib.Dec.{ltb, eqb}
use lib.Ieee.{Float, nan, le, eq}
use Rattle.model.specs.declared.ConditionalComparison.{ConditionalComparison}
use Rattle.model.specs.declared.ConditionalOperand.{ConditionalOperand}
use Rattle.model.specs.declared.DvOp.{DvOp}
use Rattle.model.specs.declared.Normalized.{Normalized}
use Rattle.model.specs.declared.Outcome.{Outcome}
use Rattle.model.specs.Options.{Reading}
use Rattle.model.specs.declared.Rgb.{Rgb}
use Rattle.model.specs.declared.Test.{Test}
use Rattle.model.specs.Comparison.{uses_second, between, not_between, compare_conditional, compare}
use Rattle.model.specs.Readings.{finite}
use Rattle.model.specs.References.{literal}
use Rattle.model.specs.Ratio.{normalized}
use Rattle.model.specs.Rule.{filled, scaled, filled_if, on_value, on_operand, on_second}
use Rattle.laws.proofs.Covered.{and_true}
use Rattle.hits.specs.declared.Interval.{Interval}
use Rattle.hits.specs.declared.Wanted.{Wanted}
use Rattle.hits.specs.Verdict.{cell_is, by_number, duplicate_values, expression}
use Rattle.hits.specs.Said.{reading_of, byte_of, interval, meets, say_interval, compared, say_compared, say_between, say_counted, is_between}
use Rattle.hits.specs.Hits.{is_literal, literal_of, by_literals}
use Rattle.hits.proofs.Numbers.{IsNumber, not_number, lt_nan, nan_lt, nan_le, nan_eq}

-- ---- a byte

pub filled_byte : (imported : Bool) (shape : ℕ) (fill : Rgb) → byte_of (filled imported shape fill) ≡ 1
unfolding byte_of filled
filled_byte true shape fill = refl
filled_byte false shape fill = refl

pub scaled_byte : (imported : Bool) (more : ℕ) (start end : Rgb) (n : Normalized) → byte_of (scaled imported more start end n) ≡ 1
unfolding scaled
scaled_byte imported more start end n = filled_byte imported _ _

-- whichever half is used
pub halves_byte : (first middle last : Rgb) (low mid high : Float) (imported : Bool) (x : Float)
    → byte_of (by_number (Test.ColorScale3 first middle last low mid high) imported x) ≡ 1
unfolding by_number
halves_byte first middle last low mid high imported x = by (le x mid)
  where
    by : (lower : Bool) → byte_of (cond lower (scaled imported 0 first middle (normalized x low mid))
        (scaled imported 3 middle last (normalized x mid high))) ≡ 1
    by true = scaled_byte imported 0 first middle _
    by false = scaled_byte imported 3 middle last _

pub painted_byte : (met imported : Bool) (fill : Rgb) → byte_of (filled_if met imported fill) ≡ cond met 1 0
unfolding byte_of filled_if
painted_byte true imported fill = filled_byte imported 0 fill
painted_byte false imported fill = refl

-- a test that is met as another is
met_byte : {met said : Bool} (imported : Bool) (fill : Rgb) → met ≡ said → cond met 1 0 ≡ byte_of (filled_if said imported fill)
met_byte {said = said} imported fill e = rw e (sym (painted_byte said imported fill))

-- by the cell's number, and 0 where it has none
pub on_number : (x : Float) (say : Float → Outcome) (byte : ℕ) → (IsNumber x → byte ≡ byte_of (say x)) → (x ≡ nan → byte ≡ 0)
    → byte ≡ byte_of (on_value (reading_of x) say)
unfolding reading_of on_value byte_of
on_number x say byte f g = decided (eq x x) refl
  where
    decided : (t : Bool) → eq x x ≡ t → byte ≡ byte_of (on_value (cond t (Some x) None) say)
    decided true e = f e
    decided false e = g (not_number x e)

-- ---- not-a-number

meets_nan : (v : Interval) → meets v nan ≡ false
unfolding meets
meets_nan (Interval.Inside low high) = rw (nan_le high) (and-false (le low nan))
meets_nan (Interval.Outside low high) = rw (nan_lt low) (lt_nan high)

pub interval_nan : (v : Interval) → say_interval v nan ≡ 0
unfolding say_interval
interval_nan v = rw (meets_nan v)

compared_nan : (w : Wanted) (y : Float) → compared w nan y ≡ false
unfolding compared
compared_nan w y = rw (nan_lt y, nan_eq y, lt_nan y, and-false w.less, and-false w.same, and-false w.more)

compared_none : (w : Wanted) (y : Float) → say_compared w false nan y ≡ 0
unfolding say_compared
compared_none w y = rw (nan_eq nan, and-false (not (eq y y)), compared_nan w y)

between_none : (inside : Bool) (a b : Float) → say_between inside nan a b ≡ 0
unfolding say_between
between_none inside a b = rw (nan_eq nan, meets_nan (interval inside a b))

-- ---- counts

pub counted_said : (unique : Bool) (fill : Rgb) (imported : Bool) (found : ℕ)
    → say_counted unique found ≡ byte_of (duplicate_values unique fill imported found)
unfolding say_counted duplicate_values
counted_said unique fill imported found = sym (painted_byte (cond unique (eqb found 1) (ltb 1 found)) imported fill)

-- ---- expressions

pub expression_said : (op : ConditionalComparison) (w : Wanted)
    → ((x y : Float) → IsNumber x → IsNumber y → compared w x y ≡ compare op x y)
    → (fill : Rgb) (imported : Bool) (x y : Float)
    → say_compared w true x y ≡ byte_of (expression op fill imported (reading_of x) (reading_of y))
unfolding say_compared expression reading_of on_operand byte_of
expression_said op w met fill imported x y = decided (eq x x) (eq y y) refl refl
  where
    decided : (s t : Bool) → eq x x ≡ s → eq y y ≡ t
        → cond ((not t && (s || true)) || (not s && true)) 2 (cond (compared w x y) 1 0)
        ≡ byte_of (on_operand (cond s (Some x) None) (λ a.
        on_operand (cond t (Some y) None) (λ b. filled_if (compare op a b) imported fill)))
    decided true true p q = met_byte imported fill (met x y p q)
    decided true false p q = refl
    decided false true p q = refl
    decided false false p q = refl

-- ---- cell-is: operators with one operand and with two

second_unused : (op : DvOp) → uses_second op ≡ false → (x a : Float) (b c : Reading) → compare_conditional x op a b ≡ compare_conditional x op a c
unfolding uses_second compare_conditional
second_unused DvOp.Between h x a b c = absurd (true≢false h)
second_unused DvOp.NotBetween h x a b c = absurd (true≢false h)
second_unused DvOp.Equal h x a b c = refl
second_unused DvOp.NotEqual h x a b c = refl
second_unused DvOp.GreaterThan h x a b c = refl
second_unused DvOp.LessThan h x a b c = refl
second_unused DvOp.GreaterThanOrEqual h x a b c = refl
second_unused DvOp.LessThanOrEqual h x a b c = refl

meets_between : (op : DvOp) → uses_second op ≡ true → (x a b : Float)
    → meets (interval (is_between op) a b) x ≡ compare_conditional x op a (Some b)
unfolding uses_second compare_conditional is_between meets between not_between
meets_between DvOp.Between h x a b = refl
meets_between DvOp.NotBetween h x a b = refl
meets_between DvOp.Equal h x a b = absurd (false≢true h)
meets_between DvOp.NotEqual h x a b = absurd (false≢true h)
meets_between DvOp.GreaterThan h x a b = absurd (false≢true h)
meets_between DvOp.LessThan h x a b = absurd (false≢true h)
meets_between DvOp.GreaterThanOrEqual h x a b = absurd (false≢true h)
meets_between DvOp.LessThanOrEqual h x a b = absurd (false≢true h)

-- a literal that counts as read, and the float that it is taken for
literal_read : (o : ConditionalOperand) (a : Float) → is_literal o ≡ true → ((u : Float) → o ≡ ConditionalOperand.Literal u → a ≡ u)
    → (finite a ≡ true) × (literal_of o ≡ Some a)
unfolding is_literal literal_of literal
literal_read (ConditionalOperand.Literal u) a h f = (ap finite (f u refl) ∙ h, rw h (ap Some (sym (f u refl))))
literal_read (ConditionalOperand.Reference r) a h f = absurd (false≢true h)
literal_read ConditionalOperand.Unread a h f = absurd (false≢true h)

module _ (op : DvOp) (fill : Rgb) (imported : Bool) (x : Float) where
  pub compared_said : (w : Wanted) → uses_second op ≡ false
      → ((x y : Float) (second : Reading) → uses_second op ≡ false → IsNumber x → IsNumber y → compared w x y ≡ compare_conditional x op y second)
      → (y : Float) (second : Reading)
      → say_compared w false x y ≡ byte_of (cell_is op fill imported (reading_of x) (reading_of y) second)
  unfolding say_compared cell_is reading_of on_operand on_second byte_of
  compared_said w one met y second = on_number x _ _ (λ p. rw (p, one) (decided p (eq y y) refl)) (λ e. rw e (compared_none w y))
    where
      decided : IsNumber x → (t : Bool) → eq y y ≡ t
          → cond ((not t && true) || false) 2 (cond (compared w x y) 1 0)
          ≡ byte_of (on_operand (cond t (Some y) None) (λ a. filled_if (compare_conditional x op a None) imported fill))
      decided p true q = met_byte imported fill (met x y None one p q)
      decided p false q = refl

  pub between_said : uses_second op ≡ true → (a b : Float)
      → say_between (is_between op) x a b ≡ byte_of (cell_is op fill imported (reading_of x) (reading_of a) (reading_of b))
  unfolding say_between cell_is reading_of on_operand on_second byte_of
  between_said two a b = on_number x _ _ (λ p. rw (p, two) (decided (eq a a) (eq b b))) (λ e. rw e (between_none (is_between op) a b))
    where
      decided : (s t : Bool) → cond (not s || not t) 2 (cond (meets (interval (is_between op) a b) x) 1 0)
          ≡ byte_of (on_operand (cond s (Some a) None) (λ a.
          on_second true (cond t (Some b) None) (λ b. filled_if (compare_conditional x op a b) imported fill)))
      decided true true = met_byte imported fill (meets_between op two x a b)
      decided true false = refl
      decided false t = refl

  pub literals_said : (v : Interval) (first second : ConditionalOperand) (a b : Float)
      → by_literals (Test.CellIs op first second fill) ≡ true
      → ((u : Float) → first ≡ ConditionalOperand.Literal u → a ≡ u) → ((u : Float) → second ≡ ConditionalOperand.Literal u → b ≡ u)
      → ((x : Float) → finite a ≡ true → IsNumber x → meets v x ≡ compare_conditional x op a (Some b))
      → say_interval v x ≡ byte_of (cell_is op fill imported (reading_of x) (literal_of first) (literal_of second))
  unfolding by_literals say_interval cell_is on_operand on_second
  literals_said v first second a b h f g met =
      on_number x _ _
      (λ p. rw read.1 (met_byte imported fill (met x read.0 p) ∙ ap byte_of (sym (decided (uses_second op) refl literals.1))))
      (λ e. rw e (interval_nan v))
    where
      literals : (is_literal first ≡ true) × (is_literal second || not (uses_second op) ≡ true)
      literals = (and_true (is_literal first) (is_literal second || not (uses_second op))).0 h

      read : (finite a ≡ true) × (literal_of first ≡ Some a)
      read = literal_read first a literals.0 f

      decided : (t : Bool) → uses_second op ≡ t → is_literal second || not t ≡ true
          → on_second t (literal_of second) (λ b. filled_if (compare_conditional x op a b) imported fill)
          ≡ filled_if (compare_conditional x op a (Some b)) imported fill
      decided true e l = rw (literal_read second b (sym (or-false (is_literal second)) ∙ l) g).1
      decided false e l = ap (λ m. filled_if m imported fill) (second_unused op e x a None (Some b))
