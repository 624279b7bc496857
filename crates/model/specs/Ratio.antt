-- Ratio and colour: a value's place between two ends in parts per million, what it says of the ends, and a colour between two colours
-- (document 01, 'Ratio and colour'; document 02). Each operation on floats is IEEE 754's, rounded once. Assumes nothing.
use Rattle.std.specs.Prelude.{ℕ, ◌+◌, ◌-◌, ◌*◌, ◌/◌, ◌^◌, min, max, false, cond, eqb, ℤ, pos, negsuc, ◌+ℤ◌, ◌-ℤ◌, ◌*ℤ◌, Float}
use Rattle.std.specs.Int.Signed.{quot_z}
use Rattle.std.specs.Float.{nan, inf, fin, binary64}
use Rattle.std.specs.Float.Ieee.{up, down, sub, mul, div, lt, le}
use Rattle.model.specs.declared.Rgb.{Rgb}
use Rattle.model.specs.declared.Shape.{Shape}
use Rattle.model.specs.declared.Normalized.{Normalized}
use Rattle.model.specs.Readings.{finite}

-- 0, 1, 2 and 1,000,000 = 15,625 × 2^6 as floats
abbrev pub zero_f : Float
zero_f = fin false 0 (pos 0)

abbrev pub one_f : Float
one_f = fin false 1 (pos 0)

abbrev pub two_f : Float
two_f = fin false 1 (pos 1)

abbrev pub million_f : Float
million_f = fin false 15_625 (pos 6)

-- ---- ratio

-- held to 0..1; not-a-number stays
unfoldable pub held_to_unit : Float → Float
held_to_unit x = cond (lt x zero_f) zero_f (cond (lt one_f x) one_f x)

-- The nearest whole number, halves away from zero, held to a u32's range; 0 for not-a-number (Rust's `round() as u32`).
-- m × 2^e is m × up e / down e, and half a unit is added before the quotient is cut.
unfoldable pub rounded : Float → ℕ
rounded nan = 0
rounded (inf negative) = cond negative 0 (2 ^ 32 - 1)
rounded (fin negative m e) = cond negative 0 (min ((2 * (m * up e) + down e) / (2 * down e)) (2 ^ 32 - 1))

unfoldable pub quotient : Float → Float → Float → Float
quotient value minimum maximum = div binary64 (sub binary64 value minimum) (sub binary64 maximum minimum)

-- normalized_ppm, and the shape: flat ends are asked first, and ends that are not flat are too wide if their difference is not finite
unfoldable pub normalized : Float → Float → Float → Normalized
normalized value minimum maximum =
    cond (le maximum minimum) (record { ppm = 1_000_000; shape = Shape.Flat })
    (record {
      ppm = rounded (mul binary64 (held_to_unit (quotient value minimum maximum)) million_f);
      shape = cond (finite (sub binary64 maximum minimum)) Shape.Plain Shape.TooWide;
    })

-- the ppm alone
unfoldable pub ratio : Float → Float → Float → ℕ
ratio value minimum maximum = (normalized value minimum maximum).ppm

-- document 02's number for each shape
unfoldable pub shape_number : Shape → ℕ
shape_number Shape.Plain = 0
shape_number Shape.Flat = 1
shape_number Shape.TooWide = 2

-- Added: how many of forty cells a bar fills. None for 0 ppm, and otherwise at least one, so that a finger tells a short bar from none
-- (document 02)
unfoldable pub bar_cells : ℕ → ℕ
bar_cells ppm = cond (eqb ppm 0) 0 (max 1 (40 * ppm / 1_000_000))

-- ---- colour

-- held to 0..255
unfoldable pub held_to_byte : ℤ → ℕ
held_to_byte (pos n) = min n 255
held_to_byte (negsuc n) = 0

-- (start × 1,000,000 + (end - start) × ratio + 500,000) / 1,000,000, the quotient cut toward zero, then held
unfoldable pub channel : ℕ → ℕ → ℕ → ℕ
channel start end ppm =
    held_to_byte (quot_z (pos start *ℤ pos 1_000_000 +ℤ (pos end -ℤ pos start) *ℤ pos ppm +ℤ pos 500_000) (pos 1_000_000))

unfoldable pub interpolate_rgb : Rgb → Rgb → ℕ → Rgb
interpolate_rgb start end ppm =
    record {
      red = channel start.red end.red ppm;
      green = channel start.green end.green ppm;
      blue = channel start.blue end.blue ppm;
    }

-- the colour column's number
unfoldable pub packed : Rgb → ℕ
packed c = c.red * 65_536 + c.green * 256 + c.blue
