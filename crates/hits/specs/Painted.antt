-- The mark that a test gives to a region which it paints, by the number of the region's cell, field by field (document 01, 'Rules';
-- document 02 for the shape).
-- Assumes nothing.
use Rattle.std.specs.Prelude.{ℕ, ◌+◌, Bool, cond, Float}
use Rattle.std.specs.Float.Ieee.{le}
use Rattle.model.specs.declared.Paint.{Paint}
use Rattle.model.specs.declared.Test.{Test}
use Rattle.model.specs.Ratio.{normalized, ratio, shape_number, interpolate_rgb, packed}

-- 1 fill, 2 imported style, 3 bar, 4 bar with imported style
unfoldable pub kind_by : Test → Bool → ℕ
kind_by (Test.CellIs op first second fill) imported = cond imported 2 1
kind_by (Test.ColorScale2 min max low high) imported = cond imported 2 1
kind_by (Test.ColorScale3 min mid max low middle high) imported = cond imported 2 1
kind_by (Test.DataBar color low high) imported = cond imported 4 3
kind_by (Test.TopBottom bottom bound fill) imported = cond imported 2 1
kind_by (Test.AboveAverage below bound fill) imported = cond imported 2 1
kind_by (Test.DuplicateValues unique fill) imported = cond imported 2 1
kind_by (Test.Expression op left right fill) imported = cond imported 2 1

-- the colour of a test that has one for all its marks; of a scale 0
unfoldable pub fill_by : Test → ℕ
fill_by (Test.CellIs op first second fill) = packed fill
fill_by (Test.ColorScale2 min max low high) = 0
fill_by (Test.ColorScale3 min mid max low middle high) = 0
fill_by (Test.DataBar color low high) = packed color
fill_by (Test.TopBottom bottom bound fill) = packed fill
fill_by (Test.AboveAverage below bound fill) = packed fill
fill_by (Test.DuplicateValues unique fill) = packed fill
fill_by (Test.Expression op left right fill) = packed fill

-- an imported style takes the place of a colour, but not of a bar's
unfoldable pub colour_by : Test → Bool → Float → ℕ
colour_by (Test.CellIs op first second fill) imported x = cond imported 0 (packed fill)
colour_by (Test.ColorScale2 min max low high) imported x = cond imported 0 (packed (interpolate_rgb min max (ratio x low high)))
colour_by (Test.ColorScale3 min mid max low middle high) imported x =
    cond imported 0
    (packed (cond (le x middle) (interpolate_rgb min mid (ratio x low middle)) (interpolate_rgb mid max (ratio x middle high))))
colour_by (Test.DataBar color low high) imported x = packed color
colour_by (Test.TopBottom bottom bound fill) imported x = cond imported 0 (packed fill)
colour_by (Test.AboveAverage below bound fill) imported x = cond imported 0 (packed fill)
colour_by (Test.DuplicateValues unique fill) imported x = cond imported 0 (packed fill)
colour_by (Test.Expression op left right fill) imported x = cond imported 0 (packed fill)

unfoldable pub ppm_by : Test → Float → ℕ
ppm_by (Test.CellIs op first second fill) x = 0
ppm_by (Test.ColorScale2 min max low high) x = 0
ppm_by (Test.ColorScale3 min mid max low middle high) x = 0
ppm_by (Test.DataBar color low high) x = ratio x low high
ppm_by (Test.TopBottom bottom bound fill) x = 0
ppm_by (Test.AboveAverage below bound fill) x = 0
ppm_by (Test.DuplicateValues unique fill) x = 0
ppm_by (Test.Expression op left right fill) x = 0

-- 3 more in the upper half of a scale with three colours
unfoldable pub shape_by : Test → Float → ℕ
shape_by (Test.CellIs op first second fill) x = 0
shape_by (Test.ColorScale2 min max low high) x = shape_number (normalized x low high).shape
shape_by (Test.ColorScale3 min mid max low middle high) x =
    cond (le x middle) (shape_number (normalized x low middle).shape) (3 + shape_number (normalized x middle high).shape)
shape_by (Test.DataBar color low high) x = shape_number (normalized x low high).shape
shape_by (Test.TopBottom bottom bound fill) x = 0
shape_by (Test.AboveAverage below bound fill) x = 0
shape_by (Test.DuplicateValues unique fill) x = 0
shape_by (Test.Expression op left right fill) x = 0

abbrev pub paint_by : Test → Bool → Float → Paint
paint_by t imported x =
    record { kind = kind_by t imported; colour = colour_by t imported x; ppm = ppm_by t x; shape = shape_by t x }
