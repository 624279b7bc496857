-- The worked values P1 to P11 of document 01 as one table: what the definitions give, and what the paper says.
-- Each result stands as a list of numbers. Assumes nothing.
use Rattle.std.specs.Prelude.{ℕ, true, false, cond, List, [], ◌∷◌, ◌++◌, pos, Float, Some, None}
use Rattle.std.specs.Float.{binary64}
use Rattle.std.specs.Float.Ieee.{of_bits, to_bits, of_int}
use Rattle.model.specs.declared.CellValue.{CellValue}
use Rattle.model.specs.Options.{Reading, Axis, Split, Key}
use Rattle.model.specs.declared.CfRule.{CfRule}
use Rattle.model.specs.Sheet.{max_row}
use Rattle.model.specs.Readings.{numeric_cell_value, conditional_value_key, same_key}
use Rattle.model.specs.References.{offset_axis}
use Rattle.model.specs.Split.{split, right_part}
use Rattle.model.specs.Ratio.{ratio, channel}
use Rattle.model.specs.Values.{selected, midpoint}
use Rattle.model.specs.Job.{Job}
use Rattle.model.specs.Columns.{columns_of}

pub record WorkedValue : Type 0 where
  pub gives : List ℕ
  pub says : List ℕ

unfoldable pub row : List ℕ → List ℕ → WorkedValue
row gives says = record { gives = gives; says = says }

-- ---- arguments

unfoldable pub whole : ℕ → Float
whole n = of_int binary64 (pos n)

-- the largest finite number, its opposite, and the least positive number, 2^-1074
unfoldable pub largest : Float
largest = of_bits binary64 0x7fefffffffffffff

unfoldable pub lowest : Float
lowest = of_bits binary64 0xffefffffffffffff

unfoldable pub tiny : Float
tiny = of_bits binary64 1

-- two cells of the least positive number under a scale of red, green and blue
unfoldable pub tiny_job : Job
tiny_job =
    record {
      cells = record {
        rows = 0 ∷ 1 ∷ [];
        cols = 0 ∷ 0 ∷ [];
        kinds = 1 ∷ 1 ∷ [];
        wraps = 0 ∷ 0 ∷ [];
        nums = 1 ∷ 1 ∷ [];
        ats = 0 ∷ 0 ∷ [];
        lens = 0 ∷ 0 ∷ [];
      };
      region_rows = 0 ∷ 1 ∷ [];
      region_cols = 0 ∷ 0 ∷ [];
      pool = [];
      name = record { at = 0; len = 0 };
      rules = record {
        records =
            record {
              range = record { top = 0; left = 0; bottom = 1; right = 0 };
              priority = None;
              stop = false;
              imported = false;
              kind = CfRule.ColorScale3 (record { red = 255; green = 0; blue = 0 }) (record { red = 0; green = 255; blue = 0 })
                  (record { red = 0; green = 0; blue = 255 });
            }
            ∷ [];
        number = 1;
      };
      start = 0;
    }

-- ---- results as numbers

-- 1 and the number's bit pattern, or 0
unfoldable pub reading : Reading → List ℕ
reading (Some x) = 1 ∷ to_bits binary64 x ∷ []
reading None = 0 ∷ []

-- what a cell reads as that holds 1 within so many wraps
unfoldable pub wrapped : ℕ → List ℕ
wrapped wraps = reading (numeric_cell_value (record { value = CellValue.Number (whole 1); wraps = wraps }))

-- 1 and the value, or 0
unfoldable pub on_axis : Axis → List ℕ
on_axis (Some value) = 1 ∷ value ∷ []
on_axis None = 0 ∷ []

-- the operator's position and width, or none
unfoldable pub place : Split → List ℕ
place (Some s) = s.at ∷ s.width ∷ []
place None = []

-- position, width and right part
unfoldable pub parts : List ℕ → List ℕ
parts bytes = place (split bytes) ++ right_part bytes

-- the midpoint of two values of 2^-1074, and the colours of their cells
unfoldable pub tiny_colours : List ℕ
tiny_colours =
    to_bits binary64 (midpoint (tiny ∷ tiny ∷ []))
    ∷ (columns_of tiny_job 100 (record { regions = 2; rules = 2; kinds = 2; colours = 2; ppms = 2; shapes = 2; bar_rules = 2; bar_ppms = 2; scratch = 2 })
    ).colours

-- `Ab`, `aB` and `1`
unfoldable pub key_pool : List ℕ
key_pool = 65 ∷ 98 ∷ 97 ∷ 66 ∷ 49 ∷ []

unfoldable pub key_of : CellValue → Key
key_of v = conditional_value_key key_pool (record { value = v; wraps = 0 })

-- 1 if two values have the same key, else 0
unfoldable pub alike : CellValue → CellValue → ℕ
alike a b = cond (same_key key_pool (key_of a) (key_of b)) 1 0

unfoldable pub text : ℕ → ℕ → CellValue
text at len = CellValue.Text (record { at = at; len = len })

-- ---- the table

unfoldable pub table : List WorkedValue
table =
    row (ratio (whole 2) (whole 1) (whole 3) ∷ []) (500_000 ∷ [])  -- P1
    ∷ row (ratio (whole 5) (whole 5) (whole 5) ∷ []) (1_000_000 ∷ [])  -- P2
    ∷ row (ratio (whole 2) (whole 0) (whole 3) ∷ []) (666_667 ∷ [])  -- P3
    ∷ row (ratio largest lowest largest ∷ []) (0 ∷ [])  -- P4
    ∷ row (channel 255 0 500_000 ∷ channel 255 0 1 ∷ []) (128 ∷ 255 ∷ [])  -- P5
    ∷ row (selected true 50 3 ∷ selected true 250 7 ∷ []) (2 ∷ 7 ∷ [])  -- P6
    ∷ row (wrapped 64 ++ wrapped 65) (1 ∷ 0x3ff0000000000000 ∷ 0 ∷ [])  -- P7
    ∷ row (on_axis (offset_axis 0 0 1 max_row) ++ on_axis (offset_axis 5 2 5 max_row)) (0 ∷ 1 ∷ 2 ∷ [])  -- P8
    ∷ row (parts (65 ∷ 49 ∷ 60 ∷ 61 ∷ 50 ∷ [])) (2 ∷ 2 ∷ 50 ∷ [])  -- P9, `A1<=2`
    ∷ row (parts (39 ∷ 105 ∷ 116 ∷ 39 ∷ 39 ∷ 115 ∷ 60 ∷ 39 ∷ 33 ∷ 65 ∷ 49 ∷ 60 ∷ 51 ∷ [])) (11 ∷ 1 ∷ 51 ∷ [])  -- P9, `'it''s<'!A1<3`
    ∷ row (parts (65 ∷ 49 ∷ 61 ∷ 61 ∷ 50 ∷ [])) (2 ∷ 1 ∷ 61 ∷ 50 ∷ [])  -- P9, `A1==2`
    ∷ row tiny_colours (0 ∷ 0x0000ff ∷ 0x0000ff ∷ [])  -- P10
    ∷ row (alike (text 0 2) (text 2 2) ∷ []) (1 ∷ [])  -- P11, `Ab` and `aB`
    ∷ row (alike (CellValue.Number (of_bits binary64 0x8000000000000000)) (CellValue.Number (whole 0)) ∷ []) (1 ∷ [])  -- P11, -0 and 0
    ∷ row (alike (CellValue.Number (whole 1)) (CellValue.Date (whole 1)) ∷ []) (1 ∷ [])  -- P11, number 1 and date 1
    ∷ row (alike (CellValue.Number (whole 1)) (text 4 1) ∷ []) (0 ∷ [])  -- P11, number 1 and text `1`
    ∷ []
