-- Readings: the number that a cell has, and the key by which duplicates are told (document 01, 'Readings').
-- Assumes nothing.
use Rattle.std.specs.Prelude.{ℕ, ◌+◌, ◌^◌, Bool, true, false, cond, not, ◌&&◌, List, [], ◌∷◌, map, leb, ltb, eqb, Float, Some, None}
use Rattle.std.specs.Bool.{beq}
use Rattle.std.proofs.Math.Option.{Option, none, some}
use Rattle.std.specs.Float.{nan, inf, fin, binary64}
use Rattle.std.specs.Float.Ieee.{to_bits}
use Rattle.model.specs.declared.Cell.{Cell}
use Rattle.model.specs.declared.CellCoordinate.{CellCoordinate}
use Rattle.model.specs.declared.CellValue.{CellValue}
use Rattle.model.specs.Options.{Reading, Key}
use Rattle.model.specs.declared.ConditionalValueKey.{ConditionalValueKey}
use Rattle.model.specs.Sheet.{CellAt, text_at, cell_at}

-- neither not-a-number nor infinite
unfoldable pub finite : Float → Bool
finite nan = false
finite (inf s) = false
finite (fin s m e) = true

-- at most 64 wraps are read
abbrev pub max_wraps : ℕ
max_wraps = 64

-- ---- numbers

unfoldable pub numeric_value : CellValue → Reading
numeric_value (CellValue.Number x) = cond (finite x) (Some x) None
numeric_value (CellValue.Date x) = cond (finite x) (Some x) None
numeric_value (CellValue.Text t) = None
numeric_value (CellValue.Bool b) = None
numeric_value CellValue.Error = None

unfoldable pub numeric_cell_value : Cell → Reading
numeric_cell_value c = cond (leb c.wraps max_wraps) (numeric_value c.value) None

abbrev pub numeric_of : Option Cell → Reading
numeric_of none = None
numeric_of (some c) = numeric_cell_value c

-- the number at a coordinate, nothing where it is blank
unfoldable pub numeric_at : List CellAt → CellCoordinate → Reading
numeric_at cells at = numeric_of (cell_at cells at)

-- ---- bytes without regard to case

unfoldable pub lower : ℕ → ℕ
lower b = cond (leb 65 b && leb b 90) (b + 32) b

unfoldable pub every : (ℕ → Bool) → List ℕ → Bool
every test [] = true
every test (b ∷ bs) = test b && every test bs

unfoldable pub ascii : List ℕ → Bool
ascii bs = every (λ b. ltb b 128) bs

unfoldable pub same_bytes : List ℕ → List ℕ → Bool
same_bytes [] [] = true
same_bytes [] (y ∷ ys) = false
same_bytes (x ∷ xs) [] = false
same_bytes (x ∷ xs) (y ∷ ys) = eqb x y && same_bytes xs ys

unfoldable pub same_letters : List ℕ → List ℕ → Bool
same_letters xs ys = same_bytes (map lower xs) (map lower ys)

-- ---- keys

-- the bit pattern, -0 taken as +0
unfoldable pub key_bits : Float → ℕ
key_bits x = cond (eqb (to_bits binary64 x) (2 ^ 63)) 0 (to_bits binary64 x)

-- ASCII, without `*` (42) and `?` (63)
unfoldable pub plain_text : List ℕ → Bool
plain_text bs = ascii bs && every (λ b. not (eqb b 42) && not (eqb b 63)) bs

unfoldable pub key_of_value : List ℕ → CellValue → Key
key_of_value pool (CellValue.Number x) = cond (finite x) (Some (ConditionalValueKey.Number (key_bits x))) None
key_of_value pool (CellValue.Date x) = cond (finite x) (Some (ConditionalValueKey.Number (key_bits x))) None
key_of_value pool (CellValue.Text t) = cond (plain_text (text_at pool t)) (Some (ConditionalValueKey.Text t)) None
key_of_value pool (CellValue.Bool b) = Some (ConditionalValueKey.Bool b)
key_of_value pool CellValue.Error = None

unfoldable pub conditional_value_key : List ℕ → Cell → Key
conditional_value_key pool c = cond (leb c.wraps max_wraps) (key_of_value pool c.value) None

-- two keys are the same: numbers by their bits, texts in lower case, bools; nothing is the same as no key
unfoldable pub same_key : List ℕ → Key → Key → Bool
same_key pool (Some (ConditionalValueKey.Number a)) (Some (ConditionalValueKey.Number b)) = eqb a b
same_key pool (Some (ConditionalValueKey.Number a)) (Some (ConditionalValueKey.Text t)) = false
same_key pool (Some (ConditionalValueKey.Number a)) (Some (ConditionalValueKey.Bool b)) = false
same_key pool (Some (ConditionalValueKey.Number a)) None = false
same_key pool (Some (ConditionalValueKey.Text s)) (Some (ConditionalValueKey.Number b)) = false
same_key pool (Some (ConditionalValueKey.Text s)) (Some (ConditionalValueKey.Text t)) = same_letters (text_at pool s) (text_at pool t)
same_key pool (Some (ConditionalValueKey.Text s)) (Some (ConditionalValueKey.Bool b)) = false
same_key pool (Some (ConditionalValueKey.Text s)) None = false
same_key pool (Some (ConditionalValueKey.Bool a)) (Some (ConditionalValueKey.Number b)) = false
same_key pool (Some (ConditionalValueKey.Bool a)) (Some (ConditionalValueKey.Text t)) = false
same_key pool (Some (ConditionalValueKey.Bool a)) (Some (ConditionalValueKey.Bool b)) = beq a b
same_key pool (Some (ConditionalValueKey.Bool a)) None = false
same_key pool None key = false

unfoldable pub has_key : Key → Bool
has_key (Some (ConditionalValueKey.Number a)) = true
has_key (Some (ConditionalValueKey.Text t)) = true
has_key (Some (ConditionalValueKey.Bool b)) = true
has_key None = false

abbrev pub key_of : List ℕ → Option Cell → Key
key_of pool none = None
key_of pool (some c) = conditional_value_key pool c

-- the key at a coordinate, nothing where it is blank
unfoldable pub key_at : List ℕ → List CellAt → CellCoordinate → Key
key_at pool cells at = key_of pool (cell_at cells at)
