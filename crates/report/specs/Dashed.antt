-- A number and a colour, or `-` where there is none, and the byte that ends the field. Assumes nothing.
use Rattle.std.specs.Prelude.{ℕ, List, Option, Some, None}
use Rattle.reporttext.specs.Report.{number, colour, dash}

abbrev pub number_or_dash : Option ℕ → ℕ → List ℕ
number_or_dash (Some n) end = number end n
number_or_dash None end = dash end

abbrev pub colour_or_dash : Option ℕ → ℕ → List ℕ
colour_or_dash (Some c) end = colour end c
colour_or_dash None end = dash end
