-- What a walk answers. Assumes nothing.
use Rattle.std.specs.Prelude.{Option, ℕ}

-- how many comparisons were made, where the table has room and an entry can name each cell
abbrev pub Walked : Type 0
Walked = Option ℕ
