-- Writing text into lent bytes at a place: all of it, or zeros from end to end; and the place behind it, also where it does not fit.
-- Assumes nothing.
use Rattle.std.specs.Prelude.{ℕ, ◌+◌, ◌-◌, ◌≤◌, ◌<◌, min, ◌≡◌, true, cond, List, [], ◌++◌, leb, length, take, replicate}
use Rattle.memory.specs.Memory.{all_or_zeros}
use Rattle.put.specs.declared.Cursor.{Cursor}

abbrev pub last : ℕ
last = 18_446_744_073_709_551_615

-- the place behind n bytes from `at` on, also where they do not fit; 2^64 - 1 where it is more
abbrev pub place_after : ℕ → ℕ → ℕ
place_after at n = min (at + n) last

-- e is d with the bytes ts in it from `at` on, or zeros; r is the place behind them
pub record Laid (d : List ℕ) (at : ℕ) (ts e : List ℕ) (r : ℕ) : Type 0 where
  pub bytes : e ≡ all_or_zeros true d at ts
  pub next : r ≡ place_after at (length ts)

-- as `Laid`, but where the text does not fit the place is some place past the end
pub record Stops (d : List ℕ) (at : ℕ) (ts e : List ℕ) (r : ℕ) : Type 0 where
  pub bytes : e ≡ all_or_zeros true d at ts
  pub fits : at + length ts ≤ length d → r ≡ at + length ts
  pub over : length d < at + length ts → length d < r

-- a place to go on from: nothing laid there changes nothing
abbrev pub Ready : List ℕ → ℕ → Type 0
Ready d at = Laid d at [] d at

-- ts is put at the cursor c, which is then d and lends the same bytes
pub record Puts (c : Cursor) (ts : List ℕ) (d : Cursor) : Type 0 where
  pub laid : Laid c.bytes.now c.at ts d.bytes.now d.at
  pub lender : d.bytes.ghost_name ≡ c.bytes.ghost_name

-- the same, stopping as `Stops` says
pub record PutsSome (c : Cursor) (ts : List ℕ) (d : Cursor) : Type 0 where
  pub stops : Stops c.bytes.now c.at ts d.bytes.now d.at
  pub lender : d.bytes.ghost_name ≡ c.bytes.ghost_name

-- how many of n bytes a text takes that ends at `end`: 0 where it is longer
abbrev pub kept_length : ℕ → ℕ → ℕ
kept_length n end = cond (leb end n) end 0

-- the first bytes of d, and zeros behind them
abbrev pub kept_bytes : List ℕ → ℕ → List ℕ
kept_bytes d r = take r d ++ replicate (length d - r) 0
