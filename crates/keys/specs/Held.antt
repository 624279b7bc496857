-- Keys as two columns of numbers hold them: a tag, and a word that two keys share if they are the same. The word of a text is a code of
-- its letters; two texts with one word need not be the same. Assumes nothing.
use Rattle.std.specs.Prelude.{ℕ, ◌+◌, ◌-◌, ◌*◌, ◌%◌, ◌^◌, ◌<◌, ◌≡◌, cond, List, [], ◌∷◌, map, length, get_or, Some, None}
use Rattle.model.specs.Options.{Key}
use Rattle.model.specs.declared.ConditionalValueKey.{ConditionalValueKey}
use Rattle.model.specs.declared.Span.{Span}
use Rattle.model.specs.Sheet.{text_at}
use Rattle.model.specs.Readings.{lower}
use Rattle.keys.specs.Names.{padded}
use Rattle.keys.specs.declared.KeyColumns.{KeyColumns}

-- one byte more; what passes 55 bits is dropped first
abbrev pub next_code : ℕ → ℕ → ℕ
next_code code b = code % 2 ^ 55 * 257 + b

unfoldable pub code_from : ℕ → List ℕ → ℕ
code_from code [] = code
code_from code (b ∷ bs) = code_from (next_code code b) bs

-- the code of a text, without regard to case
unfoldable pub code_of : List ℕ → ℕ
code_of bs = code_from 1 (map lower bs)

unfoldable pub tag_of : Key → ℕ
tag_of (Some (ConditionalValueKey.Number a)) = 1
tag_of (Some (ConditionalValueKey.Text t)) = 2
tag_of (Some (ConditionalValueKey.Bool b)) = 3
tag_of None = 0

unfoldable pub word_of : List ℕ → Key → ℕ
word_of pool (Some (ConditionalValueKey.Number a)) = a
word_of pool (Some (ConditionalValueKey.Text t)) = code_of (text_at pool t)
word_of pool (Some (ConditionalValueKey.Bool b)) = cond b (2 ^ 64 - 1) (2 ^ 64 - 2)
word_of pool None = 0

abbrev pub span_at : List ℕ → List ℕ → ℕ → Span
span_at ats lens i = record { at = get_or ats i 0; len = get_or lens i 0 }

-- the columns hold the keys; a text is where the cell columns have it
pub record HeldBy (pool tags words ats lens : List ℕ) (ks : List Key) : Type 0 where
  pub tagged : tags ≡ padded (map tag_of ks)
  pub worded : words ≡ padded (map (word_of pool) ks)
  pub spanned : (i : ℕ) → i < length ks → (t : Span) → get_or ks i None ≡ Some (ConditionalValueKey.Text t) → t ≡ span_at ats lens i

-- the same of lent columns
abbrev pub HeldIn : KeyColumns → List Key → Type 0
HeldIn c ks = HeldBy c.pool.now c.tags.now c.words.now c.ats.now c.lens.now ks
