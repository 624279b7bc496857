-- What the readers of fields answer for each result of the grammar, and what a text leaves in a pool. Assumes nothing.
use Rattle.std.specs.Prelude.{ℕ, zero, suc, ◌+◌, ◌*◌, ◌%◌, Bool, true, cond, List, [], ◌∷◌, length, get_or, replicate, Option, Some, None, Result, Ok, Err}
use Rattle.memory.specs.Memory.{fits, all_or_zeros}
use Rattle.grammar.specs.Gram.{Got}
use Rattle.grammar.specs.Gram.Got.{got, bad}
use Rattle.grammar.specs.Numbers.{digit_value, is_hex}
use Rattle.fields.specs.declared.Malformed.{Malformed}
use Rattle.fields.specs.declared.Field.{Field}
use Rattle.fields.specs.declared.Choice.{Choice}
use Rattle.fields.specs.declared.Pairs.{Pairs}
use Rattle.fields.specs.declared.ReadText.{ReadText}

-- a number
abbrev pub field_of : Got ℕ → Result Field Malformed
field_of (got n q) = Ok (record { value = n; next = q })
field_of (bad p) = Err (record { at = p })

-- a word has no value
abbrev pub word_of : Got (Unit {0}) → Result ℕ Malformed
word_of (got x q) = Ok q
word_of (bad p) = Err (record { at = p })

-- which of two words
abbrev pub either_of : Got Bool → Result Choice Malformed
either_of (got b q) = Ok (record { second = b; next = q })
either_of (bad p) = Err (record { at = p })

-- the value of a hexadecimal digit
abbrev pub digit_of : ℕ → Option ℕ
digit_of b = cond (is_hex b) (Some (digit_value b)) None

-- the number of a text's bytes, after n others
abbrev pub counted : ℕ → Got (List ℕ) → Result Pairs Malformed
counted n (got bs q) = Ok (record { number = n + length bs; next = q })
counted n (bad p) = Err (record { at = p })

-- a text for a pool of some size, used up to a place
abbrev pub text_of : Got (List ℕ) → ℕ → ℕ → Result ReadText Malformed
text_of (got bs q) used size = Ok (record { fits = fits size used (length bs); length = length bs; next = q })
text_of (bad p) used size = Err (record { at = p })

-- a pool with all of a text at u, or zeros from end to end
abbrev pub pooled : Got (List ℕ) → ℕ → List ℕ → List ℕ
pooled (got bs q) u pool = all_or_zeros true pool u bs
pooled (bad p) u pool = replicate (length pool) 0

-- the bytes of k pairs of digits from a place on
unfoldable pub pair_bytes : ℕ → List ℕ → ℕ → List ℕ
pair_bytes zero s at = []
pair_bytes (suc k) s at = (digit_value (get_or s at 0) * 16 + digit_value (get_or s (at + 1) 0)) % 256 ∷ pair_bytes k s (at + 2)
