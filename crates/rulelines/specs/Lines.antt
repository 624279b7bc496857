-- What the readers of the parts of a rule line answer for each result of the grammar: a value with the place after it, or the place at
-- which it cannot be read on. Assumes nothing.
use Rattle.std.specs.Prelude.{ℕ, ◌+◌, ◌≤◌, List, ◌≡◌, length, Result, Ok, Err}
use Rattle.std.specs.Float.{Float, binary64}
use Rattle.std.specs.Float.Ieee.{of_bits}
use Rattle.std.proofs.lemmas.List.Edits.{sets}
use Rattle.grammar.specs.Gram.{Got, Gram}
use Rattle.grammar.specs.Gram.Got.{got, bad}
use Rattle.grammar.specs.Parts.{then, bytes, ended, such}
use Rattle.grammar.specs.Numbers.{hex}
use Rattle.fields.specs.declared.Malformed.{Malformed}
use Rattle.jobtext.specs.Written.{Reference}
use Rattle.jobtext.specs.Fields.{finite_bits}
use Rattle.jobtext.specs.Laid.{name_bytes}
use Rattle.rulelines.specs.declared.Placed.{Placed}
use Rattle.rulelines.specs.declared.Laid.{Laid}

-- a value without names
abbrev pub placed_of : {A : Type 0} → Got A → Result (Placed A) Malformed
placed_of (got a q) = Ok (record { value = a; next = q })
placed_of (bad p) = Err (record { at = p })

-- a value whose names go to u in the pool: as it is told with its names there, and up to where the pool is then used
abbrev pub laid_of : {A B : Type 0} → (ℕ → A → B) → (A → List ℕ) → Got A → ℕ → Result (Laid B) Malformed
laid_of told names (got a q) u = Ok (record { value = told u a; next = q; used = u + length (names a) })
laid_of told names (bad p) u = Err (record { at = p })

-- a pool with bs in it from u on, if they fit
abbrev pub Stored : List ℕ → ℕ → List ℕ → List ℕ → Type 0
Stored pool u bs after = u + length bs ≤ length pool → after ≡ sets pool u bs

-- the pool after it, where one was read
abbrev pub Pooled : {A : Type 0} → (A → List ℕ) → Got A → ℕ → List ℕ → List ℕ → Type 0
Pooled names (got a q) u pool after = Stored pool u (names a) after
Pooled names (bad p) u pool after = Unit {0}

-- ---- the parts of an operand

unfoldable pub reference_bytes : Reference → List ℕ
reference_bytes f = name_bytes f.name

-- the number behind an `n`: the bits of a finite one
unfoldable pub bits_field : Gram ℕ
bits_field = such finite_bits (ended (hex 16) (bytes " "))

abbrev pub number_of : Got ℕ → Got Float
number_of g = then g (λ n q. got (of_bits binary64 n) q)
