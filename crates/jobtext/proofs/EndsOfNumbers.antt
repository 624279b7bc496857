-- The ends of every number of a job text, computed on the definition: the greatest is accepted, one more is refused; and the greatest
-- counts of cells, regions and rules. Assumes nothing.
use Rattle.std.specs.Prelude.{Some}
use Prim.Native.Nat.{ℕ}
use Prim.Native.String.{String}
use mathlib.Core.Path.{◌≡◌, refl}
use mathlib.Core.Bool.{Bool, true, false}
use mathlib.Core.List.{List, [], ◌∷◌, map}
use Rattle.jobtext.specs.Written.{Value, Kind}
use Rattle.jobtext.specs.Read.{ReadResult, over, read}
use Rattle.jobtext.proofs.Computing.{reading}
use Rattle.jobtext.proofs.AcceptedTexts.{rgb}
use Rattle.jobtext.proofs.RefusedTexts.{samples, small, with_region, with_rule, cell, region, rule}

-- ---- accepted

-- the greatest of each number; those of an operand, of an operator and of a reference are in AcceptedTexts.antt and OperatorTexts.antt
greatest : read (small "18446744073709551615 18446744073709551615 1 1 1 t" "4294967295 65535 255 e" "4294967295 65535"
    "4294967295 65535 4294967295 65535 4294967295 0 0 rank 4294967295 top count 000000")
    ≡ ReadResult.is
    (record {
      limit = 18446744073709551615;
      start = 18446744073709551615;
      name = [];
      cells = record { row = 4294967295; col = 65535; wraps = 255; value = Value.error } ∷ [];
      regions = record { row = 4294967295; col = 65535 } ∷ [];
      rules =
          record {
            range = record { top = 4294967295; left = 65535; bottom = 4294967295; right = 65535 };
            priority = Some 4294967295;
            stop = false;
            imported = false;
            kind = Kind.rank 4294967295 false false (rgb 0 0 0);
          }
          ∷ [];
    })
unfolding samples
greatest = refl

-- ---- refused

-- all of these texts are refused at one line; more such texts are in RefusedTexts.antt
abbrev AllBad : ℕ → (String → List ℕ) → List String → Type 0
AllBad line text fields = map (λ s. read (text s)) fields ≡ map (λ s. ReadResult.bad_line line) fields

counts : AllBad 2 (λ s. small s cell region rule) (
    "9 18446744073709551616 1 1 1 t"
    ∷ "9 8 18446744073709551616 1 1 t"
    ∷ "9 8 1 18446744073709551616 1 t"
    ∷ "9 8 1 1 18446744073709551616 t"
    ∷ [])
unfolding samples
counts = refl

regions : AllBad 6 with_region ("4294967296 65535" ∷ "4294967295 65536" ∷ [])
unfolding samples
regions = refl

rules : AllBad 8 with_rule (
    "4294967296 0 0 0 - 0 0 bar 000000 - - -"
    ∷ "0 65536 0 0 - 0 0 bar 000000 - - -"
    ∷ "0 0 4294967296 0 - 0 0 bar 000000 - - -"
    ∷ "0 0 0 65536 - 0 0 bar 000000 - - -"
    ∷ "0 0 0 0 4294967296 0 0 bar 000000 - - -"
    ∷ "0 0 0 0 - 0 0 expr 5 u r4294967296,65535,3,- 000000"
    ∷ "0 0 0 0 - 0 0 expr 5 u r4294967295,65536,3,- 000000"
    ∷ [])
unfolding samples
rules = refl

-- ---- counts that are over

abbrev over_at : ℕ → ℕ → ℕ → Bool
over_at cells regions rules =
    over (record { limit = 0; start = 0; cells = cells; regions = regions; rules = rules; name = [] })

full : over_at 1024 1024 64 ≡ false
unfolding reading
full = refl

one_more : (over_at 1025 1024 64 ∷ over_at 1024 1025 64 ∷ over_at 1024 1024 65 ∷ []) ≡ (true ∷ true ∷ true ∷ [])
unfolding reading
one_more = refl
