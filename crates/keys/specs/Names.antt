-- Names of keys: each key of the cells has the index of the first that is the same, plus one, for its name. Assumes nothing.
use Rattle.std.specs.Prelude.{ℕ, zero, suc, ◌-◌, cond, List, [], ◌∷◌, ◌++◌, map, length, replicate}
use Rattle.model.specs.Options.{Key}
use Rattle.model.specs.Sheet.{CellColumns, cell_from}
use Rattle.model.specs.Readings.{conditional_value_key, same_key, has_key}

-- the keys of the n cells from index i on
unfoldable pub keys_held : List ℕ → CellColumns → ℕ → ℕ → List Key
keys_held pool c i zero = []
keys_held pool c i (suc n) = conditional_value_key pool (cell_from c i).cell ∷ keys_held pool c (suc i) n

-- the index of the first of the keys that is the same as a key, or how many they are
unfoldable pub first_same : List ℕ → Key → List Key → ℕ
first_same pool k [] = 0
first_same pool k (l ∷ ls) = let later = first_same pool k ls in cond (same_key pool l k) 0 (suc later)

-- the name of a key among keys; 0 for no key
unfoldable pub name_of : List ℕ → List Key → Key → ℕ
name_of pool ks k = cond (has_key k) (suc (first_same pool k ks)) 0

-- up to 1,024 numbers, 0 after them
abbrev pub padded : List ℕ → List ℕ
padded xs = xs ++ replicate (1024 - length xs) 0

abbrev pub names_of : List ℕ → List Key → List ℕ
names_of pool ks = padded (map (name_of pool ks) ks)
