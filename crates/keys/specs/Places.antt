-- A table of places, each of which holds the index of a key, plus one, or 0: where a key is looked for, and where it is found. Assumes
-- nothing.
use Rattle.std.specs.Prelude.{ℕ, ◌+◌, ◌-◌, ◌*◌, ◌/◌, ◌%◌, ◌^◌, ◌≤◌, ◌<◌, ◌≡◌, Bool, true, false, List, get_or, None}
use Rattle.model.specs.Options.{Key}
use Rattle.model.specs.Readings.{same_key}

unfoldable pub mix_of : ℕ → ℕ
mix_of word = word / 2 ^ 32 * 1580693937 + word % 2 ^ 32 * 1173080683

-- the place from which on a key with a word is looked for
unfoldable pub place_of : ℕ → ℕ
place_of word = (mix_of word / 2 ^ 32 + mix_of word % 2 ^ 32) * 1757159915 / 2 ^ 32 % 4096

-- whether the key that a place holds is the key at i
abbrev pub holds : List ℕ → List Key → List ℕ → ℕ → ℕ → Bool
holds pool ks places p i = same_key pool (get_or ks (get_or places p 0 - 1) None) (get_or ks i None)

-- from start on, up to p, other keys are held; at p is the key, or none
pub record Found (pool : List ℕ) (ks : List Key) (places : List ℕ) (start i p : ℕ) : Type 0 where
  pub from : start ≤ p
  pub taken : (q : ℕ) → start ≤ q → q < p → get_or places q 0 ≡ 0 → ⊥
  pub others : (q : ℕ) → start ≤ q → q < p → holds pool ks places q i ≡ false
  pub here : (get_or places p 0 ≡ 0 → ⊥) → holds pool ks places p i ≡ true
