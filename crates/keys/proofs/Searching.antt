-- The loops: the code of what is left of a text from a code on, and the first same key among those from an index on, each come to what
-- the whole comes to. Assumes nothing.
use Rattle.std.specs.Prelude.{None}
use Prim.Native.Nat.{ℕ, suc, ◌+◌, ◌≤◌, ◌<◌}
use mathlib.Core.Path.{◌≡◌, refl}
use mathlib.Core.Bool.{Bool, true, false, cond}
use mathlib.Core.List.{List, map}
use native.Mathlib.Nat.{zero-add}
use native.Mathlib.Numerals.{add-one}
use native.Mathlib.Omega.{arith}
use lib.ListN.{length, get_or, drop, drop_of_length-le}
use lib.Seq.{drop-cons}
use Rattle.model.specs.Options.{Key}
use Rattle.model.specs.Readings.{lower, same_key, has_key}
use Rattle.keys.specs.Names.{first_same}
use Rattle.keys.specs.Held.{next_code, code_from, code_of}
use Rattle.keys.proofs.SameKeys.{key_itself}

-- ---- the code of a text

pub record CodeFrom (text : List ℕ) (code i : ℕ) : Type 0 where
  pub left : code_from code (map lower (drop i text)) ≡ code_of text

module _ {text : List ℕ} where
  pub code_begun : CodeFrom text 1 0
  unfolding code_of
  code_begun = record { left = refl }

  module _ {code i : ℕ} (v : CodeFrom text code i) where
    pub code_more : {next : ℕ} → i < length text → next ≡ next_code code (lower (get_or text i 0)) → CodeFrom text next (i + 1)
    unfolding code_from
    code_more h e = record { left = rw (e, add-one i) (rw (drop-cons text i 0 h) at v.left) }

    pub code_ended : length text ≤ i → code ≡ code_of text
    unfolding code_from
    code_ended h = rw (drop_of_length-le text h) at v.left

-- ---- the first same key

pub record SoughtKey (pool : List ℕ) (k : Key) (ks : List Key) (j : ℕ) : Type 0 where
  pub left : j + first_same pool k (drop j ks) ≡ first_same pool k ks

module _ {pool : List ℕ} {k : Key} {ks : List Key} where
  pub key_begun : SoughtKey pool k ks 0
  key_begun = record { left = zero-add _ }

  module _ {j : ℕ} (v : SoughtKey pool k ks j) where
    here_or_later : {same : Bool} → j < length ks → same_key pool (get_or ks j None) k ≡ same
        → j + cond same 0 (suc (first_same pool k (drop (j + 1) ks))) ≡ first_same pool k ks
    unfolding first_same
    here_or_later h e = rw (add-one j) (rw e at (rw (drop-cons ks j None h) at v.left))

    pub key_found : j < length ks → same_key pool (get_or ks j None) k ≡ true → j ≡ first_same pool k ks
    key_found h e = omega (arith, here_or_later h e)

    pub key_passed : j < length ks → same_key pool (get_or ks j None) k ≡ false → SoughtKey pool k ks (j + 1)
    key_passed h e = record { left = omega (arith, here_or_later h e) }

    -- the key is the same as itself
    pub key_ended : (i : ℕ) → j ≡ i → i < length ks → get_or ks i None ≡ k → has_key k ≡ true → i ≡ first_same pool k ks
    key_ended i e h own keyed =
        let same : same_key pool (get_or ks j None) k ≡ true = rw (e, own) (key_itself pool k keyed) in
        omega (arith, key_found (omega arith) same)
