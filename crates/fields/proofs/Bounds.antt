-- The bounds of the values that fields answer. Assumes nothing.
use Prim.Native.Nat.{ℕ, ◌*◌, ◌^◌, ◌≤◌, ◌<◌}
use mathlib.Core.Path.{◌≡◌, refl}
use Rattle.std.specs.Prelude.{Ok}
use Rattle.memory.specs.Memory.{fits}
use mathlib.Core.List.{List}
use native.Mathlib.Omega.{arith}
use lib.ListN.{length, drop}
use Rattle.grammar.specs.Gram.{Got}
use Rattle.grammar.specs.Gram.Got.{got, bad}
use Rattle.grammar.specs.Numbers.{decimal_p, hex_p, sixteens, pairs_from}
use Rattle.grammar.proofs.Decimals.{decimal_exact}
use Rattle.grammar.proofs.Hexadecimals.{hex_exact}
use Rattle.fields.specs.declared.Field.{Field}
use Rattle.fields.specs.declared.ReadText.{ReadText}
use Rattle.fields.specs.Field.{field_of, text_of}
use Rattle.fields.proofs.Laws.{field_got}
use Rattle.fields.proofs.Pooling.{text_inside}

pub decimal_small : (limit end : ℕ) (s : List ℕ) (at : ℕ) {f : Field} → limit < 2 ^ 64 → end < 48 → Ok f ≡ field_of (decimal_p limit end s at)
    → f.value ≤ limit
decimal_small limit end s at {f} l h e = (decimal_exact limit end l h).ok s at f.value f.next (field_got (decimal_p limit end s at) e)

pub channel_small : (s : List ℕ) (at : ℕ) {f : Field} → Ok f ≡ field_of (hex_p 2 0 s at) → f.value < 256
unfolding sixteens
channel_small s at {f} e = (hex_exact 2).ok s at f.value f.next (field_got (hex_p 2 0 s at) e)

pub text_small : (end : ℕ) (s : List ℕ) (at used size : ℕ) {f : ReadText} → Ok f ≡ text_of (pairs_from end at (drop at s)) used size
    → f.length * 2 ≤ length s
text_small end s at used size {f} e = go (pairs_from end at (drop at s)) refl e
  where
    go : (g : Got (List ℕ)) → pairs_from end at (drop at s) ≡ g → Ok f ≡ text_of g used size → f.length * 2 ≤ length s
    go (got bs q) x y =
        let i = text_inside end s at bs q x in
        let h : f ≡ record { fits = fits size used (length bs); length = length bs; next = q } = cc in
        rw h (omega arith)
    go (bad p) x y = cc
