-- What the search does not find of a cell line: a value's text in the pool, and the bounds in front of the value. Assumes nothing.
use Prim.Native.Nat.{ℕ}
use mathlib.Core.Path.{◌≡◌, ◌∙◌}
use mathlib.Core.List.{List}
use mathlib.Core.Logic.{inl, inr}
use native.Mathlib.Omega.{arith}
use lib.ListN.{drop}
use Rattle.std.specs.Prelude.{Ok, Err}
use Rattle.memory.proofs.Laws.{all_fits}
use Rattle.grammar.specs.Gram.{Got}
use Rattle.grammar.specs.Gram.Got.{got, bad}
use Rattle.grammar.specs.Parts.{then, bytes, byte_p}
use Rattle.grammar.specs.Numbers.{decimal_p, pairs_from}
use Rattle.fields.specs.declared.Malformed.{Malformed}
use Rattle.fields.specs.declared.Field.{Field}
use Rattle.fields.specs.Field.{field_of, word_of, pooled}
use Rattle.fields.specs.Room.{Room}
use Rattle.fields.proofs.Laws.{field_got, word_got, word_bad, word_byte}
use Rattle.fields.proofs.Room.{room_on}
use Rattle.jobtext.specs.Fields.{to_value, value}
use Rattle.jobtext.specs.Laid.{value_bytes}
use Rattle.jobtext.proofs.Fields.{row_exact, col_exact, wraps_exact}
use Rattle.celllines.specs.Lines.{ValueStored}

-- a text, where the value is neither a number nor a date
pub text_kept : (s : List ℕ) (at used : ℕ) (pool : List ℕ) {e e' : Malformed} {t : ℕ} {after : List ℕ}
    → Err e ≡ word_of (byte_p 110 s at) → Err e' ≡ word_of (byte_p 100 s at) → Ok t ≡ word_of (byte_p 116 s at)
    → after ≡ pooled (pairs_from 10 t (drop t s)) used pool → ValueStored (value.parse s at) used pool after
unfolding value bytes value_bytes
text_kept s at used pool {e} {e'} {t} {after} x y z p =
    rw (
      word_byte 110 s at ∙ word_bad (byte_p 110 s at) x,
      word_byte 100 s at ∙ word_bad (byte_p 100 s at) y,
      word_byte 116 s at ∙ word_got (byte_p 116 s at) z,
    ) (go (pairs_from 10 t (drop t s)) p)
  where
    go : (g : Got (List ℕ)) → after ≡ pooled g used pool
        → ValueStored (then (then (then (then g (λ a q. got (inl a) q)) (λ b q. got (inr b) q)) (λ b q. got (inr b) q)) (λ v q. got (to_value v) q)) used pool after
    go (got bs q) p = λ h. p ∙ all_fits 0 pool used bs h
    go (bad q) p = tt

-- past row, column and wraps
pub value_room : (s : List ℕ) (at used : ℕ) {a b w : Field} → Ok a ≡ field_of (decimal_p 4_294_967_295 32 s at)
    → Ok b ≡ field_of (decimal_p 65_535 32 s a.next) → Ok w ≡ field_of (decimal_p 255 32 s b.next) → Room s at used → Room s w.next used
value_room s at used {a} {b} {w} ea eb ew r =
    room_on wraps_exact w.value w.next
    (room_on (col_exact 32 (omega arith)) b.value b.next
    (room_on (row_exact 32 (omega arith)) a.value a.next r (field_got (decimal_p 4_294_967_295 32 s at) ea))
    (field_got (decimal_p 65_535 32 s a.next) eb)) (field_got (decimal_p 255 32 s b.next) ew)
