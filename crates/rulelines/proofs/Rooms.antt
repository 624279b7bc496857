-- Reading on keeps the bounds. Assumes nothing.
use Prim.Native.Nat.{ℕ, ◌^◌, ◌≤◌, ◌<◌}
use mathlib.Core.Path.{◌≡◌, sym, subst, ◌∙◌}
use mathlib.Core.List.{List, [], ◌∷◌}
use lib.ListN.{length}
use Rattle.std.specs.Prelude.{Ok}
use Rattle.grammar.specs.Gram.{Gram, Exactly}
use Rattle.grammar.specs.Parts.{bytes, byte_p, word_p, either}
use Rattle.grammar.specs.Numbers.{decimal_p}
use Rattle.grammar.proofs.Parts.{word_exact}
use Rattle.grammar.proofs.Decimals.{decimal_exact}
use Rattle.fields.specs.declared.Field.{Field}
use Rattle.fields.specs.declared.Choice.{Choice}
use Rattle.fields.specs.Field.{field_of, word_of, either_of}
use Rattle.fields.specs.Room.{Room}
use Rattle.fields.proofs.Laws.{field_got, word_got, either_got, word_byte}
use Rattle.fields.proofs.Room.{room_on, room_past}
use Rattle.jobtext.proofs.Fields.{flag_exact, priority_exact, operand_exact}
use Rattle.jobtext.proofs.Lengths.{operand_length}
use Rattle.jobtext.specs.Fields.{priority, operand}
use Rattle.jobtext.specs.Laid.{operand_at, operand_bytes}
use Rattle.model.specs.Options.{Priority}
use Rattle.model.specs.declared.ConditionalOperand.{ConditionalOperand}
use Rattle.rulelines.specs.declared.Placed.{Placed}
use Rattle.rulelines.specs.declared.Laid.{Laid}
use Rattle.rulelines.specs.Lines.{placed_of, laid_of}
use Rattle.rulelines.proofs.Told.{placed_got, laid_got}

pub past_number : {limit end : ℕ} {s : List ℕ} {at used : ℕ} {f : Field} → limit < 2 ^ 64 → end < 48
    → Ok f ≡ field_of (decimal_p limit end s at) → Room s at used → Room s f.next used
past_number {limit} {end} {s} {at} {used} {f} l h e r = room_on (decimal_exact limit end l h) f.value f.next r (field_got _ e)

pub past_word : (w : List ℕ) {s : List ℕ} {at used k : ℕ} → Ok k ≡ word_of (word_p w s at) → Room s at used → Room s k used
past_word w {s} {at} {used} {k} e r = room_on (word_exact w) tt k r (word_got _ e)

pub past_letter : (b : ℕ) {s : List ℕ} {at used k : ℕ} → Ok k ≡ word_of (byte_p b s at) → Room s at used → Room s k used
past_letter b {s} {at} {used} {k} e r = room_on (word_exact (b ∷ [])) tt k r (word_byte b s at ∙ word_got _ e)

pub past_flag : {s : List ℕ} {at used : ℕ} {f : Choice} → Ok f ≡ either_of ((either (48 ∷ 32 ∷ []) (49 ∷ 32 ∷ [])).parse s at) → Room s at used
    → Room s f.next used
unfolding bytes
past_flag {s} {at} {used} {f} e r = room_on flag_exact f.second f.next r (either_got _ e)

pub past_priority : {s : List ℕ} {at used : ℕ} {p : Placed Priority} → Ok p ≡ placed_of (priority.parse s at) → Room s at used
    → Room s p.next used
past_priority {s} {at} {used} {p} e r = room_on priority_exact p.value p.next r (placed_got _ e)

-- past a value whose names are no longer than its text
pub past_laid : {A B : Type 0} {g : Gram A} {s : List ℕ} {at used : ℕ} (told : ℕ → A → B) (names : A → List ℕ) {r : Laid B} → Exactly g
    → ((a : A) → length (names a) ≤ length (g.text a)) → Ok r ≡ laid_of told names (g.parse s at) used → Room s at used → Room s r.next r.used
past_laid {A} {B} {g} {s} {at} {used} told names {r} G short e m =
    let a = laid_got told names (g.parse s at) used e in
    subst (λ (n : ℕ). Room s r.next n) (sym a.3) (room_past G a.0 r.next (length (names a.0)) m a.1 (short a.0))

pub past_operand : {s : List ℕ} {at used : ℕ} {r : Laid ConditionalOperand} → Ok r ≡ laid_of operand_at operand_bytes (operand.parse s at) used
    → Room s at used → Room s r.next r.used
past_operand e r = past_laid operand_at operand_bytes operand_exact operand_length e r
