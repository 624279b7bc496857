-- What the readers' answers say of the grammar. Assumes nothing.
use Prim.Native.Nat.{ℕ, ◌+◌}
use mathlib.Core.Path.{◌≡◌, refl}
use mathlib.Core.List.{List}
use lib.ListN.{length}
use Rattle.std.specs.Prelude.{Ok, Err}
use Rattle.grammar.specs.Gram.{Got}
use Rattle.grammar.specs.Gram.Got.{got, bad}
use Rattle.fields.specs.declared.Malformed.{Malformed}
use Rattle.fields.proofs.Laws.{field_got, field_bad, word_got, word_bad, either_got, either_bad, error_left, word_byte}
use Rattle.fields.proofs.Bounds.{channel_small, decimal_small}
use Rattle.rulelines.specs.declared.Placed.{Placed}
use Rattle.rulelines.specs.declared.Laid.{Laid}
use Rattle.rulelines.specs.Lines.{placed_of, laid_of}

pub placed_got : {A : Type 0} (g : Got A) {f : Placed A} → Ok f ≡ placed_of g → g ≡ got f.value f.next
placed_got (got a q) {f} e = let h : f ≡ record { value = a; next = q } = cc in rw h
placed_got (bad p) e = cc

pub placed_bad : {A : Type 0} (g : Got A) {e : Malformed} → Err e ≡ placed_of g → g ≡ bad e.at
placed_bad (got a q) h = cc
placed_bad (bad p) {e} h = let k : e ≡ record { at = p } = cc in rw k

pub laid_got : {A B : Type 0} (told : ℕ → A → B) (names : A → List ℕ) (g : Got A) (u : ℕ) {r : Laid B} → Ok r ≡ laid_of told names g u
    → (val : A) × (g ≡ got val r.next) × (r.value ≡ told u val) × (r.used ≡ u + length (names val))
laid_got told names (got a q) u {r} e =
    let h : r ≡ record { value = told u a; next = q; used = u + length (names a) } = cc in
    rw h (a, refl, refl, refl)
laid_got told names (bad p) u e = absurd (cc)

pub laid_bad : {A B : Type 0} (told : ℕ → A → B) (names : A → List ℕ) (g : Got A) (u : ℕ) {e : Malformed} → Err e ≡ laid_of told names g u
    → g ≡ bad e.at
laid_bad told names (got a q) u h = absurd (cc)
laid_bad told names (bad p) u {e} h = let k : e ≡ record { at = p } = cc in rw k

-- with these a reader's answers follow from those of the readers that it calls
pub ruleset reads = (field_got, field_bad, word_got, word_bad, either_got, either_bad, placed_got, placed_bad, laid_got, laid_bad, error_left, word_byte, channel_small, decimal_small)
