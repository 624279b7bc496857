-- What the names of a rule line leave in the pool. Assumes nothing.
use Prim.Native.Nat.{ℕ, ◌+◌}
use mathlib.Core.Path.{◌≡◌, sym, ap, ◌∙◌}
use mathlib.Core.Logic.{inr}
use mathlib.Core.List.{List, ◌++◌}
use native.Mathlib.Omega.{arith}
use lib.ListN.{length, length-append}
use lib.Seq.{sets, length-sets}
use Rattle.memory.proofs.Laws.{all_fits, sets_append}
use Rattle.grammar.specs.Gram.{Got}
use Rattle.grammar.specs.Gram.Got.{got, bad}
use Rattle.grammar.specs.Parts.{then}
use Rattle.fields.specs.Field.{pooled}
use Rattle.jobtext.specs.Fields.{to_name}
use Rattle.jobtext.specs.Laid.{name_bytes}
use Rattle.rulelines.specs.Lines.{Stored, Pooled}

-- one run of bytes in the pool, and then another
pub stored_both : (pool : List ℕ) (u : ℕ) (a b : List ℕ) {mid after : List ℕ} {v : ℕ} → v ≡ u + length a → Stored pool u a mid
    → Stored mid v b after → Stored pool u (a ++ b) after
stored_both pool u a b {mid} {after} e x y h =
    let k = length-append a b in
    let m : mid ≡ sets pool u a = x (omega (arith, k)) in
    let l : length mid ≡ length pool = ap length m ∙ length-sets pool u a in
    y (omega (arith, k, l, e)) ∙ rw (m, e) (sym (sets_append pool u a b))

-- the name of a reference
pub name_pooled : (g : Got (List ℕ)) (u : ℕ) (pool : List ℕ) {after : List ℕ} → after ≡ pooled g u pool
    → Pooled name_bytes (then (then g (λ bs e. got (inr bs) e)) (λ x e. got (to_name x) e)) u pool after
unfolding name_bytes
name_pooled (got bs q) u pool e = λ h. e ∙ all_fits 0 pool u bs h
name_pooled (bad p) u pool e = tt
