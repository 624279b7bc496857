-- A job that was read has at most 1,024 cells and regions and 64 rules, and a pool of at most half of its text, since each byte of a text
-- takes two of a job text. Assumes nothing.
use Prim.Native.Nat.{ℕ, ◌+◌, ◌*◌, ◌≤◌}
use mathlib.Core.Path.{◌≡◌, refl}
use mathlib.Core.Bool.{Bool, true, false, ◌||◌}
use native.Mathlib.Omega.{arith}
use lib.Dec.{ltb}
use lib.ListN.{length, length-append}
use borrow.Author.Tests.{ltb-false}
use Rattle.grammar.specs.Parts.{bytes}
use Rattle.jobtext.specs.Written.{JobText}
use Rattle.jobtext.specs.Fields.{text_field}
use Rattle.jobtext.specs.Text.{Head, head, tail, body_t, body_of, body, of_job, job}
use Rattle.jobtext.specs.Read.{over}
use Rattle.jobtext.specs.Laid.{cell_bytes, rule_bytes, laid}
use Rattle.grammar.proofs.Pairs.{length_pairs}
use Rattle.jobtext.proofs.Lengths.{cells_half, rules_half}

-- ---- the counts

none_over : (a b c : Bool) → a || b || c ≡ false → (a ≡ false) × (b ≡ false) × (c ≡ false)
none_over false false false e = (refl, refl, refl)
none_over false false true e = absurd (let no : ◌≡◌ {A = ℕ} 0 1 = cc in omega arith)
none_over false true c e = absurd (let no : ◌≡◌ {A = ℕ} 0 1 = cc in omega arith)
none_over true b c e = absurd (let no : ◌≡◌ {A = ℕ} 0 1 = cc in omega arith)

pub counts_few : (h : Head) → over h ≡ false → (h.cells ≤ 1024) × (h.regions ≤ 1024) × (h.rules ≤ 64)
unfolding over
counts_few h e =
    let n = none_over (ltb 1024 h.cells) (ltb 1024 h.regions) (ltb 64 h.rules) e in
    (ltb-false 1024 h.cells n.0, ltb-false 1024 h.regions n.1, ltb-false 64 h.rules n.2)

-- ---- the texts

head_half : (h : Head) → length h.name * 2 ≤ length (head.text h)
unfolding head text_field bytes
head_half h = let n = length_pairs h.name in simp length-append (omega arith)

body_half : (h : Head) (b : body_t) → (body h).Ok b
    → (length (cell_bytes b.0) + length (rule_bytes b.1.1)) * 2 ≤ length ((body h).text b)
unfolding body_of tail
body_half h b ok =
    let cells = cells_half b.0 in
    let rules = rules_half h.rules b.1.1 ok.1.1 in
    simp length-append (omega arith)

pub pool_half : (j : JobText) → job.Ok j → length (laid j).pool * 2 ≤ length (job.text j)
unfolding job laid
pool_half j ok =
    let x = of_job j in
    let a = head_half x.0 in
    let b = body_half x.0 x.1 ok.1 in
    simp length-append (omega arith)
