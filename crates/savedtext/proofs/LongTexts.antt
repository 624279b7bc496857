-- At the end of what a job text may be: a text of 65,536 bytes is saved, and one of 65,537 is refused in any number of lent bytes, with
-- the length needed. The jobs have a name alone, of as many bytes as it takes, and S = 5. Assumes nothing.
use Prim.Native.Nat.{ℕ, ◌+◌, ◌*◌, ◌≤◌}
use native.Mathlib.Omega.{arith}
use mathlib.Core.Path.{◌≡◌, ap, ◌∙◌}
use mathlib.Core.Logic.{inr}
use mathlib.Core.List.{[]}
use lib.ListN.{length, take, replicate, length-append, length-replicate}
use lib.Seq.{take_all}
use borrow.Author.Tests.{le-ltb}
use Rattle.model.specs.Answer.{answer, refusal}
use Rattle.model.specs.Job.{Job}
use Rattle.model.proofs.Samples.{span, all_of, job_in}
use Rattle.laws.specs.Demands.{WellFormed}
use Rattle.grammar.specs.Numbers.{pairs_text}
use Rattle.grammar.proofs.Pairs.{length_pairs}
use Rattle.savedtext.specs.Saved.{text_of, saved}
use Rattle.savedtext.proofs.Computing.{writing}
use Rattle.savedtext.proofs.Thirteen.{saved_fits, thirteen_saved}

unfoldable named : ℕ → Job
named n = job_in (replicate n 0) (span 0 n) [] [] (all_of []) 5

named_well_formed : (n : ℕ) → n ≤ 65_536 → WellFormed (named n)
unfolding writing named
named_well_formed n h =
    let long : length (replicate {A = ℕ} n 0) ≡ n = length-replicate n 0 in
    rw (long, le-ltb 65_536 n h, le-ltb n (0 + n) (omega arith))

name_length : (n : ℕ) → length (pairs_text (take n (replicate n 0))) ≡ n * 2
name_length n =
    let long : length (replicate {A = ℕ} n 0) ≡ n = length-replicate n 0 in
    let whole : take n (replicate {A = ℕ} n 0) ≡ replicate n 0 = take_all n (replicate n 0) (omega arith) in
    rw whole (omega (arith, length_pairs (replicate n 0)))

named_length : (n : ℕ) → length (text_of 0 (named n)) ≡ 139 + n * 2
unfolding writing named
named_length n = simp length-append (omega (arith, name_length n))

named_length_10 : (n : ℕ) → length (text_of 10 (named n)) ≡ 140 + n * 2
unfolding writing named
named_length_10 n = simp length-append (omega (arith, name_length n))

longest_saved : saved 10 (named 32_698) 65_536 ≡ answer 5 0 0 0
unfolding named job_in
longest_saved =
    let long = named_length_10 32_698 in
    saved_fits 10 (named 32_698) 65_536 (named_well_formed 32_698 (omega arith)) (omega arith) (omega arith)

too_long_refused : (room : ℕ) → saved 0 (named 32_699) room ≡ refusal 13 0 5 65_537
unfolding named job_in
too_long_refused room =
    let long = named_length 32_699 in
    thirteen_saved 0 (named 32_699) room (named_well_formed 32_699 (omega arith)) (inr (omega arith)) ∙ ap (refusal 13 0 5) long
