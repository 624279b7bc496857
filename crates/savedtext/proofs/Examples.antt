-- Saving, computed on the definition: the worked job of document 01, wherever its name sits, has the worked text; and what a text keeps
-- and what it has no place for, in small jobs with S = 5 and the limit 9. Assumes nothing.
use Rattle.std.specs.Prelude.{Some}
use Prim.Native.Nat.{ℕ}
use Prim.Native.String.{String}
use mathlib.Core.Path.{◌≡◌, refl}
use mathlib.Core.List.{List, [], ◌∷◌, ◌++◌, map}
use lib.Ieee.{nan}
use lib.ListN.{length, replicate}
use Rattle.model.specs.declared.CfRule.{CfRule}
use Rattle.model.specs.declared.ConditionalOperand.{ConditionalOperand}
use Rattle.model.specs.declared.DvOp.{DvOp}
use Rattle.model.specs.Answer.{Summary, answer, refusal}
use Rattle.model.specs.Job.{Job}
use Rattle.model.proofs.Samples.{CellRow, span, cell, text, down, regions, rows, rule, prior, stopping, green, red, above}
use Rattle.model.proofs.Samples.{float, infinity, literal, relative, equal_to, job_in, job_of}
use Rattle.jobtext.proofs.WorkedText.{lines, worked_text, worked_with}
use Rattle.savedtext.specs.Saved.{text_of, saved, saved_length, saved_bytes}
use Rattle.savedtext.proofs.Computing.{writing}

-- ---- the worked job

-- its name in the middle of other bytes, and a record past its two rules
unfoldable worked : ℕ → Job
worked start =
    job_in (0x41 ∷ 0x53 ∷ 0x42 ∷ []) (span 1 1) (down (1 ∷ 2 ∷ 3 ∷ [])) (regions 3)
    (record {
      records =
          rule (rows 3) (CfRule.DataBar green)
          ∷ stopping (prior 0 (rule (rows 3) above))
          ∷ rule (rows 9) (equal_to (relative (Some (span 9 9)) 0 0))
          ∷ [];
      number = 2;
    }) start

worked_text_lem : text_of 100 (worked 0) ≡ worked_text
unfolding writing worked worked_text worked_with
worked_text_lem = refl

-- ---- small jobs

abbrev small : List CellRow → List CfRule → Job
small cells rules = job_of cells [] (map (rule (rows 1)) rules) 5

abbrev text_with : List CellRow → List CfRule → List ℕ
text_with cells rules = text_of 9 (small cells rules)

abbrev saved_with : List CellRow → List CfRule → Summary
saved_with cells rules = saved 9 (small cells rules) 1000

-- a text without regions, by its second line, its cells and its rules
unfoldable written : String → List String → List String → List ℕ
written second cells rules =
    lines ("limit start cells regions rules name" ∷ second ∷ "row col wraps value" ∷ [])
    ++ (lines cells
    ++ lines ("row col" ∷ "top left bottom right priority stop imported rule p1 p2 p3 p4" ∷ rules))

-- the bits of a cell are kept, whatever not-a-number they are
numbers_kept : text_with
    (cell 0 0 1 0 0x7ff0000000000001 0 0
    ∷ cell 1 0 1 0 0xfff8000000000000 0 0
    ∷ cell 2 0 1 0 0x7fffffffffffffff 0 0
    ∷ cell 3 0 2 0 0x7ff0000000000001 0 0
    ∷ cell 4 0 2 0 0xfff8000000000000 0 0
    ∷ cell 5 0 2 0 0x7fffffffffffffff 0 0
    ∷ []) []
    ≡ written "9 5 6 0 0 t53"
    ("0 0 0 n7ff0000000000001"
    ∷ "1 0 0 nfff8000000000000"
    ∷ "2 0 0 n7fffffffffffffff"
    ∷ "3 0 0 d7ff0000000000001"
    ∷ "4 0 0 dfff8000000000000"
    ∷ "5 0 0 d7fffffffffffffff"
    ∷ []) []
unfolding writing written
numbers_kept = refl

-- the places of a bool and of a number, a number's length and a bool's bits are free, within the pool or not
free_places : map (λ (cells : List CellRow). text_with cells [])
    ((cell 0 0 1 0 7 0 0 ∷ cell 1 0 4 0 0 0 1 ∷ [])
    ∷ (cell 0 0 1 0 7 70_000 9 ∷ cell 1 0 4 0 0 70_000 1 ∷ [])
    ∷ (cell 0 0 1 0 7 3 0 ∷ cell 1 0 4 0 0x7ff8000000000000 3 1 ∷ [])
    ∷ [])
    ≡ replicate 3 (written "9 5 2 0 0 t53" ("0 0 0 n0000000000000007" ∷ "1 0 0 b1" ∷ []) [])
unfolding writing written
free_places = refl

free_places_saved : saved_with (cell 0 0 1 0 7 70_000 9 ∷ cell 1 0 4 0 0 70_000 1 ∷ []) [] ≡ answer 5 0 0 0
unfolding writing
free_places_saved = refl

-- two texts may share bytes of the pool
overlapping : text_with (text 0 2 3 ∷ text 1 3 3 ∷ []) []
    ≡ written "9 5 2 0 0 t53" ("0 0 0 t416261" ∷ "1 0 0 t626142" ∷ []) []
unfolding writing written
overlapping = refl

-- ---- operands

-- +0 and -0 are told apart
zeros : text_with [] (map (λ (bits : ℕ). equal_to (ConditionalOperand.Literal (float bits))) (0 ∷ 0x8000000000000000 ∷ []))
    ≡ written "9 5 0 0 2 t53" []
    ("0 0 0 0 - 0 0 cellis 2 n0000000000000000 - ff0000" ∷ "0 0 0 0 - 0 0 cellis 2 n8000000000000000 - ff0000" ∷ [])
unfolding writing written
zeros = refl

-- an infinity and a not-a-number are as unread
not_finite : text_with []
    (map equal_to
    (ConditionalOperand.Unread
    ∷ ConditionalOperand.Literal (float infinity)
    ∷ ConditionalOperand.Literal (float 0xfff0000000000000)
    ∷ ConditionalOperand.Literal (float 0x7ff0000000000001)
    ∷ ConditionalOperand.Literal nan
    ∷ []))
    ≡ written "9 5 0 0 5 t53" [] (replicate 5 "0 0 0 0 - 0 0 cellis 2 u - ff0000")
unfolding writing written
not_finite = refl

-- a second operand: a literal, an infinity, and a reference whose name is outside the pool
abbrev seconds : List ConditionalOperand
seconds =
    literal 2 ∷ ConditionalOperand.Literal (float infinity) ∷ relative (Some (span 9 9)) 0 0 ∷ []

abbrev with : DvOp → ConditionalOperand → CfRule
with op second = CfRule.CellIs op (literal 1) second red

-- an operator that does not use it writes `-`, and does not refuse it
unused : text_with [] (map (with DvOp.Equal) seconds)
    ≡ written "9 5 0 0 3 t53" [] (replicate 3 "0 0 0 0 - 0 0 cellis 2 n3ff0000000000000 - ff0000")
unfolding writing written
unused = refl

unused_saved : saved_with [] (map (with DvOp.Equal) seconds) ≡ answer 5 0 0 0
unfolding writing
unused_saved = refl

-- one that uses it refuses the name, which is of the rule 2
used_refused : saved_with [] (map (with DvOp.Between) seconds) ≡ refusal 5 2 5 0
unfolding writing
used_refused = refl

used : text_with [] (map (with DvOp.Between) (literal 2 ∷ ConditionalOperand.Literal (float infinity) ∷ []))
    ≡ written "9 5 0 0 2 t53" []
    ("0 0 0 0 - 0 0 cellis 0 n3ff0000000000000 n4000000000000000 ff0000"
    ∷ "0 0 0 0 - 0 0 cellis 0 n3ff0000000000000 u ff0000"
    ∷ [])
unfolding writing written
used = refl

-- ---- lent bytes

-- as many as the text has, and one less
worked_length : length (text_of 100 (worked 7)) ≡ 294
unfolding writing worked
worked_length = refl

exact : (saved 100 (worked 7) 294 ≡ answer 7 0 0 0) × (saved_length 100 (worked 7) 294 ≡ 294)
    × (saved_bytes 100 (worked 7) 294 ≡ worked_with "100 7 3 3 2 t53")
unfolding writing worked worked_with
exact = (refl, refl, refl)

one_less : (saved 100 (worked 7) 293 ≡ refusal 13 0 7 294) × (saved_length 100 (worked 7) 293 ≡ 0)
    × (saved_bytes 100 (worked 7) 293 ≡ replicate 293 0)
unfolding writing worked
one_less = (refl, refl, refl)

one_more : saved_bytes 100 (worked 7) 295 ≡ worked_with "100 7 3 3 2 t53" ++ (0 ∷ [])
unfolding writing worked worked_with
one_more = refl
