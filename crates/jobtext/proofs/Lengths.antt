-- What goes to the pool is at most half as long as the text that it is read from, and a column of places has one for each cell.
-- Assumes nothing.
use Prim.Native.Nat.{ℕ, zero, suc, ◌+◌, ◌*◌, ◌≤◌}
use mathlib.Core.Path.{◌≡◌, refl, ap}
use mathlib.Core.List.{List, [], ◌∷◌}
use mathlib.Core.Bool.{Bool, true, false}
use mathlib.Core.Option.{Option, none, some}
use native.Mathlib.Omega.{arith}
use lib.ListN.{length, length-append}
use Rattle.model.specs.declared.ConditionalComparison.{ConditionalComparison}
use Rattle.model.specs.declared.DvOp.{DvOp}
use Rattle.model.specs.declared.Rgb.{Rgb}
use Rattle.model.specs.Comparison.{uses_second}
use Rattle.grammar.specs.Parts.{bytes, times_text, times_ok}
use Rattle.grammar.proofs.Pairs.{length_pairs}
use Rattle.jobtext.specs.Written.{Value, CellLine, Reference, Operand, Kind, RuleLine}
use Rattle.jobtext.specs.Fields.{text_field, value, reference_name, reference, operand}
use Rattle.jobtext.specs.Rules.{second_if, cell_is, expr, kind, rule_line}
use Rattle.jobtext.specs.Text.{cell_line}
use Rattle.jobtext.specs.Laid.{ats_from, value_bytes, cell_bytes, name_bytes, operand_bytes, kind_bytes, rule_bytes}

value_half : (v : Value) → length (value_bytes v) * 2 ≤ length (value.text v)
unfolding value value_bytes bytes
value_half (Value.number bits) = omega arith
value_half (Value.date bits) = omega arith
value_half (Value.text bs) = let h = length_pairs bs in simp length-append (omega arith)
value_half (Value.bool b) = omega arith
value_half Value.error = omega arith

pub value_length : (v : Value) → length (value_bytes v) ≤ length (value.text v)
value_length v = let h = value_half v in omega arith

pub cell_half : (c : CellLine) → length (value_bytes c.value) * 2 ≤ length (cell_line.text c)
unfolding cell_line
cell_half c = let h = value_half c.value in simp length-append (omega arith)

pub cell_length : (c : CellLine) → length (value_bytes c.value) ≤ length (cell_line.text c)
cell_length c = let h = cell_half c in omega arith

name_half : (n : Option (List ℕ)) → length (name_bytes n) * 2 ≤ length (reference_name.text n)
unfolding reference_name text_field name_bytes bytes
name_half none = omega arith
name_half (some bs) = let h = length_pairs bs in simp length-append (omega arith)

reference_half : (r : Reference) → length (name_bytes r.name) * 2 ≤ length (reference.text r)
unfolding reference
reference_half r = let h = name_half r.name in simp length-append (omega arith)

operand_half : (o : Operand) → length (operand_bytes o) * 2 ≤ length (operand.text o)
unfolding operand operand_bytes bytes
operand_half (Operand.literal bits) = omega arith
operand_half (Operand.reference r) = let h = reference_half r in omega arith
operand_half Operand.unread = omega arith

pub operand_length : (o : Operand) → length (operand_bytes o) ≤ length (operand.text o)
operand_length o = let h = operand_half o in omega arith

second_half : (b : Bool) (o : Operand) → (second_if b).Ok o → length (operand_bytes o) * 2 ≤ length ((second_if b).text o)
unfolding operand_bytes
second_half true o h = operand_half o
second_half false o h = rw h (omega arith)

cell_is_half : (op : DvOp) (first second : Operand) (fill : Rgb) → cell_is.Ok (op, (first, (second, fill)))
    → (length (operand_bytes first) + length (operand_bytes second)) * 2 ≤ length (cell_is.text (op, (first, (second, fill))))
unfolding cell_is
cell_is_half op first second fill o =
    let a = operand_half first in
    let b = second_half (uses_second op) second o.1.1.0 in
    simp length-append (omega arith)

expr_half : (op : ConditionalComparison) (left right : Operand) (fill : Rgb)
    → (length (operand_bytes left) + length (operand_bytes right)) * 2 ≤ length (expr.text (op, (left, (right, fill))))
unfolding expr
expr_half op left right fill =
    let a = operand_half left in
    let b = operand_half right in
    simp length-append (omega arith)

kind_half : (k : Kind) → kind.Ok k → length (kind_bytes k) * 2 ≤ length (kind.text k)
unfolding kind kind_bytes
kind_half (Kind.cell_is op first second fill) o = let h = cell_is_half op first second fill o in simp length-append (omega arith)
kind_half (Kind.scale2 min max) o = omega arith
kind_half (Kind.scale3 min mid max) o = omega arith
kind_half (Kind.bar colour) o = omega arith
kind_half (Kind.rank number bottom percent fill) o = omega arith
kind_half (Kind.mean below fill) o = omega arith
kind_half (Kind.same unique fill) o = omega arith
kind_half (Kind.expr op left right fill) o = let h = expr_half op left right fill in simp length-append (omega arith)

pub kind_length : (k : Kind) → kind.Ok k → length (kind_bytes k) ≤ length (kind.text k)
kind_length k o = let h = kind_half k o in omega arith

pub rule_half : (r : RuleLine) → rule_line.Ok r → length (kind_bytes r.kind) * 2 ≤ length (rule_line.text r)
unfolding rule_line
rule_half r o = let h = kind_half r.kind o.1.1.1.1.1.1.1 in simp length-append (omega arith)

pub rule_length : (r : RuleLine) → rule_line.Ok r → length (kind_bytes r.kind) ≤ length (rule_line.text r)
rule_length r o = let h = rule_half r o in omega arith

-- ---- sections

pub cells_half : (cs : List CellLine) → length (cell_bytes cs) * 2 ≤ length (times_text cell_line.text cs)
unfolding cell_bytes times_text
cells_half [] = omega arith
cells_half (c ∷ cs) = let a = cell_half c in let b = cells_half cs in simp length-append (omega arith)

pub rules_half : (n : ℕ) (rs : List RuleLine) → times_ok rule_line.Ok n rs
    → length (rule_bytes rs) * 2 ≤ length (times_text rule_line.text rs)
unfolding rule_bytes times_text
rules_half zero [] o = omega arith
rules_half (suc n) [] o = absurd o
rules_half zero (r ∷ rs) o = absurd o
rules_half (suc n) (r ∷ rs) o = let a = rule_half r o.0 in let b = rules_half n rs o.1 in simp length-append (omega arith)

-- ---- columns

pub ats_length : (u : ℕ) (cs : List CellLine) → length (ats_from u cs) ≡ length cs
unfolding ats_from
ats_length u [] = refl
ats_length u (c ∷ cs) = ap suc (ats_length (u + length (value_bytes c.value)) cs)
