-- `a1reader::parse_a1_reference` meets its contract: no reference, a name that is too long, or a reference. Assumes nothing.
use Prim.Native.Nat.{◌≤◌}
use mathlib.Core.Path.{◌≡◌, ap}
use native.Mathlib.Omega.{arith}
use lib.ListN.{length}
use Rattle.a1reader.specs.declared.Word.{Word}
use Rattle.a1reader.specs.Parts.{word_in}
use Rattle.a1reader.proofs.References.{Whole, whole_read, answered_long, answered_read}
use Rattle.a1reader.proofs.parse_a1_reference.Goals as goal
use Rattle.a1reader.proofs.parse_a1_reference.Goals.{After-unwrap_or-word}

whole : (c : After-unwrap_or-word) → Whole c.formula-text.result.now c.in-Some.field-0.sheet c.in-Some.field-0.cell
whole c = whole_read _ c.in-Some.ensures

length_is : (c : After-unwrap_or-word) → c.unwrap_or-word.result.length ≡ (word_in c.in-Some.field-0.sheet).length
length_is c = ap (λ (w : Word). w.length) c.unwrap_or-word.ensures

first_is : (c : After-unwrap_or-word) → c.unwrap_or-word.result.first ≡ (word_in c.in-Some.field-0.sheet).first
first_is c = ap (λ (w : Word). w.first) c.unwrap_or-word.ensures

pub returns-then-name-word : goal.returns-then-name-word
returns-then-name-word c =
    let p = (goal.at.returns-then-name-word c).After-unwrap_or-word in
    let a = answered_long _ c.formula-text.ensures c.args.name.now (whole p) (omega (arith, length_is p, c.if-name-word.true))
    c.clear_from-then-name-word.ensures in
    record { answer = a.answer; name = a.bytes }

pub store_name-requires : goal.store_name-requires
store_name-requires c =
    let p = (goal.at.store_name-requires c).After-unwrap_or-word in
    let n = (whole p).named.part in
    (c.if-name-word.false, omega (arith, length_is p, n.most), omega (arith, first_is p, n.first))

pub sheet_name-requires : goal.sheet_name-requires
sheet_name-requires c = (whole (goal.at.sheet_name-requires c).After-unwrap_or-word).named.part.most

pub returns : goal.returns
returns c =
    let p = (goal.at.returns c).After-unwrap_or-word in
    let fits : (word_in c.in-Some.field-0.sheet).length ≤ length c.args.name.now = omega (arith, length_is p, c.if-name-word.false) in
    let a = answered_read _ c.formula-text.ensures c.args.name.now (whole p) fits
    (rw (length_is p, first_is p) at c.store_name.ensures) (rw (length_is p) at c.clear_from-2.ensures) c.sheet_name.ensures in
    record { answer = a.answer; name = a.bytes }
