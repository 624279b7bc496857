use Prim.Native.Nat.{◌<◌}
use mathlib.Core.Path.{sym, ap, ◌∙◌}
use native.Mathlib.Omega.{arith}
use lib.ListN.{length}
use borrow.Author.Tests.{leb-true}
use Rattle.hits.specs.Hits.{column_in}
use Rattle.turns.proofs.Bands.{within_band, before_band, in_range_band}
use Rattle.laws.proofs.Covered.{and_true}
use Rattle.call.specs.Tables.{number_named}
use Rattle.call.proofs.Seeking.{stands}
use Rattle.call.proofs.Filling.{filled_from, filled_passed, filled_more}
use Rattle.call.proofs.Meaning.{read_as}
use Rattle.call.proofs.Aiming.{number_aimed, number_standing}
use Rattle.call.proofs.operands.find_referenced.Goals as goal
use Rattle.call.proofs.operands.find_referenced.Goals.{Then-stands_at}

pub loop-i-init : goal.loop-i-init
loop-i-init c =
    filled_from (λ k h. before_band c.requires.band_of.0 c.args.region_cols.now k h)

pub loop-i-preserved-then-not-inside : goal.loop-i-preserved-then-not-inside
unfolding column_in
loop-i-preserved-then-not-inside c =
    filled_passed c.loop-i.invariant
    (within_band c.requires.band_of.0 c.args.region_cols.now _ (omega arith) (omega arith) ∙ c.if-not-inside.true)

pub aimed-at_row-requires : goal.aimed-at_row-requires
aimed-at_row-requires c =
    (c.requires.band_of.0.inside _ (omega arith) (omega arith)).0

pub aimed-at_col-requires : goal.aimed-at_col-requires
aimed-at_col-requires c =
    leb-true _ _ ((and_true _ _).0 (c.if-not-inside.false)).0

in_cells : (c : Then-stands_at)
    → (c.loop-i.next < 1024) × (c.loop-i.next < length c.args.floats.now)
in_cells c =
    let told = (stands c.args.rows.now c.args.cols.now _ _).0 (sym c.stands_at.ensures ∙ c.if-stands_at.true) in
    (omega (arith, told.0, c.requires.cols_value.1), omega (arith, told.0, c.requires.cols_value.2))

pub offset_bounds-floats-next : goal.offset_bounds-floats-next
offset_bounds-floats-next c = omega (arith, (in_cells c).0)

pub bounds-floats-next : goal.bounds-floats-next
bounds-floats-next c = omega (arith, (in_cells (goal.at.bounds-floats-next c).Then-stands_at).1)

pub overflow_add-next : goal.overflow_add-next
overflow_add-next c = omega (arith, (in_cells (goal.at.overflow_add-next c).Then-stands_at).0)

pub loop-i-preserved-then-stands_at : goal.loop-i-preserved-then-stands_at
loop-i-preserved-then-stands_at c =
    filled_more c.loop-i.invariant (omega arith)
    (rw (← c.aimed-at_row.ensures, ← c.aimed-at_col.ensures)
    (number_standing _ _ _ c.requires.cols_value.0 _ _ (sym c.stands_at.ensures ∙ c.if-stands_at.true)))

pub entry_sought-entry-requires : goal.entry_sought-entry-requires
entry_sought-entry-requires c =
    let cells = c.requires.cols_value in
    (cells.0, cells.1, cells.3)

pub loop-i-preserved : goal.loop-i-preserved
loop-i-preserved c =
    filled_more c.loop-i.invariant (omega arith)
    (c.number_named.ensures
    ∙ ap (number_named _) (rw (← c.aimed-at_row.ensures, ← c.aimed-at_col.ensures) c.entry_sought-entry.ensures))

pub returns : goal.returns
returns c kinds wraps nums ats lens pool sheet numbered named i h m =
    read_as _ _ _ _
    (c.loop-i.invariant.filled i (omega (arith, c.requires.band_of.0.ordered, (in_range_band c.requires.band_of.0 c.args.region_cols.now i h m).1)) m
    ∙ number_aimed pool sheet _ _ _ named _ _ numbered c.requires.cols_value.2 (λ k. omega (arith, c.type_inv.rows k))
    (λ k. omega (arith, c.type_inv.cols k)))
