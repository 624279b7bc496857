-- `rulelines::read_rules` meets its contract, case by case. Assumes nothing.
use mathlib.Core.Path.{refl, ap, ◌∙◌}
use Prim.Native.Nat.{ℕ}
use lib.ListN.{replicate}
use borrow.Author.Tests.{not-true, not-false}
use Rattle.rulelines.proofs.RuleSections.{no_room, lines_room, lines_read, lines_over, lines_stopped}
use Rattle.rulelines.proofs.read_rules.Goals as goal

pub returns-then-not-has_room : goal.returns-then-not-has_room
returns-then-not-has_room c =
    let told = no_room _ _ _ _ c.args.pool.now c.has_room.ensures c.if-not-has_room.true (c.fill.ensures.after (λ y h. h)) in
    record { value = told.0; pool_after = told.1 }

pub read_rule_lines-requires : goal.read_rule_lines-requires
read_rule_lines-requires c = lines_room _ _ _ _ c.has_room.ensures c.if-not-has_room.false

pub returns-then-not-section : goal.returns-then-not-section
returns-then-not-section c =
    let told = lines_over _ _ _ _ c.args.pool.now c.has_room.ensures c.if-not-has_room.false c.in-Ok.ensures.value refl (not-true _ c.if-not-section.true)
    (c.fill-then-not-section.ensures.after (λ y h. h) ∙ ap (λ (n : ℕ). replicate n 0) c.read_rule_lines.auto.pool) in
    record { value = told.0; pool_after = told.1 }

pub returns-else-not-section : goal.returns-else-not-section
returns-else-not-section c =
    let told = lines_read _ _ _ _ c.args.pool.now c.has_room.ensures c.if-not-has_room.false c.in-Ok.ensures.value _ refl (not-false _ c.if-not-section.false)
    c.read_rule_lines.ensures.pooled in
    record { value = told.0; pool_after = told.1 }

pub returns-in-Err : goal.returns-in-Err
returns-in-Err c =
    let told = lines_stopped _ _ _ _ c.args.pool.now c.has_room.ensures c.if-not-has_room.false c.in-Err.ensures.value refl
    (c.fill-in-Err.ensures.after (λ y h. h) ∙ ap (λ (n : ℕ). replicate n 0) c.read_rule_lines.auto.pool) in
    record { value = told.0; pool_after = told.1 }
