-- `headlines::read_head` meets its contract, part by part. Assumes nothing.
use mathlib.Core.Path.{◌∙◌}
use Rattle.fields.proofs.Laws.{error_left}
use Rattle.grammar.specs.Parts.{bytes}
use Rattle.headlines.proofs.Heads.{no_names, no_numbers, no_mark, no_name, head_answer}
use Rattle.headlines.proofs.read_head.Goals as goal

pub returns-in_err-names : goal.returns-in_err-names
unfolding bytes
returns-in_err-names c =
    let told = no_names _ _ c.args.pool.now (c.fill.ensures.after (λ y h. h)) c.in_err-names.ensures in
    record { value = error_left c.from_residual.result c.from_residual.ensures.1 ∙ told.0; pool_after = told.1 }

pub returns-in_err-counts : goal.returns-in_err-counts
unfolding bytes
returns-in_err-counts c =
    let told = no_numbers _ _ c.args.pool.now (c.fill.ensures.after (λ y h. h)) c.in_ok-names.ensures c.in_err-counts.ensures in
    record { value = error_left c.from_residual-in_err-counts.result c.from_residual-in_err-counts.ensures.1 ∙ told.0; pool_after = told.1 }

pub returns-in_err-mark : goal.returns-in_err-mark
unfolding bytes
returns-in_err-mark c =
    let told = no_mark _ _ c.args.pool.now (c.fill.ensures.after (λ y h. h)) c.in_ok-names.ensures c.in_ok-counts.ensures c.in_err-mark.ensures in
    record { value = error_left c.from_residual-in_err-mark.result c.from_residual-in_err-mark.ensures.1 ∙ told.0; pool_after = told.1 }

pub returns-in_err-name : goal.returns-in_err-name
unfolding bytes
returns-in_err-name c =
    let told = no_name _ _ c.args.pool.now (c.fill.ensures.after (λ y h. h)) c.in_ok-names.ensures c.in_ok-counts.ensures c.in_ok-mark.ensures c.text.ensures.pool_after c.in_err-name.ensures.value in
    record { value = error_left c.from_residual-in_err-name.result c.from_residual-in_err-name.ensures.1 ∙ told.0; pool_after = told.1 }

pub returns : goal.returns
unfolding bytes
returns c =
    let told = head_answer _ _ c.args.pool.now (c.fill.ensures.after (λ y h. h)) c.in_ok-names.ensures c.in_ok-counts.ensures c.in_ok-mark.ensures
    c.text.ensures.pool_after c.in_ok-name.ensures.value in
    record { value = told.0; pool_after = told.1 }
