-- `reader::read_tail` meets its contract, part by part. Assumes nothing.
use Rattle.fields.proofs.Laws.{error_left}
use Rattle.reader.proofs.Tails.{no_region_names, no_regions, no_rule_names, tail_answer}
use Rattle.reader.proofs.read_tail.Goals as goal

pub returns-in_err-names : goal.returns-in_err-names
returns-in_err-names c =
    no_region_names _ _ _ _ _ _ _ _ c.from_residual.result _ _ _ c.in_err-names.ensures
    (error_left c.from_residual.result c.from_residual.ensures.1)

pub returns-in_err-section : goal.returns-in_err-section
returns-in_err-section c =
    no_regions _ _ _ _ _ _ _ _ c.in_ok-names.ensures c.from_residual-in_err-section.result _ _ _ c.in_err-section.ensures.value
    (error_left c.from_residual-in_err-section.result c.from_residual-in_err-section.ensures.1)

pub returns-in_err-rule_names : goal.returns-in_err-rule_names
returns-in_err-rule_names c =
    no_rule_names _ _ _ _ _ _ _ _ c.in_ok-names.ensures c.in_ok-section.ensures.value c.from_residual-in_err-rule_names.result _ _ _
    c.in_err-rule_names.ensures
    (error_left c.from_residual-in_err-rule_names.result c.from_residual-in_err-rule_names.ensures.1)

pub returns : goal.returns
returns c =
    let columns = c.read_regions.ensures.rows_after in
    tail_answer _ _ _ _ _ _ _ _ c.in_ok-names.ensures c.in_ok-section.ensures.value c.in_ok-rule_names.ensures c.requires.0 c.requires.1
    columns.0 columns.1 c.read_rules.ensures.value c.read_rules.ensures.pool_after
