-- `reader::read_body` meets its contract, part by part. Assumes nothing.
use Rattle.fields.proofs.Laws.{error_left}
use Rattle.reader.proofs.Sections.{no_cell_names, no_cells, tail_room, body_answer}
use Rattle.reader.proofs.read_body.Goals as goal

pub returns-in_err-names : goal.returns-in_err-names
returns-in_err-names c =
    no_cell_names _ _ _ _ _ _ _ c.from_residual.result _ c.in_err-names.ensures
    (error_left c.from_residual.result c.from_residual.ensures.1)

pub returns-in_err-section : goal.returns-in_err-section
returns-in_err-section c =
    no_cells _ _ _ _ _ _ _ c.in_ok-names.ensures c.requires.0 c.from_residual-in_err-section.result _ c.in_err-section.ensures.value
    (error_left c.from_residual-in_err-section.result c.from_residual-in_err-section.ensures.1)

pub read_tail-requires : goal.read_tail-requires
read_tail-requires c =
    (tail_room _ _ _ _ _ _ c.in_ok-names.ensures c.requires.0 c.in_ok-section.ensures.value, c.requires.1)

pub returns : goal.returns
returns c =
    let left = c.read_cells.ensures.lens_after in
    body_answer _ _ _ _ _ _ _ c.in_ok-names.ensures c.requires.0 _ _ _ _ c.in_ok-section.ensures.value left.0 left.1 c.read_tail.ensures
