-- The definitions that a computed example of saving opens, so that each example names one thing. Assumes nothing.
use Rattle.memory.specs.Memory as Memory
use Rattle.model.proofs.Computing.{jobs}
use Rattle.model.proofs.Samples.{samples}
use Rattle.jobtext.specs.Said as Said
use Rattle.jobtext.proofs.Computing.{reading}
use Rattle.jobtext.proofs.WorkedText.{lines}
use Rattle.savedtext.specs.Saved as Saved

unfoldable pub writing : Unit {0}
unfolding jobs samples reading lines Memory.all_or Memory.page
    Said.value_said Said.cell_said Said.cells_said Said.name_said Said.reference_said Said.literal_said Said.operand_said Said.kind_said
    Said.rule_said Said.job_said
    Saved.text_of Saved.too_long_for Saved.fitted Saved.saved Saved.is_saved Saved.saved_length Saved.saved_bytes
writing = tt
