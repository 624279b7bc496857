-- The definitions computed, on bytes one short, exact and longer than the name; and without a reference or a name. Assumes nothing.
use Rattle.a1reader.specs.declared.ReadError.{ReadError}
use Rattle.std.specs.Prelude.{Ok, Err, Some}
use mathlib.Core.Path.{◌≡◌, refl}
use mathlib.Core.Bool.{true, false}
use mathlib.Core.List.{[], ◌∷◌}
use mathlib.Core.Option.{Option, none, some}
use Rattle.memory.specs.Memory.{all_or, page}
use Rattle.model.specs.declared.A1Reference.{A1Reference}
use Rattle.model.specs.Answer.{refusal}
use Rattle.jobtext.specs.Written.{Reference}
use Rattle.jobtext.specs.Laid.{name_bytes, name_at, reference_at}
use Rattle.a1reader.specs.Answers.{read_answer, read_bytes, summary_of}

-- the cell $C4 of the sheet Ab
abbrev read : Option Reference
read = some (record { row = 3; col = 2; row_absolute = false; col_absolute = true; name = some (65 ∷ 98 ∷ []) })

-- the same as it is handed on
abbrev handed : A1Reference
handed =
    record { sheet = Some (record { at = 0; len = 2 }); row = 3; col = 2; row_absolute = false; col_absolute = true }

short : (read_answer read 1 ≡ Err ReadError.NameTooLong) × (read_bytes read 1 ≡ 0 ∷ [])
unfolding all_or page name_bytes read_answer read_bytes
short = (refl, refl)

exact : (read_answer read 2 ≡ Ok handed) × (read_bytes read 2 ≡ 65 ∷ 98 ∷ [])
unfolding all_or page name_bytes name_at reference_at read_answer read_bytes
exact = (refl, refl)

longer : (read_answer read 3 ≡ Ok handed) × (read_bytes read 3 ≡ 65 ∷ 98 ∷ 0 ∷ [])
unfolding all_or page name_bytes name_at reference_at read_answer read_bytes
longer = (refl, refl)

no_reference : (read_answer none 2 ≡ Err ReadError.NoReference) × (read_bytes none 2 ≡ 0 ∷ 0 ∷ [])
unfolding read_answer read_bytes
no_reference = (refl, refl)

-- without a name no bytes are needed, and those that are lent become 0
nameless : read_bytes (some (record { row = 0; col = 0; row_absolute = false; col_absolute = false; name = none })) 2 ≡ 0 ∷ 0 ∷ []
unfolding all_or page name_bytes read_bytes
nameless = refl

numbers : (summary_of (Err ReadError.NoReference) ≡ refusal 14 0 0 0) × (summary_of (Err ReadError.NameTooLong) ≡ refusal 15 0 0 0)
unfolding summary_of
numbers = (refl, refl)
