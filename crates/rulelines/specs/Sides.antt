-- What stands behind the operator of `cellis` and `expr`, and what its reader answers. Assumes nothing.
use Rattle.std.specs.Prelude.{ℕ, ◌+◌, Bool, List, ◌++◌, length}
use Rattle.model.specs.declared.Rgb.{Rgb}
use Rattle.grammar.specs.Gram.{Gram}
use Rattle.grammar.specs.Parts.{bytes, both}
use Rattle.jobtext.specs.Written.{Operand}
use Rattle.jobtext.specs.Fields.{operand, colour}
use Rattle.jobtext.specs.Rules.{second_if}
use Rattle.jobtext.specs.Laid.{operand_at, operand_bytes}
use Rattle.rulelines.specs.declared.compared.Sides.{Sides}

abbrev pub sides_t : Type 0
sides_t = Operand × (Operand × Rgb)

-- first second fill
unfoldable pub sides : Bool → Gram sides_t
sides uses = both operand (both (second_if uses) (colour (bytes "\n")))

unfoldable pub sides_at : ℕ → sides_t → Sides
sides_at u x =
    record { first = operand_at u x.0; second = operand_at (u + length (operand_bytes x.0)) x.1.0; fill = x.1.1 }

unfoldable pub sides_bytes : sides_t → List ℕ
sides_bytes x = operand_bytes x.0 ++ operand_bytes x.1.0
