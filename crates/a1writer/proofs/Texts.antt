-- The texts of a reference's parts, each as the pieces in which it is put. Assumes nothing.
use Prim.Native.Nat.{ℕ, ◌+◌, ◌-◌, ◌/◌, ◌%◌, ◌≤◌, ◌<◌}
use native.Mathlib.Omega.{arith}
use mathlib.Core.Path.{◌≡◌, ◌∙◌}
use mathlib.Core.Bool.{true, false}
use mathlib.Core.List.{List, [], ◌∷◌, ◌++◌, append_assoc}
use mathlib.Core.Option.{some}
use Rattle.model.specs.declared.A1Reference.{A1Reference}
use Rattle.grammar.specs.Parts.{bytes}
use Rattle.grammar.specs.Numbers.{decimal_text}
use Rattle.jobtext.specs.Said.{name_said, reference_said}
use Rattle.a1text.specs.Names.{is_bare, doubled, name_text}
use Rattle.a1text.specs.Columns.{column_text, mark_text}
use Rattle.a1text.specs.Spelling.{spelling}
use Rattle.a1text.specs.A1.{name_spelled, spelled, a1}
use Rattle.a1text.proofs.Columns.{two_letters, three_letters}

-- ---- names

module _ (bs : List ℕ) where
  pub name_bare : is_bare bs ≡ true → name_text (name_spelled (some bs)) ≡ bs ++ bytes "!"
  unfolding name_text name_spelled
  name_bare e = rw e

  pub name_quoted : is_bare bs ≡ false → name_text (name_spelled (some bs)) ≡ (bytes "'" ++ doubled bs) ++ bytes "'!"
  unfolding name_text name_spelled
  name_quoted e = rw (e, append_assoc)

-- ---- columns

module _ (n : ℕ) (g : 26 ≤ n) where
  pub column_two : n / 26 - 1 < 26 → column_text n ≡ (65 + (n / 26 - 1)) ∷ (65 + n % 26) ∷ []
  column_two h =
      let e : 64 + n / 26 ≡ 65 + (n / 26 - 1) = omega arith in
      two_letters n g (omega arith) ∙ rw e

  pub column_three : 26 ≤ n / 26 - 1
      → column_text n ≡ (64 + (n / 26 - 1) / 26) ∷ (65 + (n / 26 - 1) % 26) ∷ (65 + n % 26) ∷ []
  column_three h = three_letters n (omega arith)

-- ---- the reference

pub reference_text : (pool : List ℕ) (r : A1Reference) → a1.text (reference_said pool r)
    ≡ (((name_text (name_spelled (name_said pool r.sheet)) ++ mark_text r.col_absolute) ++ column_text r.col)
    ++ mark_text r.row_absolute)
    ++ decimal_text (r.row + 1)
unfolding spelling spelled reference_said
reference_text pool r = simp append_assoc
