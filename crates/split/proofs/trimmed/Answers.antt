-- `trimmed` meets its contract: the end of what is left when the start is trimmed. Assumes nothing.
use Prim.Native.Nat.{ℕ}
use mathlib.Core.Path.{sym, ap, ◌∙◌}
use mathlib.Core.List.{List, reverse}
use lib.Seq.{length-take-le}
use Rattle.model.specs.Split.{drop_blanks, trimmed}
use Rattle.split.proofs.trimmed.Goals as goal

pub slice_bounds-result-end : goal.slice_bounds-result-end
slice_bounds-result-end c = sym (length-take-le _ _ c.last_kept-end.ensures.within)

pub returns : goal.returns
unfolding trimmed
returns c =
    c.last_kept-end.ensures.kept
    ∙ ap (λ (l : List ℕ). reverse (drop_blanks (reverse l)))
    (c.from-rest.ensures ∙ c.first_kept.ensures)
