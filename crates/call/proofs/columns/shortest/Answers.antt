-- `call::columns::shortest` meets its contract: the lesser of two, five times. Nothing is asked where it calls. Assumes nothing.
use Prim.Native.Nat.{min}
use mathlib.Core.Path.{ap, ◌∙◌}
use Rattle.call.proofs.columns.shortest.Goals as goal

pub returns : goal.returns
returns c =
    c.lesser-5.ensures ∙ ap (min _) (c.lesser-4.ensures
    ∙ ap (min _) (c.lesser-3.ensures ∙ ap (min _) (c.lesser-2.ensures
    ∙ ap (min _) c.lesser.ensures)))
