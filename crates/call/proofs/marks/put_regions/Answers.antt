-- `call::marks::put_regions` meets its contract. Assumes nothing.
use mathlib.Core.Path.{ap, ◌∙◌}
use lib.Seq.{sets}
use Rattle.std.proofs.Common.{ℕ, rules}
use Rattle.std.proofs.lemmas.List.{map-id}
use Rattle.call.proofs.marks.put_regions.Goals as goal

pub returns : goal.returns
returns c =
    c.put_each.ensures (λ (h : ℕ). h) (λ k d inside r p. search rules)
    ∙ ap (sets c.args.column.now c.args.n) (map-id c.args.hits.now)
