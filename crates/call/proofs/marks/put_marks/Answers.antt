-- `call::marks::put_marks` meets its contract: each column by itself. Assumes nothing.
use mathlib.Core.Path.{sym, ap, ◌∙◌}
use lib.ListN.{length, replicate}
use lib.Seq.{sets}
use Rattle.turns.proofs.Hits.{put_hits}
use Rattle.call.proofs.marks.put_marks.Goals as goal

pub returns : goal.returns
returns c =
    let a = c.args in
    let alike = c.put_same-2.ensures
    ∙ ap (λ k. sets a.kinds.now a.n (replicate (length a.hits.now) k)) c.kind_by.ensures in
    (λ i. record {
      regions = c.put_regions.ensures i;
      rules = c.put_same.ensures i;
      kinds = alike i;
      colours = c.put_colours.ensures i;
      ppms = c.put_ppms.ensures i;
      shapes = c.put_shapes.ensures i;
    })
    ∙ sym (put_hits a.test a.imported a.values.now a.rule _ _ _ _ _ _ a.n a.hits.now)
