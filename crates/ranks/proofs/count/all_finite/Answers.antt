use Rattle.std.proofs.Common.{ℕ, ◌+◌, eqb, length, sym, ap, ◌∙◌}
use Rattle.std.proofs.lemmas.List.{take_all}
use Rattle.std.proofs.lemmas.List.Sums.{count_by_more_yes, count_by_more_no}
use lib.Ieee.{nan, of_bits, div, neg}
use Rattle.ranks.proofs.Finite.{bounded, finite_counted}
use Rattle.ranks.proofs.count.all_finite.Goals as goal
use Rattle.ranks.proofs.count.all_finite.Goals.{else-x, then-x}

pub loop-x-preserved : goal.loop-x-preserved
unfolding of_bits div neg
loop-x-preserved c =
    let l = c.loop-x in
    let xs = c.args.values.now in
    elim c.if-x.branch [
      | then-x w ↦ w.count-is ∙ ap (λ (n : ℕ). n + 1) l.invariant
          ∙ sym (count_by_more_yes bounded xs l.x-index nan c.loop-x-test.true w.if-x.true)
      | else-x w ↦ w.count-is ∙ l.invariant ∙ sym (count_by_more_no bounded xs l.x-index nan c.loop-x-test.true w.if-x.false)
    ]

pub returns : goal.returns
returns c =
    let xs = c.args.values.now in
    let all = rw (take_all c.loop-x.x-index xs c.loop-x-test.false) at c.loop-x.invariant in
    ap (λ (n : ℕ). eqb n (length xs)) all ∙ finite_counted xs
