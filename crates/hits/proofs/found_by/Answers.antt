-- `hits::found_by` meets its contract: where a region leaves the test unresolved, the memory is cleared and the region is told; else the
-- chosen ones are kept. Assumes nothing.
use native.Mathlib.Omega.{arith}
use mathlib.Core.Path.{sym, ap, ◌∙◌}
use mathlib.Core.Bool.{true}
use lib.ListN.{length}
use Rattle.memory.specs.Memory.{page_of}
use Rattle.hits.specs.Chosen.{stands}
use Rattle.hits.proofs.Bytes.{byte_few}
use Rattle.hits.proofs.Hitting.{hits_told, none_told, first_told}
use Rattle.hits.proofs.Finding.{found_unresolved, page_unresolved, found_resolved, hits_resolved}
use Rattle.hits.proofs.found_by.Goals as goal

pub returns-in-Some : goal.returns-in-Some
returns-in-Some c =
    let first = c.in-Some.ensures in
    let a = c.args in record {
      found = λ os tells.
          let some = first_told tells a.from c.in-Some.first first.0 first.1 first.2 in
          found_unresolved _ os some.0 some.1;
      hits = λ os tells.
          let some = first_told tells a.from c.in-Some.first first.0 first.1 first.2 in
          c.fill.ensures.after (λ y h. h) ∙ page_unresolved _ os (length a.hits.now) some.0;
    }

pub keep-count-requires : goal.keep-count-requires
keep-count-requires c =
    let chosen = c.choose in
    let kept = chosen.auto.said in
    let a = c.args in
    let pre = c.requires in (
      λ i h. byte_few (stands 1 a.range a.flags.now a.cols.now a.said.now i) (chosen.ensures i (omega (arith, kept))),
      omega (arith, kept, pre.0),
      omega (arith, kept, pre.1),
    )

pub returns : goal.returns
returns c =
    let kept = c.keep-count in
    let chosen = c.choose in
    let a = c.args in record {
      found = λ os tells.
          let none = none_told tells a.from (length a.said.now) (omega arith) c.in_default.ensures in
          let hits = hits_told tells a.from _ chosen.auto.said chosen.ensures in
          found_resolved _ os none.0 (kept.ensures.count ∙ ap length (sym hits));
      hits = λ os tells.
          let none = none_told tells a.from (length a.said.now) (omega arith) c.in_default.ensures in
          let hits = hits_told tells a.from _ chosen.auto.said chosen.ensures in
          kept.ensures.hits ∙ ap (page_of true (length a.hits.now)) (sym hits ∙ hits_resolved _ os none.0);
    }
