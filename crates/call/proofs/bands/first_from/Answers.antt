-- `call::bands::first_from` meets its contract: where rows rise, those above a row stand before the others. Assumes nothing.
use Rattle.std.proofs.Common.{ℕ, ltb, ltb-true, ltb-false, arith, rules}
use Rattle.std.proofs.lemmas.List.Sorted.{IsNonDecreasingBy-from_default, IsPartitionedBy-ltb, IsPartitionPoint-from_clause}
use Rattle.call.proofs.bands.first_from.Goals as goal

pub returns : goal.returns
returns c =
    let rows = c.args.rows.now in
    let row = c.args.row in
    let parted = IsPartitionedBy-ltb (λ (x : ℕ). x) rows row (IsNonDecreasingBy-from_default (λ (x : ℕ). x) rows 0 c.requires) in
    let point = IsPartitionPoint-from_clause (λ (x : ℕ). ltb x row) rows _ c.partition_point.ensures.partitioned parted
    (λ a r q k. search rules) in
    record {
      before = λ i h. ltb-true _ _ (point.0 i 0 (omega arith) h);
      after = λ i a b. ltb-false _ _ (point.1 i 0 a b);
      within = c.partition_point.ensures.bound;
    }
