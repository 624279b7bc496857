-- `places::walk_cells` meets its contract: the cleared table is left where it is not fit, and else filled by the walk. Assumes nothing.
use Rattle.std.specs.Prelude.{Some}
use Prim.Native.Nat.{ℕ}
use mathlib.Core.Path.{◌≡◌, sym, ap, ◌∙◌}
use lib.ListN.{length, replicate}
use Rattle.places.proofs.Table.{fits_both, walked_refused, table_refused, walked_compared, table_compared}
use Rattle.places.proofs.walk_cells.Goals as goal
use Rattle.places.proofs.walk_cells.Goals.{After-fill}

cleared : (c : After-fill) → c.fill.new.self ≡ replicate {A = ℕ} (length c.args.places.now) 0
cleared c = c.fill.ensures.after (λ y h. h)

pub returns-then-not-walk_fits : goal.returns-then-not-walk_fits
returns-then-not-walk_fits c =
    let unfit = rw c.fill.auto.self at (sym c.walk_fits.ensures ∙ c.if-not-walk_fits.true) in record {
      comparisons = sym (walked_refused _ _ _ _ _ unfit);
      places = cleared (goal.at.returns-then-not-walk_fits c).After-fill ∙ sym (table_refused _ _ _ _ _ unfit);
    }

pub follow-requires : goal.follow-requires
follow-requires c =
    let a = c.args in
    let room = length c.fill.new.self in
    let kept = fits_both (length a.rows.now) (length a.region_rows.now) room (sym c.walk_fits.ensures ∙ c.if-not-walk_fits.false) in
    (kept.0, kept.1, cleared (goal.at.follow-requires c).After-fill ∙ ap (λ n. replicate {A = ℕ} n 0) (sym c.fill.auto.self))

pub returns : goal.returns
returns c =
    let fit = rw c.fill.auto.self at (sym c.walk_fits.ensures ∙ c.if-not-walk_fits.false) in record {
      comparisons = ap Some c.follow.ensures.comparisons ∙ sym (walked_compared _ _ _ _ _ fit);
      places = rw c.fill.auto.self at c.follow.ensures.places ∙ sym (table_compared _ _ _ _ _ fit);
    }
