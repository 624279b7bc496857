-- `call::scales::put_some3` meets its contract: the places of the regions, and of those the colours. Assumes nothing.
use Prim.Native.Nat.{ℕ, ◌+◌, ◌-◌, ◌≤◌, min}
use mathlib.Core.Path.{refl, sym, ap, ◌∙◌}
use mathlib.Core.Bool.{cond}
use mathlib.Core.List.{map}
use lib.Dec.{leb}
use lib.Ieee.{nan, le}
use lib.ListN.{length, get_or, take}
use lib.Seq.{sets, length-take-le}
use Rattle.model.specs.Ratio.{ratio, interpolate_rgb, packed}
use Rattle.call.proofs.Scaling.{three}
use Rattle.call.proofs.Putting.{in_two}
use native.Mathlib.Omega.{arith}
use Rattle.call.proofs.scales.put_some3.Goals as goal

pub slice_bounds-put_blends_among-end : goal.slice_bounds-put_blends_among-end
slice_bounds-put_blends_among-end c = sym (length-take-le _ _ ((omega arith)))

pub returns : goal.returns
returns c =
    let a = c.args in
    let xs = a.values.now in
    let long : length a.hits.now ≤ 64 = c.requires.hits_len_bound in
    let at : ℕ → ℕ = λ p. packed (cond (leb p 1_000_000) (interpolate_rgb a.first a.middle p)
    (interpolate_rgb a.middle a.last (min (p - 1_000_000) 1_000_000))) in
    c.put_blends_among.ensures
    ∙ ap (sets a.column.now a.n)
    (ap (λ z. map at (take (length a.hits.now) z)) c.put_places.ensures
    ∙ in_two at (λ h. cond (le (get_or xs h nan) a.midpoint) (ratio (get_or xs h nan) a.least a.midpoint)
    (1_000_000 + ratio (get_or xs h nan) a.midpoint a.greatest))
    (λ h. packed (cond (le (get_or xs h nan) a.midpoint)
    (interpolate_rgb a.first a.middle (ratio (get_or xs h nan) a.least a.midpoint))
    (interpolate_rgb a.middle a.last (ratio (get_or xs h nan) a.midpoint a.greatest)))) _ a.hits.now refl long
    (λ h. three a.first a.middle a.last (get_or xs h nan) a.least a.midpoint a.greatest))
