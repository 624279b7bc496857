-- `call::scales::put_some2` meets its contract: the ratios of the regions, and of those the colours. Assumes nothing.
use Prim.Native.Nat.{◌≤◌, min}
use mathlib.Core.Path.{refl, sym, ap, ◌∙◌}
use mathlib.Core.List.{map}
use lib.Ieee.{nan}
use lib.ListN.{length, get_or, take}
use lib.Seq.{sets, length-take-le}
use Rattle.model.specs.Ratio.{ratio, interpolate_rgb, packed}
use Rattle.call.proofs.Scaling.{two}
use Rattle.call.proofs.Putting.{in_two}
use native.Mathlib.Omega.{arith}
use Rattle.call.proofs.scales.put_some2.Goals as goal

pub slice_bounds-put_blends-end : goal.slice_bounds-put_blends-end
slice_bounds-put_blends-end c = sym (length-take-le _ _ ((omega arith)))

pub returns : goal.returns
returns c =
    let a = c.args in
    let xs = a.values.now in
    let long : length a.hits.now ≤ 64 = c.requires.hits_len_bound in
    c.put_blends.ensures
    ∙ ap (sets a.column.now a.n)
    (ap (λ z. map (λ p. packed (interpolate_rgb a.first a.last (min p 1_000_000))) (take (length a.hits.now) z))
    c.put_ratios.ensures
    ∙ in_two (λ p. packed (interpolate_rgb a.first a.last (min p 1_000_000))) (λ h. ratio (get_or xs h nan) a.least a.greatest)
    (λ h. packed (interpolate_rgb a.first a.last (ratio (get_or xs h nan) a.least a.greatest))) _ a.hits.now refl long
    (λ h. two a.first a.last (get_or xs h nan) a.least a.greatest))
