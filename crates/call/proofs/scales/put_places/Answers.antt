-- `call::scales::put_places` meets its contract: a half is flat, or neither is. Assumes nothing.
use Prim.Native.Nat.{ℕ, ◌+◌}
use mathlib.Core.Path.{◌≡◌, ap, ◌∙◌}
use mathlib.Core.Bool.{cond, not}
use lib.Ieee.{Float, binary64, nan, le, sub}
use lib.ListN.{get_or}
use borrow.Author.Rules.{rules}
use Rattle.model.specs.Ratio.{ratio}
use Rattle.ratio.specs.Spanned.{spanned}
use Rattle.ratio.proofs.Held.{among_spanned}
use Rattle.call.proofs.Aiming.{neither}
use Rattle.call.proofs.scales.put_places.Goals as goal

pub returns : goal.returns
returns c =
    let a = c.args in
    let rise = neither _ _ (ap not c.if-midpoint-least.false) in
    let x : ℕ → Float = λ h. get_or a.values.now h nan in
    c.put_each-2.ensures (λ h. cond (le (x h) a.midpoint) (ratio (x h) a.least a.midpoint) (1_000_000 + ratio (x h) a.midpoint a.greatest))
    (λ k d inside r p.
    let h = get_or a.hits.now k d in
    let e : r ≡ cond (le (x h) a.midpoint) (spanned (x h) a.least (sub binary64 a.midpoint a.least))
    (1_000_000 + spanned (x h) a.midpoint (sub binary64 a.greatest a.midpoint)) = search rules in
    e ∙ among_spanned (x h) a.least a.midpoint a.greatest rise.0 rise.1)
