-- Each claim of specs/WholeJobs.antt, held. Assumes nothing.
use Prim.Native.Nat.{ℕ, ◌-◌, ◌≤◌}
use native.Mathlib.Omega.{arith}
use mathlib.Core.Path.{◌≡◌, ap, ◌∙◌}
use mathlib.Core.List.{List}
use lib.ListN.{length, take, replicate}
use lib.Seq.{take-append_seam}
use Rattle.memory.specs.Memory.{page, page_length}
use Rattle.memory.proofs.Laws.{text_fits}
use Rattle.reporttext.specs.Reports.{report_on}
use Rattle.whole.proofs.Longest.{whole_longest}
use Rattle.claims.specs.WholeJobs.{NothingAskedOfTexts, Printed, AlwaysWhole, RatioGiven, ChannelGiven}

-- ---- the calls

pub nothing_asked_of_texts : NothingAskedOfTexts
nothing_asked_of_texts κs a = tt

pub printed : Printed
printed l text before after r e = (e.0, e.1)

-- a text that fits
pub fits : (n : ℕ) (ts : List ℕ) → length ts ≤ n → (page_length n ts ≡ length ts) × (take (length ts) (page n ts) ≡ ts)
fits n ts h =
    let all = text_fits n ts h in
    (all.0, ap (take (length ts)) all.1 ∙ take-append_seam ts (replicate (n - length ts) 0))

pub always_whole : AlwaysWhole
always_whole l text before after r enough e =
    let ts = report_on text in
    let f = fits (length before) ts (omega (arith, whole_longest text)) in
    let length-is : r ≡ length ts = e.0 ∙ f.0 in
    (length-is, ap (λ (k : ℕ). take k after) length-is ∙ ap (take (length ts)) e.1 ∙ f.1)

pub ratio_given : RatioGiven
ratio_given value minimum maximum r = (tt, λ e. e)

pub channel_given : ChannelGiven
channel_given start end ppm r = (tt, λ e. e)
