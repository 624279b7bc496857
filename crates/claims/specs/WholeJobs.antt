-- What is claimed of the calls for C, as statements only: of what the contracts of `wavendiru_whole_job`, `wavendiru_ratio` and
-- `wavendiru_channel` ask (`Pre`) and promise (`Post`; Claims.antt says where these are from). proofs/WholeJobsHeld.antt proves them.
-- Assumes nothing.
use Rattle.std.specs.Prelude.{ℕ, ◌≤◌, ◌≡◌, List, length, take, Float}
use contract.Lifetimes.{Lfts}
use Rattle.model.specs.Ratio.{ratio, channel}
use Rattle.memory.specs.Memory.{page, page_length}
use Rattle.reporttext.specs.Reports.{report_on}
use Rattle.reporttext.specs.Longest.{longest}
use Rattle.exports.proofs.wavendiru_whole_job.Reads as wholeJob
use Rattle.exports.proofs.wavendiru_ratio.Reads as ratioCall
use Rattle.exports.proofs.wavendiru_channel.Reads as channelCall
use Rattle.claims.specs.Arguments.{Places, slice, slice_mut, Numbers, NumbersMut, ◌⊗◌, ◌&◌}

-- ---- the whole job

-- where the text and the report lie
abbrev pub Lent : Type 0
Lent = Places 2

abbrev pub TextAndReport : Type 0
TextAndReport = Numbers ⊗ NumbersMut ⊗ Unit {0}

abbrev pub args : Lent → List ℕ → List ℕ → TextAndReport
args l text report = slice l 0 text & slice_mut l 1 report & tt

-- the call on a text ends with this length, and leaves this in the bytes that held `before`
abbrev pub Prints : Lent → List ℕ → List ℕ → ℕ → List ℕ → Type 0
Prints l text before r after = wholeJob.Post l.lifetimes (args l text before) r (args l text after)

-- nothing is asked of the caller
abbrev pub NothingAskedOfTexts : Type 0
NothingAskedOfTexts = (κs : Lfts 2) (a : TextAndReport) → wholeJob.Pre κs a

-- the report and zeros after it; or, where it is longer than the lent bytes, 0 and zeros alone
abbrev pub Printed : Type 0
Printed = (l : Lent) (text before after : List ℕ) (r : ℕ) → Prints l text before r after
    → (r ≡ page_length (length before) (report_on text)) × (after ≡ page (length before) (report_on text))

-- in 45,033 bytes every report is whole
abbrev pub AlwaysWhole : Type 0
AlwaysWhole = (l : Lent) (text before after : List ℕ) (r : ℕ) → longest ≤ length before → Prints l text before r after
    → (r ≡ length (report_on text)) × (take r after ≡ report_on text)

-- ---- ratio and channel

-- three arguments in their order
abbrev three : {A B C : Type 0} → A → B → C → A × (B × (C × Unit {0}))
three a b c = (a, (b, (c, tt)))

-- nothing is asked of the caller, and what comes back is the definition's
abbrev pub RatioGiven : Type 0
RatioGiven = (value minimum maximum : Float) (r : ℕ) → ratioCall.Pre tt (three value minimum maximum)
    × (ratioCall.Post tt (three value minimum maximum) r (three value minimum maximum) → r ≡ ratio value minimum maximum)

abbrev pub ChannelGiven : Type 0
ChannelGiven = (start end ppm r : ℕ) → channelCall.Pre tt (three start end ppm)
    × (channelCall.Post tt (three start end ppm) r (three start end ppm) → r ≡ channel start end ppm)
