-- Each claim of specs/Texts.antt, held. Assumes nothing.
use mathlib.Core.Path.{refl, ap, ◌∙◌}
use Rattle.jobtext.specs.Read.{read}
use Rattle.jobtext.proofs.Reading.{read_accepted, text_read, job_text_one, read_too_long, read_long}
use Rattle.textlaws.proofs.BadLines as lines
use Rattle.textlaws.proofs.SheetLaid as laid
use Rattle.textlaws.proofs.SeenSaid as seen
use Rattle.textlaws.proofs.TextNumbers as numbers
use Rattle.textlaws.proofs.LimitRaised as raised
use Rattle.textlaws.proofs.ReportLines as reports
use Rattle.textlaws.proofs.LongestText as longest_text
use Rattle.textlaws.proofs.Rounding as rounding
use Rattle.claims.specs.Texts.{ReadExactly, TooLong, BadLine, TooMany, OneText, SheetLaid, SeenAsSaid}
use Rattle.claims.specs.Texts.{NumbersOfTexts, NumbersOfJobs, EarlyTwo, Monotone, LinesOfReports, LongestAttained}
use Rattle.claims.specs.Texts.{NumberAsInJobs, ColourAsInJobs, RoundedToNearest}

-- ---- what a text is read as

pub read_exactly : ReadExactly
read_exactly s j = (λ e. let a = read_accepted s j e in (a.readable, a.is), λ x. ap read x.1 ∙ text_read j x.0)

pub too_long : TooLong
too_long s = (read_long s, read_too_long s)

pub bad_line : BadLine
bad_line = lines.bad_line

pub too_many_lem : TooMany
too_many_lem = lines.too_many_lem

pub one_text : OneText
one_text = job_text_one

-- ---- the job, its numbers and its limit

pub sheet_laid : SheetLaid
sheet_laid = laid.sheet_laid

pub seen_as_said : SeenAsSaid
seen_as_said = seen.seen_as_said

pub numbers_of_texts : NumbersOfTexts
numbers_of_texts = numbers.numbers_of_texts

pub numbers_of_jobs : NumbersOfJobs
numbers_of_jobs = numbers.numbers_of_jobs

pub early_two : EarlyTwo
early_two = numbers.early_two

pub monotone : Monotone
monotone = raised.monotone

-- ---- reports and rounding

pub lines_of_reports : LinesOfReports
lines_of_reports rules r = record { refusal = reports.refusal_lines rules r; answer = reports.answer_lines rules r }

pub longest_attained : LongestAttained
longest_attained =
    record { text = longest_text.longest_text; fits = longest_text.longest_fits; attained = longest_text.longest_attained }

pub number_as_in_jobs : NumberAsInJobs
number_as_in_jobs limit end n = refl

pub colour_as_in_jobs : ColourAsInJobs
colour_as_in_jobs = reports.colour_as_in_jobs

pub rounded_to_nearest : RoundedToNearest
rounded_to_nearest = rounding.rounded_to_nearest
