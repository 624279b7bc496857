-- The text of a job that is saved is read back as what the job says, and the job that is laid from it is alike. Assumes nothing.
use Prim.Native.Nat.{ℕ, ◌≤◌}
use mathlib.Core.Path.{◌≡◌, sym}
use lib.ListN.{length}
use Rattle.model.specs.Job.{Job}
use Rattle.laws.specs.Demands.{WellFormed}
use Rattle.jobtext.specs.Read.{ReadResult, max_text, read}
use Rattle.jobtext.specs.Laid.{laid}
use Rattle.jobtext.specs.Said.{job_said}
use Rattle.jobtext.proofs.Reading.{text_read}
use Rattle.textlaws.proofs.SheetLaid.{sheet_laid}
use Rattle.savedtext.specs.Saved.{text_of}
use Rattle.savedtext.specs.Alike.{Alike}
use Rattle.savedtext.specs.Typed.{Typed}
use Rattle.savedtext.proofs.SaidOk.{said_readable}
use Rattle.savedtext.proofs.Plain.{plain_well_formed, plain_laid}
use Rattle.savedtext.proofs.SaidAlike.{plain_alike}

pub read_back : (l : ℕ) (j : Job) → Typed l j → WellFormed j → length (text_of l j) ≤ max_text
    → (read (text_of l j) ≡ ReadResult.is (job_said l j)) × Alike l j l (laid (job_said l j))
unfolding text_of job_said
read_back l j t w fits =
    let said = job_said l j in
    let readable = said_readable l j t w fits in
    let same = sym (sheet_laid said readable) in
    (text_read said readable, plain_alike l l j (laid said) same (plain_well_formed l j t w) (plain_laid said))
