-- What is claimed of saving a job as text (document 02, T-01), as statements only: of what the contracts of `writer::write_job` and of the
-- call for C, `wavendiru_save_job`, ask (`Pre`) and promise (`Post`; Claims.antt says where these are from), and of the text itself.
-- proofs/SavingHeld.antt proves them. Assumes nothing.
use Rattle.std.specs.Prelude.{ℕ, ◌≤◌, ◌<◌, ◌≡◌, ◌⊎◌, ◌↔◌, List, [], ◌∷◌, length, replicate}
use contract.Lifetimes.{Lfts}
use types.Run.{OneOf}
use Rattle.memory.specs.Memory.{page, page_length}
use Rattle.model.specs.Options.{Answer}
use Rattle.model.specs.declared.LentJob.{LentJob}
use Rattle.model.specs.Answer.{refusal, answer, summary}
use Rattle.model.specs.Columns.{Columns}
use Rattle.model.specs.Job.{Job}
use Rattle.laws.specs.Demands.{WellFormed}
use Rattle.jobtext.specs.Written.{JobText}
use Rattle.jobtext.specs.Read.{ReadResult, max_text, read}
use Rattle.jobtext.specs.Laid.{laid}
use Rattle.savedtext.specs.Saved.{text_of, saved, saved_length, saved_bytes}
use Rattle.savedtext.specs.Alike.{Alike}
use Rattle.savedtext.specs.Typed.{Typed}
use Rattle.savedtext.specs.Resaved.{resaved}
use Rattle.writer.specs.Answers.{Saved, summary_of, length_of}
use Rattle.writer.proofs.write_job.Reads as write
use Rattle.saveexports.proofs.wavendiru_save_job.Reads as saveCall
use Rattle.claims.specs.Arguments.{Places, slice_mut, NumbersMut, job_at, ◌⊗◌, ◌&◌}
use Rattle.claims.specs.Claims as Deciding
use Rattle.claims.specs.WholeJobs.{Lent, TextAndReport, args as textAndLent}

-- ---- the arguments of the writer, by their names

abbrev pub Where : Type 0
Where = Places 2

abbrev pub Args : Type 0
Args = LentJob ⊗ ℕ ⊗ NumbersMut ⊗ Unit {0}

-- a job, a limit, and the bytes that are lent for writing
abbrev args : Where → Job → ℕ → List ℕ → Args
args w j limit text = job_at w j & limit & slice_mut w 14 text & tt

-- the writer on a job ends with this answer, and leaves this in the bytes that held `before`
abbrev pub Ends : Where → Job → ℕ → List ℕ → Saved → List ℕ → Type 0
Ends w j limit before a after = write.Post w.lifetimes (args w j limit before) a (args w j limit after)

-- the text is written, and not refused
abbrev pub IsWritten : Saved → Type 0
IsWritten a = (summary_of a).number ≡ 0

-- ---- the claims of the writer

-- nothing is asked of the caller
abbrev pub NothingAsked : Type 0
NothingAsked = (κs : Lfts 2) (a : Args) → write.Pre κs a

-- the answer, its length and every lent byte are the definition's, whatever the bytes held
abbrev pub Determined : Type 0
Determined = (w : Where) (j : Job) (limit : ℕ) (before after : List ℕ) (a : Saved) → Ends w j limit before a after
    → (summary_of a ≡ saved limit j (length before)) × (length_of a ≡ saved_length limit j (length before))
    × (after ≡ saved_bytes limit j (length before))

-- an answer and bytes that the contract allows, on every input
pub record Ending (w : Where) (j : Job) (limit : ℕ) (before : List ℕ) : Type 0 where
  pub answer : Saved
  pub after : List ℕ
  pub ends : Ends w j limit before answer after

abbrev pub Possible : Type 0
Possible = (w : Where) (j : Job) (limit : ℕ) (before : List ℕ) → Ending w j limit before

-- demand 1: after a refusal zeros from end to end, else the whole text and zeros behind it
pub record Complete (j : Job) (limit : ℕ) (before after : List ℕ) (a : Saved) : Type 0 where
  pub refused : (IsWritten a → ⊥) → after ≡ replicate (length before) 0
  pub written : IsWritten a → after ≡ page (length before) (text_of limit j)
  pub length : IsWritten a → length_of a ≡ length (text_of limit j)

abbrev pub DemandOne : Type 0
DemandOne = (w : Where) (j : Job) (limit : ℕ) (before after : List ℕ) (a : Saved) → Ends w j limit before a after
    → Complete j limit before after a

-- a job that the checks 1 to 5 refuse is refused as deciding refuses it
abbrev pub RefusedAlike : Type 0
RefusedAlike = (w : Where) (v : Deciding.Where) (j : Job) (limit : ℕ) (before after : List ℕ) (columns columns' : Columns) (a : Saved)
    (b : Answer) → Ends w j limit before a after → Deciding.Ends v j limit columns b columns' → (WellFormed j → ⊥)
    → summary_of a ≡ summary b

-- 13 is said exactly of a well-formed job whose text is longer than the lent bytes or than 65,536, with the length needed
abbrev pub ThirteenExactly : Type 0
ThirteenExactly = (w : Where) (j : Job) (limit : ℕ) (before after : List ℕ) (a : Saved) → Ends w j limit before a after
    → (((summary_of a).number ≡ 13) ↔ (WellFormed j × ((length before < length (text_of limit j)) ⊎ (max_text < length (text_of limit j)))))
    × ((summary_of a).number ≡ 13 → summary_of a ≡ refusal 13 0 j.start (length (text_of limit j)))

-- any other job is written, with 0, 0, S, 0
abbrev pub WrittenExactly : Type 0
WrittenExactly = (w : Where) (j : Job) (limit : ℕ) (before after : List ℕ) (a : Saved) → Ends w j limit before a after
    → (IsWritten a ↔ (WellFormed j × (length (text_of limit j) ≤ length before) × (length (text_of limit j) ≤ max_text)))
    × (IsWritten a → summary_of a ≡ answer j.start 0 0 0)

-- ---- one job, one text

-- jobs that differ only in where texts sit in the pool, in fields for which the text has no place or a `-`, or in non-finite against unread
-- operands have equal texts
abbrev pub EqualTexts : Type 0
EqualTexts = (l m : ℕ) (j k : Job) → Alike l j m k → text_of l j ≡ text_of m k

-- jobs with equal texts differ in no more than that
abbrev pub OneJobAText : Type 0
OneJobAText = (l m : ℕ) (j k : Job) → Typed l j → Typed m k → WellFormed j → WellFormed k → text_of l j ≡ text_of m k → Alike l j m k

-- both of the writer itself: two jobs that are written into bytes of one number leave the same bytes exactly if they are so alike
abbrev pub SameBytes : Type 0
SameBytes = (w v : Where) (l m : ℕ) (j k : Job) (before before' after after' : List ℕ) (a b : Saved) → Typed l j → Typed m k
    → length before ≡ length before' → Ends w j l before a after → Ends v k m before' b after' → IsWritten a → IsWritten b
    → (after ≡ after') ↔ Alike l j m k

-- ---- reading and writing

-- what the reader accepts and the writer writes back is the same file
abbrev pub WrittenBack : Type 0
WrittenBack = (s : List ℕ) (j : JobText) → read s ≡ ReadResult.is j → text_of j.limit (laid j) ≡ s

-- what is written reads back as a job so alike
pub record ReadAgain (l : ℕ) (j : Job) : Type 0 where
  pub said : JobText
  pub reads : read (text_of l j) ≡ ReadResult.is said
  pub alike : Alike l j said.limit (laid said)

abbrev pub ReadBack : Type 0
ReadBack = (w : Where) (j : Job) (limit : ℕ) (before after : List ℕ) (a : Saved) → Typed limit j → Ends w j limit before a after
    → IsWritten a → ReadAgain limit j

-- ---- the call for C

abbrev pub Saves : Lent → List ℕ → List ℕ → ℕ → List ℕ → Type 0
Saves l text before r after = saveCall.Post l.lifetimes (textAndLent l text before) r (textAndLent l text after)

abbrev pub NothingAskedOfSaves : Type 0
NothingAskedOfSaves = (κs : Lfts 2) (a : TextAndReport) → saveCall.Pre κs a

-- the text or the two lines of a refused report, and zeros behind; 0 and zeros alone where that is longer than the lent bytes
abbrev pub Resaved : Type 0
Resaved = (l : Lent) (text before after : List ℕ) (r : ℕ) → Saves l text before r after
    → (r ≡ page_length (length before) (resaved (length before) (read text)))
    × (after ≡ page (length before) (resaved (length before) (read text)))

-- a text that is read, and whose job is well-formed, comes back byte for byte
abbrev pub SameFile : Type 0
SameFile = (l : Lent) (text before after : List ℕ) (r : ℕ) (j : JobText) → Saves l text before r after → read text ≡ ReadResult.is j
    → WellFormed (laid j) → length text ≤ length before → (r ≡ length text) × (after ≡ page (length before) text)

-- a text that is read is written or refused with 3 or 4, where there is room for it
abbrev pub NumbersOfSaves : Type 0
NumbersOfSaves = (text : List ℕ) (j : JobText) (room : ℕ) → read text ≡ ReadResult.is j → length text ≤ room
    → OneOf (0 ∷ 3 ∷ 4 ∷ []) (saved j.limit (laid j) room).number
