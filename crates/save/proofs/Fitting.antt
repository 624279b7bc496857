-- What a job text is saved as fits into the longest text's bytes. Assumes nothing.
use Rattle.std.proofs.Common.{◌≡◌, ℕ, ◌≤◌, Bool, true, false, cond, List, length, arith, refl}
use borrow.Author.Tests.{eqb-true}
use Rattle.model.specs.Answer.{refusal}
use Rattle.jobtext.specs.Read.{ReadResult}
use Rattle.jobtext.specs.Laid.{laid}
use Rattle.reporttext.specs.Report.{summary_text}
use Rattle.reporttext.proofs.Longest.{summary_most}
use Rattle.savedtext.specs.Saved.{text_of, saved, is_saved}
use Rattle.savedtext.specs.Resaved.{resaved}
use Rattle.savedtext.proofs.Thirteen.{saved_exactly}

module _ (room : ℕ) (long : 199 ≤ room) where
  chosen : (b : Bool) (xs ys : List ℕ) → (b ≡ true → length xs ≤ room) → length ys ≤ room → length (cond b xs ys) ≤ room
  chosen true xs ys h k = h refl
  chosen false xs ys h k = k

  pub resaved_most : (r : ReadResult) → length (resaved room r) ≤ room
  unfolding resaved is_saved
  resaved_most (ReadResult.is j) =
      chosen
      (is_saved j.limit (laid j) room)
      (text_of j.limit (laid j))
      (summary_text (saved j.limit (laid j) room))
      (λ e. ((saved_exactly j.limit (laid j) room).0 (eqb-true _ _ e)).1)
      (omega (arith, summary_most (saved j.limit (laid j) room)))
  resaved_most ReadResult.too_long = omega (arith, summary_most (refusal 10 0 0 0))
  resaved_most (ReadResult.bad_line line) = omega (arith, summary_most (refusal 11 line 0 0))
  resaved_most (ReadResult.too_many start) = omega (arith, summary_most (refusal 2 0 start 0))
