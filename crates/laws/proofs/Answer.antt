-- The number and values of an answer tell which answer it is. Assumes nothing.
use Rattle.model.specs.declared.Refusal.{Refusal}
use Rattle.std.specs.Prelude.{Err, Ok}
use mathlib.Core.Path.{◌≡◌, refl, sym, ap, ◌∙◌}
use mathlib.Core.Bool.{cond}
use lib.Dec.{eqb}
use Rattle.model.specs.Options.{Answer}
use Rattle.model.specs.Answer.{Summary, refusal, answer, totals, refused_by, summary}

-- the answer that has a number and values
told : Summary → Answer
told s =
    cond (eqb s.number 0) (Ok (totals s.count s.marks s.deferred s.simplified))
    (cond (eqb s.number 1) (Err (Refusal.LengthsDiffer s.count))
    (cond (eqb s.number 2) (Err (Refusal.TooMany s.count))
    (cond (eqb s.number 3) (Err (Refusal.OutOfBounds s.place s.count))
    (cond (eqb s.number 4) (Err (Refusal.NotRising s.place s.count))
    (cond (eqb s.number 5) (Err (Refusal.NameOutside s.place s.count))
    (cond (eqb s.number 6) (Err (Refusal.SpaceShort s.count))
    (cond (eqb s.number 7) (Err (Refusal.LimitExceeded s.count s.actual))
    (cond (eqb s.number 8) (Err (Refusal.CoordinateOverflow s.count))
    (Err (Refusal.MarksExceedSpace s.count s.actual))))))))))

told_summary : (a : Answer) → told (summary a) ≡ a
unfolding told summary answer refusal refused_by
told_summary (Ok a) = refl
told_summary (Err (Refusal.LengthsDiffer count)) = refl
told_summary (Err (Refusal.TooMany count)) = refl
told_summary (Err (Refusal.OutOfBounds place count)) = refl
told_summary (Err (Refusal.NotRising place count)) = refl
told_summary (Err (Refusal.NameOutside place count)) = refl
told_summary (Err (Refusal.SpaceShort count)) = refl
told_summary (Err (Refusal.LimitExceeded count actual)) = refl
told_summary (Err (Refusal.CoordinateOverflow count)) = refl
told_summary (Err (Refusal.MarksExceedSpace count actual)) = refl

-- answers with the same number and values are the same, so that a contract on these determines the answer
pub summary_injective : (a b : Answer) → summary a ≡ summary b → a ≡ b
summary_injective a b h = sym (told_summary a) ∙ ap told h ∙ told_summary b
