-- Jobs that are saved as one text are alike, however long the text is, and whatever stands behind it. Assumes nothing.
use Prim.Native.Nat.{ℕ}
use mathlib.Core.Path.{◌≡◌, refl, ap₂}
use mathlib.Core.List.{List, [], ◌++◌}
use Rattle.model.specs.Job.{Job}
use Rattle.laws.specs.Demands.{WellFormed}
use Rattle.jobtext.specs.Text.{job}
use Rattle.jobtext.specs.Said.{job_said}
use Rattle.jobtext.proofs.Text.{job_exact}
use Rattle.savedtext.specs.Saved.{text_of}
use Rattle.savedtext.specs.Alike.{Alike}
use Rattle.savedtext.specs.Typed.{Typed}
use Rattle.savedtext.proofs.SaidOk.{said_ok}
use Rattle.savedtext.proofs.SaidAlike.{said_alike}

module _ (l m : ℕ) (j k : Job) (t : Typed l j) (u : Typed m k) (w : WellFormed j) (x : WellFormed k) where
  -- with the same bytes behind them or others
  pub fronts_alike : (xs ys : List ℕ) → text_of l j ++ xs ≡ text_of m k ++ ys → Alike l j m k
  unfolding text_of
  fronts_alike xs ys e =
      let first = job_exact.reads (job.text (job_said l j) ++ xs) 0 (job_said l j) xs (said_ok l j t w) refl in
      let second = job_exact.reads (job.text (job_said l j) ++ xs) 0 (job_said m k) ys (said_ok m k u x) e in
      let same : job_said l j ≡ job_said m k = cc in
      said_alike l m j k t u w x same

  pub texts_alike : text_of l j ≡ text_of m k → Alike l j m k
  texts_alike e = fronts_alike [] [] (ap₂ ◌++◌ e refl)
