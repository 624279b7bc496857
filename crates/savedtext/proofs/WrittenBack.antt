-- A job text that is read is the text of the lent job that it stands for: so a well-formed job that is read and saved again comes back
-- byte for byte. Assumes nothing.
use Prim.Native.Nat.{ℕ, ◌≤◌}
use mathlib.Core.Path.{◌≡◌, refl, sym, ap, ◌∙◌}
use mathlib.Core.List.{List, [], ◌∷◌}
use mathlib.Core.Option.{Option, none, some}
use lib.ListN.{length}
use borrow.Author.Tests.{eq-eqb}
use types.Run.{OneOf, hit}
use Rattle.memory.specs.Memory.{page}
use Rattle.model.specs.Answer.{Summary, answer}
use Rattle.model.specs.Job.{malformed}
use Rattle.laws.specs.Demands.{WellFormed}
use Rattle.jobtext.specs.Written.{JobText}
use Rattle.jobtext.specs.Text.{job}
use Rattle.jobtext.specs.Read.{ReadResult, max_text, read}
use Rattle.jobtext.specs.Laid.{laid}
use Rattle.jobtext.proofs.Reading.{read_accepted}
use Rattle.textlaws.proofs.SheetLaid.{sheet_laid}
use Rattle.textlaws.proofs.TextNumbers.{Among, malformed_among}
use Rattle.savedtext.specs.Saved.{text_of, saved, is_saved, saved_bytes}
use Rattle.savedtext.specs.Resaved.{resaved}
use Rattle.savedtext.proofs.Thirteen.{saved_malformed, saved_fits, saved_whole}

-- the numbers that what was read can come to
abbrev ks : List ℕ
ks = 0 ∷ 3 ∷ 4 ∷ []

module _ (s : List ℕ) (j : JobText) (is : read s ≡ ReadResult.is j) where
  pub written_back : text_of j.limit (laid j) ≡ s
  unfolding text_of
  written_back =
      let a = read_accepted s j is in
      ap job.text (sheet_laid j a.readable) ∙ sym a.is

  text_fits : length (text_of j.limit (laid j)) ≤ max_text
  text_fits = rw written_back (rw (sym (read_accepted s j is).is) at (read_accepted s j is).readable.fits)

  module _ (formed : WellFormed (laid j)) (room : ℕ) (fits : length s ≤ room) where
    saved_number : (saved j.limit (laid j) room).number ≡ 0
    unfolding answer
    saved_number = ap (λ (x : Summary). x.number) (saved_fits j.limit (laid j) room formed (rw written_back fits) text_fits)

    pub saved_back : (saved j.limit (laid j) room ≡ answer j.start 0 0 0)
        × (saved_bytes j.limit (laid j) room ≡ page room s)
    unfolding laid
    saved_back = (
      saved_fits j.limit (laid j) room formed (rw written_back fits) text_fits,
      saved_whole j.limit (laid j) room saved_number ∙ ap (page room) written_back,
    )

    pub resaved_back : resaved room (read s) ≡ s
    unfolding resaved is_saved
    resaved_back = rw (is, eq-eqb (saved j.limit (laid j) room).number 0 saved_number) written_back

  -- no other refusal than 3 and 4 can be met by what was read
  pub saved_numbers : (room : ℕ) → length s ≤ room → OneOf (0 ∷ 3 ∷ 4 ∷ []) (saved j.limit (laid j) room).number
  unfolding answer
  saved_numbers room fits = go (malformed (laid j)) refl (malformed_among j (read_accepted s j is).readable ks (hit ks 3 tt) (hit ks 4 tt))
    where
      go : (m : Option Summary) → malformed (laid j) ≡ m → Among ks m → OneOf ks (saved j.limit (laid j) room).number
      go none e h = rw (saved_number e room fits) (hit ks 0 tt)
      go (some x) e h = rw (saved_malformed j.limit (laid j) room x e) h
