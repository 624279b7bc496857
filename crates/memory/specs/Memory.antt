-- What memory lent for writing holds when it comes back: a complete result or, after a refusal, zeros from end to end (demand 1 of the
-- order). The contracts of the functions that are lent memory say it by `all_or_zeros`. Assumes nothing.
use Rattle.std.specs.Prelude.{ℕ, ◌+◌, Bool, true, cond, ◌&&◌, List, leb, length, replicate}
use Rattle.std.proofs.lemmas.List.Edits.{sets}

-- whether n elements from `at` on are within a memory of `size`
abbrev pub fits : ℕ → ℕ → ℕ → Bool
fits size at n = leb (at + n) size

-- the memory d with all of xs in it from `at` on; or zeros from end to end, where the result is refused (`ok` is false) or xs does not fit
unfoldable pub all_or : {A : Type 0} → A → Bool → List A → ℕ → List A → List A
all_or zero ok d at xs = cond (ok && fits (length d) at (length xs)) (sets d at xs) (replicate (length d) zero)

-- the same of whole numbers
abbrev pub all_or_zeros : Bool → List ℕ → ℕ → List ℕ → List ℕ
all_or_zeros ok d at xs = all_or 0 ok d at xs

-- ---- a memory of n elements that holds a result alone: all of it with zeros behind it, or zeros from end to end

abbrev pub page_or : {A : Type 0} → A → Bool → ℕ → List A → List A
page_or zero ok n xs = all_or zero ok (replicate n zero) 0 xs

abbrev pub page_of : Bool → ℕ → List ℕ → List ℕ
page_of ok n xs = all_or_zeros ok (replicate n 0) 0 xs

-- a text in n bytes, and how many of them it takes: 0 where it does not fit
unfoldable pub page : ℕ → List ℕ → List ℕ
page n ts = page_of true n ts

unfoldable pub page_length : ℕ → List ℕ → ℕ
page_length n ts = cond (fits n 0 (length ts)) (length ts) 0
