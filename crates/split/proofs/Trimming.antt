-- Where the blanks at either end of some bytes are passed, by the place of the first byte that is none. Assumes nothing.
use Rattle.std.proofs.Common.{◌≡◌, ℕ, ◌+◌, ◌-◌, ◌≤◌, Bool, true, false, not, cond, List, [], ◌∷◌, ◌++◌, Option, Some, None, length, take, drop, ltb, inl, inr, length-drop, refl, sym, ap, ◌∙◌, arith, one-add, unwrap_or}
use Rattle.std.specs.List.{position_or_len}
use Rattle.std.proofs.lemmas.Bool.{cases_lt, lt-ltb, le-ltb}
use Rattle.std.proofs.lemmas.List.{reverse-append, length-reverse, take-append-drop}
use Rattle.std.proofs.lemmas.List.Sums.{prefix_len-le-length}
use Rattle.std.proofs.Math.Seq.{take-append_seam}
use mathlib.Core.List.{reverse, reverse-reverse}
use Rattle.model.specs.Split.{blank, drop_blanks}

abbrev pub kept : ℕ → Bool
kept b = not (blank b)

-- how many bytes come before the first that is no blank
abbrev pub blanks : List ℕ → ℕ
blanks bs = position_or_len kept bs

dropped : (bs : List ℕ) → drop (blanks bs) bs ≡ drop_blanks bs
unfolding drop_blanks
dropped [] = refl
dropped (b ∷ bs) =
    elim (blank b) as (λ t. drop (cond (not (not t)) (1 + blanks bs) 0) (b ∷ bs) ≡ cond t (drop_blanks bs) (b ∷ bs)) [
      | true ↦ rw one-add (dropped bs)
      | false ↦ refl
    ]

-- what `position` answers, or the length
module _ (bs : List ℕ) (r : Option ℕ) (n : ℕ) (at : r ≡ cond (ltb (blanks bs) (length bs)) (Some (blanks bs)) None)
    (or_length : n ≡ unwrap_or r (length bs)) where
  counted : n ≡ blanks bs
  counted =
      let within : blanks bs ≤ length bs = prefix_len-le-length (λ b. not (kept b)) bs in
      elim (cases_lt (blanks bs) (length bs)) [
        | inl h ↦ rw (or_length, at, lt-ltb _ _ h)
        | inr h ↦ let e : length bs ≡ blanks bs = omega arith in rw (or_length, at, le-ltb _ _ h) e
      ]

  pub start_kept : drop n bs ≡ drop_blanks bs
  start_kept = rw counted (dropped bs)

-- the bytes ahead of the last m are those left when m are dropped backwards
taken : (m : ℕ) (bs : List ℕ) → take (length bs - m) bs ≡ reverse (drop m (reverse bs))
taken m bs =
    let front : List ℕ = reverse (take m (reverse bs)) in
    let kept : List ℕ = reverse (drop m (reverse bs)) in
    let whole : bs ≡ kept ++ front =
    sym (sym (reverse-append (take m (reverse bs)) (drop m (reverse bs))) ∙ ap reverse (take-append-drop m (reverse bs)) ∙ reverse-reverse bs) in
    let long : length bs - m ≡ length kept =
    sym (length-reverse (drop m (reverse bs)) ∙ length-drop m (reverse bs) ∙ ap (λ n. n - m) (length-reverse bs)) in
    ap (λ n. take n bs) long ∙ ap (take (length kept)) whole ∙ take-append_seam kept front

pub end_kept : (bs : List ℕ) (r : Option ℕ) (n : ℕ)
    → r ≡ cond (ltb (blanks (reverse bs)) (length (reverse bs))) (Some (blanks (reverse bs))) None → n ≡ unwrap_or r (length bs)
    → take (length bs - n) bs ≡ reverse (drop_blanks (reverse bs))
end_kept bs r n at or_length =
    taken n bs ∙ ap reverse (start_kept (reverse bs) r n at (or_length ∙ ap (unwrap_or r) (sym (length-reverse bs))))
