-- Laws of a text that is kept if it fits.
-- Assumes nothing.
use Prim.Native.Nat.{ℕ, ◌+◌, ◌-◌, ◌≤◌, ◌<◌}
use native.Mathlib.Omega.{arith}
use mathlib.Core.Path.{◌≡◌, refl, sym, ap, ◌∙◌}
use mathlib.Core.Bool.{Bool, true, false}
use mathlib.Core.List.{List, ◌++◌}
use lib.Dec.{leb}
use lib.ListN.{length, take, drop, replicate}
use lib.Seq.{take-append_seam, sets-eq}
use borrow.Author.Tests.{leb-true, leb-false, le-leb, lt-leb}
use Rattle.memory.specs.Memory.{page, page_length}
use Rattle.memory.proofs.Laws.{all_fits, text_fits, text_over}
use Rattle.put.specs.Put.{Stops, kept_length, kept_bytes}
use Rattle.put.proofs.Laws.{stops_length}

pub none_kept : (l : List ℕ) → kept_bytes l 0 ≡ replicate (length l) 0
none_kept l = let e : length l - 0 ≡ length l = omega arith in rw e

-- ---- a text that is kept

pub kept_whole : (n end : ℕ) → end ≤ n → end ≡ kept_length n end
kept_whole n end h = rw (le-leb end n h)

pub kept_none : (n end : ℕ) → n < end → 0 ≡ kept_length n end
kept_none n end h = rw (lt-leb end n h)

-- a text laid from the start, and kept: a page of it
pub record Page (n : ℕ) (ts f : List ℕ) (r : ℕ) : Type 0 where
  pub length : r ≡ page_length n ts
  pub bytes : f ≡ page n ts

module _ {d ts e f : List ℕ} {q r : ℕ} (a : Stops d 0 ts e q) (k : r ≡ kept_length (length e) q) (b : f ≡ kept_bytes e r) where
  long : length e ≡ length d
  long = stops_length a

  fits : length ts ≤ length d → Page (length d) ts f r
  fits h =
      let text = text_fits (length d) ts h in
      let end : q ≡ length ts = omega (arith, a.fits (omega arith)) in
      let kept : r ≡ length ts = k ∙ rw (end, long, le-leb (length ts) (length d) h) in
      let laid : e ≡ ts ++ drop (0 + length ts) d = a.bytes ∙ (all_fits 0 d 0 ts (omega arith) ∙ sets-eq ts d 0 (omega arith)) in
      let first : take (length ts) e ≡ ts = rw laid (take-append_seam ts _) in
      record { length = kept ∙ sym text.0; bytes = b ∙ ((rw (kept, first, long)) ∙ sym text.1) }

  over : length d < length ts → Page (length d) ts f r
  over h =
      let text = text_over (length d) ts h in
      let past : length d < q = a.over (omega arith) in
      let kept : r ≡ 0 = k ∙ rw (lt-leb q (length e) (omega (arith, long))) in
      let zeros : kept_bytes e 0 ≡ replicate (length d) 0 = none_kept e ∙ ap (λ (n : ℕ). replicate n 0) long in
      record { length = kept ∙ sym text.0; bytes = b ∙ ((rw kept zeros) ∙ sym text.1) }

  pub kept_page : Page (length d) ts f r
  kept_page = go (leb (length ts) (length d)) refl
    where
      go : (x : Bool) → leb (length ts) (length d) ≡ x → Page (length d) ts f r
      go true e = fits (leb-true _ _ e)
      go false e = over (leb-false _ _ e)
