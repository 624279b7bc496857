-- A report that is printed is a page of it; one that is refused is nothing. When the columns hold all marks. Assumes nothing.
use Prim.Native.Nat.{ℕ, ◌≤◌, ◌<◌, min}
use native.Mathlib.Omega.{arith}
use mathlib.Core.Path.{◌≡◌, sym, ap, ◌∙◌}
use mathlib.Core.Bool.{Bool, true, false}
use mathlib.Core.List.{List}
use lib.ListN.{length, replicate}
use borrow.Author.Tests.{le-leb, lt-leb}
use Rattle.model.specs.Answer.{Summary}
use Rattle.model.specs.Job.{mark_space}
use Rattle.model.specs.Columns.{Columns}
use Rattle.memory.specs.Memory.{page_of, page, page_length}
use Rattle.memory.proofs.Laws.{page_refused}
use Rattle.put.proofs.Keeping.{Page}
use Rattle.reporttext.specs.Shown.{holds_marks}
use Rattle.report.specs.Printed.{printed_length}

-- r bytes of f are the report ts, if it is printed at all
pub record Printing (ok : Bool) (n : ℕ) (ts f : List ℕ) (r : ℕ) : Type 0 where
  pub length : r ≡ printed_length ok n ts
  pub bytes : f ≡ page_of ok n ts

pub printed_page : {ok : Bool} {n : ℕ} {ts f : List ℕ} {r : ℕ} → ok ≡ true → Page n ts f r → Printing ok n ts f r
unfolding page
printed_page e p = record { length = rw e p.length; bytes = rw e p.bytes }

-- nothing is kept
pub printed_none : {ok : Bool} (n : ℕ) {ts f : List ℕ} → ok ≡ false → f ≡ replicate n 0 → Printing ok n ts f 0
printed_none n {ts} e b = record { length = rw e; bytes = rw e (b ∙ sym (page_refused 0 n ts)) }

-- what is printed after all, under another name of its text
pub printed_all : {ok : Bool} (n : ℕ) {ts us f : List ℕ} {r : ℕ} → ok ≡ true → ts ≡ us → r ≡ printed_length ok n ts → f ≡ page_of ok n ts
    → (r ≡ page_length n us) × (f ≡ page n us)
unfolding page
printed_all n {ts} e same l b = (
  l ∙ (ap (λ (x : Bool). printed_length x n ts) e ∙ ap (page_length n) same),
  b ∙ (ap (λ (x : Bool). page_of x n ts) e ∙ ap (λ (x : List ℕ). page_of true n x) same),
)

-- ---- the marks of an answer

abbrev shortest : Columns → ℕ
shortest c =
    min (length c.regions) (min (length c.rules) (min (length c.kinds)
    (min (length c.colours) (min (length c.ppms) (length c.shapes)))))

module _ (c : Columns) {s t : Summary} {space : ℕ} (same : t ≡ s) (is : space ≡ shortest c) where
  pub all_held : t.marks ≤ space → holds_marks s c ≡ true
  unfolding holds_marks mark_space
  all_held h = rw (sym same) (le-leb t.marks (shortest c) (omega arith))

  pub not_held : space < t.marks → holds_marks s c ≡ false
  unfolding holds_marks mark_space
  not_held h = rw (sym same) (lt-leb t.marks (shortest c) (omega arith))
