-- The grammar of the whole job text is exact. Assumes nothing.
use Prim.Native.Nat.{ℕ}
use mathlib.Core.Path.{◌≡◌, refl}
use native.Mathlib.Omega.{arith}
use Rattle.grammar.specs.Gram.{Exactly}
use Rattle.grammar.specs.Parts.{space, line_feed, following}
use Rattle.grammar.proofs.Parts.{behind_exact, following_exact, both_exact, read_as_exact, times_exact, times_length}
use Rattle.jobtext.specs.Rules.{rule_line}
use Rattle.jobtext.specs.Text.{
  Head,
  head_names,
  cell_names,
  region_names,
  rule_names,
  to_head,
  of_head,
  second_line,
  head,
  to_cell,
  of_cell,
  cell_line,
  to_region,
  of_region,
  region_line,
  tail,
  body_t,
  body_of,
  body,
  to_job,
  of_job,
  job,
}
use Rattle.jobtext.proofs.Fields.{count_exact, row_exact, col_exact, wraps_exact, text_exact, feed_no_digit, value_exact}
use Rattle.jobtext.proofs.Rules.{rule_exact}

pub second_line_exact : Exactly second_line
second_line_exact =
    read_as_exact
    (both_exact count_exact
    (both_exact count_exact
    (both_exact count_exact (both_exact count_exact (both_exact count_exact (text_exact line_feed feed_no_digit))))))
    to_head of_head (λ x _. refl) (λ h. refl)

pub head_exact : Exactly head
unfolding head
head_exact = behind_exact second_line_exact head_names

pub cell_exact : Exactly cell_line
unfolding cell_line
cell_exact =
    read_as_exact
    (both_exact (row_exact space (omega arith)) (both_exact (col_exact space (omega arith)) (both_exact wraps_exact value_exact)))
    to_cell of_cell (λ x _. refl) (λ c. refl)

pub region_exact : Exactly region_line
unfolding region_line
region_exact =
    read_as_exact (both_exact (row_exact space (omega arith)) (col_exact line_feed (omega arith))) to_region of_region (λ x _. refl) (λ r. refl)

pub tail_exact : (regions rules : ℕ) → Exactly (tail regions rules)
unfolding tail
tail_exact regions rules =
    behind_exact (both_exact (times_exact region_exact regions) (behind_exact (times_exact rule_exact rules) rule_names)) region_names

pub body_exact : (h : Head) → Exactly (body h)
unfolding body_of
body_exact h = behind_exact (both_exact (times_exact cell_exact h.cells) (tail_exact h.regions h.rules)) cell_names

-- the numbers of the second line are those of the lines that follow
pub job_back : (x : Head × body_t) → (following head body).Ok x → of_job (to_job x) ≡ x
unfolding body_of tail
job_back x o =
    rw (
      times_length cell_line.Ok x.0.cells x.1.0 o.1.0,
      times_length region_line.Ok x.0.regions x.1.1.0 o.1.1.0,
      times_length rule_line.Ok x.0.rules x.1.1.1 o.1.1.1,
    )

pub job_exact : Exactly job
unfolding job
job_exact = read_as_exact (following_exact head_exact body_exact) to_job of_job job_back (λ j. refl)
