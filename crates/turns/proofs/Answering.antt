-- The call as its steps leave it: refused by a check, or the rules settled, it has the answer and the columns of the definition.
-- Assumes nothing.
use Rattle.std.specs.Prelude.{Ok, Err}
use Prim.Native.Nat.{ℕ, min}
use mathlib.Core.Path.{◌≡◌, refl, sym, ap, subst, ◌∙◌}
use mathlib.Core.Bool.{Bool}
use mathlib.Core.List.{List}
use mathlib.Core.Option.{Option, none}
use lib.ListN.{replicate}
use lib.Ieee.{Float}
use Rattle.model.specs.declared.Refusal.{Refusal}
use Rattle.model.specs.Options.{Answer}
use Rattle.model.specs.Ratio.{zero_f}
use Rattle.model.specs.Answer.{Summary, Result, refused, summary, limited}
use Rattle.model.specs.Job.{Job, Lengths, mark_space, run_of, or_else, result}
use Rattle.model.specs.Columns.{Columns, written, columns_of}
use Rattle.laws.specs.Demands.{zeros}
use Rattle.laws.proofs.DemandOne.{written_none}
use Rattle.checks.specs.Checked.{Checked, turned_back, space_of, refusal_of}
use Rattle.checks.proofs.Refusing.{result_refused, refusal_space}
use Rattle.turns.specs.Emit.{MarkColumns, mark_columns, BarColumns, bar_columns}
use Rattle.turns.specs.Turns.{Left, left_by, sheet_in, run_in}
use Rattle.settling.specs.Settling.{settled_as, is_answered}
use Rattle.turns.specs.Lent.{lent}
use Rattle.turns.proofs.Checked.{Fine, checked_fine}
use Rattle.turns.proofs.Settling.{clear_marks, clear_bars, ended, Long, kept_by, settled_as_lem, columns_as}

not_refused : (c : Checked) → ((r : Refusal) → c ≡ Err r → ⊥) → turned_back c ≡ none
not_refused (Ok done) h = refl
not_refused (Err r) h = absurd (h r refl)

pub lent_same : {a b c d e f g h a' b' c' d' e' f' g' h' : List ℕ} {s s' : List Float} → a ≡ a' → b ≡ b' → c ≡ c' → d ≡ d' → e ≡ e'
    → f ≡ f' → g ≡ g' → h ≡ h' → s ≡ s' → lent a b c d e f g h s ≡ lent a' b' c' d' e' f' g' h' s'
lent_same pa pb pc pd pe pf pg ph ps = λ i. lent (pa i) (pb i) (pc i) (pd i) (pe i) (pf i) (pg i) (ph i) (ps i)

-- columns that are 0 from end to end
pub lent_zeros : (l : Lengths) {a b c d e f g h : List ℕ} {s : List Float} → a ≡ replicate l.regions 0 → b ≡ replicate l.rules 0
    → c ≡ replicate l.kinds 0 → d ≡ replicate l.colours 0 → e ≡ replicate l.ppms 0 → f ≡ replicate l.shapes 0
    → g ≡ replicate l.bar_rules 0 → h ≡ replicate l.bar_ppms 0 → s ≡ replicate l.scratch zero_f → lent a b c d e f g h s ≡ zeros l
unfolding zeros
lent_zeros l pa pb pc pd pe pf pg ph ps = lent_same pa pb pc pd pe pf pg ph ps

pub marks_same : {a b c d e f a' b' c' d' e' f' : List ℕ} → a ≡ a' → b ≡ b' → c ≡ c' → d ≡ d' → e ≡ e' → f ≡ f'
    → mark_columns a b c d e f ≡ mark_columns a' b' c' d' e' f'
marks_same pa pb pc pd pe pf = λ i. mark_columns (pa i) (pb i) (pc i) (pd i) (pe i) (pf i)

pub bars_same : {a b a' b' : List ℕ} → a ≡ a' → b ≡ b' → bar_columns a b ≡ bar_columns a' b'
bars_same pa pb = λ i. bar_columns (pa i) (pb i)

-- the shortest of the mark columns
pub space_as : (l : Lengths) {a b c d e f s : ℕ} → a ≡ l.regions → b ≡ l.rules → c ≡ l.kinds → d ≡ l.colours → e ≡ l.ppms
    → f ≡ l.shapes → s ≡ min a (min b (min c (min d (min e f)))) → s ≡ mark_space l
unfolding mark_space
space_as l ha hb hc hd he hf hs = rw (hs, ha, hb, hc, hd, he, hf)

module _ (j : Job) (limit : ℕ) (l : Lengths) where
  -- the call has this answer and these columns
  pub record Answers (a : Answer) (c : Columns) : Type 0 where
    pub answer : summary a ≡ (result j limit l).summary
    pub columns : c ≡ columns_of j limit l

  module _ (checked : Checked) (bar_rules bar_ppms scratch : ℕ) (p : bar_rules ≡ l.bar_rules) (q : bar_ppms ≡ l.bar_ppms)
      (r : scratch ≡ l.scratch) (is : turned_back checked ≡ refusal_of j (space_of bar_rules bar_ppms scratch)) where
    checked_as : turned_back checked ≡ refusal_of j l
    checked_as = is ∙ (λ i. refusal_of j (space_of (p i) (q i) (r i))) ∙ refusal_space j l

    -- a check that is met
    pub answers_refused : (r : Refusal) (c : Columns) → checked ≡ Err r → c ≡ zeros l → Answers (Err r) c
    unfolding refused columns_of summary
    answers_refused r c e z =
        let met = sym checked_as ∙ ap turned_back e in
        let same = result_refused j l limit ∙ ap (λ (o : Option Summary). or_else o (limited limit j.start (mark_space l)
        (run_of j))) met in
        record {
          answer = sym (ap (λ (x : Result). x.summary) same);
          columns = z ∙ sym (written_none (summary (Err r)) l) ∙ sym (ap (λ (x : Result). written x l) same);
        }

    -- no check is met
    pub fine : ((r : Refusal) → checked ≡ Err r → ⊥) → refusal_of j l ≡ none
    fine h = sym checked_as ∙ not_refused checked h

  -- the rules from cleared columns
  pub ended_as : (f : Fine j l) (m : MarkColumns) (b : BarColumns) (e : Left) → m ≡ clear_marks l → b ≡ clear_bars l
      → let s = sheet_in j.cells j.region_rows j.region_cols j.pool j.name in
      e ≡ left_by (run_in s limit j.region_rows j.region_cols j.rules j.start m b) → e ≡ left_by (ended j limit l f)
  ended_as f m b e p q h =
      let s = sheet_in j.cells j.region_rows j.region_cols j.pool j.name in
      h ∙ (λ i. left_by (run_in s limit j.region_rows j.region_cols j.rules j.start (p i) (q i)))

  -- the rules settled
  pub answers_settled : (none-met : refusal_of j l ≡ none) (e : Left) (space : ℕ) (a : Answer) (keep : Bool) (c : Columns)
      → e ≡ left_by (ended j limit l (checked_fine j l none-met)) → space ≡ mark_space l → Long l e
      → summary a ≡ settled_as space e.ran → keep ≡ is_answered (settled_as space e.ran) → c ≡ kept_by keep l e → Answers a c
  unfolding columns_of
  answers_settled none-met e space a keep c h s long is kept k =
      let f = checked_fine j l none-met in
      let same = result_refused j l limit ∙ ap (λ (o : Option Summary). or_else o (limited limit j.start (mark_space l)
      (run_of j))) none-met in
      let settled : settled_as space e.ran ≡ settled_as (mark_space l) (ended j limit l f).ran = λ i. settled_as (s i) (h i).ran in
      let long' : Long l (left_by (ended j limit l f)) = subst (Long l) h long in
      record {
        answer = is ∙ settled ∙ settled_as_lem j limit l f ∙ sym (ap (λ (x : Result). x.summary) same);
        columns =
            k ∙ (λ i. kept_by ((kept ∙ ap is_answered settled) i) l (h i)) ∙ columns_as j limit l f long'
            ∙ sym (ap (λ (x : Result). written x l) same);
      }
