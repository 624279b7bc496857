-- `call::columns::settle_columns` meets its contract: the answer and each column by what `settle` says under the shortest length. Nothing is
-- asked where it calls. Assumes nothing.
use mathlib.Core.Path.{◌≡◌, ap, ◌∙◌}
use mathlib.Core.Bool.{Bool}
use mathlib.Core.List.{List}
use Prim.Native.Nat.{ℕ}
use Rattle.model.specs.Answer.{Summary}
use Rattle.settling.specs.Settling.{settled_as, is_answered}
use Rattle.turns.specs.Lent.{kept_if}
use Rattle.call.proofs.columns.settle_columns.Goals as goal

-- a column that is kept or cleared by a test that is another
kept_as : (keep keep' : Bool) (l : List ℕ) {x : List ℕ} → x ≡ kept_if keep l → keep ≡ keep' → x ≡ kept_if keep' l
kept_as keep keep' l e h = e ∙ ap (λ b. kept_if b l) h

pub returns : goal.returns
returns c =
    let a = c.args in
    let ran = a.ran in
    let keep = c.is_ok.ensures.value ∙ ap (λ (p : Summary × Bool). p.1) c.settle-answer.ensures ∙ ap (λ (n : ℕ). is_answered (settled_as n ran)) c.shortest-space.ensures in record {
      answer = ap (λ (p : Summary × Bool). p.0) c.settle-answer.ensures ∙ ap (λ (n : ℕ). settled_as n ran) c.shortest-space.ensures;
      regions_after = kept_as _ _ a.regions.now c.keep_columns.ensures.regions_after keep;
      ruleids_after = kept_as _ _ a.ruleids.now c.keep_columns.ensures.ruleids_after keep;
      markkinds_after = kept_as _ _ a.markkinds.now c.keep_columns.ensures.markkinds_after keep;
      colours_after = kept_as _ _ a.colours.now c.keep_columns.ensures.colours_after keep;
      ppms_after = kept_as _ _ a.ppms.now c.keep_columns.ensures.ppms_after keep;
      shapes_after = kept_as _ _ a.shapes.now c.keep_columns.ensures.shapes_after keep;
      barrules_after = kept_as _ _ a.barrules.now c.keep_columns.ensures.barrules_after keep;
      barppms_after = kept_as _ _ a.barppms.now c.keep_columns.ensures.barppms_after keep;
    }
