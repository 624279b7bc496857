-- Two lent jobs that differ only in what a text has no place for say the same and have the same text. Assumes nothing.
use Rattle.std.specs.Prelude.{Some, None}
use Prim.Native.Nat.{ℕ, zero, suc, ◌+◌, ◌<◌}
use native.Mathlib.Omega.{arith}
use mathlib.Core.Path.{◌≡◌, refl, sym, ap, ap₂, ◌∙◌}
use mathlib.Core.Logic.{◌⊎◌, inl, inr}
use mathlib.Core.Bool.{Bool, true, false, cond}
use mathlib.Core.List.{List, [], ◌∷◌, map}
use mathlib.Core.Option.{some}
use lib.Dec.{eqb}
use lib.ListN.{length, get_or}
use borrow.Author.Tests.{eqb-true, not-true}
use Rattle.model.specs.declared.A1Reference.{A1Reference}
use Rattle.model.specs.declared.CfRule.{CfRule}
use Rattle.model.specs.declared.ConditionalOperand.{ConditionalOperand}
use Rattle.model.specs.declared.Rule.{Rule}
use Rattle.model.specs.Options.{SheetName}
use Rattle.model.specs.Comparison.{uses_second}
use Rattle.model.specs.Readings.{finite}
use Rattle.model.specs.Sheet.{CellColumns, text_at, regions_from}
use Rattle.model.specs.Job.{Job, rules_of, cell_count}
use Rattle.jobtext.specs.Written.{Value, Operand, Kind}
use Rattle.jobtext.specs.Text.{job}
use Rattle.jobtext.specs.Said.{value_said, cell_said, cells_said, name_said, reference_said, literal_said}
use Rattle.jobtext.specs.Said.{operand_said, kind_said, rule_said, job_said}
use Rattle.savedtext.specs.Saved.{text_of}
use Rattle.savedtext.specs.Alike.{is_unread, SameText, CellAlike, NameAlike, ReferenceAlike}
use Rattle.savedtext.specs.Alike.{OperandAlike, KindAlike, RuleAlike, RulesAlike, Alike}

-- the pools of the two jobs
module _ (p q : List ℕ) where
  -- ---- cells

  value_alike : (kind bits bits' at at' len len' : ℕ) → ((kind ≡ 1) ⊎ (kind ≡ 2) → bits ≡ bits')
      → (kind ≡ 3 → SameText p q (record { at = at; len = len }) (record { at = at'; len = len' })) → (kind ≡ 4 → len ≡ len')
      → value_said p kind bits at len ≡ value_said q kind bits' at' len'
  unfolding value_said
  value_alike kind bits bits' at at' len len' n t b =
      go (eqb kind 1) (eqb kind 2) (eqb kind 3) (eqb kind 4) refl refl refl refl
    where
      go : (x y z w : Bool) → eqb kind 1 ≡ x → eqb kind 2 ≡ y → eqb kind 3 ≡ z → eqb kind 4 ≡ w
          → cond x (Value.number bits)
          (cond y (Value.date bits)
          (cond z (Value.text (text_at p (record { at = at; len = len }))) (cond w (Value.bool (eqb len 1)) Value.error)))
          ≡ cond x (Value.number bits')
          (cond y (Value.date bits')
          (cond z (Value.text (text_at q (record { at = at'; len = len' }))) (cond w (Value.bool (eqb len' 1)) Value.error)))
      go true y z w e f g h = ap Value.number (n (inl (eqb-true kind 1 e)))
      go false true z w e f g h = ap Value.date (n (inr (eqb-true kind 2 f)))
      go false false true w e f g h = ap Value.text (t (eqb-true kind 3 g))
      go false false false true e f g h = ap (λ (l : ℕ). Value.bool (eqb l 1)) (b (eqb-true kind 4 h))
      go false false false false e f g h = refl

  cell_alike : (c d : CellColumns) (i : ℕ) → CellAlike p q c d i → cell_said p c i ≡ cell_said q d i
  unfolding cell_said
  cell_alike c d i a =
      let same = value_alike _ _ _ _ _ _ _ a.bits a.text a.bool in
      let value =
      same ∙ ap (λ (n : ℕ). value_said q n (get_or d.nums i 0) (get_or d.ats i 0) (get_or d.lens i 0)) a.kind in
      λ k. record { row = a.row k; col = a.col k; wraps = a.wraps k; value = value k }

  cells_alike : (c d : CellColumns) (i n : ℕ) → ((k : ℕ) → k < i + n → CellAlike p q c d k) → cells_said p c i n ≡ cells_said q d i n
  unfolding cells_said
  cells_alike c d i zero h = refl
  cells_alike c d i (suc n) h =
      ap₂ ◌∷◌ (cell_alike c d i (h i (omega arith))) (cells_alike c d (suc i) n (λ k l. h k (omega arith)))

  -- ---- operands

  name_alike : (a b : SheetName) → NameAlike p q a b → name_said p a ≡ name_said q b
  unfolding name_said
  name_alike None None h = refl
  name_alike None (Some t) h = absurd h
  name_alike (Some s) None h = absurd h
  name_alike (Some s) (Some t) h = ap some h

  reference_alike : (a b : A1Reference) → ReferenceAlike p q a b → reference_said p a ≡ reference_said q b
  unfolding reference_said
  reference_alike a b h = λ k.
      record {
        row = h.row k;
        col = h.col k;
        row_absolute = h.row_absolute k;
        col_absolute = h.col_absolute k;
        name = name_alike a.sheet b.sheet h.name k;
      }

  unread_said : (pool : List ℕ) (o : ConditionalOperand) → is_unread o ≡ true → operand_said pool o ≡ Operand.unread
  unfolding operand_said literal_said
  unread_said pool (ConditionalOperand.Literal x) h = rw (not-true (finite x) h)
  unread_said pool (ConditionalOperand.Reference r) h = cc
  unread_said pool ConditionalOperand.Unread h = refl

  operand_alike : {a b : ConditionalOperand} → OperandAlike p q a b → operand_said p a ≡ operand_said q b
  unfolding operand_said literal_said
  operand_alike (OperandAlike.literal x) = refl
  operand_alike (OperandAlike.reference a b h) = ap Operand.reference (reference_alike a b h)
  operand_alike (OperandAlike.unread a b x y) = unread_said p a x ∙ sym (unread_said q b y)

  -- ---- rules

  second_alike : (b : Bool) (second second' : ConditionalOperand) → (b ≡ true → OperandAlike p q second second')
      → cond b (operand_said p second) Operand.unread ≡ cond b (operand_said q second') Operand.unread
  second_alike true second second' h = operand_alike (h refl)
  second_alike false second second' h = refl

  kind_alike : {a b : CfRule} → KindAlike p q a b → kind_said p a ≡ kind_said q b
  unfolding kind_said
  kind_alike (KindAlike.cell_is op first second first' second' fill h s) =
      ap₂ (λ (x y : Operand). Kind.cell_is op x y fill) (operand_alike h) (second_alike (uses_second op) second second' s)
  kind_alike (KindAlike.scale2 min max) = refl
  kind_alike (KindAlike.scale3 min mid max) = refl
  kind_alike (KindAlike.bar color) = refl
  kind_alike (KindAlike.rank number bottom percent fill) = refl
  kind_alike (KindAlike.mean below fill) = refl
  kind_alike (KindAlike.same unique fill) = refl
  kind_alike (KindAlike.expr op left right left' right' fill h s) =
      ap₂ (λ (x y : Operand). Kind.expr op x y fill) (operand_alike h) (operand_alike s)

  rule_alike : (r s : Rule) → RuleAlike p q r s → rule_said p r ≡ rule_said q s
  unfolding rule_said
  rule_alike r s h = λ k.
      record {
        range = h.range k;
        priority = h.priority k;
        stop = h.stop k;
        imported = h.imported k;
        kind = kind_alike h.kind k;
      }

  rules_alike : (rs ss : List Rule) → RulesAlike p q rs ss → map (rule_said p) rs ≡ map (rule_said q) ss
  rules_alike [] [] h = refl
  rules_alike [] (s ∷ ss) h = absurd h
  rules_alike (r ∷ rs) [] h = absurd h
  rules_alike (r ∷ rs) (s ∷ ss) h = ap₂ ◌∷◌ (rule_alike r s h.0) (rules_alike rs ss h.1)

-- ---- the job

module _ (l m : ℕ) (j k : Job) (h : Alike l j m k) where
  pub alike_said : job_said l j ≡ job_said m k
  unfolding job_said
  alike_said =
      let same = cells_alike j.pool k.pool j.cells k.cells 0 (cell_count j) (λ i n. h.cells i (omega arith)) in
      let cells = same ∙ ap (cells_said k.pool k.cells 0) h.count in
      let rules = rules_alike j.pool k.pool (rules_of j) (rules_of k) h.rules in
      λ i.
      record {
        limit = h.limit i;
        start = h.start i;
        name = h.name i;
        cells = cells i;
        regions = regions_from (h.region_rows i) (h.region_cols i) 0 (length (h.region_rows i));
        rules = rules i;
      }

  pub alike_texts : text_of l j ≡ text_of m k
  unfolding text_of
  alike_texts = ap job.text alike_said
