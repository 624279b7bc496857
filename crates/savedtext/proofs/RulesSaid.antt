-- Rules that say the same are alike, their literals being values of an f64. Assumes nothing.
use Rattle.std.specs.Prelude.{Some, None}
use Prim.Native.Nat.{ℕ}
use native.Mathlib.Omega.{arith}
use mathlib.Core.Path.{◌≡◌, refl, sym, ap, ◌∙◌, subst}
use mathlib.Core.Bool.{Bool, true, false, not, cond}
use mathlib.Core.List.{List, [], ◌∷◌, map}
use lib.Dec.{T}
use lib.Ieee.{Float, binary64, of_bits, to_bits, fits}
use lib.Ieee.Bits.{of_bits-to_bits}
use Rattle.model.specs.declared.A1Reference.{A1Reference}
use Rattle.model.specs.declared.CfRule.{CfRule}
use Rattle.model.specs.declared.ConditionalOperand.{ConditionalOperand}
use Rattle.model.specs.declared.Rule.{Rule}
use Rattle.model.specs.Options.{SheetName}
use Rattle.model.specs.Comparison.{uses_second}
use Rattle.model.specs.Readings.{finite}
use Rattle.jobtext.specs.Written.{Reference, Operand, Kind, RuleLine}
use Rattle.jobtext.specs.Said.{name_said, reference_said, literal_said, operand_said, kind_said, rule_said}
use Rattle.savedtext.specs.Alike.{is_unread, NameAlike, ReferenceAlike, OperandAlike, KindAlike, RuleAlike, RulesAlike}
use Rattle.savedtext.proofs.Plain.{first_in, second_in, PlainOperand, PlainKind, PlainRules}

-- ---- operands

-- an operand beside what it says in a pool
data Saying (pool : List ℕ) : ConditionalOperand → Operand → Type 0 where
  literal : (x : Float) → T (fits binary64 x) → Saying pool (ConditionalOperand.Literal x) (Operand.literal (to_bits binary64 x))
  reference : (r : A1Reference) → Saying pool (ConditionalOperand.Reference r) (Operand.reference (reference_said pool r))
  unread : (o : ConditionalOperand) → is_unread o ≡ true → Saying pool o Operand.unread

operand_saying : (pool : List ℕ) (o : ConditionalOperand) → PlainOperand o → Saying pool o (operand_said pool o)
unfolding operand_said literal_said
operand_saying pool (ConditionalOperand.Literal x) h = go (finite x) refl
  where
    go : (b : Bool) → finite x ≡ b
        → Saying pool (ConditionalOperand.Literal x) (cond b (Operand.literal (to_bits binary64 x)) Operand.unread)
    go true e = literal x h
    go false e = unread (ConditionalOperand.Literal x) (ap not e)
operand_saying pool (ConditionalOperand.Reference r) h = reference r
operand_saying pool ConditionalOperand.Unread h = unread ConditionalOperand.Unread refl

module _ (p q : List ℕ) where
  name_alike : (s t : SheetName) → name_said p s ≡ name_said q t → NameAlike p q s t
  unfolding name_said
  name_alike None None e = tt
  name_alike None (Some t) e = let no : ◌≡◌ {A = ℕ} 0 1 = cc in omega arith
  name_alike (Some s) None e = let no : ◌≡◌ {A = ℕ} 0 1 = cc in omega arith
  name_alike (Some s) (Some t) e = cc

  reference_alike : (a b : A1Reference) → reference_said p a ≡ reference_said q b → ReferenceAlike p q a b
  unfolding reference_said
  reference_alike a b e =
      record {
        row = ap (λ (r : Reference). r.row) e;
        col = ap (λ (r : Reference). r.col) e;
        row_absolute = ap (λ (r : Reference). r.row_absolute) e;
        col_absolute = ap (λ (r : Reference). r.col_absolute) e;
        name = name_alike a.sheet b.sheet (ap (λ (r : Reference). r.name) e);
      }

  -- the bits tell the value
  literal_alike : (x y : Float) → T (fits binary64 x) → T (fits binary64 y) → to_bits binary64 x ≡ to_bits binary64 y
      → OperandAlike p q (ConditionalOperand.Literal x) (ConditionalOperand.Literal y)
  literal_alike x y f g e =
      let same : x ≡ y = sym (of_bits-to_bits binary64 x f) ∙ (ap (of_bits binary64) e ∙ of_bits-to_bits binary64 y g) in
      subst (λ (z : Float). OperandAlike p q (ConditionalOperand.Literal x) (ConditionalOperand.Literal z)) same (OperandAlike.literal x)

  saying_alike : {a b : ConditionalOperand} {x y : Operand} → Saying p a x → Saying q b y → x ≡ y → OperandAlike p q a b
  saying_alike (literal x f) (literal y g) e = literal_alike x y f g (cc)
  saying_alike (literal x f) (reference s) e = absurd (let no : ◌≡◌ {A = ℕ} 0 1 = cc in omega arith)
  saying_alike (literal x f) (unread b v) e = absurd (let no : ◌≡◌ {A = ℕ} 0 1 = cc in omega arith)
  saying_alike (reference r) (literal y g) e = absurd (let no : ◌≡◌ {A = ℕ} 0 1 = cc in omega arith)
  saying_alike (reference r) (reference s) e = OperandAlike.reference r s (reference_alike r s (cc))
  saying_alike (reference r) (unread b v) e = absurd (let no : ◌≡◌ {A = ℕ} 0 1 = cc in omega arith)
  saying_alike (unread a u) (literal y g) e = absurd (let no : ◌≡◌ {A = ℕ} 0 1 = cc in omega arith)
  saying_alike (unread a u) (reference s) e = absurd (let no : ◌≡◌ {A = ℕ} 0 1 = cc in omega arith)
  saying_alike (unread a u) (unread b v) e = OperandAlike.unread a b u v

  operand_alike : (a b : ConditionalOperand) → PlainOperand a → PlainOperand b → operand_said p a ≡ operand_said q b
      → OperandAlike p q a b
  operand_alike a b f g e = saying_alike (operand_saying p a f) (operand_saying q b g) e

-- ---- kinds

-- the rule that is said, with operands in place of those that are said
abbrev made : Kind → ConditionalOperand → ConditionalOperand → CfRule
made (Kind.cell_is op first second fill) x y = CfRule.CellIs op x y fill
made (Kind.scale2 min max) x y = CfRule.ColorScale2 min max
made (Kind.scale3 min mid max) x y = CfRule.ColorScale3 min mid max
made (Kind.bar colour) x y = CfRule.DataBar colour
made (Kind.rank number bottom percent fill) x y = CfRule.TopBottom number bottom percent fill
made (Kind.mean below fill) x y = CfRule.AboveAverage below fill
made (Kind.same unique fill) x y = CfRule.DuplicateValues unique fill
made (Kind.expr op left right fill) x y = CfRule.Expression op x y fill

-- two operands in a pool are said as a rule says them
abbrev Operands : List ℕ → Kind → ConditionalOperand → ConditionalOperand → Type 0
Operands pool (Kind.cell_is op first second fill) x y =
    (first ≡ operand_said pool x) × (second ≡ cond (uses_second op) (operand_said pool y) Operand.unread)
Operands pool (Kind.scale2 min max) x y = Unit {0}
Operands pool (Kind.scale3 min mid max) x y = Unit {0}
Operands pool (Kind.bar colour) x y = Unit {0}
Operands pool (Kind.rank number bottom percent fill) x y = Unit {0}
Operands pool (Kind.mean below fill) x y = Unit {0}
Operands pool (Kind.same unique fill) x y = Unit {0}
Operands pool (Kind.expr op left right fill) x y = (left ≡ operand_said pool x) × (right ≡ operand_said pool y)

module _ (pool : List ℕ) where
  kind_made : (k : CfRule) → made (kind_said pool k) (first_in k) (second_in k) ≡ k
  unfolding kind_said
  kind_made (CfRule.CellIs op first second fill) = refl
  kind_made (CfRule.ColorScale2 min max) = refl
  kind_made (CfRule.ColorScale3 min mid max) = refl
  kind_made (CfRule.DataBar color) = refl
  kind_made (CfRule.TopBottom rank bottom percent fill) = refl
  kind_made (CfRule.AboveAverage below fill) = refl
  kind_made (CfRule.DuplicateValues unique fill) = refl
  kind_made (CfRule.Expression op left right fill) = refl

  kind_operands : (k : CfRule) → Operands pool (kind_said pool k) (first_in k) (second_in k)
  unfolding kind_said
  kind_operands (CfRule.CellIs op first second fill) = (refl, refl)
  kind_operands (CfRule.ColorScale2 min max) = tt
  kind_operands (CfRule.ColorScale3 min mid max) = tt
  kind_operands (CfRule.DataBar color) = tt
  kind_operands (CfRule.TopBottom rank bottom percent fill) = tt
  kind_operands (CfRule.AboveAverage below fill) = tt
  kind_operands (CfRule.DuplicateValues unique fill) = tt
  kind_operands (CfRule.Expression op left right fill) = (refl, refl)

module _ (p q : List ℕ) where
  made_alike : (k : CfRule) (x y : ConditionalOperand) → PlainKind k → PlainOperand x → PlainOperand y
      → Operands q (kind_said p k) x y → KindAlike p q k (made (kind_said p k) x y)
  unfolding kind_said
  made_alike (CfRule.CellIs op first second fill) x y h f g o =
      KindAlike.cell_is op first second x y fill (operand_alike p q first x h.0 f o.0)
      (λ uses. operand_alike p q second y h.1 g (rw uses at o.1))
  made_alike (CfRule.ColorScale2 min max) x y h f g o = KindAlike.scale2 min max
  made_alike (CfRule.ColorScale3 min mid max) x y h f g o = KindAlike.scale3 min mid max
  made_alike (CfRule.DataBar color) x y h f g o = KindAlike.bar color
  made_alike (CfRule.TopBottom rank bottom percent fill) x y h f g o = KindAlike.rank rank bottom percent fill
  made_alike (CfRule.AboveAverage below fill) x y h f g o = KindAlike.mean below fill
  made_alike (CfRule.DuplicateValues unique fill) x y h f g o = KindAlike.same unique fill
  made_alike (CfRule.Expression op left right fill) x y h f g o =
      KindAlike.expr op left right x y fill (operand_alike p q left x h.0 f o.0) (operand_alike p q right y h.1 g o.1)

  kind_alike : (a b : CfRule) → PlainKind a → PlainKind b → kind_said p a ≡ kind_said q b → KindAlike p q a b
  kind_alike a b h g e =
      let x = first_in b in
      let y = second_in b in
      let said : Operands q (kind_said p a) x y = rw e (kind_operands q b) in
      let is : made (kind_said p a) x y ≡ b = rw e (kind_made q b) in
      subst (KindAlike p q a) is (made_alike a x y h g.0 g.1 said)

  -- ---- rules

  rule_alike : (r s : Rule) → PlainKind r.kind → PlainKind s.kind → rule_said p r ≡ rule_said q s → RuleAlike p q r s
  unfolding rule_said
  rule_alike r s h g e =
      record {
        range = ap (λ (l : RuleLine). l.range) e;
        priority = ap (λ (l : RuleLine). l.priority) e;
        stop = ap (λ (l : RuleLine). l.stop) e;
        imported = ap (λ (l : RuleLine). l.imported) e;
        kind = kind_alike r.kind s.kind h g (ap (λ (l : RuleLine). l.kind) e);
      }

  pub rules_alike : (rs ss : List Rule) → PlainRules rs → PlainRules ss → map (rule_said p) rs ≡ map (rule_said q) ss
      → RulesAlike p q rs ss
  rules_alike [] [] h g e = tt
  rules_alike [] (s ∷ ss) h g e = let no : ◌≡◌ {A = ℕ} 0 1 = cc in omega arith
  rules_alike (r ∷ rs) [] h g e = let no : ◌≡◌ {A = ℕ} 0 1 = cc in omega arith
  rules_alike (r ∷ rs) (s ∷ ss) h g e = (rule_alike r s h.0 g.0 (cc), rules_alike rs ss h.1 g.1 (cc))
