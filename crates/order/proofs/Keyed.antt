-- Rules that count keys: which kinds do not, one record more in a pass over them, and that one among them is told. Assumes nothing.
use Prim.Native.Nat.{ℕ, zero, suc, ◌<◌}
use native.Mathlib.Nat.{not-suc-le-zero, le_of_suc-le-suc}
use native.Mathlib.Omega.{arith}
use mathlib.Core.Path.{◌≡◌, refl, ap}
use Rattle.std.specs.List.{list_any}
use mathlib.Core.Bool.{Bool, true, false, ◌||◌, or-true}
use mathlib.Core.List.{List, [], ◌∷◌}
use types.Run.{OneOf, miss}
use denote.Enum.Declared.{tag_of}
use lib.ListN.{length, get_or, take, length-take}
use lib.Seq.{get_or-take}
use Rattle.model.specs.contracts.CfRule as kinds
use Rattle.model.specs.declared.CfRule.{CfRule}
use Rattle.model.specs.declared.Rule.{Rule}
use Rattle.model.specs.declared.Rules.{Rules}
use Rattle.order.specs.Order.{ordered_rules, is_duplicates, any_duplicates, count_keys}
use Rattle.order.proofs.Laws.{taken_length}

-- ---- the kinds

-- besides duplicates, in the order of `CfRule`
abbrev uncounted : List ℕ
uncounted = 0 ∷ 1 ∷ 2 ∷ 3 ∷ 4 ∷ 5 ∷ 7 ∷ []

pub not_duplicates : (kind : CfRule) → OneOf uncounted (tag_of kinds.the_type kind) → is_duplicates kind ≡ false
unfolding is_duplicates
not_duplicates (CfRule.CellIs op first second fill) h = refl
not_duplicates (CfRule.ColorScale2 min max) h = refl
not_duplicates (CfRule.ColorScale3 min mid max) h = refl
not_duplicates (CfRule.DataBar color) h = refl
not_duplicates (CfRule.TopBottom rank bottom percent fill) h = refl
not_duplicates (CfRule.AboveAverage below fill) h = refl
not_duplicates (CfRule.DuplicateValues unique fill) h = absurd (miss uncounted 6 tt h)
not_duplicates (CfRule.Expression op left right fill) h = refl

-- ---- a pass over the records

pub any_is : (rs : List Rule) → list_any (λ (r : Rule). is_duplicates r.kind) rs ≡ any_duplicates rs
unfolding any_duplicates
any_is [] = refl
any_is (r ∷ rs) = ap (λ (t : Bool). is_duplicates r.kind || t) (any_is rs)

-- the records that are looked at are the rules
pub keys_counted : (rules : Rules) → any_duplicates (take rules.number rules.records) ≡ count_keys rules
unfolding count_keys
keys_counted rules = refl

-- ---- one of the rules

any_at : (rs : List Rule) (i : ℕ) (d : Rule) → i < length rs → is_duplicates (get_or rs i d).kind ≡ true → any_duplicates rs ≡ true
unfolding any_duplicates
any_at [] i d h e = absurd (not-suc-le-zero h)
any_at (r ∷ rs) zero d h e = rw e
any_at (r ∷ rs) (suc i) d h e = rw (any_at rs i d (le_of_suc-le-suc h) e) (or-true (is_duplicates r.kind))

-- a rule that counts keys is among those that are taken
pub keys_told : (rules : Rules) (i : ℕ) (d : Rule) → i < length (ordered_rules rules)
    → is_duplicates (get_or rules.records i d).kind ≡ true → count_keys rules ≡ true
unfolding count_keys
keys_told rules i d h e =
    let n = rules.number in
    let l : i < n = omega (arith, h, taken_length rules) in
    any_at (take n rules.records) i d (omega (arith, h, taken_length rules, length-take n rules.records))
    (rw (get_or-take n rules.records i d l) e)
