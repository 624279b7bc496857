-- The sections of regions and rules, part by part, and the answers of their reader. Assumes nothing.
use Prim.Native.Nat.{ℕ, ◌≤◌}
use mathlib.Core.Path.{◌≡◌, refl, sym, ap, ◌∙◌}
use Rattle.std.specs.Prelude.{Result, Ok, Err}
use mathlib.Core.List.{List, [], ◌∷◌}
use lib.ListN.{length}
use borrow.Author.Tests.{le-leb}
use Rattle.model.specs.declared.CellCoordinate.{CellCoordinate}
use Rattle.grammar.specs.Gram.{Got}
use Rattle.grammar.specs.Gram.Got.{got, bad}
use Rattle.grammar.specs.Parts.{bytes, word_p, times_p}
use Rattle.grammar.proofs.Parts.{word_exact, times_exact}
use Rattle.fields.specs.declared.Malformed.{Malformed}
use Rattle.fields.specs.Field.{word_of}
use Rattle.fields.specs.Room.{Room}
use Rattle.fields.proofs.Laws.{word_got, word_bad}
use Rattle.fields.proofs.Room.{room_on, room_roomy}
use Rattle.jobtext.specs.Written.{RuleLine}
use Rattle.jobtext.specs.Rules.{rule_line}
use Rattle.jobtext.specs.Text.{region_line, tail_t, tail}
use Rattle.jobtext.proofs.Text.{region_exact}
use Rattle.regionlines.specs.declared.RegionSection.{RegionSection}
use Rattle.regionlines.specs.Regions.{held as within_held, rows_after, cols_after}
use Rattle.regionlines.specs.Regions.{section_of as regionsOf}
use Rattle.rulelines.specs.declared.RuleSection.{RuleSection}
use Rattle.rulelines.specs.RuleSections.{rules_at, pool_after}
use Rattle.rulelines.specs.RuleSections.{section_of as rules_of}
use Rattle.reader.specs.Results.{IsTail}

-- the names above the regions, and those above the rules
abbrev pub region_names : List ℕ
region_names = 114 ∷ 111 ∷ 119 ∷ 32 ∷ 99 ∷ 111 ∷ 108 ∷ 10 ∷ []

abbrev pub rule_names : List ℕ
rule_names =
    116 ∷ 111 ∷ 112 ∷ 32 ∷ 108 ∷ 101 ∷ 102 ∷ 116 ∷ 32 ∷ 98 ∷ 111 ∷ 116 ∷ 116 ∷ 111 ∷ 109 ∷ 32 ∷ 114 ∷ 105 ∷ 103 ∷ 104 ∷ 116 ∷ 32 ∷
    112 ∷ 114 ∷ 105 ∷ 111 ∷ 114 ∷ 105 ∷ 116 ∷ 121 ∷ 32 ∷ 115 ∷ 116 ∷ 111 ∷ 112 ∷ 32 ∷ 105 ∷ 109 ∷ 112 ∷ 111 ∷ 114 ∷ 116 ∷ 101 ∷ 100 ∷
    32 ∷ 114 ∷ 117 ∷ 108 ∷ 101 ∷ 32 ∷ 112 ∷ 49 ∷ 32 ∷ 112 ∷ 50 ∷ 32 ∷ 112 ∷ 51 ∷ 32 ∷ 112 ∷ 52 ∷ 10 ∷ []

-- ---- what the answer of `read_regions` says

regions_bad : (g : Got (List CellCoordinate)) (rows cols : List ℕ) {e : Malformed} → Err e ≡ regionsOf g rows cols → g ≡ bad e.at
regions_bad (got rs q) rows cols x = cc
regions_bad (bad p) rows cols {e} x = let z : e ≡ record { at = p } = cc in rw z

-- ---- the rules, where there is room

rules_here : (s : List ℕ) (at n used : ℕ) → Room s at used → n ≤ 64 → rules_at s at n used ≡ times_p n rule_line.parse s at
unfolding rules_at
rules_here s at n used r h = rw (room_roomy r, le-leb n 64 h)

module _ (s : List ℕ) (at regions rules used : ℕ) (rows cols pool : List ℕ) where
  abbrev Says : Got tail_t → Result RuleSection Malformed → List ℕ → List ℕ → List ℕ → Type 0
  Says g r rows' cols' pool' = IsTail g used rows cols pool r rows' cols' pool'

  refused : {e : Malformed} (r : Result RuleSection Malformed) (rows' cols' pool' : List ℕ) → (tail regions rules).parse s at ≡ bad e.at
      → r ≡ Err e → Says ((tail regions rules).parse s at) r rows' cols' pool'
  refused r rows' cols' pool' e x = rw e x

  pub no_region_names : {e : Malformed} (r : Result RuleSection Malformed) (rows' cols' pool' : List ℕ)
      → Err e ≡ word_of (word_p region_names s at) → r ≡ Err e → Says ((tail regions rules).parse s at) r rows' cols' pool'
  unfolding tail bytes
  no_region_names r rows' cols' pool' x y = refused r rows' cols' pool' (rw (word_bad (word_p region_names s at) x)) y

  module _ {a : ℕ} (ea : Ok a ≡ word_of (word_p region_names s at)) where
    pub no_regions : {e : Malformed} (r : Result RuleSection Malformed) (rows' cols' pool' : List ℕ)
        → Err e ≡ regionsOf (times_p regions region_line.parse s a) rows cols → r ≡ Err e
        → Says ((tail regions rules).parse s at) r rows' cols' pool'
    unfolding tail bytes
    no_regions r rows' cols' pool' x y = refused r rows' cols' pool' (rw (
      word_got (word_p region_names s at) ea,
      regions_bad (times_p regions region_line.parse s a) rows cols x,
    )) y

    module _ {b : RegionSection} (eb : Ok b ≡ regionsOf (times_p regions region_line.parse s a) rows cols) where
      pub no_rule_names : {e : Malformed} (r : Result RuleSection Malformed) (rows' cols' pool' : List ℕ)
          → Err e ≡ word_of (word_p rule_names s b.next) → r ≡ Err e → Says ((tail regions rules).parse s at) r rows' cols' pool'
      unfolding tail bytes
      no_rule_names {e} r rows' cols' pool' x y = go (times_p regions region_line.parse s a) refl eb
        where
          go : (g : Got (List CellCoordinate)) → times_p regions region_line.parse s a ≡ g → Ok b ≡ regionsOf g rows cols
              → Says ((tail regions rules).parse s at) r rows' cols' pool'
          go (got rs q) f j =
              let k : b ≡ record { fits = within_held (length rs) rows cols; next = q } = cc in
              let n : word_p rule_names s q ≡ bad e.at =
              ap (λ (k : RegionSection). word_p rule_names s k.next) (sym k) ∙ word_bad (word_p rule_names s b.next) x in
              refused r rows' cols' pool' (rw (word_got (word_p region_names s at) ea, f, n)) y
          go (bad p) f j = absurd (cc)

      module _ {w : ℕ} (ew : Ok w ≡ word_of (word_p rule_names s b.next)) (room : Room s at used) (small : rules ≤ 64) where
        pub tail_answer : {r : Result RuleSection Malformed} {rows' cols' pool' : List ℕ}
            → rows' ≡ rows_after (times_p regions region_line.parse s a) rows cols
            → cols' ≡ cols_after (times_p regions region_line.parse s a) rows cols
            → r ≡ rules_of used (length pool) (rules_at s w rules used)
            → pool' ≡ pool_after used (rules_at s w rules used) pool
            → Says ((tail regions rules).parse s at) r rows' cols' pool'
        unfolding tail bytes
        tail_answer {r} {rows'} {cols'} {pool'} er ec es ep = go (times_p regions region_line.parse s a) refl eb er ec
          where
            last : (rs : List CellCoordinate) (q : ℕ) → times_p regions region_line.parse s a ≡ got rs q → b.next ≡ q
                → rows' ≡ rows_after (got rs q) rows cols → cols' ≡ cols_after (got rs q) rows cols
                → (g : Got (List RuleLine)) → times_p rules rule_line.parse s w ≡ g → r ≡ rules_of used (length pool) g
                → pool' ≡ pool_after used g pool
                → Says ((tail regions rules).parse s at) r rows' cols' pool'
            last rs q f k i j (got ls e) n x y =
                let m : word_p rule_names s q ≡ got tt w =
                ap (λ (p : ℕ). word_p rule_names s p) (sym k) ∙ word_got (word_p rule_names s b.next) ew in
                rw (word_got (word_p region_names s at) ea, f, m, n) (
                  x,
                  λ o p.
                      let u = le-leb (length rs) (length rows) o in
                      let v = le-leb (length rs) (length cols) p in
                      (rw (u, v) at i, rw (u, v) at j),
                  y,
                )
            last rs q f k i j (bad e) n x y =
                let m : word_p rule_names s q ≡ got tt w =
                ap (λ (p : ℕ). word_p rule_names s p) (sym k) ∙ word_got (word_p rule_names s b.next) ew in
                rw (word_got (word_p region_names s at) ea, f, m, n) x

            go : (g : Got (List CellCoordinate)) → times_p regions region_line.parse s a ≡ g → Ok b ≡ regionsOf g rows cols
                → rows' ≡ rows_after g rows cols → cols' ≡ cols_after g rows cols
                → Says ((tail regions rules).parse s at) r rows' cols' pool'
            go (got rs q) f e i j =
                let h : b ≡ record { fits = within_held (length rs) rows cols; next = q } = cc in
                let k : b.next ≡ q = ap (λ (x : RegionSection). x.next) h in
                let f' : times_p regions region_line.parse s a ≡ got rs b.next = f ∙ ap (λ (p : ℕ). got rs p) (sym k) in
                let here : Room s w used =
                room_on (word_exact rule_names) tt w
                (room_on (times_exact region_exact regions) rs b.next
                (room_on (word_exact region_names) tt a room (word_got (word_p region_names s at) ea)) f')
                (word_got (word_p rule_names s b.next) ew) in
                let z = rules_here s w rules used here small in
                last rs q f k i j (times_p rules rule_line.parse s w) refl (es ∙ ap (rules_of used (length pool)) z)
                (ep ∙ ap (λ (g : Got (List RuleLine)). pool_after used g pool) z)
            go (bad p) f e i j = absurd (cc)
