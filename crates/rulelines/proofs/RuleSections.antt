-- Lines of rules one after the other: what is left from a line on is what the whole leaves (`Rest`), and a law for each turn of the loop.
-- Assumes nothing.
use Prim.Native.Nat.{ℕ, zero, suc, ◌+◌, ◌-◌, ◌≤◌, ◌<◌}
use mathlib.Core.Path.{◌≡◌, refl, sym, ap, ◌∙◌}
use mathlib.Core.Bool.{Bool, true, false, ◌&&◌}
use Rattle.std.specs.Prelude.{Result, Ok, Err}
use mathlib.Core.List.{List, [], ◌∷◌, ◌++◌}
use native.Mathlib.Omega.{arith}
use lib.Dec.{leb}
use lib.ListN.{length, set, drop, replicate, length-append, length-replicate}
use lib.Seq.{sets, sets-eq}
use borrow.Author.Tests.{leb-true, leb-false}
use Rattle.memory.proofs.Laws.{all_fits, all_over}
use Rattle.model.specs.declared.Rule.{Rule}
use Rattle.grammar.specs.Gram.{Got}
use Rattle.grammar.specs.Gram.Got.{got, bad}
use Rattle.grammar.specs.Parts.{then, times_p}
use Rattle.grammar.proofs.Times.{times_next}
use Rattle.fields.specs.Room.{Room, roomy}
use Rattle.fields.specs.declared.Malformed.{Malformed}
use Rattle.fields.proofs.Room.{room_past, roomy_room}
use Rattle.grammar.proofs.Parts.{times_exact, times_length}
use Rattle.jobtext.specs.Written.{RuleLine}
use Rattle.jobtext.specs.Rules.{rule_line}
use Rattle.jobtext.specs.Laid.{kind_bytes, rule_at, rule_bytes, rules_from, blank_rule, records_from}
use Rattle.jobtext.proofs.Rules.{rule_exact}
use Rattle.jobtext.proofs.Lengths.{rule_length}
use Rattle.rulelines.specs.declared.Laid.{Laid}
use Rattle.rulelines.specs.declared.RuleSection.{RuleSection}
use Rattle.rulelines.specs.Lines.{Stored, Pooled}
use Rattle.rulelines.specs.RuleLines.{rule_bytes_of, rule_of}
use Rattle.rulelines.specs.RuleSections.{rules_left, answer_of, rules_at, section_of, pool_after}
use Rattle.rulelines.proofs.Told.{laid_bad}
use Rattle.rulelines.proofs.Pools.{stored_both}

rule_size : (l : RuleLine) → rule_line.Ok l → length (rule_bytes_of l) ≤ length (rule_line.text l)
unfolding rule_bytes_of
rule_size l o = rule_length l o

pub record Rest (s : List ℕ) (at n used : ℕ) (records₀ : List Rule) (pool₀ : List ℕ) (records : List Rule) (pool : List ℕ) (q u i : ℕ)
    : Type 0 where
  pub same : rules_left i u (times_p (n - i) rule_line.parse s q) records ≡ rules_left 0 used (times_p n rule_line.parse s at) records₀
  pub texts : (after : List ℕ) → Pooled rule_bytes (times_p (n - i) rule_line.parse s q) u pool after
      → Pooled rule_bytes (times_p n rule_line.parse s at) used pool₀ after
  pub room : Room s q u
  pub deep : length pool ≡ length pool₀

pub rest_begun : (s : List ℕ) (at n used : ℕ) (records : List Rule) (pool : List ℕ) → Room s at used
    → Rest s at n used records pool records pool at used 0
rest_begun s at n used records pool r =
    let z : n - 0 ≡ n = omega arith in
    record { same = rw z; texts = rw z (λ after t. t); room = r; deep = refl }

left_next : (i u : ℕ) (l : RuleLine) (records : List Rule) (g : Got (List RuleLine))
    → rules_left i u (then g (λ k e. got (l ∷ k) e)) records
    ≡ rules_left (i + 1) (u + length (rule_bytes_of l)) g (set records i (rule_at u l))
unfolding rules_from rule_bytes rule_bytes_of
left_next i u l records (got ls q) =
    let b = kind_bytes l.kind in
    let z : u + length (b ++ rule_bytes ls) ≡ u + length b + length (rule_bytes ls) = simp length-append (omega arith) in
    let y : i + 1 ≡ suc i = omega arith in
    rw (z, y)
left_next i u l records (bad p) = refl

-- the names of a line, and then those of the lines behind it
texts_next : (u : ℕ) (l : RuleLine) (pool mid after : List ℕ) (g : Got (List RuleLine)) → Stored pool u (rule_bytes_of l) mid
    → Pooled rule_bytes g (u + length (rule_bytes_of l)) mid after → Pooled rule_bytes (then g (λ k e. got (l ∷ k) e)) u pool after
unfolding rule_bytes rule_bytes_of
texts_next u l pool mid after (got ls q) x y = stored_both pool u (kind_bytes l.kind) (rule_bytes ls) refl x y
texts_next u l pool mid after (bad p) x y = tt

module _ {s : List ℕ} {at n used : ℕ} {records₀ : List Rule} {pool₀ : List ℕ} {records : List Rule} {pool : List ℕ} {q u i : ℕ}
    (w : Rest s at n used records₀ pool₀ records pool q u i) where
  -- the answer, and the names
  abbrev Says : ℕ → Result RuleSection Malformed → List ℕ → Type 0
  Says size r after =
      (r ≡ answer_of (rules_left 0 used (times_p n rule_line.parse s at) records₀) size n)
      × Pooled rule_bytes (times_p n rule_line.parse s at) used pool₀ after

  pub rest_done : n ≤ i → Says (length pool₀) (Ok (record {
    fits = leb u (length pool);
    next = q;
    used = u;
    rules = record { records = records; number = n };
  })) pool
  unfolding times_p rules_from rule_bytes
  rest_done h =
      let z : n - i ≡ 0 = omega arith in
      let y : u + 0 ≡ u = omega arith in (
        rw (← w.same, z, y, w.deep),
        w.texts pool (rw z (λ _. refl)),
      )

  pub rest_stopped : {e : Malformed} (size : ℕ) (after : List ℕ) → i < n → Err e ≡ rule_of (rule_line.parse s q) u → Says size (Err e) after
  rest_stopped {e} size after h x =
      let t : times_p (n - i) rule_line.parse s q ≡ bad e.at =
      times_next n i rule_line.parse s q h ∙ rw (laid_bad rule_at rule_bytes_of (rule_line.parse s q) u x) in
      (rw (← w.same, t), w.texts after (rw t tt))

  pub rest_next : {c : Laid Rule} (after : List ℕ) → i < n → Ok c ≡ rule_of (rule_line.parse s q) u
      → Pooled rule_bytes_of (rule_line.parse s q) u pool after → length after ≡ length pool
      → Rest s at n used records₀ pool₀ (set records i c.value) after c.next c.used (i + 1)
  rest_next {c} after h k y l = go (rule_line.parse s q) refl k y
    where
      go : (g : Got RuleLine) → rule_line.parse s q ≡ g → Ok c ≡ rule_of g u → Pooled rule_bytes_of g u pool after
          → Rest s at n used records₀ pool₀ (set records i c.value) after c.next c.used (i + 1)
      go (got a p) f k y =
          let more : Got (List RuleLine) = times_p (n - (i + 1)) rule_line.parse s p in
          let t : times_p (n - i) rule_line.parse s q ≡ then more (λ l e. got (a ∷ l) e) =
          times_next n i rule_line.parse s q h
          ∙ ap (λ (g : Got RuleLine). then g (λ b k. then (times_p (n - (i + 1)) rule_line.parse s k) (λ l e. got (b ∷ l) e))) f in
          let d : c ≡ record { value = rule_at u a; next = p; used = u + length (rule_bytes_of a) } = cc in
          rw d
          (record {
            same = sym (left_next i u a records more) ∙ (sym (ap (λ (g : Got (List RuleLine)). rules_left i u g records) t) ∙ w.same);
            texts = λ e m. w.texts e (rw t (texts_next u a pool after e more y m));
            room = room_past rule_exact a p (length (rule_bytes_of a)) w.room f (rule_size a (rule_exact.ok s q a p f));
            deep = l ∙ w.deep;
          })
      go (bad p) f k y = absurd (cc)

-- ---- the whole section

and_first : (a b : Bool) → (a && b) ≡ true → a ≡ true
and_first true b e = refl
and_first false b e = cc

and_second : (a b : Bool) → (a && b) ≡ true → b ≡ true
and_second true b e = e
and_second false b e = cc

length_rules : (u : ℕ) (rs : List RuleLine) → length (rules_from u rs) ≡ length rs
unfolding rules_from
length_rules u [] = refl
length_rules u (r ∷ rs) = ap suc (length_rules (u + length (kind_bytes r.kind)) rs)

drop_blank : (n m : ℕ) → drop m (replicate n blank_rule) ≡ replicate (n - m) blank_rule
drop_blank n zero = let z : n - 0 ≡ n = omega arith in rw z
drop_blank zero (suc m) = let z : 0 - suc m ≡ 0 = omega arith in rw z
drop_blank (suc n) (suc m) = let z : suc n - suc m ≡ n - m = omega arith in rw z (drop_blank n m)

-- rules stored over blank records
stored_records : (u : ℕ) (rs : List RuleLine) → length rs ≤ 64
    → sets (replicate 64 blank_rule) 0 (rules_from u rs) ≡ rules_from u rs ++ replicate (64 - length rs) blank_rule
stored_records u rs h =
    let n = length_rules u rs in
    let e : 0 + length (rules_from u rs) ≤ length (replicate 64 blank_rule) = rw (length-replicate 64 blank_rule) (omega arith) in
    let z : 0 + length (rules_from u rs) ≡ length rs = omega arith in
    sets-eq (rules_from u rs) (replicate 64 blank_rule) 0 e ∙ rw (z, drop_blank 64 (length rs))

module _ (s : List ℕ) (at n used : ℕ) (pool : List ℕ) where
  abbrev Section : Result RuleSection Malformed → List ℕ → Type 0
  Section r after =
      (r ≡ section_of used (length pool) (rules_at s at n used)) × (after ≡ pool_after used (rules_at s at n used) pool)

  pub no_room : {b : Bool} {after : List ℕ} → b ≡ (roomy s at used && leb n 64) → b ≡ false → after ≡ replicate (length pool) 0
      → Section (Err (record { at = at })) after
  unfolding rules_at
  no_room {b} x y i = rw (sym x ∙ y) (refl, i)

  module _ {b : Bool} (x : b ≡ (roomy s at used && leb n 64)) (y : b ≡ true) {r : Result RuleSection Malformed}
      (e : r ≡ answer_of (rules_left 0 used (times_p n rule_line.parse s at) (replicate 64 blank_rule)) (length pool) n) where
    small : n ≤ 64
    small = leb-true n 64 (and_second (roomy s at used) (leb n 64) (sym x ∙ y))

    abbrev lines : Got (List RuleLine)
    lines = times_p n rule_line.parse s at

    answered : r ≡ section_of used (length pool) lines
    unfolding records_from
    answered = e ∙ go lines refl
      where
        go : (g : Got (List RuleLine)) → lines ≡ g
            → answer_of (rules_left 0 used g (replicate 64 blank_rule)) (length pool) n ≡ section_of used (length pool) g
        go (got rs q) h =
            let l : length rs ≡ n = times_length rule_line.Ok n rs ((times_exact rule_exact n).ok s at rs q h) in
            let m : length rs ≤ 64 = omega (arith, small) in
            rw (stored_records used rs m, l)
        go (bad p) h = refl

    -- the names are within the pool
    pub lines_read : {t : RuleSection} (after : List ℕ) → r ≡ Ok t → t.fits ≡ true → Pooled rule_bytes lines used pool after → Section r after
    unfolding rules_at
    lines_read {t} after d z p = rw (sym x ∙ y) (answered, go lines (sym d ∙ answered) p)
      where
        go : (g : Got (List RuleLine)) → Ok t ≡ section_of used (length pool) g → Pooled rule_bytes g used pool after
            → after ≡ pool_after used g pool
        go (got rs q) k p =
            let f : leb (used + length (rule_bytes rs)) (length pool) ≡ true = cc in
            let l = leb-true _ _ f in
            p l ∙ sym (all_fits 0 pool used (rule_bytes rs) l)
        go (bad q) k p = absurd (cc)

    -- they are not
    pub lines_over : {t : RuleSection} {after : List ℕ} → r ≡ Ok t → t.fits ≡ false → after ≡ replicate (length pool) 0 → Section r after
    unfolding rules_at
    lines_over {t} {after} d z i = rw (sym x ∙ y) (answered, i ∙ go lines (sym d ∙ answered))
      where
        go : (g : Got (List RuleLine)) → Ok t ≡ section_of used (length pool) g → replicate (length pool) 0 ≡ pool_after used g pool
        go (got rs q) k =
            let f : leb (used + length (rule_bytes rs)) (length pool) ≡ false = cc in
            sym (all_over 0 pool used (rule_bytes rs) true (leb-false _ _ f))
        go (bad p) k = absurd (cc)

    -- a line is malformed
    pub lines_stopped : {m : Malformed} {after : List ℕ} → r ≡ Err m → after ≡ replicate (length pool) 0 → Section r after
    unfolding rules_at
    lines_stopped {m} {after} d i = rw (sym x ∙ y) (answered, i ∙ go lines (sym d ∙ answered))
      where
        go : (g : Got (List RuleLine)) → Err m ≡ section_of used (length pool) g → replicate (length pool) 0 ≡ pool_after used g pool
        go (got rs q) k = absurd (cc)
        go (bad p) k = refl

-- the bounds hold where the test does
pub lines_room : (s : List ℕ) (at n used : ℕ) {b : Bool} → b ≡ (roomy s at used && leb n 64) → b ≡ true → Room s at used × (n ≤ 64)
lines_room s at n used {b} x y =
    let e = sym x ∙ y in
    (roomy_room s at used (and_first (roomy s at used) (leb n 64) e), leb-true n 64 (and_second (roomy s at used) (leb n 64) e))
