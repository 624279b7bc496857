-- Reading refuses a text with 11 and n where and only where its nth line is the first that is malformed, missing or extra, and with the
-- early 2 where and only where its first two lines say so. Assumes nothing.
use Prim.Native.Nat.{ℕ, zero, suc, ◌+◌, ◌≤◌}
use mathlib.Core.Path.{◌≡◌, refl, sym, ap, ◌∙◌, subst}
use mathlib.Core.Logic.{◌↔◌}
use mathlib.Core.Bool.{Bool, true, false, cond}
use mathlib.Core.List.{List, [], ◌∷◌, ◌++◌}
use native.Mathlib.Omega.{arith}
use lib.Dec.{ltb, eqb}
use lib.ListN.{length, drop, replicate, length-append}
use lib.Seq.{drop-length}
use borrow.Author.Tests.{le-ltb, ne_eqb, ltb-false, eqb-false}
use Rattle.grammar.specs.Gram.{Got, Parser, Gram, Exactly, line_of}
use Rattle.grammar.specs.Gram.Got.{got, bad}
use Rattle.grammar.specs.Parts.{then, word_p, word, behind, both, times_p, times}
use Rattle.grammar.proofs.Places.{past, bad_got, steps}
use Rattle.grammar.proofs.Parts.{word_exact}
use Rattle.grammar.proofs.Feeds.{Across, across_none, across_then, across_got, line_across, Feeds, failed}
use Rattle.jobtext.specs.Text.{Head, body_t, head_names, second_line, head, tail, body_of, body, to_job}
use Rattle.jobtext.specs.Read.{ReadResult, max_text, over, closed, headed, read}
use Rattle.jobtext.specs.Lines.{After, Begins, Line, Saying, line, expected, Stuck, FirstBad, SaysTooMany}
use Rattle.jobtext.proofs.Text.{second_line_exact, head_exact, cell_exact, region_exact}
use Rattle.jobtext.proofs.Rules.{rule_exact}
use Rattle.textlaws.proofs.LineFeeds.{
  head_names_feeds,
  cell_names_feeds,
  region_names_feeds,
  rule_names_feeds,
  second_line_feeds,
  cell_feeds,
  region_feeds,
  rule_feeds,
}

-- ---- what is read, and what the bytes begin with

-- g reads a value at a place, and the value and the bytes behind it are as P says
record Reads {A : Type 0} (g : Gram A) (s : List ℕ) (at : ℕ) (P : A → List ℕ → Type 0) : Type 0 where
  value : A
  place : ℕ
  is : g.parse s at ≡ got value place
  such : P value (drop place s)

module _ {A : Type 0} {g : Gram A} (G : Exactly g) (s : List ℕ) (at : ℕ) where
  begins_read : {P : A → List ℕ → Type 0} → After g (drop at s) P → Reads g s at P
  begins_read {P} b = record {
    value = b.value;
    place = at + length (g.text b.value);
    is = G.reads s at b.value b.rest b.ok b.is;
    such = subst (P b.value) (sym (past s (g.text b.value) b.rest at b.is)) b.such;
  }

  read_begins : {P : A → List ℕ → Type 0} (a : A) (q : ℕ) → g.parse s at ≡ got a q → P a (drop q s) → After g (drop at s) P
  read_begins a q e x = record { value = a; ok = G.ok s at a q e; rest = drop q s; is = G.split s at a q e; such = x }

  bad_begins : (p : ℕ) → g.parse s at ≡ bad p → Begins g (drop at s) → ⊥
  bad_begins p e b = let r = begins_read b in bad_got p r.value r.place (sym e ∙ r.is)

-- ---- lines

line_exact : (l : Line) → Exactly (line l)
line_exact (Line.names w) = word_exact w
line_exact Line.cell = cell_exact
line_exact Line.region = region_exact
line_exact Line.rule = rule_exact

-- each of the lines has one LF
abbrev Fed : List Line → Type 0
Fed [] = Unit {0}
Fed (l ∷ ls) = Feeds 1 (line l) × Fed ls

fed_append : (ls ms : List Line) → Fed ls → Fed ms → Fed (ls ++ ms)
fed_append [] ms f h = h
fed_append (l ∷ ls) ms f h = (f.0, fed_append ls ms f.1 h)

fed_replicate : (n : ℕ) (l : Line) → Feeds 1 (line l) → Fed (replicate n l)
fed_replicate zero l f = tt
fed_replicate (suc n) l f = (f, fed_replicate n l f)

expected_fed : (h : Head) → Fed (expected h)
unfolding expected
expected_fed h = (
  cell_names_feeds,
  fed_append (replicate h.cells Line.cell) _ (fed_replicate h.cells Line.cell cell_feeds) (
    region_names_feeds,
    fed_append (replicate h.regions Line.region) _ (fed_replicate h.regions Line.region region_feeds)
        (rule_names_feeds, fed_replicate h.rules Line.rule rule_feeds),
  ),
)

-- reads lines, and keeps no value
unfoldable lines_p : List Line → Parser (Unit {0})
lines_p [] s at = got tt at
lines_p (l ∷ ls) s at = then ((line l).parse s at) (λ _ q. lines_p ls s q)

-- reading ends in line n of s: the line is bad, or the last was read and something follows
abbrev Refused : {A : Type 0} → List ℕ → ℕ → Got A → Type 0
Refused s n (got a q) = (q ≡ length s → ⊥) × (line_of s q ≡ n)
Refused s n (bad p) = line_of s p ≡ n

-- line n is the first bad one behind k lines: so many of the lines ls are as expected, and the next is not
record Found (ls : List Line) (k n : ℕ) (t : List ℕ) : Type 0 where
  passed : ℕ
  is : suc (k + passed) ≡ n
  stuck : Stuck ls passed t

module _ (s : List ℕ) where
  -- a place that bytes lead to is the text's end where nothing follows it
  at_end : (at k : ℕ) → Across s 0 at k → drop at s ≡ [] → at ≡ length s
  at_end at k x e =
      let i = x.next in
      let l = ap length x.is ∙ length-append x.between (drop at s) in
      let z = ap length e in
      omega arith

  refused_stuck : (ls : List Line) → Fed ls → (at k n : ℕ) → Across s 0 at k → Refused s n (lines_p ls s at) → Found ls k n (drop at s)
  unfolding lines_p
  refused_stuck [] f at k n x r =
      record { passed = 0; is = sym (line_across (across_then x (across_none s at))) ∙ r.1; stuck = λ e. r.0 (at_end at k x e) }
  refused_stuck (l ∷ ls) f at k n x r = go ((line l).parse s at) refl r (refused_stuck ls f.1)
    where
      go : (y : Got (Saying l)) → (line l).parse s at ≡ y → Refused s n (then y (λ _ q. lines_p ls s q))
          → ((at k n : ℕ) → Across s 0 at k → Refused s n (lines_p ls s at) → Found ls k n (drop at s)) → Found (l ∷ ls) k n (drop at s)
      go (got a q) e r ih =
          let t = ih q (k + 1) n (across_then x (across_got (line_exact l) f.0 s at a q e)) r in
          let i = t.is in
          record { passed = suc t.passed; is = omega arith; stuck = read_begins (line_exact l) s at a q e t.stuck }
      go (bad p) e r ih =
          let i = line_across (across_then x (f.0.stops s at p e)) in
          record { passed = 0; is = sym i ∙ r; stuck = bad_begins (line_exact l) s at p e }

  stuck_refused : (ls : List Line) → Fed ls → (m at k : ℕ) → Across s 0 at k → Stuck ls m (drop at s)
      → Refused s (suc (k + m)) (lines_p ls s at)
  unfolding lines_p
  stuck_refused [] f zero at k x h = ((λ e. h (ap (λ (q : ℕ). drop q s) e ∙ drop-length s)), line_across (across_then x (across_none s at)))
  stuck_refused [] f (suc m) at k x h = absurd h
  stuck_refused (l ∷ ls) f zero at k x h = go ((line l).parse s at) refl
    where
      go : (y : Got (Saying l)) → (line l).parse s at ≡ y → Refused s (suc (k + 0)) (then y (λ _ q. lines_p ls s q))
      go (got a q) e = absurd (h (read_begins (line_exact l) s at a q e tt))
      go (bad p) e = line_across (across_then x (f.0.stops s at p e))
  stuck_refused (l ∷ ls) f (suc m) at k x h =
      let r = begins_read (line_exact l) s at h in
      let y = across_then x (across_got (line_exact l) f.0 s at r.value r.place r.is) in
      let n : k + suc m ≡ k + 1 + m = omega arith in
      rw (r.is, n) (stuck_refused ls f.1 m r.place (k + 1) y r.such)

-- ---- sections

-- what is left of a reading without its value
abbrev forget : {A : Type 0} → Got A → Got (Unit {0})
forget (got a q) = got tt q
forget (bad p) = bad p

-- g reads as the lines do
record Lined {A : Type 0} (g : Gram A) (ls : List Line) : Type 0 where
  same : (s : List ℕ) (at : ℕ) → forget (g.parse s at) ≡ lines_p ls s at

forget_made : {A B : Type 0} (f : A → B) (y : Got A) → forget (then y (λ a q. got (f a) q)) ≡ forget y
forget_made f (got a q) = refl
forget_made f (bad p) = refl

lines_append : (ls ms : List Line) (s : List ℕ) (at : ℕ) → lines_p (ls ++ ms) s at ≡ then (lines_p ls s at) (λ _ q. lines_p ms s q)
unfolding lines_p
lines_append [] ms s at = refl
lines_append (l ∷ ls) ms s at = go ((line l).parse s at) (lines_append ls ms s)
  where
    go : (y : Got (Saying l)) → ((at : ℕ) → lines_p (ls ++ ms) s at ≡ then (lines_p ls s at) (λ _ q. lines_p ms s q))
        → then y (λ _ q. lines_p (ls ++ ms) s q) ≡ then (then y (λ _ q. lines_p ls s q)) (λ _ q. lines_p ms s q)
    go (got a q) ih = ih q
    go (bad p) ih = refl

behind_lined : {A : Type 0} {w : List ℕ} {g : Gram A} {ls : List Line} → Lined g ls → Lined (behind w g) (Line.names w ∷ ls)
unfolding lines_p
behind_lined {w = w} {g} {ls} f = record { same = λ s at. go s (word_p w s at) }
  where
    go : (s : List ℕ) (y : Got (Unit {0})) → forget (then y (λ _ q. g.parse s q)) ≡ then y (λ _ q. lines_p ls s q)
    go s (got a q) = f.same s q
    go s (bad p) = refl

module _ {A B : Type 0} {g : Gram A} {h : Gram B} {ls ms : List Line} where
  both_lined : Lined g ls → Lined h ms → Lined (both g h) (ls ++ ms)
  both_lined f k = record {
    same = λ s at.
        go s (g.parse s at)
        ∙ (ap (λ (y : Got (Unit {0})). then y (λ _ q. lines_p ms s q)) (f.same s at) ∙ sym (lines_append ls ms s at));
  }
    where
      go : (s : List ℕ) (y : Got A)
          → forget {A = A × B} (then y (λ a q. then (h.parse s q) (λ b e. got (a, b) e))) ≡ then (forget y) (λ _ q. lines_p ms s q)
      go s (got a q) = forget_made (λ b. (a, b)) (h.parse s q) ∙ k.same s q
      go s (bad p) = refl

times_lined : (n : ℕ) (l : Line) → Lined (times n (line l)) (replicate n l)
unfolding times_p lines_p
times_lined zero l = record { same = λ s at. refl }
times_lined (suc n) l = record { same = λ s at. go s ((line l).parse s at) ((times_lined n l).same s) }
  where
    go : (s : List ℕ) (y : Got (Saying l)) → ((at : ℕ) → forget ((times n (line l)).parse s at) ≡ lines_p (replicate n l) s at)
        → forget (then y (λ a q. then ((times n (line l)).parse s q) (λ r e. got (a ∷ r) e))) ≡ then y (λ _ q. lines_p (replicate n l) s q)
    go s (got a q) ih = forget_made (λ r. a ∷ r) ((times n (line l)).parse s q) ∙ ih q
    go s (bad p) ih = refl

body_lined : (h : Head) → Lined (body h) (expected h)
unfolding body_of tail expected
body_lined h =
    behind_lined
    (both_lined (times_lined h.cells Line.cell)
    (behind_lined
    (both_lined (times_lined h.regions Line.region) (behind_lined (times_lined h.rules Line.rule)))))

-- ---- the text

module _ (s : List ℕ) where
  head_across : (h : Head) (q : ℕ) → head.parse s 0 ≡ got h q → Across s 0 q 2
  unfolding head
  head_across h q e =
      let m = steps (word_p head_names s 0) (λ _ k. second_line.parse s k) h q e in
      across_then (across_got (word_exact head_names) head_names_feeds s 0 m.val m.mid m.one)
      (across_got second_line_exact second_line_feeds s m.mid h q m.two)

  closed_refused : (n : ℕ) (h : Head) (y : Got body_t) → closed s h y ≡ ReadResult.bad_line n → Refused s n (forget y)
  unfolding closed
  closed_refused n h (got b q) e = go (eqb q (length s)) refl e
    where
      go : (x : Bool) → eqb q (length s) ≡ x
          → cond x (ReadResult.is (to_job (h, b))) (ReadResult.bad_line (line_of s q)) ≡ ReadResult.bad_line n
          → (q ≡ length s → ⊥) × (line_of s q ≡ n)
      go true f e = let z : ◌≡◌ {A = ℕ} 0 1 = cc in absurd (omega arith)
      go false f e = (eqb-false q (length s) f, (cc))
  closed_refused n h (bad p) e = cc

  refused_closed : (n : ℕ) (h : Head) (y : Got body_t) → Refused s n (forget y) → closed s h y ≡ ReadResult.bad_line n
  unfolding closed
  refused_closed n h (got b q) r = rw (ne_eqb q (length s) r.0) (ap ReadResult.bad_line r.1)
  refused_closed n h (bad p) r = ap ReadResult.bad_line r

  closed_many : (start : ℕ) (h : Head) (y : Got body_t) → closed s h y ≡ ReadResult.too_many start → ⊥
  unfolding closed
  closed_many start h (got b q) e = go (eqb q (length s)) e
    where
      go : (x : Bool) → cond x (ReadResult.is (to_job (h, b))) (ReadResult.bad_line (line_of s q)) ≡ ReadResult.too_many start → ⊥
      go true e = let z : ◌≡◌ {A = ℕ} 0 1 = cc in omega arith
      go false e = let z : ◌≡◌ {A = ℕ} 0 1 = cc in omega arith
  closed_many start h (bad p) e = let z : ◌≡◌ {A = ℕ} 0 1 = cc in omega arith

  -- ---- the early 2

  headed_many : (start : ℕ) (y : Got Head) → head.parse s 0 ≡ y → headed s y ≡ ReadResult.too_many start → SaysTooMany start s
  unfolding headed
  headed_many start (got h q) e r = go (over h) refl r
    where
      go : (x : Bool) → over h ≡ x
          → cond x (ReadResult.too_many h.start) (closed s h ((body h).parse s q)) ≡ ReadResult.too_many start → SaysTooMany start s
      go true f r = read_begins head_exact s 0 h q e (f, (cc))
      go false f r = absurd (closed_many start h ((body h).parse s q) r)
  headed_many start (bad p) e r = let z : ◌≡◌ {A = ℕ} 0 1 = cc in absurd (omega arith)

  many_headed : (start : ℕ) → SaysTooMany start s → headed s (head.parse s 0) ≡ ReadResult.too_many start
  unfolding headed
  many_headed start b = let r = begins_read head_exact s 0 b in rw (r.is, r.such.0) (ap ReadResult.too_many r.such.1)

  -- ---- bad lines

  body_first : (n : ℕ) (h : Head) (q : ℕ) → head.parse s 0 ≡ got h q → over h ≡ false
      → closed s h ((body h).parse s q) ≡ ReadResult.bad_line n → FirstBad n s
  body_first n h q e f r =
      let c = subst (Refused s n) ((body_lined h).same s q) (closed_refused n h ((body h).parse s q) r) in
      let t = refused_stuck s (expected h) (expected_fed h) q 2 n (head_across h q e) c in
      let i : suc (suc (suc t.passed)) ≡ n = omega (arith, t.is) in
      rw (← i) (read_begins head_exact s 0 h q e (f, t.stuck))

  head_first : (n p : ℕ) → head.parse s 0 ≡ bad p → line_of s p ≡ n → FirstBad n s
  unfolding head
  head_first n p e r = failed (word_p head_names s 0) (λ _ q. second_line.parse s q) p one two e
    where
      one : word_p head_names s 0 ≡ bad p → FirstBad n s
      one e1 =
          let i : 1 ≡ n = sym (line_across (head_names_feeds.stops s 0 p e1)) ∙ r in
          rw (← i) (bad_begins (word_exact head_names) s 0 p e1)

      two : (x : Unit {0}) (m : ℕ) → word_p head_names s 0 ≡ got x m → second_line.parse s m ≡ bad p → FirstBad n s
      two x m e1 e2 =
          let a = across_got (word_exact head_names) head_names_feeds s 0 x m e1 in
          let i : 2 ≡ n = sym (line_across (across_then a (second_line_feeds.stops s m p e2))) ∙ r in
          rw (← i) (read_begins (word_exact head_names) s 0 x m e1 (bad_begins second_line_exact s m p e2))

  headed_first : (n : ℕ) (y : Got Head) → head.parse s 0 ≡ y → headed s y ≡ ReadResult.bad_line n → FirstBad n s
  unfolding headed
  headed_first n (got h q) e r = go (over h) refl r
    where
      go : (x : Bool) → over h ≡ x
          → cond x (ReadResult.too_many h.start) (closed s h ((body h).parse s q)) ≡ ReadResult.bad_line n → FirstBad n s
      go true f r = let z : ◌≡◌ {A = ℕ} 0 1 = cc in absurd (omega arith)
      go false f r = body_first n h q e f r
  headed_first n (bad p) e r = head_first n p e (cc)

  names_headed : (Begins (word head_names) s → ⊥) → headed s (head.parse s 0) ≡ ReadResult.bad_line 1
  unfolding headed head
  names_headed f = go (word_p head_names s 0) refl
    where
      go : (y : Got (Unit {0})) → word_p head_names s 0 ≡ y → headed s (then y (λ _ q. second_line.parse s q)) ≡ ReadResult.bad_line 1
      go (got x m) e = absurd (f (read_begins (word_exact head_names) s 0 x m e tt))
      go (bad p) e = ap ReadResult.bad_line (line_across (head_names_feeds.stops s 0 p e))

  second_headed : Reads (word head_names) s 0 (λ _ rest. Begins second_line rest → ⊥) → headed s (head.parse s 0) ≡ ReadResult.bad_line 2
  unfolding headed head
  second_headed r = rw r.is (go (second_line.parse s r.place) refl)
    where
      go : (y : Got Head) → second_line.parse s r.place ≡ y → headed s y ≡ ReadResult.bad_line 2
      go (got h q) e = absurd (r.such (read_begins second_line_exact s r.place h q e tt))
      go (bad p) e =
          let a = across_got (word_exact head_names) head_names_feeds s 0 r.value r.place r.is in
          ap ReadResult.bad_line (line_across (across_then a (second_line_feeds.stops s r.place p e)))

  body_headed : (m : ℕ) → Reads head s 0 (λ h rest. (over h ≡ false) × Stuck (expected h) m rest)
      → headed s (head.parse s 0) ≡ ReadResult.bad_line (suc (suc (suc m)))
  unfolding headed
  body_headed m r =
      let h = r.value in
      let q = r.place in
      let n : 2 + m ≡ suc (suc m) = omega arith in
      let c = stuck_refused s (expected h) (expected_fed h) m q 2 (head_across h q r.is) r.such.1 in
      let d = subst (Refused s (suc (2 + m))) (sym ((body_lined h).same s q)) c in
      rw (r.is, r.such.0, ← n) (refused_closed (suc (2 + m)) h ((body h).parse s q) d)

  first_headed : (n : ℕ) → FirstBad n s → headed s (head.parse s 0) ≡ ReadResult.bad_line n
  first_headed zero f = absurd f
  first_headed (suc zero) f = names_headed f
  first_headed (suc (suc zero)) f = second_headed (begins_read (word_exact head_names) s 0 f)
  first_headed (suc (suc (suc m))) f = body_headed m (begins_read head_exact s 0 f)

  -- ---- the whole

  short_read : (r : ReadResult) → (ReadResult.too_long ≡ r → ⊥) → read s ≡ r → (length s ≤ max_text) × (headed s (head.parse s 0) ≡ r)
  unfolding read
  short_read r d e = go (ltb max_text (length s)) refl e
    where
      go : (x : Bool) → ltb max_text (length s) ≡ x → cond x ReadResult.too_long (headed s (head.parse s 0)) ≡ r
          → (length s ≤ max_text) × (headed s (head.parse s 0) ≡ r)
      go true f e = absurd (d e)
      go false f e = (ltb-false max_text (length s) f, e)

  read_short : (r : ReadResult) → length s ≤ max_text → headed s (head.parse s 0) ≡ r → read s ≡ r
  unfolding read
  read_short r l e = rw (le-ltb max_text (length s) l) e

-- the early 2, right after the second line
pub too_many_lem : (s : List ℕ) (start : ℕ) → (read s ≡ ReadResult.too_many start) ↔ ((length s ≤ max_text) × SaysTooMany start s)
too_many_lem s start = (
  (λ e.
      let x = short_read s (ReadResult.too_many start) (λ f. let z : ◌≡◌ {A = ℕ} 0 1 = cc in omega arith) e in
      (x.0, headed_many s start (head.parse s 0) refl x.1)),
  (λ x. read_short s (ReadResult.too_many start) x.0 (many_headed s start x.1)),
)

-- 11, with the number of the first bad line
pub bad_line : (s : List ℕ) (n : ℕ) → (read s ≡ ReadResult.bad_line n) ↔ ((length s ≤ max_text) × FirstBad n s)
bad_line s n = (
  (λ e.
      let x = short_read s (ReadResult.bad_line n) (λ f. let z : ◌≡◌ {A = ℕ} 0 1 = cc in omega arith) e in
      (x.0, headed_first s n (head.parse s 0) refl x.1)),
  (λ x. read_short s (ReadResult.bad_line n) x.0 (first_headed s n x.1)),
)
