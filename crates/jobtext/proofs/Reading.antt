-- The reader's laws: what is accepted is the text of the job that it gives, the text of every job that has one is accepted, and
-- jobs that differ have texts that differ. Assumes nothing.
use Prim.Native.Nat.{ℕ, ◌≤◌, ◌<◌}
use mathlib.Core.Path.{◌≡◌, refl, sym, ap, ◌∙◌, subst}
use mathlib.Core.Bool.{Bool, true, false, cond}
use mathlib.Core.List.{List}
use native.Mathlib.Omega.{arith}
use lib.Dec.{ltb, eqb}
use lib.ListN.{length}
use borrow.Author.Tests.{lt-ltb, le-ltb, eq-eqb, ltb-true, ltb-false, eqb-true}
use Rattle.grammar.specs.Gram.{Got, line_of}
use Rattle.grammar.specs.Gram.Got.{got, bad}
use Rattle.grammar.specs.Parts.{following}
use Rattle.grammar.proofs.Before.{pair}
use Rattle.grammar.proofs.Parts.{following_exact}
use Rattle.grammar.proofs.Whole.{accepted, accepts, one_text}
use Rattle.jobtext.specs.Written.{JobText}
use Rattle.jobtext.specs.Text.{Head, head, body_t, body, to_job, of_job, job}
use Rattle.jobtext.specs.Read.{ReadResult, max_text, over, Readable, closed, headed, read}
use Rattle.jobtext.proofs.Text.{head_exact, body_exact, job_back, job_exact}

-- ---- what is accepted

-- the parts that an accepted text was read from
record Taken (s : List ℕ) (j : JobText) : Type 0 where
  first : Head
  rest : body_t
  place : ℕ
  headed_as : head.parse s 0 ≡ got first place
  counted : over first ≡ false
  bodied_as : (body first).parse s place ≡ got rest (length s)
  made : to_job (first, rest) ≡ j

no_job : (r : ReadResult) (j : JobText) → (ReadResult.too_long ≡ r → r ≡ ReadResult.is j → ⊥)
no_job r j e f = let z = e ∙ f in let w : ◌≡◌ {A = ℕ} 0 1 = cc in omega arith

bad_no_job : (n : ℕ) (j : JobText) → ReadResult.bad_line n ≡ ReadResult.is j → ⊥
bad_no_job n j e = let w : ◌≡◌ {A = ℕ} 0 1 = cc in omega arith

many_no_job : (n : ℕ) (j : JobText) → ReadResult.too_many n ≡ ReadResult.is j → ⊥
many_no_job n j e = let w : ◌≡◌ {A = ℕ} 0 1 = cc in omega arith

module _ (s : List ℕ) (j : JobText) where
  taken_closed : (h : Head) (q : ℕ) → head.parse s 0 ≡ got h q → over h ≡ false
      → closed s h ((body h).parse s q) ≡ ReadResult.is j → Taken s j
  unfolding closed
  taken_closed h q e1 e2 e = go ((body h).parse s q) refl e
    where
      go : (g : Got body_t) → (body h).parse s q ≡ g → closed s h g ≡ ReadResult.is j → Taken s j
      go (got b p) f e3 = go2 (eqb p (length s)) refl e3
        where
          go2 : (x : Bool) → eqb p (length s) ≡ x
              → cond x (ReadResult.is (to_job (h, b))) (ReadResult.bad_line (line_of s p)) ≡ ReadResult.is j → Taken s j
          go2 true x e4 =
              let m : to_job (h, b) ≡ j = cc in
              record {
                first = h;
                rest = b;
                place = q;
                headed_as = e1;
                counted = e2;
                bodied_as = f ∙ ap (λ (k : ℕ). got b k) (eqb-true p (length s) x);
                made = m;
              }
          go2 false x e4 = absurd (bad_no_job (line_of s p) j e4)
      go (bad p) f e3 = absurd (bad_no_job (line_of s p) j e3)

  taken_within : (h : Head) (q : ℕ) → head.parse s 0 ≡ got h q
      → cond (over h) (ReadResult.too_many h.start) (closed s h ((body h).parse s q)) ≡ ReadResult.is j → Taken s j
  taken_within h q e1 e = go (over h) refl e
    where
      go : (x : Bool) → over h ≡ x
          → cond x (ReadResult.too_many h.start) (closed s h ((body h).parse s q)) ≡ ReadResult.is j → Taken s j
      go true f e2 = absurd (many_no_job h.start j e2)
      go false f e2 = taken_closed h q e1 f e2

  taken_headed : headed s (head.parse s 0) ≡ ReadResult.is j → Taken s j
  unfolding headed
  taken_headed e = go (head.parse s 0) refl e
    where
      go : (g : Got Head) → head.parse s 0 ≡ g → headed s g ≡ ReadResult.is j → Taken s j
      go (got h q) f e1 = taken_within h q f e1
      go (bad p) f e1 = absurd (bad_no_job (line_of s p) j e1)

  pub record Accepted : Type 0 where
    pub readable : Readable j
    pub is : s ≡ job.text j

  taken_accepted : length s ≤ max_text → Taken s j → Accepted
  unfolding job
  taken_accepted fits t =
      let e : (following head body).parse s 0 ≡ got (t.first, t.rest) (length s) = rw (t.headed_as, t.bodied_as) in
      let a = accepted (following_exact head_exact body_exact) s (t.first, t.rest) e in
      let back : of_job (to_job (t.first, t.rest)) ≡ (t.first, t.rest) = job_back (t.first, t.rest) a.0 in
      let x : of_job j ≡ (t.first, t.rest) = ap of_job (sym t.made) ∙ back in
      let text : s ≡ job.text j = a.1 ∙ ap (following head body).text (sym x) in
      record {
        readable = record {
          ok = subst (following head body).Ok (sym x) a.0;
          counts = ap (λ (y : Head × body_t). over y.0) x ∙ t.counted;
          fits = subst (λ (l : List ℕ). length l ≤ max_text) text fits;
        };
        is = text;
      }

  -- what is accepted is the text of the job that it gives
  pub read_accepted : read s ≡ ReadResult.is j → Accepted
  unfolding read
  read_accepted e = go (ltb max_text (length s)) refl e
    where
      go : (x : Bool) → ltb max_text (length s) ≡ x → cond x ReadResult.too_long (headed s (head.parse s 0)) ≡ ReadResult.is j
          → Accepted
      go true f e1 = absurd (no_job ReadResult.too_long j refl e1)
      go false f e1 = taken_accepted (ltb-false max_text (length s) f) (taken_headed e1)

-- ---- what has a text

-- the text of every job that has one is accepted
pub text_read : (j : JobText) → Readable j → read (job.text j) ≡ ReadResult.is j
unfolding read headed closed job
text_read j r =
    let s = job.text j in
    let e : (following head body).parse s 0 ≡ got (of_job j) (length s) = accepts (following_exact head_exact body_exact) s (of_job j)
    r.ok refl in
    let p = pair head body s 0 (of_job j) (length s) e in
    rw (le-ltb max_text (length s) r.fits, p.one, r.counts, p.two, eq-eqb (length s) (length s) refl)

-- one job, one text
pub job_text_one : (j k : JobText) → Readable j → Readable k → job.text j ≡ job.text k → j ≡ k
job_text_one j k a b e = one_text job_exact j k a.ok b.ok e

-- ---- 10

pub read_too_long : (s : List ℕ) → max_text < length s → read s ≡ ReadResult.too_long
unfolding read
read_too_long s h = rw (lt-ltb max_text (length s) h)

module _ (s : List ℕ) where
  closed_short : (h : Head) (g : Got body_t) → closed s h g ≡ ReadResult.too_long → ⊥
  unfolding closed
  closed_short h (bad p) e = absurd (let no : ◌≡◌ {A = ℕ} 0 1 = cc in omega arith)
  closed_short h (got b p) e = go (eqb p (length s)) e
    where
      go : (x : Bool) → cond x (ReadResult.is (to_job (h, b))) (ReadResult.bad_line (line_of s p)) ≡ ReadResult.too_long → ⊥
      go true e = absurd (let no : ◌≡◌ {A = ℕ} 0 1 = cc in omega arith)
      go false e = absurd (let no : ◌≡◌ {A = ℕ} 0 1 = cc in omega arith)

  headed_short : (g : Got Head) → headed s g ≡ ReadResult.too_long → ⊥
  unfolding headed
  headed_short (bad p) e = absurd (let no : ◌≡◌ {A = ℕ} 0 1 = cc in omega arith)
  headed_short (got h q) e = go (over h) e
    where
      go : (x : Bool) → cond x (ReadResult.too_many h.start) (closed s h ((body h).parse s q)) ≡ ReadResult.too_long → ⊥
      go true e = absurd (let no : ◌≡◌ {A = ℕ} 0 1 = cc in omega arith)
      go false e = closed_short h ((body h).parse s q) e

  pub read_long : read s ≡ ReadResult.too_long → max_text < length s
  unfolding read
  read_long e = go (ltb max_text (length s)) refl e
    where
      go : (x : Bool) → ltb max_text (length s) ≡ x → cond x ReadResult.too_long (headed s (head.parse s 0)) ≡ ReadResult.too_long
          → max_text < length s
      go true f e = ltb-true max_text (length s) f
      go false f e = absurd (headed_short (head.parse s 0) e)
