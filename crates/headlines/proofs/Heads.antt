-- The grammar of the first two lines, part by part, and the answers of their readers. Assumes nothing.
use Prim.Native.Nat.{ℕ}
use mathlib.Core.Path.{◌≡◌, refl, ap, ◌∙◌}
use mathlib.Core.Bool.{true}
use Rattle.std.specs.Prelude.{Result, Ok, Err}
use mathlib.Core.List.{List}
use lib.ListN.{length, drop, replicate, length-replicate}
use Rattle.memory.specs.Memory.{fits, all_or}
use Rattle.grammar.specs.Gram.{Got, Gram}
use Rattle.grammar.specs.Gram.Got.{got, bad}
use Rattle.grammar.specs.Parts.{then, bytes, byte_p, word_p, both}
use Rattle.grammar.specs.Numbers.{decimal_p, pairs_from}
use Rattle.fields.specs.declared.Malformed.{Malformed}
use Rattle.fields.specs.declared.ReadText.{ReadText}
use Rattle.fields.specs.Field.{word_of, text_of, pooled}
use Rattle.fields.proofs.Laws.{word_got, word_bad, word_byte}
use Rattle.jobtext.specs.Fields.{count, text_field}
use Rattle.jobtext.specs.Text.{Head, head_names, head, head_t, to_head}
use Rattle.headlines.specs.declared.Counts.{Counts}
use Rattle.headlines.specs.declared.ReadHead.{ReadHead}
use Rattle.headlines.specs.Heads.{counts_t, counts, counts_of, head_of, head_pooled}

-- ---- the five numbers

-- a number below 2^64 and the blank behind it
abbrev pub number : List ℕ → ℕ → Got ℕ
number s at = decimal_p 18_446_744_073_709_551_615 32 s at

-- ---- the numbers, then the name

abbrev pair : {A : Type 0} → ℕ → A → ℕ × A
pair m x = (m, x)

-- a pair's second part, joined to what follows it
abbrev behind_number : {A B C : Type 0} → (A → B → C) → ℕ × A → B → ℕ × C
behind_number f x b = (x.0, f x.1 b)

-- whole reads g and then t, joined by f
record Joined {A B C : Type 0} (s : List ℕ) (whole : Gram C) (g : Gram A) (t : Gram B) (f : A → B → C) : Type 0 where
  reads : (q : ℕ) → whole.parse s q ≡ then (g.parse s q) (λ a e. then (t.parse s e) (λ b k. got (f a b) k))

one_joined : {B : Type 0} {s : List ℕ} {t : Gram B} → Joined s (both count t) count t pair
one_joined = record { reads = λ q. refl }

more_joined : {A B C : Type 0} {s : List ℕ} {whole : Gram C} {g : Gram A} {t : Gram B} {f : A → B → C} → Joined s whole g t f
    → Joined s (both count whole) (both count g) t (behind_number f)
more_joined {A} {B} {C} {s} {whole} {g} {t} {f} h = record { reads = λ q. go (number s q) }
  where
    last : (m : ℕ) (a : A) (v : Got B)
        → then (then v (λ b k. got (f a b) k)) (λ x k. got (pair m x) k) ≡ then v (λ b k. got (pair m (f a b)) k)
    last m a (got b k) = refl
    last m a (bad p) = refl

    middle : (m : ℕ) (u : Got A)
        → then (then u (λ a e. then (t.parse s e) (λ b k. got (f a b) k))) (λ x k. got (pair m x) k)
        ≡ then (then u (λ a e. got (pair m a) e)) (λ x e. then (t.parse s e) (λ b k. got (behind_number f x b) k))
    middle m (got a e) = last m a (t.parse s e)
    middle m (bad p) = refl

    go : (n : Got ℕ) → then n (λ m e. then (whole.parse s e) (λ x k. got (pair m x) k))
        ≡ then (then n (λ m e. then (g.parse s e) (λ a k. got (pair m a) k)))
        (λ x e. then (t.parse s e) (λ b k. got (behind_number f x b) k))
    go (got m e) = rw (h.reads e) (middle m (g.parse s e))
    go (bad p) = refl

abbrev named : counts_t → List ℕ → head_t
named = behind_number (behind_number (behind_number (behind_number pair)))

numbers_name : (s : List ℕ)
    → Joined s (both count (both count (both count (both count (both count (text_field 10)))))) counts (text_field 10) named
unfolding counts
numbers_name s = more_joined (more_joined (more_joined (more_joined one_joined)))

-- ---- what an answer of the five numbers says

abbrev told : Counts → counts_t
told k = (k.limit, (k.start, (k.cells, (k.regions, k.rules))))

counts_read : (g : Got counts_t) {k : Counts} → Ok k ≡ counts_of g → g ≡ got (told k) k.next
counts_read (got x q) {k} e =
    let h : k ≡ record { limit = x.0; start = x.1.0; cells = x.1.1.0; regions = x.1.1.1.0; rules = x.1.1.1.1; next = q } = cc in rw h
counts_read (bad p) e = cc

counts_none : (g : Got counts_t) {e : Malformed} → Err e ≡ counts_of g → g ≡ bad e.at
counts_none (got x q) h = cc
counts_none (bad p) {e} h = let k : e ≡ record { at = p } = cc in rw k

-- ---- both lines

-- `clean` is the pool after it was cleared
module _ (s : List ℕ) (at : ℕ) (pool : List ℕ) {clean : List ℕ} (cleared : clean ≡ replicate (length pool) 0) where
  -- what is said of the answer r and of the pool at the end
  abbrev Says : Got Head → Result ReadHead Malformed → List ℕ → Type 0
  Says g r after = (r ≡ head_of g (length pool)) × (after ≡ head_pooled g (length pool))

  refused : (p : ℕ) → head.parse s at ≡ bad p → Says (head.parse s at) (Err (record { at = p })) clean
  refused p e = rw e (refl, cleared)

  pub no_names : {e : Malformed} → Err e ≡ word_of (word_p head_names s at) → Says (head.parse s at) (Err e) clean
  unfolding head
  no_names {e} x = refused e.at (rw (word_bad (word_p head_names s at) x))

  module _ {w : ℕ} (ew : Ok w ≡ word_of (word_p head_names s at)) where
    pub no_numbers : {e : Malformed} → Err e ≡ counts_of (counts.parse s w) → Says (head.parse s at) (Err e) clean
    unfolding head
    no_numbers {e} x =
        refused e.at
        (rw (word_got (word_p head_names s at) ew, (numbers_name s).reads w, counts_none (counts.parse s w) x))

    module _ {k : Counts} (ek : Ok k ≡ counts_of (counts.parse s w)) where
      pub no_mark : {e : Malformed} → Err e ≡ word_of (byte_p 116 s k.next) → Says (head.parse s at) (Err e) clean
      unfolding head text_field bytes
      no_mark {e} x =
          refused e.at
          (rw (
            word_got (word_p head_names s at) ew,
            (numbers_name s).reads w,
            counts_read (counts.parse s w) ek,
            word_byte 116 s k.next ∙ word_bad (byte_p 116 s k.next) x,
          ))

      module _ {m : ℕ} (em : Ok m ≡ word_of (byte_p 116 s k.next)) where
        -- what is left is the name
        last : (g : Got (List ℕ)) → pairs_from 10 m (drop m s) ≡ g
            → head.parse s at ≡ then g (λ n q. got (to_head (named (told k) n)) q)
        unfolding head text_field bytes
        last g e =
            rw (
              word_got (word_p head_names s at) ew,
              (numbers_name s).reads w,
              counts_read (counts.parse s w) ek,
              word_byte 116 s k.next ∙ word_got (byte_p 116 s k.next) em,
              e,
            ) (go g)
          where
            go : (g : Got (List ℕ)) → then (then g (λ n q. got (named (told k) n) q)) (λ x q. got (to_head x) q)
                ≡ then g (λ n q. got (to_head (named (told k) n)) q)
            go (got n q) = refl
            go (bad p) = refl

        long : length clean ≡ length pool
        long = ap length cleared ∙ length-replicate (length pool) 0

        module _ {after : List ℕ} (ep : after ≡ pooled (pairs_from 10 m (drop m s)) 0 clean) where
          pub no_name : {e : Malformed} → Err e ≡ text_of (pairs_from 10 m (drop m s)) 0 (length clean)
              → Says (head.parse s at) (Err e) after
          no_name {e} x = go (pairs_from 10 m (drop m s)) refl x ep
            where
              go : (g : Got (List ℕ)) → pairs_from 10 m (drop m s) ≡ g → Err e ≡ text_of g 0 (length clean)
                  → after ≡ pooled g 0 clean → Says (head.parse s at) (Err e) after
              go (got n q) h d p = absurd (cc)
              go (bad q) h d p =
                  let z : e ≡ record { at = q } = cc in rw (last (bad q) h, z) (refl, p ∙ ap (λ (n : ℕ). replicate n 0) long)

          pub head_answer : {f : ReadText} → Ok f ≡ text_of (pairs_from 10 m (drop m s)) 0 (length clean)
              → Says (head.parse s at) (Ok (record {
                fits = f.fits;
                limit = k.limit;
                start = k.start;
                cells = k.cells;
                regions = k.regions;
                rules = k.rules;
                name = f.length;
                next = f.next;
              })) after
          head_answer {f} x = go (pairs_from 10 m (drop m s)) refl x ep
            where
              go : (g : Got (List ℕ)) → pairs_from 10 m (drop m s) ≡ g → Ok f ≡ text_of g 0 (length clean)
                  → after ≡ pooled g 0 clean → Says (head.parse s at) (Ok (record {
                    fits = f.fits;
                    limit = k.limit;
                    start = k.start;
                    cells = k.cells;
                    regions = k.regions;
                    rules = k.rules;
                    name = f.length;
                    next = f.next;
                  })) after
              go (got n q) h d p =
                  let z : f ≡ record { fits = fits (length clean) 0 (length n); length = length n; next = q } = cc in
                  rw (last (got n q) h) (rw (z, long), p ∙ ap (λ (l : List ℕ). all_or 0 true l 0 n) cleared)
              go (bad q) h d p = absurd (cc)
