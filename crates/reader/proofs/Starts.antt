-- The first two lines with the tests on length and counts: the answers of their reader, and the bounds that they leave.
-- Assumes nothing.
use Prim.Native.Nat.{ℕ, ◌+◌, ◌≤◌}
use mathlib.Core.Path.{◌≡◌, refl, sym, ap, ◌∙◌, subst}
use mathlib.Core.Bool.{Bool, true, false, cond, ◌||◌}
use Rattle.std.specs.Prelude.{Result, Ok, Err}
use mathlib.Core.List.{List}
use native.Mathlib.Omega.{arith}
use lib.Dec.{ltb}
use lib.ListN.{length, length-append}
use borrow.Author.Tests.{ltb-false}
use Rattle.memory.specs.Memory.{fits, page_of}
use Rattle.grammar.specs.Gram.{Got, line_of}
use Rattle.grammar.specs.Gram.Got.{got, bad}
use Rattle.fields.specs.Room.{Room}
use Rattle.fields.specs.declared.Malformed.{Malformed}
use Rattle.fields.proofs.Room.{room_past}
use Rattle.jobtext.specs.Fields.{text_field}
use Rattle.jobtext.specs.Text.{Head, head}
use Rattle.jobtext.specs.Read.{max_text, over}
use Rattle.jobtext.proofs.Text.{head_exact}
use Rattle.grammar.proofs.Pairs.{length_pairs}
use Rattle.headlines.specs.declared.ReadHead.{ReadHead}
use Rattle.headlines.specs.Heads.{head_of, head_pooled}
use Rattle.reader.specs.declared.Start.{Start}
use Rattle.reader.specs.declared.Unread.{Unread}
use Rattle.reader.specs.Results.{started, start_of, start_if, Named}

-- ---- the reader's answers

module _ (s pool : List ℕ) where
  -- a head that was read
  abbrev head_record : Head → ℕ → ReadHead
  head_record y q =
      record {
        fits = fits (length pool) 0 (length y.name);
        limit = y.limit;
        start = y.start;
        cells = y.cells;
        regions = y.regions;
        rules = y.rules;
        name = length y.name;
        next = q;
      }

  abbrev SaysIf : Bool → Result Start Unread → List ℕ → Type 0
  SaysIf b r after = (r ≡ start_if b s) × Named b (head.parse s 0) pool after

  abbrev Says : Result Start Unread → List ℕ → Type 0
  Says r after = SaysIf (ltb max_text (length s)) r after

  pub too_long : (after : List ℕ) → ltb max_text (length s) ≡ true → Says (Err Unread.TooLong) after
  too_long after x = rw x (refl, tt)

  module _ (short : ltb max_text (length s) ≡ false) {after : List ℕ} (ep : after ≡ head_pooled (head.parse s 0) (length pool)) where
    pub no_head : {m : Malformed} {u : Unread} → Err m ≡ head_of (head.parse s 0) (length pool) → u ≡ Unread.Malformed (line_of s m.at)
        → Says (Err u) after
    no_head {m} {u} x l = rw short (go (head.parse s 0) refl x)
      where
        go : (g : Got Head) → head.parse s 0 ≡ g → Err m ≡ head_of g (length pool) → SaysIf false (Err u) after
        go (got y q) f i = absurd (cc)
        go (bad p) f i = let z : m ≡ record { at = p } = cc in rw (f, l, z) (refl, tt)

    module _ {h : ReadHead} (eh : Ok h ≡ head_of (head.parse s 0) (length pool)) {o : Bool}
        (eo : o ≡ (ltb 1024 h.cells || ltb 1024 h.regions || ltb 64 h.rules)) where
      pub too_many_lem : o ≡ true → Says (Err (Unread.TooMany h.start)) after
      unfolding over
      too_many_lem x = rw short (go (head.parse s 0) refl eh ep)
        where
          go : (g : Got Head) → head.parse s 0 ≡ g → Ok h ≡ head_of g (length pool) → after ≡ head_pooled g (length pool)
              → SaysIf false (Err (Unread.TooMany h.start)) after
          go (got y q) f i j =
              let k : h ≡ head_record y q = cc in
              let z : over y ≡ true =
              sym (ap (λ (k : ReadHead). ltb 1024 k.cells || ltb 1024 k.regions || ltb 64 k.rules) k) ∙ (sym eo ∙ x) in
              rw f (rw z (ap (λ (k : ReadHead). Err (Unread.TooMany k.start)) k), j)
          go (bad p) f i j = absurd (cc)

      pub head_read : o ≡ false
          → Says (Ok (record {
            limit = h.limit;
            start = h.start;
            cells = h.cells;
            regions = h.regions;
            rules = h.rules;
            name = h.name;
            next = h.next;
          })) after
      unfolding over
      head_read x = rw short (go (head.parse s 0) refl eh ep)
        where
          go : (g : Got Head) → head.parse s 0 ≡ g → Ok h ≡ head_of g (length pool) → after ≡ head_pooled g (length pool)
              → SaysIf false (Ok (record {
                limit = h.limit;
                start = h.start;
                cells = h.cells;
                regions = h.regions;
                rules = h.rules;
                name = h.name;
                next = h.next;
              })) after
          go (got y q) f i j =
              let k : h ≡ head_record y q = cc in
              let z : over y ≡ false =
              sym (ap (λ (k : ReadHead). ltb 1024 k.cells || ltb 1024 k.regions || ltb 64 k.rules) k) ∙ (sym eo ∙ x) in
              rw f (rw (z, k), j)
          go (bad p) f i j = absurd (cc)

-- ---- where nothing is refused yet

-- what the first two lines said, and where the sheet's name is
pub record Begun (s : List ℕ) (t : Start) (pool after : List ℕ) : Type 0 where
  pub short : ltb max_text (length s) ≡ false
  pub first : Head
  pub place : ℕ
  pub headed_as : head.parse s 0 ≡ got first place
  pub counted : over first ≡ false
  pub is : t ≡ started first place
  pub named : after ≡ page_of true (length pool) first.name

pub begun : (s pool : List ℕ) {t : Start} (after : List ℕ) → Ok t ≡ start_if (ltb max_text (length s)) s
    → Named (ltb max_text (length s)) (head.parse s 0) pool after → Begun s t pool after
begun s pool {t} after e n = go (ltb max_text (length s)) refl e n
  where
    counts : (y : Head) (q : ℕ) → ltb max_text (length s) ≡ false → head.parse s 0 ≡ got y q → after ≡ page_of true (length pool) y.name
        → (o : Bool) → over y ≡ o → Ok t ≡ cond o (Err (Unread.TooMany y.start)) (Ok (started y q)) → Begun s t pool after
    counts y q l f j true u e = absurd (cc)
    counts y q l f j false u e = record { short = l; first = y; place = q; headed_as = f; counted = u; is = cc; named = j }

    heads : (g : Got Head) → ltb max_text (length s) ≡ false → head.parse s 0 ≡ g → Ok t ≡ start_of s g → Named false g pool after
        → Begun s t pool after
    heads (got y q) l f e n = counts y q l f n (over y) refl e
    heads (bad p) l f e n = absurd (cc)

    go : (b : Bool) → ltb max_text (length s) ≡ b → Ok t ≡ start_if b s → Named b (head.parse s 0) pool after → Begun s t pool after
    go true l e n = absurd (cc)
    go false l e n = heads (head.parse s 0) l refl e n

-- ---- the bounds

name_length : (h : Head) → length h.name ≤ length (head.text h)
unfolding head text_field
name_length h = let z = length_pairs h.name in simp length-append (omega arith)

or_first : (a b : Bool) → (a || b) ≡ false → a ≡ false
or_first false b e = refl
or_first true b e = e

or_second : (a b : Bool) → (a || b) ≡ false → b ≡ false
or_second false b e = e
or_second true b e = cc

few_rules : (h : Head) → over h ≡ false → h.rules ≤ 64
unfolding over
few_rules h e = ltb-false 64 h.rules (or_second (ltb 1024 h.cells || ltb 1024 h.regions) (ltb 64 h.rules) e)

module _ {s : List ℕ} {t : Start} {pool after : List ℕ} (b : Begun s t pool after) where
  pub begun_short : length s ≤ max_text
  begun_short = ltb-false max_text (length s) b.short

  pub begun_room : Room s t.next t.name
  begun_room =
      let l = begun_short in
      let n = name_length b.first in
      let z : 0 + length b.first.name ≡ length b.first.name = omega arith in
      let r : Room s 0 0 = record { low = omega arith; inside = omega arith; short = l } in
      let k = room_past head_exact b.first b.place (length b.first.name) r b.headed_as n in
      rw b.is (subst (λ (u : ℕ). Room s b.place u) z k)

  pub begun_rules : t.rules ≤ 64
  begun_rules = rw b.is (few_rules b.first b.counted)
