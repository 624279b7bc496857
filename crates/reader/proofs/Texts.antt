-- A whole job text: what the first two lines and the sections say together is what `read` says of it, and what they leave is the job
-- as it is laid. Assumes nothing.
use Prim.Native.Nat.{ℕ, ◌+◌}
use mathlib.Core.Path.{◌≡◌, refl, sym, ap, ◌∙◌, subst}
use mathlib.Core.Bool.{Bool, true, false, cond, ◌&&◌}
use Rattle.std.specs.Prelude.{Result, Ok, Err}
use mathlib.Core.List.{List}
use lib.Dec.{leb, ltb, eqb}
use lib.ListN.{length, length-map}
use Rattle.memory.specs.Memory.{fits, page_of}
use Rattle.memory.proofs.Laws.{length_page}
use Rattle.model.specs.declared.CellCoordinate.{CellCoordinate}
use Rattle.model.specs.Sheet.{CellColumns}
use Rattle.grammar.specs.Gram.{Got, line_of}
use Rattle.grammar.specs.Gram.Got.{got, bad}
use Rattle.jobtext.specs.Written.{CellLine, RuleLine}
use Rattle.jobtext.specs.Text.{Head, body_t, head, body_of, body, to_job}
use Rattle.jobtext.specs.Read.{ReadResult, max_text, over, closed, headed, read}
use Rattle.jobtext.specs.Laid.{cell_bytes, rule_bytes, columns_from, records_from, laid}
use Rattle.jobtext.proofs.Text.{body_exact}
use Rattle.celllines.specs.Columns.{pages}
use Rattle.fields.specs.declared.Malformed.{Malformed}
use Rattle.rulelines.specs.declared.RuleSection.{RuleSection}
use Rattle.reader.specs.declared.Start.{Start}
use Rattle.reader.specs.declared.ReadJob.{ReadJob}
use Rattle.reader.specs.declared.Unread.{Unread}
use Rattle.reader.specs.Held.{Held, held, taken_as, fits_in, read_job}
use Rattle.reader.specs.Results.{columns_in, IsBody, started, start_of, start_if, finished_if, finished, JobLeft}
use Rattle.reader.proofs.Starts.{Begun}
use Rattle.reader.proofs.Fits.{cells_number, regions_number, pool_number, fits_laid, pool_laid}

-- ---- refused in the first two lines

abbrev Says : List ℕ → Held → Result ReadJob Unread → Held → Type 0
Says s h r e = (r ≡ read_job h (read s)) × JobLeft (read s) h e

pub start_refused : (s : List ℕ) (h : Held) {u : Unread} (r : Result ReadJob Unread) (e : Held)
    → Err u ≡ start_if (ltb max_text (length s)) s → r ≡ Err u → Says s h r e
unfolding read headed read_job
start_refused s h {u} r e x y = go (ltb max_text (length s)) refl x
  where
    said : (v : Unread) → u ≡ v → r ≡ Err v
    said v z = y ∙ ap (λ (k : Unread). Err k) z

    counts : (k : Head) (q : ℕ) → ltb max_text (length s) ≡ false → head.parse s 0 ≡ got k q
        → (o : Bool) → over k ≡ o → Err u ≡ cond o (Err (Unread.TooMany k.start)) (Ok (started k q)) → Says s h r e
    counts k q l f true o x = rw (l, f, o) (said (Unread.TooMany k.start) (cc), tt)
    counts k q l f false o x = absurd (cc)

    heads : (g : Got Head) → ltb max_text (length s) ≡ false → head.parse s 0 ≡ g → Err u ≡ start_of s g → Says s h r e
    heads (got k q) l f x = counts k q l f (over k) refl x
    heads (bad p) l f x = rw (l, f) (said (Unread.Malformed (line_of s p)) (cc), tt)

    go : (b : Bool) → ltb max_text (length s) ≡ b → Err u ≡ start_if b s → Says s h r e
    go true l x = rw l (said Unread.TooLong (cc), tt)
    go false l x = heads (head.parse s 0) l refl x

-- ---- the job as it is laid

-- rules that were read, with their names behind `used` bytes of a pool
abbrev rules_read : ℕ → ℕ → List RuleLine → ℕ → RuleSection
rules_read used size rs q =
    record {
      fits = fits size used (length (rule_bytes rs));
      next = q;
      used = used + length (rule_bytes rs);
      rules = records_from used rs;
    }

-- the answer, from what the sections answer
answer_laid : (k : Head) (b : body_t) (c : (body k).Ok b) (q size p : ℕ) (s : List ℕ)
    → finished_if true true s (started k q) (rules_read (length k.name + length (cell_bytes b.0)) size b.1.1 p)
    ≡ Ok (taken_as (laid (to_job (k, b))) k.limit)
unfolding laid columns_from
answer_laid k b c q size p s =
    rw (
      length-map b.0 (λ (c : CellLine). c.row),
      length-map b.1.0 (λ (r : CellCoordinate). r.row),
      cells_number k b c,
      regions_number k b c,
      pool_number k b,
    )

-- ---- the sections

module _ (s : List ℕ) (k : Head) (q : ℕ) (d : CellColumns) (rows cols pool : List ℕ) where
  abbrev lent : Held
  lent = held d rows cols pool

  -- with the sheet's name in the pool
  abbrev named : Held
  named = held d rows cols (page_of true (length pool) k.name)

  abbrev Closed : ReadResult → Result ReadJob Unread → Held → Type 0
  Closed z x e = (x ≡ read_job lent z) × JobLeft z lent e

  long : length (page_of true (length pool) k.name) ≡ length pool
  long = length_page 0 (length pool) k.name true

  module _ {x : Result ReadJob Unread} {fits : Bool} (r : Result RuleSection Malformed) (e : Held) (o : fits ≡ columns_in k.cells k.regions d rows cols)
      (y : x ≡ finished s (started k q) r fits) where
    -- all was read, up to the end of the text
    job_closed : (b : body_t) (p : ℕ) → (body k).Ok b → IsBody (got b p) (length k.name) named r e → eqb p (length s) ≡ true
        → Closed (ReadResult.is (to_job (k, b))) x e
    unfolding read_job laid
    job_closed b p c i u =
        let j = laid (to_job (k, b)) in
        let all : fits && leb (length k.name + length (cell_bytes b.0) + length (rule_bytes b.1.1)) (length pool) ≡ fits_in j lent =
        rw (o, ← cells_number k b c, ← regions_number k b c) (fits_laid k b lent) in (
          y ∙ rw (i.0, u, long, all) (go (fits_in j lent)),
          λ f. i.1 (rw long (fits_laid k b lent ∙ f))
              ∙ ap (held (pages true j.cells d) (page_of true (length rows) j.region_rows) (page_of true (length cols) j.region_cols))
              (pool_laid (length pool) k.name (cell_bytes b.0) (rule_bytes b.1.1)),
        )
      where
        go : (v : Bool)
            → finished_if true v s (started k q)
            (rules_read (length k.name + length (cell_bytes b.0)) (length pool) b.1.1 p)
            ≡ cond v (Ok (taken_as (laid (to_job (k, b))) k.limit)) (Err (Unread.SpaceShort k.start))
        go true = answer_laid k b c q (length pool) p s
        go false = refl

    closed_answer : IsBody ((body k).parse s q) (length k.name) named r e → Closed (closed s k ((body k).parse s q)) x e
    unfolding closed read_job
    closed_answer i = go ((body k).parse s q) refl i
      where
        ends : (b : body_t) (p : ℕ) → (body k).parse s q ≡ got b p → IsBody (got b p) (length k.name) named r e
            → (z : Bool) → eqb p (length s) ≡ z
            → Closed (cond z (ReadResult.is (to_job (k, b))) (ReadResult.bad_line (line_of s p))) x e
        ends b p f i true u = job_closed b p ((body_exact k).ok s q b p f) i u
        ends b p f i false u = (y ∙ rw (i.0, u), tt)

        go : (g : Got body_t) → (body k).parse s q ≡ g → IsBody g (length k.name) named r e → Closed (closed s k g) x e
        go (got b p) f i = ends b p f i (eqb p (length s)) refl
        go (bad p) f i = (y ∙ rw i, tt)

module _ {s : List ℕ} {t : Start} {pool after : List ℕ} (b : Begun s t pool after) (d : CellColumns) (rows cols : List ℕ) where
  reads : read s ≡ closed s b.first ((body b.first).parse s b.place)
  unfolding read headed
  reads = rw (b.short, b.headed_as, b.counted)

  pub text_finished : {x : Result ReadJob Unread} {fits : Bool} (r : Result RuleSection Malformed) (e : Held)
      → IsBody ((body_of t.cells t.regions t.rules).parse s t.next) t.name (held d rows cols after) r e
      → fits ≡ columns_in t.cells t.regions d rows cols → x ≡ finished s t r fits → Says s (held d rows cols pool) x e
  text_finished {x} {fits} r e i o y =
      let k = b.first in
      let q = b.place in
      let name = page_of true (length pool) k.name in
      let f : IsBody ((body_of k.cells k.regions k.rules).parse s q) (length k.name) (held d rows cols after) r e =
      subst (λ (t : Start). IsBody ((body_of t.cells t.regions t.rules).parse s t.next) t.name (held d rows cols after) r e)
      b.is i in
      let g : IsBody ((body k).parse s q) (length k.name) (held d rows cols name) r e =
      subst (λ (l : List ℕ). IsBody ((body k).parse s q) (length k.name) (held d rows cols l) r e) b.named f in
      subst (λ (z : ReadResult). Closed s k q d rows cols pool z x e) (sym reads)
      (closed_answer s k q d rows cols pool r e (o ∙ ap (λ (t : Start). columns_in t.cells t.regions d rows cols) b.is)
      (y ∙ ap (λ (t : Start). finished s t r fits) b.is) g)
