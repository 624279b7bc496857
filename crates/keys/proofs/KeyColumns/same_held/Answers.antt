-- `keys::same_held` meets its contract: keys with two words or two tags differ, texts with one word are told by their letters, and other
-- keys with one word and one tag are the same. Assumes nothing.
use mathlib.Core.Path.{sym, ◌∙◌}
use Rattle.keys.proofs.Comparing.{span_equal, words_differ, tags_differ, texts_compared, places_compared, others_compared}
use Rattle.keys.proofs.KeyColumns.same_held.Goals as goal

pub returns-then-word : goal.returns-then-word
returns-then-word c ks v e =
    let args = c.args in
    words_differ _ v args.i args.j (λ q. c.if-word.true (c.word.ensures ∙ q ∙ sym c.word-word.ensures))

pub returns-then-tag-kind : goal.returns-then-tag-kind
returns-then-tag-kind c ks v e =
    let args = c.args in
    tags_differ _ v args.i args.j (λ q. c.if-tag-kind.true (c.tag.ensures ∙ q ∙ sym c.tag-kind.ensures))

pub returns-then-same_span : goal.returns-then-same_span
returns-then-same_span c ks v e =
    let args = c.args in
    places_compared _ v args.i args.j
    (sym c.span-one.ensures ∙ span_equal _ _ (sym c.same_span.ensures ∙ c.if-same_span.true) ∙ c.span-other.ensures)
    (sym c.tag.ensures ∙ c.if-tag-kind.false ∙ c.tag-kind.ensures)
    (sym c.tag-kind.ensures ∙ c.if-kind-eq-TEXT.true)

pub returns-then-kind-eq-TEXT : goal.returns-then-kind-eq-TEXT
returns-then-kind-eq-TEXT c ks v e =
    let args = c.args in
    c.same_letters.ensures
    ∙ rw (c.text_at-then-kind-eq-TEXT.ensures, c.text_at.ensures)
    (rw (c.span-other.ensures, c.span-one.ensures)
    (texts_compared _ v args.i args.j
    (sym c.tag.ensures ∙ c.if-tag-kind.false ∙ c.tag-kind.ensures)
    (sym c.tag-kind.ensures ∙ c.if-kind-eq-TEXT.true)))

pub returns : goal.returns
returns c ks v e =
    let args = c.args in
    others_compared _ v args.i args.j
    (sym c.word.ensures ∙ c.if-word.false ∙ c.word-word.ensures)
    (sym c.tag.ensures ∙ c.if-tag-kind.false ∙ c.tag-kind.ensures)
    (λ t. c.if-kind-eq-TEXT.false (c.tag-kind.ensures ∙ t)) e
