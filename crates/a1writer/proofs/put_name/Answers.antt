-- `a1writer::put_name` meets its contract: a bare name and the mark, or a quote, the name with its quotes doubled, a quote and the mark.
-- Assumes nothing.
use Prim.Native.Nat.{◌<◌}
use native.Mathlib.Omega.{arith}
use mathlib.Core.Path.{sym, ◌∙◌}
use lib.ListN.{length}
use Rattle.grammar.specs.Parts.{bytes}
use Rattle.put.specs.Put.{last}
use Rattle.put.proofs.Laws.{puts_then, puts_as, laid_ready}
use Rattle.a1writer.proofs.Texts.{name_bare, name_quoted}
use Rattle.a1writer.proofs.put_name.Goals as goal

pub returns-then-is_bare : goal.returns-then-is_bare
unfolding bytes
returns-then-is_bare c =
    let room : length c.args.text.now.bytes.now < last = omega arith in
    puts_as (puts_then room c.put_bytes.ensures c.put_byte.ensures)
    (name_bare _ (sym c.is_bare.ensures ∙ c.if-is_bare.true))

pub put_doubled-requires : goal.put_doubled-requires
put_doubled-requires c =
    laid_ready c.put_byte-else-is_bare.ensures.laid (omega arith)

pub returns-else-is_bare : goal.returns-else-is_bare
unfolding bytes
returns-else-is_bare c =
    let room : length c.args.text.now.bytes.now < last = omega arith in
    puts_as (puts_then room (puts_then room c.put_byte-else-is_bare.ensures c.put_doubled.ensures) c.put_bytes-else-is_bare.ensures)
    (name_quoted _ (sym c.is_bare.ensures ∙ c.if-is_bare.false))
