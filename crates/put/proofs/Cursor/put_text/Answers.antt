-- `put::Cursor::put_text` meets its contract: the letter, the digits, then the byte. Assumes nothing.
use native.Mathlib.Omega.{arith}
use Rattle.grammar.specs.Parts.{bytes}
use Rattle.put.proofs.Laws.{Lent, puts_on}
use Rattle.put.proofs.Cursor.put_text.Goals as goal

pub returns : goal.returns
unfolding bytes
returns c =
    let lent : Lent c.args.self.now = omega arith in
    puts_on c.put_byte.ensures lent λ lent. puts_on c.put_pairs.ensures lent λ lent. c.put_byte-2.ensures
