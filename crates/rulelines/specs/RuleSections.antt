-- What the lines of rules leave in the records and in the pool, and what the reader of the section answers. Assumes nothing.
use Rattle.std.specs.Prelude.{ℕ, ◌+◌, Bool, true, false, ◌&&◌, List, leb, length, replicate, Result, Ok, Err}
use Rattle.std.proofs.lemmas.List.Edits.{sets}
use Rattle.model.specs.declared.Rule.{Rule}
use Rattle.memory.specs.Memory.{fits, all_or_zeros}
use Rattle.grammar.specs.Gram.{Got}
use Rattle.grammar.specs.Gram.Got.{got, bad}
use Rattle.jobtext.specs.Written.{RuleLine}
use Rattle.grammar.specs.Parts.{times_p}
use Rattle.fields.specs.Room.{roomy}
use Rattle.fields.specs.declared.Malformed.{Malformed}
use Rattle.jobtext.specs.Rules.{rule_line}
use Rattle.jobtext.specs.Laid.{rule_bytes, rules_from, records_from}
use Rattle.rulelines.specs.declared.RuleSection.{RuleSection}

-- all lines, with the place after them and up to where the pool is used, or the place at which they cannot be read on
pub data RulesLeft : Type 0 where
  done : ℕ → ℕ → List Rule → RulesLeft
  stopped : ℕ → RulesLeft

-- what lines leave that are stored from index i on, with their names from u in the pool on
abbrev pub rules_left : ℕ → ℕ → Got (List RuleLine) → List Rule → RulesLeft
rules_left i u (got rs q) records = RulesLeft.done q (u + length (rule_bytes rs)) (sets records i (rules_from u rs))
rules_left i u (bad p) records = RulesLeft.stopped p

-- the answer on n lines, over a pool of `size` bytes
abbrev pub answer_of : RulesLeft → ℕ → ℕ → Result RuleSection Malformed
answer_of (RulesLeft.done q u records) size n =
    Ok (record { fits = leb u size; next = q; used = u; rules = record { records = records; number = n } })
answer_of (RulesLeft.stopped p) size n = Err (record { at = p })

-- ---- the whole section

abbrev pub rules_if : Bool → List ℕ → ℕ → ℕ → Got (List RuleLine)
rules_if true s at n = times_p n rule_line.parse s at
rules_if false s at n = bad at

-- n lines from a place on, at most 64, in a text of at most 65,536 bytes that stands no further in the pool than in the text
unfoldable pub rules_at : List ℕ → ℕ → ℕ → ℕ → Got (List RuleLine)
rules_at s at n used = rules_if (roomy s at used && leb n 64) s at n

-- the answer over a pool of `size` bytes: `fits` says whether the names are within it
abbrev pub section_of : ℕ → ℕ → Got (List RuleLine) → Result RuleSection Malformed
section_of used size (got rs q) =
    Ok (record {
      fits = fits size used (length (rule_bytes rs));
      next = q;
      used = used + length (rule_bytes rs);
      rules = records_from used rs;
    })
section_of used size (bad p) = Err (record { at = p })

-- the pool with all names in it from `used` on, or zeros
abbrev pub pool_after : ℕ → Got (List RuleLine) → List ℕ → List ℕ
pool_after used (got rs q) pool = all_or_zeros true pool used (rule_bytes rs)
pool_after used (bad p) pool = replicate (length pool) 0
