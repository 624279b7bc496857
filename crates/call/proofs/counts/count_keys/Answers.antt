-- `call::counts::count_keys` meets its contract: zeros to begin with, and each code below their number. Assumes nothing.
use native.Mathlib.Omega.{arith}
use mathlib.Core.Path.{◌∙◌}
use lib.ListN.{get_or}
use Rattle.places.proofs.Bounds.{blank}
use Rattle.call.proofs.Counting.{named_below}
use Rattle.call.proofs.counts.count_keys.Goals as goal

pub count_codes-requires : goal.count_codes-requires
count_codes-requires c =
    record {
      cols_value = c.requires.cols_value;
      by_index = (c.requires.by_index, λ code. blank 1025 code);
    }

pub returns : goal.returns
returns c =
    let a = c.args in record {
      keyless = λ band. c.count_codes.ensures band 0 (omega arith);
      founds = λ band i h l inside. c.look_up.ensures i h l inside
          ∙ c.count_codes.ensures band _ (named_below a.codes.now (omega arith) c.requires.by_index (get_or a.places.now i 0));
    }
