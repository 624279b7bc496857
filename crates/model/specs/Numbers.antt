-- The operators by their numbers: the place of each in its list. Assumes nothing.
use Rattle.std.specs.Prelude.{ℕ, cond, eqb, Result, Ok, Err}
use Rattle.model.specs.declared.DvOp.{DvOp}
use Rattle.model.specs.declared.ConditionalComparison.{ConditionalComparison}
use Rattle.model.specs.declared.NoOperator.{NoOperator}

abbrev pub dv_op_numbered : ℕ → Result DvOp NoOperator
dv_op_numbered n =
    cond (eqb n 0) (Ok DvOp.Between)
    (cond (eqb n 1) (Ok DvOp.NotBetween)
    (cond (eqb n 2) (Ok DvOp.Equal)
    (cond (eqb n 3) (Ok DvOp.NotEqual)
    (cond (eqb n 4) (Ok DvOp.GreaterThan)
    (cond (eqb n 5) (Ok DvOp.LessThan)
    (cond (eqb n 6) (Ok DvOp.GreaterThanOrEqual)
    (cond (eqb n 7) (Ok DvOp.LessThanOrEqual) (Err (record {})))))))))

abbrev pub comparison_numbered : ℕ → Result ConditionalComparison NoOperator
comparison_numbered n =
    cond (eqb n 0) (Ok ConditionalComparison.Equal)
    (cond (eqb n 1) (Ok ConditionalComparison.NotEqual)
    (cond (eqb n 2) (Ok ConditionalComparison.Less)
    (cond (eqb n 3) (Ok ConditionalComparison.LessOrEqual)
    (cond (eqb n 4) (Ok ConditionalComparison.Greater)
    (cond (eqb n 5) (Ok ConditionalComparison.GreaterOrEqual) (Err (record {})))))))
