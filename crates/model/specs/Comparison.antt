-- Comparison: the eight operators of a cell-is rule and the six of an expression, by IEEE 754 (document 01, 'Comparison').
-- Assumes nothing.
use Rattle.std.specs.Prelude.{Bool, true, false, ◌&&◌, ◌||◌, Float, Some, None}
use Rattle.std.specs.Float.Ieee.{lt, le, eq, ne}
use Rattle.model.specs.Options.{Reading}
use Rattle.model.specs.declared.DvOp.{DvOp}
use Rattle.model.specs.declared.ConditionalComparison.{ConditionalComparison}

unfoldable pub uses_second : DvOp → Bool
uses_second DvOp.Between = true
uses_second DvOp.NotBetween = true
uses_second DvOp.Equal = false
uses_second DvOp.NotEqual = false
uses_second DvOp.GreaterThan = false
uses_second DvOp.LessThan = false
uses_second DvOp.GreaterThanOrEqual = false
uses_second DvOp.LessThanOrEqual = false

-- both ends included
unfoldable pub between : Float → Float → Reading → Bool
between value first (Some second) = le first value && le value second
between value first None = false

unfoldable pub not_between : Float → Float → Reading → Bool
not_between value first (Some second) = lt value first || lt second value
not_between value first None = false

-- compare_conditional
unfoldable pub compare_conditional : Float → DvOp → Float → Reading → Bool
compare_conditional value DvOp.Between first second = between value first second
compare_conditional value DvOp.NotBetween first second = not_between value first second
compare_conditional value DvOp.Equal first second = eq value first
compare_conditional value DvOp.NotEqual first second = ne value first
compare_conditional value DvOp.GreaterThan first second = lt first value
compare_conditional value DvOp.LessThan first second = lt value first
compare_conditional value DvOp.GreaterThanOrEqual first second = le first value
compare_conditional value DvOp.LessThanOrEqual first second = le value first

-- ConditionalComparison::compare
unfoldable pub compare : ConditionalComparison → Float → Float → Bool
compare ConditionalComparison.Equal left right = eq left right
compare ConditionalComparison.NotEqual left right = ne left right
compare ConditionalComparison.Less left right = lt left right
compare ConditionalComparison.LessOrEqual left right = le left right
compare ConditionalComparison.Greater left right = lt right left
compare ConditionalComparison.GreaterOrEqual left right = le right left
