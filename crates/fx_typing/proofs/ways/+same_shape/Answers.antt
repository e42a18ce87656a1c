use Rattle.std.proofs.Common.{arith}
use Rattle.fx_types.proofs.Sizes.{column_is_smaller}
use Rattle.fx_typing.proofs.SameColumns.{longer_differs}
use Rattle.fx_typing.proofs.ways.+same_shape.Goals as goal

pub same_columns-returns-then-xs-ys : goal.same_columns-returns-then-xs-ys
same_columns-returns-then-xs-ys t c =
    rw (← c.as_slice-xs.ensures.columns, ← c.as_slice-ys.ensures.columns) (longer_differs _ _ c.if-xs-ys.true)

pub same_columns-same_shape-requires : goal.same_columns-same_shape-requires
same_columns-same_shape-requires t c = grind (arith, column_is_smaller)
