use Rattle.std.proofs.Common.{arith}
use Rattle.fx_types.proofs.Sizes.{column_is_smaller}
use Rattle.fx_diagnostics.proofs.limits.+type_depth.Goals as goal

pub columns_depth-type_depth-requires : goal.columns_depth-type_depth-requires
columns_depth-type_depth-requires t c = grind (arith, column_is_smaller)
