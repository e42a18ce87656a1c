use Rattle.std.proofs.Common.{arith}
use Rattle.fx_types.proofs.Sizes.{column_is_smaller}
use Rattle.fx_node_typing.proofs.limits.+is_shallow.Goals as goal

pub are_shallow-is_shallow-requires : goal.are_shallow-is_shallow-requires
are_shallow-is_shallow-requires t c = grind (arith, column_is_smaller)
