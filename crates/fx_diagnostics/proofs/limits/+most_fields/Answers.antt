use Rattle.std.proofs.Common.{arith}
use Rattle.fx_types.proofs.Sizes.{column_is_smaller}
use Rattle.fx_diagnostics.proofs.limits.+most_fields.Goals as goal

pub most_in-most_fields-requires : goal.most_in-most_fields-requires
most_in-most_fields-requires t c = grind (arith, column_is_smaller)
