use Rattle.std.proofs.Common.{arith}
use Rattle.fx_types.proofs.Sizes.{field_is_smaller, row_is_smaller}
use Rattle.fx_value.proofs.weighing.+weigh.Goals as goal

pub weigh_fields-weigh-requires : goal.weigh_fields-weigh-requires
weigh_fields-weigh-requires t c = grind (arith, field_is_smaller)

pub weigh_rows-weigh_fields-requires : goal.weigh_rows-weigh_fields-requires
weigh_rows-weigh_fields-requires t c = grind (arith, row_is_smaller)
