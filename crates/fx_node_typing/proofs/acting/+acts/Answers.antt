use Rattle.std.proofs.Common.{arith}
use Rattle.fx_core.proofs.Parts.{part_is_smaller, field_is_smaller}
use Rattle.fx_node_typing.proofs.acting.+acts.Goals as goal

pub any_acts-acts-requires : goal.any_acts-acts-requires
any_acts-acts-requires t c = grind (arith, part_is_smaller)

pub any_field_acts-acts-requires : goal.any_field_acts-acts-requires
any_field_acts-acts-requires t c = grind (arith, field_is_smaller)
