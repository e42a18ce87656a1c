use Rattle.std.proofs.Common.{arith}
use Rattle.fx_core.proofs.Parts.{part_is_smaller, field_is_smaller}
use Rattle.app_loader.proofs.trees.+look.Goals as goal

pub look_at_trees-look_at_tree-requires : goal.look_at_trees-look_at_tree-requires
look_at_trees-look_at_tree-requires t c = grind (arith, part_is_smaller)

pub look_at_fields-look_at_tree-requires : goal.look_at_fields-look_at_tree-requires
look_at_fields-look_at_tree-requires t c = grind (arith, field_is_smaller)
