use Rattle.std.proofs.Common.{arith}
use Rattle.fx_types.proofs.Sizes.{column_is_smaller}
use Rattle.app_loader.proofs.Looks.{all_seen}
use Rattle.app_loader.proofs.types.+look.Goals as goal

pub look_at_columns-look_at_type-requires : goal.look_at_columns-look_at_type-requires
look_at_columns-look_at_type-requires t c = grind (arith, column_is_smaller)

pub look_at_columns-returns : goal.look_at_columns-returns
look_at_columns-returns t c = all_seen c.args.columns.now c.as_slice-ty-items.result.now c.loop-ty.ty-index (omega arith) c.as_slice-ty-items.ensures.rising c.loop-ty.invariant
