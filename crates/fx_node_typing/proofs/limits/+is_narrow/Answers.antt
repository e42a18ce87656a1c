use Rattle.std.proofs.Common.{arith, ◌∙◌}
use Rattle.fx_node_typing.proofs.Counts.{narrow_by}
use Rattle.fx_types.proofs.Sizes.{column_is_smaller}
use Rattle.fx_node_typing.proofs.limits.+is_narrow.Goals as goal

pub are_narrow-is_narrow-requires : goal.are_narrow-is_narrow-requires
are_narrow-is_narrow-requires t c = grind (arith, column_is_smaller)

pub is_narrow-returns-then-len-le64 : goal.is_narrow-returns-then-len-le64
is_narrow-returns-then-len-le64 t c =
    c.are_narrow.ensures ∙ narrow_by c.args.ty.now c.in-Rec.columns c.in-Rec.is (omega arith)
