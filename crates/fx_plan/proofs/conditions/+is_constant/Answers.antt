use Rattle.std.proofs.Common.{arith}
use Rattle.fx_plan.proofs.Delegable.{field_falls, part_falls}
use Rattle.fx_plan.proofs.conditions.+is_constant.Goals as goal

pub are_constant-is_constant-requires : goal.are_constant-is_constant-requires
are_constant-is_constant-requires t c =
    let h = part_falls c.args.parts.now c.loop-part.part-index c.part-item.result c.loop-part-test.true c.part-item.is in omega (arith, h)

pub are_constant_fields-is_constant-requires : goal.are_constant_fields-is_constant-requires
are_constant_fields-is_constant-requires t c =
    let h = field_falls c.args.fields.now c.loop-part.part-index c.loop-part-item.result c.loop-part-test.true c.loop-part-item.is in omega (arith, h)
