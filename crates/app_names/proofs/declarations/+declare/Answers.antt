use Rattle.std.proofs.Common.{arith}
use Rattle.app_names.proofs.Walks.{field_is_smaller, part_is_smaller}
use Rattle.app_names.proofs.declarations.+declare.Goals as goal

pub declare_all-declare-requires : goal.declare_all-declare-requires
declare_all-declare-requires t c =
    let smaller = part_is_smaller c.args.parts.now c.loop-part.part-index c.part-item.result c.loop-part-test.true c.part-item.is in
    (omega arith, tt)

pub declare_fields-declare-requires : goal.declare_fields-declare-requires
declare_fields-declare-requires t c =
    let smaller = field_is_smaller c.args.fields.now c.loop-part.part-index c.loop-part-item.result c.loop-part-test.true c.loop-part-item.is in
    (omega arith, tt)
