use Rattle.std.proofs.Common.{map}
use Rattle.fx_typing.specs.TypedView.{typed}
use Rattle.fx_node_typing.proofs.Fields.{rising_puts}
use Rattle.fx_node_typing.proofs.records.record_of.Goals as goal

pub record_by-requires : goal.record_by-requires
record_by-requires c = rw c.in_ok-fields.ensures (rising_puts c.args.names.items (map typed c.args.parts.items))
