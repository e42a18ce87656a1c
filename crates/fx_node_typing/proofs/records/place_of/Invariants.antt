use Rattle.std.proofs.Common.{◌≡◌, drop}
use Rattle.fx_node_typing.specs.Fields.{field_index}
use Rattle.fx_node_typing.proofs.Fields.{behind}
use Rattle.fx_node_typing.proofs.records.place_of.Given as goal

abbrev pub invariant-loop-place : goal.invariant-loop-place
invariant-loop-place l = behind l.place (field_index l.name (drop l.place l.fields)) ≡ field_index l.name l.fields
