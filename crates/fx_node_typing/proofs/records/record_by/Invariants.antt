use Rattle.std.proofs.Common.{◌≡◌, ◌++◌}
use Rattle.fx_node_typing.proofs.Fields.{columns_in, cores_in}
use Rattle.fx_node_typing.proofs.records.record_by.Given as goal

abbrev pub invariant-loop-name : goal.invariant-loop-name
invariant-loop-name l = record {
  columns : l.columns.items ++ columns_in l.name-iterator.rest.items ≡ columns_in l.fn.fields.items;
  parts : l.parts ++ cores_in l.name-iterator.rest.items ≡ cores_in l.fn.fields.items;
}
