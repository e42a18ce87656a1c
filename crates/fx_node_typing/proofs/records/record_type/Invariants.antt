use Rattle.std.proofs.Common.{◌≡◌, ◌≤◌, drop, map, length}
use Rattle.fx_types.specs.Types.{column_list}
use Rattle.fx_typing.specs.Builds.{put_fields}
use Rattle.fx_typing.specs.TypedView.{typed}
use Rattle.fx_node_typing.proofs.FieldTypes.{columns_in}
use Rattle.fx_node_typing.proofs.records.record_type.Given as goal

abbrev pub invariant-loop-place : goal.invariant-loop-place
invariant-loop-place l = record {
  in_names : l.place ≤ length l.names;
  in_parts : l.place ≤ length l.parts;
  made : column_list l.columns ≡ columns_in (put_fields (drop l.place l.names) (map typed (drop l.place l.parts)));
}

abbrev pub decreases-loop-place : goal.decreases-loop-place
decreases-loop-place l = l.place
