use Rattle.std.proofs.Common.{◌≡◌, ◌≤◌, drop, map, length}
use Rattle.fx_types.specs.Types.{column_list}
use Rattle.fx_typing.specs.Builds.{put_fields}
use Rattle.fx_typing.specs.TypedView.{typed}
use Rattle.fx_core.specs.Tree.{tree_field_names}
use Rattle.fx_node_typing.proofs.FieldTypes.{columns_in}
use Rattle.fx_diagnostics.proofs.limits.record_type.Given as goal

abbrev pub invariant-loop-place : goal.invariant-loop-place
invariant-loop-place l = record {
  in_fields : l.place ≤ length l.fields;
  in_values : l.place ≤ length l.values;
  made : column_list l.columns ≡ columns_in (put_fields (tree_field_names (drop l.place l.fields)) (map (λ v. typed v.now) (drop l.place l.values)));
}

abbrev pub decreases-loop-place : goal.decreases-loop-place
decreases-loop-place l = l.place
