use Rattle.std.proofs.Common.{◌≡◌, drop, map}
use Rattle.fx_types.specs.Types.{column_list}
use Rattle.fx_typing.specs.Columns.{are_keys}
use Rattle.fx_typing.specs.TypedView.{typed}
use Rattle.fx_typing.proofs.columns.are_keys.Given as goal

abbrev pub invariant-loop-part : goal.invariant-loop-part
invariant-loop-part l = are_keys (map typed (drop l.part-index l.parts)) (column_list l.columns) ≡ are_keys (map typed l.parts) (column_list l.columns)
