use Rattle.std.proofs.Common.{◌≡◌, drop, map}
use Rattle.fx_types.specs.Types.{column_list}
use Rattle.fx_typing.specs.Columns.{names_there}
use Rattle.fx_typing.proofs.Befores.{before}
use Rattle.fx_typing.specs.TypedView.{typed}
use Rattle.fx_typing.proofs.columns.names_there.Given as goal

abbrev pub invariant-loop-part : goal.invariant-loop-part
invariant-loop-part l =
    before l.names.items (names_there (map typed (drop l.part-index l.parts)) (column_list l.columns))
    ≡ names_there (map typed l.parts) (column_list l.columns)
