use Rattle.std.proofs.Common.{◌≡◌, drop, map}
use Rattle.fx_types.specs.Types.{column_list}
use Rattle.fx_typing.specs.Details.{first_detail, unnamed_at}
use Rattle.fx_typing.specs.TypedView.{typed}
use Rattle.fx_diagnostics.proofs.acted.first_unnamed_column.Given as goal

abbrev pub invariant-loop-value : goal.invariant-loop-value
invariant-loop-value l =
    first_detail (unnamed_at l.rows.target (column_list l.rows.columns)) (map (λ v. typed v.now) (drop l.value-index l.values))
    ≡ first_detail (unnamed_at l.rows.target (column_list l.rows.columns)) (map (λ v. typed v.now) l.values)
