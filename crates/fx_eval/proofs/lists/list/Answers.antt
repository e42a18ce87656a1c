use Rattle.std.proofs.Common.{map, subst, sym}
use Rattle.fx_types.specs.TypeView.{shape}
use Rattle.fx_types.specs.Types.{ColumnList, tables}
use Rattle.fx_types.specs.ValueView.{view}
use Rattle.fx_eval.proofs.ListRows.{can_be_rows}
use Rattle.fx_tables.specs.Unions.{CanBeRows}
use Rattle.fx_eval.proofs.lists.list.Goals as goal

pub union-requires : goal.union-requires
union-requires c =
    let ds = map view c.args.values.items in
    let P : ColumnList → Type 0 = λ cs. CanBeRows (tables cs) ds in
    subst P (sym c.in_ok-columns.ensures) (can_be_rows (shape c.args.row.now) ds c.requires)
