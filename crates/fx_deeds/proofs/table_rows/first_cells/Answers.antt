use Rattle.std.proofs.Common.{ap}
use Rattle.fx_types.specs.ValueView.{view}
use Rattle.fx_deeds.proofs.Naming.{first_there}
use Rattle.fx_deeds.proofs.table_rows.first_cells.Goals as goal

pub returns-in_ok-record_cells-in-Some : goal.returns-in_ok-record_cells-in-Some
returns-in_ok-record_cells-in-Some c =
    first_there c.args.columns.now (view c.args.table.now) c.in-Tab.rows c.as_slice.result.now _ c.in-Some.row.now c.in_ok-record_cells-in-Some.field-0 (ap view c.in-Tab.is) c.as_slice.ensures c.in-Some.ensures.cases.0
    c.in_ok-record_cells-in-Some.ensures
