use Rattle.row_keeper.proofs.MovedLemmas.{shape_from_one, shape_rows_fit}
use Rattle.sql_keeper.proofs.moving.table_from.Goals as goal

pub table_of-requires-clause-fit : goal.table_of-requires-clause-fit
table_of-requires-clause-fit c = shape_rows_fit c.args.table.now c.args.columns c.args.from.now c.requires.sources c.args.rows.now c.requires.fit

pub table_of-requires-clause-rising : goal.table_of-requires-clause-rising
table_of-requires-clause-rising c = (shape_from_one c.args.table.now c.args.rows.now c.requires.fit, c.ids_rise.ensures c.if-not-ids_rise.false)
