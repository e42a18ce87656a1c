use Rattle.row_queries.specs.TableRows.{IsHeldRow}
use Rattle.sql_keeper.proofs.AskedLemmas.{one_of}
use Rattle.sql_keeper.proofs.arranging.all_lie.Goals as goal

pub lies-requires : goal.lies-requires
lies-requires c = (one_of (IsHeldRow c.args.table.now) c.args.rows.now c.loop-row.row-index c.row-item.result c.requires c.loop-row-test.true c.row-item.is).0
