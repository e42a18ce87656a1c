use Rattle.row_queries.specs.TableRows.{IsHeldRow}
use Rattle.sql_keeper.proofs.AskedLemmas.{fit_all, moved}
use Rattle.sql_keeper.proofs.reading.all_rows.Goals as goal

pub returns : goal.returns
returns c =
    fit_all c.args.table.now c.sort_rows.new.rows.items
    (moved (IsHeldRow c.args.table.now) c.push_between.new.rows.items c.sort_rows.new.rows.items c.in_ok-sort_rows.ensures.permutation c.push_between.ensures)
