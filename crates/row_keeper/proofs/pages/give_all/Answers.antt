use Rattle.std.proofs.Common.{arith}
use Rattle.row_queries.specs.TableRows.{rows_at}
use Rattle.std.specs.Prelude.{slice_get}
use Rattle.row_keeper.specs.Tables.{rows_of_tables, shapes_of}
use Rattle.row_keeper.proofs.AnswerLemmas.{all_fits, all_given, asks}
use Rattle.row_keeper.proofs.pages.give_all.Goals as goal

pub give_rows-requires-clause-asks : goal.give_rows-requires-clause-asks
give_rows-requires-clause-asks c = asks (shapes_of c.args.store.now.schema) c.args.query.now c.in_ok-all.all.items c.requires.query c.in_ok-all.ensures.fit

pub returns-clause-given : goal.returns-clause-given
returns-clause-given c =
    all_given c.args.query.now (rows_at (rows_of_tables c.args.store.now.now) c.args.query.now.table) c.in_ok-all.all.items c.in_ok-rows.rows.items c.args.most c.len-asked.result c.requires.page c.in_ok-all.ensures.asked
    (asks (shapes_of c.args.store.now.schema) c.args.query.now c.in_ok-all.all.items c.requires.query c.in_ok-all.ensures.fit) c.in_ok-rows.ensures (omega (arith, c.len-asked.ensures, c.in_ok-all.all.ok.0))

pub returns-clause-fit : goal.returns-clause-fit
returns-clause-fit c =
    all_fits (slice_get (shapes_of c.args.store.now.schema) c.args.query.now.table) c.args.query.now c.in_ok-all.all.items c.in_ok-rows.rows.items c.in_ok-all.ensures.fit c.in_ok-rows.ensures
