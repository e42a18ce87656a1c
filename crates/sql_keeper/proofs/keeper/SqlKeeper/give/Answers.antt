use Rattle.row_keeper.specs.Tables.{shapes_of}
use Rattle.sql_keeper.proofs.AskedLemmas.{given}
use Rattle.sql_keeper.proofs.keeper.SqlKeeper.give.Goals as goal

pub returns-clause-given : goal.returns-clause-given
returns-clause-given c = given (shapes_of c.args.self.now.schema) c.args.query.now c.in_ok-asked.asked.items _ c.in_ok-asked.ensures.asked c.in_ok-give_rows.ensures
