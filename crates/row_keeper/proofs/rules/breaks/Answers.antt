use Rattle.row_keeper.proofs.RuleLemmas.{covered_at}
use Rattle.row_keeper.proofs.rules.breaks.Goals as goal

pub is_repeated-requires-clause-covered : goal.is_repeated-requires-clause-covered
is_repeated-requires-clause-covered c = covered_at c.args.table.now.columns c.args.place c.args.column.now c.requires.column c.if-column-2.true
