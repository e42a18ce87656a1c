use Rattle.sqlite.specs.Held.{state}
use Rattle.sql_meanings.proofs.CallLemmas.{goes_on, runs_inside}
use Rattle.sql_meanings.proofs.MakeLemmas.{makes_tabs}
use Rattle.sql_tables.proofs.making.make_tabs.Goals as goal

pub returns-clause-ok : goal.returns-clause-ok
returns-clause-ok g c clean begun = makes_tabs (state g.S.Store c.args.tx.now.conn.now) (state g.S.Store c.execute.new.self.conn.now) c.execute.result begun (c.execute.ensures.runs clean begun.under_way)

pub returns-clause-on : goal.returns-clause-on
returns-clause-on g c = goes_on (state g.S.Store c.args.tx.now.conn.now) (state g.S.Store c.execute.new.self.conn.now) _ _ c.execute.result c.execute.ensures.runs

pub returns-clause-runs : goal.returns-clause-runs
returns-clause-runs g c = runs_inside (state g.S.Store c.args.tx.now.conn.now) (state g.S.Store c.execute.new.self.conn.now) _ _ c.execute.result c.execute.ensures.runs c.execute.ensures.survives
