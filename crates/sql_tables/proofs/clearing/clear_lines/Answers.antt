use Rattle.sqlite.specs.Held.{state}
use Rattle.sql_meanings.proofs.CallLemmas.{goes_on, runs_inside, stops}
use Rattle.sql_meanings.proofs.BodyLemmas.{clears_lines}
use Rattle.sql_tables.proofs.clearing.clear_lines.Goals as goal

pub returns-clause-ok : goal.returns-clause-ok
returns-clause-ok g c clean up = clears_lines (state g.S.Store c.args.tx.now.conn.now) (state g.S.Store c.execute.new.self.conn.now) c.execute.result up (c.execute.ensures.runs clean up.under_way)

pub returns-clause-stops : goal.returns-clause-stops
returns-clause-stops g c = stops (state g.S.Store c.args.tx.now.conn.now) (state g.S.Store c.execute.new.self.conn.now) _ _ c.execute.result c.execute.ensures.runs

pub returns-clause-on : goal.returns-clause-on
returns-clause-on g c = goes_on (state g.S.Store c.args.tx.now.conn.now) (state g.S.Store c.execute.new.self.conn.now) _ _ c.execute.result c.execute.ensures.runs

pub returns-clause-runs : goal.returns-clause-runs
returns-clause-runs g c = runs_inside (state g.S.Store c.args.tx.now.conn.now) (state g.S.Store c.execute.new.self.conn.now) _ _ c.execute.result c.execute.ensures.runs c.execute.ensures.survives
