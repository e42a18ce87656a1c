use Rattle.sqlite.specs.Held.{state}
use Rattle.sql_meanings.specs.Texts.{read_lines}
use Rattle.sql_meanings.proofs.Meanings.{read_lines_is}
use Rattle.sql_meanings.proofs.CallLemmas.{only_reads, runs_reading}
use Rattle.sql_meanings.proofs.LineLemmas.{reads_lines}
use Rattle.sql_statements.proofs.lines.read_lines.Goals as goal

pub returns-clause-answer : goal.returns-clause-answer
returns-clause-answer g c clean has xs are = reads_lines (state g.S.Store c.args.conn.now) (state g.S.Store c.query_all.new.self) c.args.tab c.args.low c.args.high c.query_all.result has xs are (rw (c.params-to_sql.ensures, c.params-to_sql-2.ensures, c.params-to_sql-3.ensures) at (c.query_all.ensures.ok clean))

pub returns-clause-same : goal.returns-clause-same
returns-clause-same g c clean has = only_reads read_lines read_lines_is.2 _ (state g.S.Store c.args.conn.now) (state g.S.Store c.query_all.new.self) has c.query_all.result c.query_all.ensures.ok c.query_all.ensures.err clean

pub returns-clause-runs : goal.returns-clause-runs
returns-clause-runs g c has = runs_reading read_lines read_lines_is.2 _ (state g.S.Store c.args.conn.now) (state g.S.Store c.query_all.new.self) has c.query_all.result c.query_all.ensures.ok c.query_all.ensures.err c.query_all.ensures.survives
