use Rattle.sqlite.specs.Held.{state}
use Rattle.sql_meanings.specs.Texts.{read_body}
use Rattle.sql_meanings.proofs.Meanings.{read_body_is}
use Rattle.sql_meanings.proofs.CallLemmas.{only_reads, runs_reading}
use Rattle.sql_meanings.proofs.BodyLemmas.{reads_body}
use Rattle.sql_tables.proofs.body.read_body.Goals as goal

pub returns-clause-answer : goal.returns-clause-answer
returns-clause-answer g c clean has body are = reads_body (state g.S.Store c.args.conn.now) (state g.S.Store c.query_all.new.self) c.query_all.result has body are (c.query_all.ensures.ok clean)

pub returns-clause-same : goal.returns-clause-same
returns-clause-same g c clean has = only_reads read_body read_body_is.2 _ (state g.S.Store c.args.conn.now) (state g.S.Store c.query_all.new.self) has c.query_all.result c.query_all.ensures.ok c.query_all.ensures.err clean

pub returns-clause-runs : goal.returns-clause-runs
returns-clause-runs g c has = runs_reading read_body read_body_is.2 _ (state g.S.Store c.args.conn.now) (state g.S.Store c.query_all.new.self) has c.query_all.result c.query_all.ensures.ok c.query_all.ensures.err c.query_all.ensures.survives
