use Rattle.sqlite.specs.Held.{state}
use Rattle.sql_meanings.specs.Texts.{read_lasts}
use Rattle.sql_meanings.proofs.Meanings.{read_lasts_is}
use Rattle.sql_meanings.proofs.CallLemmas.{only_reads, runs_reading}
use Rattle.sql_meanings.proofs.LastLemmas.{reads_lasts}
use Rattle.sql_tables.proofs.lasts.read_lasts.Goals as goal

pub returns-clause-answer : goal.returns-clause-answer
returns-clause-answer g c clean has ns are = reads_lasts (state g.S.Store c.args.conn.now) (state g.S.Store c.query_all.new.self) c.query_all.result has ns are (c.query_all.ensures.ok clean)

pub returns-clause-same : goal.returns-clause-same
returns-clause-same g c clean has = only_reads read_lasts read_lasts_is.2 _ (state g.S.Store c.args.conn.now) (state g.S.Store c.query_all.new.self) has c.query_all.result c.query_all.ensures.ok c.query_all.ensures.err clean

pub returns-clause-runs : goal.returns-clause-runs
returns-clause-runs g c has = runs_reading read_lasts read_lasts_is.2 _ (state g.S.Store c.args.conn.now) (state g.S.Store c.query_all.new.self) has c.query_all.result c.query_all.ensures.ok c.query_all.ensures.err c.query_all.ensures.survives
