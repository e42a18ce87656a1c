use Rattle.std.proofs.Common.{◌≡◌, inl, []}
use Rattle.sqlite.specs.declared.error.Error.{Error}
use Rattle.sqlite.specs.Held.{state}
use Rattle.sqlite.specs.State.{State, IsNotRun}
use Rattle.sql_meanings.specs.Schema.{kept_schema}
use Rattle.sql_meanings.specs.Texts.{read_body}
use Rattle.sql_meanings.proofs.CallLemmas.{not_run, not_taken}
use Rattle.sql_statements.specs.Refusals.{IsRefusedAgain}
use Rattle.sql_statements.proofs.endings.is_usable.Goals as goal
use Rattle.sql_statements.proofs.endings.is_usable.Goals.{in-Ok, in-Err}

again : (old new : State) (e : Error) → old.now.schema ≡ kept_schema → IsNotRun old new read_body [] e → IsRefusedAgain old new
again old new e has h = (e, not_taken old new e has h)

pub returns-clause-unusable : goal.returns-clause-unusable
returns-clause-unusable g c clean has out = elim c.match-prepare.branch [
  | in-Ok w ↦ absurd (cc)
  | in-Err w ↦ again (state g.S.Store c.args.conn.now) (state g.S.Store c.prepare.new.self) _ has (w.in-Err.ensures.err clean [])
]

pub returns-clause-runs : goal.returns-clause-runs
returns-clause-runs g c = record {
  left = λ clean. elim c.match-prepare.branch [
    | in-Ok w ↦ inl (w.in-Ok.ensures.ok clean).1
    | in-Err w ↦ not_run (state g.S.Store c.args.conn.now) (state g.S.Store c.prepare.new.self) _ [] _ (w.in-Err.ensures.err clean [])
  ];
  survives = c.prepare.ensures.survives;
}
