use Rattle.std.proofs.Common.{◌≡◌, take, true}
use Rattle.sqlite.specs.Held.{state}
use Rattle.sqlite.specs.State.{HasCleanDisk}
use Rattle.sql_meanings.specs.Calls.{RunsInside}
use Rattle.sql_contents.specs.Contents.{Contents}
use Rattle.row_plan.specs.Shown.{all_shown}
use Rattle.row_plan.specs.Statements.{CanRunAll, after}
use Rattle.sql_playing.specs.Played.{IsAt, StaysInside}
use Rattle.sql_playing.proofs.playing.run_steps.Given as goal

abbrev pub invariant-loop-step : goal.invariant-loop-step
invariant-loop-step g l =
    let old = state g.S.Store l.fn.tx.conn.now in
    let now = state g.S.Store l.tx.conn.now in
    record {
      same : l.tx.conn.ghost_name ≡ l.fn.tx.conn.ghost_name;
      on : HasCleanDisk now → old.in_transaction ≡ true → StaysInside old now;
      runs : RunsInside old now;
      done : HasCleanDisk now → (k : Contents) → IsAt old k → CanRunAll (all_shown l.steps) k → IsAt now (after (all_shown (take l.step-index l.steps)) k);
    }
