use Rattle.std.proofs.Common.{◌≡◌, [], true}
use Rattle.sqlite.specs.Held.{state}
use Rattle.sqlite.specs.State.{HasCleanDisk}
use Rattle.sql_meanings.specs.Calls.{RunsInside}
use Rattle.sql_meanings.specs.Lasts.{AreLasts}
use Rattle.sql_meanings.specs.UnderWay.{IsUnderWay}
use Rattle.sql_shaping.specs.NewTables.{PutsLasts, StaysIn}
use Rattle.sql_shaping.proofs.keeping.insert_lasts.Given as goal

abbrev pub invariant-loop-tab : goal.invariant-loop-tab
invariant-loop-tab g l =
    let old = state g.S.Store l.fn.tx.conn.now in
    let now = state g.S.Store l.tx.conn.now in
    record {
      same : l.tx.conn.ghost_name ≡ l.fn.tx.conn.ghost_name;
      on : HasCleanDisk now → old.in_transaction ≡ true → StaysIn old now;
      runs : RunsInside old now;
      done : HasCleanDisk now → IsUnderWay old → AreLasts old.now.trees [] → PutsLasts old now l.tab;
    }
