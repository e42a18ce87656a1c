use Rattle.std.proofs.Common.{arith, refl}
use Rattle.row_keeper.specs.declared.keeper.KeeperEnd.TheVariants.{Memory}
use Rattle.store_rows.specs.Puts.{LessRow}
use Rattle.store_rows.proofs.PutLemmas.{removed_so, stays_so}
use Rattle.store_rows.proofs.changing.take_row.Goals as goal

pub returns-in-Err : goal.returns-in-Err
returns-in-Err c = λ kept columns h there.
    stays_so kept columns c.args.changes.now c.put.new.self c.args.count.now c.in-Err.ensures.err h (LessRow c.args.id) Memory

pub returns-in-Ok : goal.returns-in-Ok
returns-in-Ok c = λ kept columns h there.
    let now = record c.args.count.now { now = c.saturating_sub-count.result } in
    removed_so kept columns c.args.changes.now c.put.new.self c.args.count.now c.args.id c.args.was.now h there now c.in-Ok.ensures.ok c.put.ensures.first c.is_ordered.ensures (omega arith) refl
