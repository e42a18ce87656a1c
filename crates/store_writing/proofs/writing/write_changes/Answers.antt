use Rattle.std.proofs.Common.{◌∙◌, ap}
use Rattle.std.proofs.lemmas.Result.{err_from_is_err_and}
use Rattle.sqlite.specs.Held.{state}
use Rattle.row_plan.specs.Shown.{all_shown}
use Rattle.store_writing.proofs.WriteLemmas.{not_written, written}
use Rattle.store_writing.proofs.writing.write_changes.Goals as goal

pub returns-in_err-steps : goal.returns-in_err-steps
returns-in_err-steps g c =
    let p = err_from_is_err_and c.from_residual.result c.from_residual.ensures.1 in
    not_written (state g.S.Store c.args.conn.now) c.args.schema.now c.args.changes.now c.from_residual.result p.0 p.1

pub returns : goal.returns
returns g c =
    let e = c.settle-ending.ensures in
    let d = c.told.ensures in
    written (state g.S.Store c.args.conn.now) (state g.S.Store c.settle-ending.new.conn) c.args.schema.now c.args.changes.now (all_shown c.deref.result.now) c.told.result c.settle-ending.result
    (ap all_shown c.deref.ensures.value ∙ c.in_ok-steps.ensures) e.survives.clean e.done e.undone e.on d.ok d.err d.failed
