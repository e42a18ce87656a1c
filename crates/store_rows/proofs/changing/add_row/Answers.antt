use Rattle.std.proofs.Common.{◌≡◌, arith, refl, subst}
use Rattle.row_lines.specs.FromBytes.{cells_in}
use Rattle.row_keeper.specs.declared.keeper.KeeperEnd.TheVariants.{Memory}
use Rattle.store_rows.specs.Puts.{NewRow}
use Rattle.store_rows.proofs.PutLemmas.{added_so, itself, stays_so}
use Rattle.store_rows.proofs.changing.add_row.Goals as goal

pub returns-in_default-clause-told : goal.returns-in_default-clause-told
returns-in_default-clause-told c = λ kept all h free.
    let columns = c.args.shape.now.columns in
    stays_so kept columns c.args.changes.now c.args.changes.now c.args.count.now (itself c.args.changes.now) h (NewRow columns all c.args.cells.now) Memory

pub returns-in-Err-clause-told : goal.returns-in-Err-clause-told
returns-in-Err-clause-told c = λ kept all h free.
    let columns = c.args.shape.now.columns in
    stays_so kept columns c.args.changes.now c.add.new.self c.args.count.now c.in-Err.ensures.err h (NewRow columns all c.args.cells.now) Memory

pub returns-in-Ok-add-clause-told : goal.returns-in-Ok-add-clause-told
returns-in-Ok-add-clause-told c = λ kept all h free.
    let columns = c.args.shape.now.columns in
    let now = record c.args.count.now { now = c.saturating_add-count.result } in
    added_so kept columns c.args.changes.now c.add.new.self c.args.count.now now all c.args.cells.now c.in-Ok.body.items h c.requires.fit c.cells_are_proper.ensures
    c.in-Ok-add.id free (omega arith) c.in-Ok-add.ensures.ok c.add.ensures.first c.is_ordered.ensures (subst (λ cs. cells_in cs c.in-Ok.body.items ≡ c.args.cells.now) c.as_slice.ensures c.in-Ok.ensures.told) c.in-Ok.ensures.body c.in-Ok-add.ensures.id (omega arith) refl
