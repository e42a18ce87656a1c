use Rattle.std.proofs.Common.{◌≡◌, subst}
use Rattle.row_lines.specs.FromBytes.{cells_in}
use Rattle.row_keeper.specs.declared.keeper.KeeperEnd.TheVariants.{Memory}
use Rattle.store_rows.specs.Puts.{OverRow}
use Rattle.store_rows.proofs.PutLemmas.{itself, put_so, stays_so}
use Rattle.store_rows.proofs.changing.change_row.Goals as goal

pub returns-in_default-clause-told : goal.returns-in_default-clause-told
returns-in_default-clause-told c = λ kept all n h there free.
    let columns = c.args.shape.now.columns in
    stays_so kept columns c.args.changes.now c.args.changes.now n (itself c.args.changes.now) h (OverRow columns all c.args.id c.args.cells.now) Memory

pub returns-in-Err-clause-told : goal.returns-in-Err-clause-told
returns-in-Err-clause-told c = λ kept all n h there free.
    let columns = c.args.shape.now.columns in
    stays_so kept columns c.args.changes.now c.put.new.self n c.in-Err.ensures.err h (OverRow columns all c.args.id c.args.cells.now) Memory

pub returns-in-Ok-put-clause-told : goal.returns-in-Ok-put-clause-told
returns-in-Ok-put-clause-told c = λ kept all n h there free.
    let columns = c.args.shape.now.columns in
    put_so kept columns c.args.changes.now c.put.new.self n c.args.id c.args.was.now h there all c.args.cells.now c.in-Ok.body.items c.requires c.cells_are_proper.ensures free
    c.in-Ok-put.ensures.ok c.put.ensures.first c.is_ordered.ensures (subst (λ cs. cells_in cs c.in-Ok.body.items ≡ c.args.cells.now) c.as_slice.ensures c.in-Ok.ensures.told) c.in-Ok.ensures.body
