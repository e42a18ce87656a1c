use Rattle.std.proofs.Common.{OnOk, Result, Ok, Err}
use Rattle.row_changes.specs.Overlay.{bytes_in}
use Rattle.row_changes.proofs.MoveLemmas.{puts_added, puts_kept}
use Rattle.row_changes.proofs.table.TableChanges.put.Goals as goal

on_ok : {A E P Q : Type 0} (r : Result A E) → (P → Q) → OnOk r P → OnOk r Q
on_ok (Ok x) f p = f p
on_ok (Err e) f p = tt

pub returns-then-id-self-clause-ok : goal.returns-then-id-self-clause-ok
returns-then-id-self-clause-ok c =
    let e = c.put_added.ensures in
    puts_added c.args.self.now c.put_added.new.self c.args.id c.args.was.now c.args.now c.if-id-self.true e.first e.changed e.added

pub returns-clause-ok : goal.returns-clause-ok
returns-clause-ok c =
    let e = c.put_kept.ensures in
    on_ok c.put_kept.result (λ goes. puts_kept c.args.self.now c.put_kept.new.self c.args.id c.args.was.now (bytes_in c.args.now) c.if-id-self.false e.first e.added goes) e.ok
