use Rattle.std.proofs.Common.{refl, rules}
use Rattle.row_changes.proofs.MoveLemmas.{adds}
use Rattle.row_changes.proofs.table.TableChanges.add.Goals as goal

pub returns-clause-ok : goal.returns-clause-ok
returns-clause-ok c = adds c.args.self.now _ c.args.body refl refl (let items = c.in_ok-push.ensures.items in search (rules, items))
