use Rattle.row_changes.proofs.MoveLemmas.{settled}
use Rattle.row_changes.proofs.table.TableChanges.settle.Goals as goal

pub returns-clause-changes : goal.returns-clause-changes
returns-clause-changes c kept h = settled c.args.self.now _ c.last-last.ensures c.clear.ensures.changed kept h
