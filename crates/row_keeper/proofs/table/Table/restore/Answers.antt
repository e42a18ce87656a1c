use Rattle.std.proofs.Common.{◌∙◌, ap}
use Rattle.row_keeper.specs.Slots.{cells_now, cells_then}
use Rattle.row_keeper.specs.TableView.{TableView}
use Rattle.row_keeper.proofs.RowLists.{same_rows}
use Rattle.row_keeper.proofs.WholeLemmas.{taken_back, then_same}
use Rattle.row_keeper.proofs.table.Table.restore.Goals as goal

pub invariant_of-self : goal.invariant_of-self
invariant_of-self c =
    taken_back c.self.inside.columns c.self.inside.covered.items c.self.inside.slots.by_id.entries c.restore.new.self.by_id.entries c.self.inside.index.entries.entries c.restore-2.new.self.entries.entries
    c.self.inside.last c.self.inside.count c.self.inside.first c.self.inside.first_count c.self.invariant c.restore.ensures.was_ordered c.restore.ensures.ordered
    c.restore.ensures.now c.restore.ensures.then c.restore-2.ensures.now c.restore-2.ensures.then

pub returns : goal.returns
returns c =
    let now = same_rows cells_now cells_then c.restore.new.self.by_id.entries c.self.inside.slots.by_id.entries c.restore.ensures.ordered c.restore.ensures.was_ordered c.restore.ensures.now in
    let then = then_same c.self.inside.slots.by_id.entries c.restore.new.self.by_id.entries c.restore.ensures.was_ordered c.restore.ensures.ordered c.restore.ensures.then in
    let seen : TableView → TableView = λ w. record { columns = w.columns; now = w.then; then = w.then } in
    (λ k. record { columns = c.self.inside.columns; now = record { rows = now k; last = c.self.inside.first }; then = record { rows = then k; last = c.self.inside.first } }) ∙ ap seen c.self.view_is
