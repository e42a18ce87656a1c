use Rattle.std.proofs.Common.{◌∙◌, ap}
use Rattle.row_keeper.specs.Slots.{cells_now, cells_then}
use Rattle.row_keeper.specs.TableView.{TableView}
use Rattle.row_keeper.proofs.RowLists.{same_rows}
use Rattle.row_keeper.proofs.WholeLemmas.{ended}
use Rattle.row_keeper.proofs.table.Table.settle.Goals as goal

pub invariant_of-self : goal.invariant_of-self
invariant_of-self c =
    ended c.self.inside.columns c.self.inside.covered.items c.self.inside.slots.by_id.entries c.settle.new.self.by_id.entries c.self.inside.index.entries.entries c.settle-2.new.self.entries.entries
    c.self.inside.last c.self.inside.count c.self.inside.first c.self.inside.first_count c.self.invariant c.settle.ensures.was_ordered c.settle.ensures.ordered
    c.settle.ensures.now c.settle.ensures.then c.settle-2.ensures.now c.settle-2.ensures.then

pub returns : goal.returns
returns c =
    let now = same_rows cells_now cells_now c.settle.new.self.by_id.entries c.self.inside.slots.by_id.entries c.settle.ensures.ordered c.settle.ensures.was_ordered c.settle.ensures.now in
    let then = same_rows cells_then cells_now c.settle.new.self.by_id.entries c.self.inside.slots.by_id.entries c.settle.ensures.ordered c.settle.ensures.was_ordered c.settle.ensures.then in
    let seen : TableView → TableView = λ w. record { columns = w.columns; now = w.now; then = w.now } in
    (λ k. record { columns = c.self.inside.columns; now = record { rows = now k; last = c.self.inside.last }; then = record { rows = then k; last = c.self.inside.last } }) ∙ ap seen c.self.view_is
