use Rattle.std.proofs.Common.{◌≡◌, ◌∙◌, ◌==◌, ◌+◌, ◌<◌, ap, sym, subst, cond, Some, true, length, arith}
use Rattle.row_queries.specs.TableRows.{AreCellsOf}
use Rattle.row_keeper.specs.Covered.{entries_of}
use Rattle.row_keeper.specs.Entries.{is_entry_among, now_in}
use Rattle.row_keeper.specs.Slots.{now_at, rows_now}
use Rattle.row_keeper.specs.TableView.{TableView}
use Rattle.row_keeper.specs.Tables.{with_row}
use Rattle.row_keeper.proofs.WholeLemmas.{inserted, rows_inserted, scalar_at, then_same}
use Rattle.row_keeper.proofs.table.Table.insert.Goals as goal

pub entries_for-requires : goal.entries_for-requires
entries_for-requires c = scalar_at c.args.self.now.columns c.args.cells.now c.requires.fit

pub invariant_of-self-2 : goal.invariant_of-self-2
invariant_of-self-2 c =
    let few : length (rows_now c.self.inside.slots.by_id.entries) < 200000 = subst (λ (w : TableView). length w.now.rows < 200000) (sym c.self.view_is) c.requires.few in
    let counted : c.self.inside.count ≡ length (rows_now c.self.inside.slots.by_id.entries) = c.self.invariant.tallied.counted in
    let fit : AreCellsOf c.self.inside.columns c.args.cells.now = subst (λ (w : TableView). AreCellsOf w.columns c.args.cells.now) (sym c.self.view_is) c.requires.fit in
    let E = c.deref-3.ensures.value ∙ c.in_ok-entries.ensures ∙ ap (λ v. entries_of v (c.self.inside.last + 1) c.args.cells.now) c.deref.ensures.value in
    inserted c.self.inside.columns c.self.inside.covered.items c.self.inside.slots.by_id.entries c.put_new.new.self.by_id.entries c.self.inside.index.entries.entries c.make_rooms.new.self.entries.entries c.mark_all.new.self.entries.entries
    c.self.inside.last c.self.inside.count c.self.inside.first c.self.inside.first_count c.args.cells.now c.self.invariant c.put_new.ensures.was_ordered c.put_new.ensures.ordered
    (omega (arith, few, counted)) fit c.cells_are_proper.ensures
    (λ i. c.in_ok-put_new.ensures.now i ∙ ap (λ x. cond (c.self.inside.last + 1 == i) (Some x) (now_at c.self.inside.slots.by_id.entries i)) c.in_ok-copy.ensures) c.put_new.ensures.then
    c.make_rooms.ensures.now (λ q. c.mark_all.ensures.now q ∙ ap (λ es. cond (is_entry_among es q) true (now_in c.make_rooms.new.self.entries.entries q)) E)
    (λ q. c.mark_all.ensures.then q ∙ c.make_rooms.ensures.then q)

pub returns-clause-ok : goal.returns-clause-ok
returns-clause-ok c =
    let now = rows_inserted c.self.inside.slots.by_id.entries c.put_new.new.self.by_id.entries c.self.inside.last c.args.cells.now c.put_new.ensures.was_ordered c.put_new.ensures.ordered c.self.invariant.tallied.above
    (λ i. c.in_ok-put_new.ensures.now i ∙ ap (λ x. cond (c.self.inside.last + 1 == i) (Some x) (now_at c.self.inside.slots.by_id.entries i)) c.in_ok-copy.ensures) in
    let then = then_same c.self.inside.slots.by_id.entries c.put_new.new.self.by_id.entries c.put_new.ensures.was_ordered c.put_new.ensures.ordered c.put_new.ensures.then in
    let seen : TableView → TableView = λ w. record { columns = w.columns; now = with_row c.args.cells.now w.now; then = w.then } in
    (λ k. record { columns = c.self.inside.columns; now = record { rows = now k; last = c.self.inside.last + 1 }; then = record { rows = then k; last = c.self.inside.first } }) ∙ ap seen c.self.view_is
