use Rattle.std.proofs.Common.{◌≡◌, ◌∙◌, ◌==◌, ap, refl, sym, subst, cond, Some, true, false}
use Rattle.std.specs.List.{list_any}
use Rattle.std.specs.Option.{is_some, option_map}
use Rattle.row_queries.specs.TableRows.{AreCellsOf}
use Rattle.row_keeper.specs.Covered.{entries_of}
use Rattle.row_keeper.specs.Entries.{is_entry_among, now_in}
use Rattle.row_keeper.specs.Slots.{now_at}
use Rattle.row_keeper.specs.TableView.{TableView}
use Rattle.row_keeper.specs.Tables.{has_id, with_cells}
use Rattle.row_keeper.proofs.WholeLemmas.{no_row, replaced, row_of_entries, rows_replaced, same_whole, scalar_at, scalars_in, some_row, then_same}
use Rattle.row_keeper.proofs.table.Table.replace.Goals as goal

pub entries_at-requires : goal.entries_at-requires
entries_at-requires c = scalars_in c.self.inside.columns c.self.inside.slots.by_id.entries c.self.invariant.good

pub returns-in_default-clause-was : goal.returns-in_default-clause-was
returns-in_default-clause-was c =
    let e = ap (option_map (λ v. v.items)) (sym c.in_default.is) ∙ c.in_ok-out.ensures.entries in
    subst (λ (w : TableView). false ≡ list_any (has_id c.args.id) w.now.rows) c.self.view_is (sym (no_row c.deref.result.now c.self.inside.slots.by_id.entries c.args.id c.entries_at.ensures.ordered e))

pub entries_for-requires : goal.entries_for-requires
entries_for-requires c = scalar_at c.args.self.now.columns c.args.cells.now c.requires.fit

pub mark_all-requires : goal.mark_all-requires
mark_all-requires c q one =
    c.make_rooms-2.ensures.more q (c.in_ok-make_rooms.ensures.room q (ap (λ es. is_entry_among es q) (c.deref-3.ensures.value ∙ sym c.deref-5.ensures.value) ∙ one))

pub mark_all-requires-2 : goal.mark_all-requires-2
mark_all-requires-2 c q one =
    c.mark_all.ensures.room q (c.in_ok-make_rooms-2.ensures.room q (ap (λ es. is_entry_among es q) (c.deref-4.ensures.value ∙ sym c.deref-6.ensures.value) ∙ one))

pub invariant_of-self : goal.invariant_of-self
invariant_of-self c = same_whole c.self.inside.columns c.self.inside.covered.items c.self.inside.slots.by_id.entries c.self.inside.slots.by_id.entries c.self.inside.index.entries.entries c.make_rooms.new.self.entries.entries c.self.inside.last c.self.inside.count c.self.inside.first c.self.inside.first_count c.self.invariant refl c.make_rooms.ensures.now c.make_rooms.ensures.then

pub invariant_of-self-in_err-make_rooms-2 : goal.invariant_of-self-in_err-make_rooms-2
invariant_of-self-in_err-make_rooms-2 c =
    same_whole c.self.inside.columns c.self.inside.covered.items c.self.inside.slots.by_id.entries c.self.inside.slots.by_id.entries c.self.inside.index.entries.entries c.make_rooms-2.new.self.entries.entries c.self.inside.last c.self.inside.count c.self.inside.first c.self.inside.first_count c.self.invariant refl
    (λ q. c.make_rooms-2.ensures.now q ∙ c.make_rooms.ensures.now q) (λ q. c.make_rooms-2.ensures.then q ∙ c.make_rooms.ensures.then q)

pub invariant_of-self-in_err-put_over : goal.invariant_of-self-in_err-put_over
invariant_of-self-in_err-put_over c =
    same_whole c.self.inside.columns c.self.inside.covered.items c.self.inside.slots.by_id.entries c.put_over.new.self.by_id.entries c.self.inside.index.entries.entries c.make_rooms-2.new.self.entries.entries c.self.inside.last c.self.inside.count c.self.inside.first c.self.inside.first_count c.self.invariant c.in_err-put_over.ensures.err
    (λ q. c.make_rooms-2.ensures.now q ∙ c.make_rooms.ensures.now q) (λ q. c.make_rooms-2.ensures.then q ∙ c.make_rooms.ensures.then q)

pub invariant_of-self-2 : goal.invariant_of-self-2
invariant_of-self-2 c =
    let row = row_of_entries c.deref.result.now c.self.inside.slots.by_id.entries c.args.id c.in-Some.out.items (ap (option_map (λ v. v.items)) (sym c.in-Some.is) ∙ c.in_ok-out.ensures.entries) in
    let fit : AreCellsOf c.self.inside.columns c.args.cells.now = subst (λ (w : TableView). AreCellsOf w.columns c.args.cells.now) (sym c.self.view_is) c.requires.fit in
    let out = c.deref-5.ensures.value ∙ row.2 ∙ ap (λ v. entries_of v c.args.id row.0) c.deref.ensures.value in
    let into = c.deref-6.ensures.value ∙ c.in_ok-entries.ensures ∙ ap (λ v. entries_of v c.args.id c.args.cells.now) c.deref-2.ensures.value in
    replaced c.self.inside.columns c.self.inside.covered.items c.self.inside.slots.by_id.entries c.put_over.new.self.by_id.entries c.self.inside.index.entries.entries c.make_rooms-2.new.self.entries.entries c.mark_all.new.self.entries.entries c.mark_all-2.new.self.entries.entries
    c.self.inside.last c.self.inside.count c.self.inside.first c.self.inside.first_count c.args.id row.0 c.args.cells.now c.self.invariant c.put_over.ensures.was_ordered c.put_over.ensures.ordered row.1
    fit c.cells_are_proper.ensures
    (λ i. c.in_ok-put_over.ensures.now i ∙ ap (λ x. cond (c.args.id == i) (Some x) (now_at c.self.inside.slots.by_id.entries i)) c.in_ok-copy.ensures) c.put_over.ensures.then
    (λ q. c.make_rooms-2.ensures.now q ∙ c.make_rooms.ensures.now q) (λ q. c.mark_all.ensures.now q ∙ ap (λ es. cond (is_entry_among es q) false (now_in c.make_rooms-2.new.self.entries.entries q)) out)
    (λ q. c.mark_all-2.ensures.now q ∙ ap (λ es. cond (is_entry_among es q) true (now_in c.mark_all.new.self.entries.entries q)) into)
    (λ q. c.mark_all-2.ensures.then q ∙ c.mark_all.ensures.then q ∙ c.make_rooms-2.ensures.then q ∙ c.make_rooms.ensures.then q)

pub returns-clause-was : goal.returns-clause-was
returns-clause-was c =
    let row = row_of_entries c.deref.result.now c.self.inside.slots.by_id.entries c.args.id c.in-Some.out.items (ap (option_map (λ v. v.items)) (sym c.in-Some.is) ∙ c.in_ok-out.ensures.entries) in
    subst (λ (w : TableView). true ≡ list_any (has_id c.args.id) w.now.rows) c.self.view_is (sym (some_row c.self.inside.slots.by_id.entries c.args.id row.0 c.entries_at.ensures.ordered row.1))

pub returns-clause-ok : goal.returns-clause-ok
returns-clause-ok c =
    let row = row_of_entries c.deref.result.now c.self.inside.slots.by_id.entries c.args.id c.in-Some.out.items (ap (option_map (λ v. v.items)) (sym c.in-Some.is) ∙ c.in_ok-out.ensures.entries) in
    let now = rows_replaced c.self.inside.slots.by_id.entries c.put_over.new.self.by_id.entries c.args.id c.args.cells.now c.put_over.ensures.was_ordered c.put_over.ensures.ordered (ap is_some row.1)
    (λ i. c.in_ok-put_over.ensures.now i ∙ ap (λ x. cond (c.args.id == i) (Some x) (now_at c.self.inside.slots.by_id.entries i)) c.in_ok-copy.ensures) in
    let then = then_same c.self.inside.slots.by_id.entries c.put_over.new.self.by_id.entries c.put_over.ensures.was_ordered c.put_over.ensures.ordered c.put_over.ensures.then in
    let seen : TableView → TableView = λ w. record { columns = w.columns; now = with_cells c.args.id c.args.cells.now w.now; then = w.then } in
    (λ k. record { columns = c.self.inside.columns; now = record { rows = now k; last = c.self.inside.last }; then = record { rows = then k; last = c.self.inside.first } }) ∙ ap seen c.self.view_is
