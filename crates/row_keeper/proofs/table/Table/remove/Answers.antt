use Rattle.std.proofs.Common.{◌≡◌, ◌∙◌, ap, ap₂, refl, sym, subst, cond, true, false, length, arith}
use Rattle.std.specs.List.{list_any}
use Rattle.std.specs.Option.{option_map}
use Rattle.row_keeper.specs.Covered.{entries_of}
use Rattle.row_keeper.specs.Entries.{is_entry_among}
use Rattle.row_keeper.specs.Slots.{rows_now}
use Rattle.row_keeper.specs.TableView.{TableView}
use Rattle.row_keeper.specs.Tables.{has_id, without_row}
use Rattle.row_keeper.proofs.WholeLemmas.{no_row, removed, row_of_entries, rows_removed, same_whole, scalars_in, some_count, some_row, then_same}
use Rattle.row_keeper.proofs.table.Table.remove.Goals as goal

pub entries_at-requires : goal.entries_at-requires
entries_at-requires c = scalars_in c.self.inside.columns c.self.inside.slots.by_id.entries c.self.invariant.good

pub returns-in_default-clause-was : goal.returns-in_default-clause-was
returns-in_default-clause-was c =
    let e = ap (option_map (λ v. v.items)) (sym c.in_default.is) ∙ c.in_ok-out.ensures.entries in
    subst (λ (w : TableView). false ≡ list_any (has_id c.args.id) w.now.rows) c.self.view_is (sym (no_row c.deref.result.now c.self.inside.slots.by_id.entries c.args.id c.entries_at.ensures.ordered e))

pub mark_all-requires : goal.mark_all-requires
mark_all-requires c q one = c.in_ok-make_rooms.ensures.room q (ap (λ es. is_entry_among es q) (c.deref-2.ensures.value ∙ sym c.deref-3.ensures.value) ∙ one)

pub overflow_sub-self : goal.overflow_sub-self
overflow_sub-self c =
    let row = row_of_entries c.deref.result.now c.self.inside.slots.by_id.entries c.args.id c.in-Some.out.items (ap (option_map (λ v. v.items)) (sym c.in-Some.is) ∙ c.in_ok-out.ensures.entries) in
    let counted : c.self.inside.count ≡ length (rows_now c.self.inside.slots.by_id.entries) = c.self.invariant.tallied.counted in
    let one = some_count c.self.inside.slots.by_id.entries c.args.id row.0 c.entries_at.ensures.ordered row.1 in
    omega (arith, counted, one)

pub invariant_of-self : goal.invariant_of-self
invariant_of-self c = same_whole c.self.inside.columns c.self.inside.covered.items c.self.inside.slots.by_id.entries c.self.inside.slots.by_id.entries c.self.inside.index.entries.entries c.make_rooms.new.self.entries.entries c.self.inside.last c.self.inside.count c.self.inside.first c.self.inside.first_count c.self.invariant refl c.make_rooms.ensures.now c.make_rooms.ensures.then

pub invariant_of-self-in_err-put_over : goal.invariant_of-self-in_err-put_over
invariant_of-self-in_err-put_over c =
    same_whole c.self.inside.columns c.self.inside.covered.items c.self.inside.slots.by_id.entries c.put_over.new.self.by_id.entries c.self.inside.index.entries.entries c.make_rooms.new.self.entries.entries c.self.inside.last c.self.inside.count c.self.inside.first c.self.inside.first_count c.self.invariant c.in_err-put_over.ensures.err c.make_rooms.ensures.now c.make_rooms.ensures.then

pub invariant_of-self-2 : goal.invariant_of-self-2
invariant_of-self-2 c =
    let row = row_of_entries c.deref.result.now c.self.inside.slots.by_id.entries c.args.id c.in-Some.out.items (ap (option_map (λ v. v.items)) (sym c.in-Some.is) ∙ c.in_ok-out.ensures.entries) in
    let E = c.deref-3.ensures.value ∙ row.2 ∙ ap (λ v. entries_of v c.args.id row.0) c.deref.ensures.value in
    removed c.self.inside.columns c.self.inside.covered.items c.self.inside.slots.by_id.entries c.put_over.new.self.by_id.entries c.self.inside.index.entries.entries c.mark_all.new.self.entries.entries
    c.self.inside.last c.self.inside.count c.self.inside.first c.self.inside.first_count c.args.id row.0 c.self.invariant c.put_over.ensures.was_ordered c.put_over.ensures.ordered row.1
    c.in_ok-put_over.ensures.now c.put_over.ensures.then
    (λ q. c.mark_all.ensures.now q ∙ ap₂ (λ es n. cond (is_entry_among es q) false n) E (c.make_rooms.ensures.now q)) (λ q. c.mark_all.ensures.then q ∙ c.make_rooms.ensures.then q)

pub returns-clause-was : goal.returns-clause-was
returns-clause-was c =
    let row = row_of_entries c.deref.result.now c.self.inside.slots.by_id.entries c.args.id c.in-Some.out.items (ap (option_map (λ v. v.items)) (sym c.in-Some.is) ∙ c.in_ok-out.ensures.entries) in
    subst (λ (w : TableView). true ≡ list_any (has_id c.args.id) w.now.rows) c.self.view_is (sym (some_row c.self.inside.slots.by_id.entries c.args.id row.0 c.entries_at.ensures.ordered row.1))

pub returns-clause-ok : goal.returns-clause-ok
returns-clause-ok c =
    let now = rows_removed c.self.inside.slots.by_id.entries c.put_over.new.self.by_id.entries c.args.id c.put_over.ensures.was_ordered c.put_over.ensures.ordered c.in_ok-put_over.ensures.now in
    let then = then_same c.self.inside.slots.by_id.entries c.put_over.new.self.by_id.entries c.put_over.ensures.was_ordered c.put_over.ensures.ordered c.put_over.ensures.then in
    let seen : TableView → TableView = λ w. record { columns = w.columns; now = without_row c.args.id w.now; then = w.then } in
    (λ k. record { columns = c.self.inside.columns; now = record { rows = now k; last = c.self.inside.last }; then = record { rows = then k; last = c.self.inside.first } }) ∙ ap seen c.self.view_is
