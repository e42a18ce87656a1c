use Rattle.std.proofs.Common.{◌≡◌, ◌∙◌, List, true, ap, sym, subst, length, arith}
use Rattle.std.specs.Prelude.{IfOk, IsSomeAnd, OnErr, slice_get}
use Rattle.std.specs.Vec.{with_items}
use Rattle.std.proofs.lemmas.List.{with_items_is}
use Rattle.std.proofs.lemmas.Result.{IfOk-weaker}
use Rattle.fx_core.specs.declared.schema.TableShape.{TableShape}
use Rattle.row_queries.specs.TableRows.{AreCellsOf}
use Rattle.row_keeper.specs.Changes.{Inserts, IsInserted}
use Rattle.row_keeper.specs.Kept.{IsKept, kept_then, schema_then}
use Rattle.row_keeper.specs.OneTable.{ChangesAt, PutsNew}
use Rattle.row_keeper.specs.StoreView.{StoreView, tables_now, tables_then}
use Rattle.row_keeper.specs.TableView.{TableView, states_now, states_then}
use Rattle.row_keeper.specs.Tables.{TableState, Tables, all_rows, columns_at, shapes_of}
use Rattle.row_keeper.proofs.StoreLemmas.{fit_there, insert_kept, inserts, inserted}
use Rattle.row_keeper.proofs.store.Store.insert.Goals as goal

pub insert_at-requires : goal.insert_at-requires
insert_at-requires c =
    let fit = subst (λ (w : StoreView). IsSomeAnd (slice_get (shapes_of w.schema) c.args.table) (λ (t : TableShape). AreCellsOf t.columns c.args.cells.now)) (sym c.self.view_is) c.requires.fit in
    subst (λ (d : List TableView). IsSomeAnd (slice_get d c.args.table) (λ (t : TableView). AreCellsOf t.columns c.args.cells.now)) (sym c.deref_mut.ensures.value)
    (fit_there (λ cs. AreCellsOf cs c.args.cells.now) c.self.inside.tables.items (shapes_of c.self.inside.schema) c.args.table c.self.invariant.columns fit)

pub invariant_of-self : goal.invariant_of-self
invariant_of-self c =
    let tables = c.self.inside.tables.items in
    let len : length c.insert_at.new.tables ≡ c.self.inside.tables.len = omega (arith, c.insert_at.auto.tables, c.deref_mut.ensures.len) in
    let items = with_items_is c.self.inside.tables c.insert_at.new.tables len in
    let ok = subst (λ (d : List TableView). IfOk c.insert_at.result (λ put. ChangesAt c.args.table (PutsNew (all_rows (states_now d)) c.args.cells.now put) d c.insert_at.new.tables)) c.deref_mut.ensures.value c.insert_at.ensures.ok in
    let err = subst (λ (d : List TableView). OnErr c.insert_at.result (c.insert_at.new.tables ≡ d)) c.deref_mut.ensures.value c.insert_at.ensures.err in
    let begun : c.self.inside.is_begun ≡ true = ap (λ (w : StoreView). w.is_begun) c.self.view_is ∙ c.requires.begun in
    let kept = insert_kept (all_rows (states_now tables)) c.args.cells.now c.self.inside.schema c.args.table tables c.insert_at.new.tables c.self.inside.aside c.self.inside.is_begun c.insert_at.result ok err begun c.self.invariant in
    subst (λ (l : List TableView). IsKept c.self.inside.schema l c.self.inside.aside c.self.inside.is_begun) (sym items) kept.0

pub returns-clause-put : goal.returns-clause-put
returns-clause-put c =
    let tables = c.self.inside.tables.items in
    let len : length c.insert_at.new.tables ≡ c.self.inside.tables.len = omega (arith, c.insert_at.auto.tables, c.deref_mut.ensures.len) in
    let items = with_items_is c.self.inside.tables c.insert_at.new.tables len in
    let ok = subst (λ (d : List TableView). IfOk c.insert_at.result (λ put. ChangesAt c.args.table (PutsNew (all_rows (states_now d)) c.args.cells.now put) d c.insert_at.new.tables)) c.deref_mut.ensures.value c.insert_at.ensures.ok in
    let now : List TableView → Tables = λ l. record { kept = c.self.inside.schema; states = states_now l } in
    let goes = IfOk-weaker c.insert_at.result (λ put. ChangesAt c.args.table (PutsNew (all_rows (states_now tables)) c.args.cells.now put) tables c.insert_at.new.tables) (λ put. Inserts (columns_at (shapes_of c.self.inside.schema) c.args.table) c.args.table c.args.cells.now put (now tables) (now c.insert_at.new.tables))
    (inserts c.self.inside.schema tables c.insert_at.new.tables c.args.table c.self.invariant.columns c.args.cells.now) ok in
    let closed = subst (λ (l : List TableView). IfOk c.insert_at.result (λ put. Inserts (columns_at (shapes_of c.self.inside.schema) c.args.table) c.args.table c.args.cells.now put (now tables) (now l))) (sym items) goes in
    subst (λ (w : StoreView). IfOk c.insert_at.result (λ put. Inserts (columns_at (shapes_of w.schema) c.args.table) c.args.table c.args.cells.now put (tables_now w) (now (with_items c.self.inside.tables c.insert_at.new.tables).items))) c.self.view_is closed

pub returns-clause-sound : goal.returns-clause-sound
returns-clause-sound c =
    let tables = c.self.inside.tables.items in
    let ok = subst (λ (d : List TableView). IfOk c.insert_at.result (λ put. ChangesAt c.args.table (PutsNew (all_rows (states_now d)) c.args.cells.now put) d c.insert_at.new.tables)) c.deref_mut.ensures.value c.insert_at.ensures.ok in
    let sound = IfOk-weaker c.insert_at.result (λ put. ChangesAt c.args.table (PutsNew (all_rows (states_now tables)) c.args.cells.now put) tables c.insert_at.new.tables) (λ put. IsInserted (columns_at (shapes_of c.self.inside.schema) c.args.table) put)
    (inserted c.self.inside.schema tables c.insert_at.new.tables c.args.table c.self.invariant.columns c.args.cells.now) ok in
    subst (λ (w : StoreView). IfOk c.insert_at.result (λ put. IsInserted (columns_at (shapes_of w.schema) c.args.table) put)) c.self.view_is sound

pub returns-clause-began : goal.returns-clause-began
returns-clause-began c =
    let tables = c.self.inside.tables.items in
    let len : length c.insert_at.new.tables ≡ c.self.inside.tables.len = omega (arith, c.insert_at.auto.tables, c.deref_mut.ensures.len) in
    let items = with_items_is c.self.inside.tables c.insert_at.new.tables len in
    let ok = subst (λ (d : List TableView). IfOk c.insert_at.result (λ put. ChangesAt c.args.table (PutsNew (all_rows (states_now d)) c.args.cells.now put) d c.insert_at.new.tables)) c.deref_mut.ensures.value c.insert_at.ensures.ok in
    let err = subst (λ (d : List TableView). OnErr c.insert_at.result (c.insert_at.new.tables ≡ d)) c.deref_mut.ensures.value c.insert_at.ensures.err in
    let begun : c.self.inside.is_begun ≡ true = ap (λ (w : StoreView). w.is_begun) c.self.view_is ∙ c.requires.begun in
    let kept = insert_kept (all_rows (states_now tables)) c.args.cells.now c.self.inside.schema c.args.table tables c.insert_at.new.tables c.self.inside.aside c.self.inside.is_begun c.insert_at.result ok err begun c.self.invariant in
    let then : List TableState → Tables = λ l. record { kept = schema_then c.self.inside.schema c.self.inside.aside; states = l } in
    ap then (ap (λ (l : List TableView). states_then (kept_then l c.self.inside.aside)) items ∙ kept.1) ∙ ap tables_then c.self.view_is
