use Rattle.std.proofs.Common.{◌≡◌, ◌∙◌, List, true, ap, sym, subst, length, arith}
use Rattle.std.specs.Prelude.{IfOk, OnErr}
use Rattle.std.specs.Vec.{with_items}
use Rattle.std.proofs.lemmas.List.{with_items_is}
use Rattle.std.proofs.lemmas.Result.{IfOk-weaker}
use Rattle.row_keeper.specs.Changes.{Removes}
use Rattle.row_keeper.specs.Kept.{IsKept, kept_then, schema_then}
use Rattle.row_keeper.specs.OneTable.{ChangesAt, TakesOut}
use Rattle.row_keeper.specs.StoreView.{StoreView, tables_now, tables_then}
use Rattle.row_keeper.specs.TableView.{TableView, states_now, states_then}
use Rattle.row_keeper.specs.Tables.{TableState, Tables}
use Rattle.row_keeper.proofs.StoreLemmas.{remove_kept, removes}
use Rattle.row_keeper.proofs.store.Store.remove.Goals as goal

pub invariant_of-self : goal.invariant_of-self
invariant_of-self c =
    let tables = c.self.inside.tables.items in
    let len : length c.remove_at.new.tables ≡ c.self.inside.tables.len = omega (arith, c.remove_at.auto.tables, c.deref_mut.ensures.len) in
    let items = with_items_is c.self.inside.tables c.remove_at.new.tables len in
    let ok = subst (λ (d : List TableView). IfOk c.remove_at.result (λ put. ChangesAt c.args.table (TakesOut c.args.id put) d c.remove_at.new.tables)) c.deref_mut.ensures.value c.remove_at.ensures.ok in
    let err = subst (λ (d : List TableView). OnErr c.remove_at.result (c.remove_at.new.tables ≡ d)) c.deref_mut.ensures.value c.remove_at.ensures.err in
    let begun : c.self.inside.is_begun ≡ true = ap (λ (w : StoreView). w.is_begun) c.self.view_is ∙ c.requires.begun in
    let kept = remove_kept c.args.id c.self.inside.schema c.args.table tables c.remove_at.new.tables c.self.inside.aside c.self.inside.is_begun c.remove_at.result ok err begun c.self.invariant in
    subst (λ (l : List TableView). IsKept c.self.inside.schema l c.self.inside.aside c.self.inside.is_begun) (sym items) kept.0

pub returns-clause-was : goal.returns-clause-was
returns-clause-was c =
    let tables = c.self.inside.tables.items in
    let len : length c.remove_at.new.tables ≡ c.self.inside.tables.len = omega (arith, c.remove_at.auto.tables, c.deref_mut.ensures.len) in
    let items = with_items_is c.self.inside.tables c.remove_at.new.tables len in
    let ok = subst (λ (d : List TableView). IfOk c.remove_at.result (λ put. ChangesAt c.args.table (TakesOut c.args.id put) d c.remove_at.new.tables)) c.deref_mut.ensures.value c.remove_at.ensures.ok in
    let now : List TableView → Tables = λ l. record { kept = c.self.inside.schema; states = states_now l } in
    let goes = IfOk-weaker c.remove_at.result (λ put. ChangesAt c.args.table (TakesOut c.args.id put) tables c.remove_at.new.tables) (λ put. Removes c.args.table c.args.id put (now tables) (now c.remove_at.new.tables))
    (removes c.self.inside.schema tables c.remove_at.new.tables c.args.table c.self.invariant.columns c.args.id) ok in
    let closed = subst (λ (l : List TableView). IfOk c.remove_at.result (λ put. Removes c.args.table c.args.id put (now tables) (now l))) (sym items) goes in
    subst (λ (w : StoreView). IfOk c.remove_at.result (λ put. Removes c.args.table c.args.id put (tables_now w) (now (with_items c.self.inside.tables c.remove_at.new.tables).items))) c.self.view_is closed

pub returns-clause-began : goal.returns-clause-began
returns-clause-began c =
    let tables = c.self.inside.tables.items in
    let len : length c.remove_at.new.tables ≡ c.self.inside.tables.len = omega (arith, c.remove_at.auto.tables, c.deref_mut.ensures.len) in
    let items = with_items_is c.self.inside.tables c.remove_at.new.tables len in
    let ok = subst (λ (d : List TableView). IfOk c.remove_at.result (λ put. ChangesAt c.args.table (TakesOut c.args.id put) d c.remove_at.new.tables)) c.deref_mut.ensures.value c.remove_at.ensures.ok in
    let err = subst (λ (d : List TableView). OnErr c.remove_at.result (c.remove_at.new.tables ≡ d)) c.deref_mut.ensures.value c.remove_at.ensures.err in
    let begun : c.self.inside.is_begun ≡ true = ap (λ (w : StoreView). w.is_begun) c.self.view_is ∙ c.requires.begun in
    let kept = remove_kept c.args.id c.self.inside.schema c.args.table tables c.remove_at.new.tables c.self.inside.aside c.self.inside.is_begun c.remove_at.result ok err begun c.self.invariant in
    let then : List TableState → Tables = λ l. record { kept = schema_then c.self.inside.schema c.self.inside.aside; states = l } in
    ap then (ap (λ (l : List TableView). states_then (kept_then l c.self.inside.aside)) items ∙ kept.1) ∙ ap tables_then c.self.view_is
