use Rattle.std.proofs.Common.{◌≡◌, ◌∙◌, ap, sym, subst, map, false, length, arith, None}
use Rattle.std.specs.Vec.{with_items}
use Rattle.std.proofs.lemmas.List.{with_items_is}
use Rattle.row_keeper.specs.Kept.{IsKept}
use Rattle.row_keeper.specs.OneTable.{view_settled}
use Rattle.row_keeper.specs.StoreView.{StoreView}
use Rattle.row_keeper.specs.TableView.{states_now, states_then}
use Rattle.row_keeper.proofs.StoreLemmas.{settled_kept, settled_now, settled_then}
use Rattle.row_keeper.proofs.store.Store.settle.Goals as goal

pub invariant_of-self : goal.invariant_of-self
invariant_of-self c =
    let len : length c.settle_all.new.tables ≡ c.self.inside.tables.len = omega (arith, c.settle_all.auto.tables, c.deref_mut.ensures.len) in
    let items = with_items_is c.self.inside.tables c.settle_all.new.tables len ∙ c.settle_all.ensures ∙ ap (map view_settled) c.deref_mut.ensures.value in
    subst (λ l. IsKept c.self.inside.schema l None false) (sym items) (settled_kept c.self.inside.schema c.self.inside.tables.items c.self.inside.aside c.self.inside.is_begun false c.self.invariant)

pub returns : goal.returns
returns c =
    let len : length c.settle_all.new.tables ≡ c.self.inside.tables.len = omega (arith, c.settle_all.auto.tables, c.deref_mut.ensures.len) in
    let items = with_items_is c.self.inside.tables c.settle_all.new.tables len ∙ c.settle_all.ensures ∙ ap (map view_settled) c.deref_mut.ensures.value in
    let now : states_now (with_items c.self.inside.tables c.settle_all.new.tables).items ≡ states_now c.self.inside.tables.items = ap states_now items ∙ settled_now c.self.inside.tables.items in
    let then : states_then (with_items c.self.inside.tables c.settle_all.new.tables).items ≡ states_now c.self.inside.tables.items = ap states_then items ∙ settled_then c.self.inside.tables.items in
    let ended : StoreView → StoreView = λ w. record { schema = w.schema; was = w.schema; now = w.now; then = w.now; is_begun = false } in
    (λ k. record { schema = c.self.inside.schema; was = c.self.inside.schema; now = now k; then = then k; is_begun = false }) ∙ ap ended c.self.view_is
