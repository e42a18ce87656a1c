use Rattle.std.proofs.Common.{◌≡◌, ◌∙◌, ap, sym, subst, map, false, length, arith, None}
use Rattle.std.specs.Vec.{with_items}
use Rattle.std.proofs.lemmas.List.{with_items_is}
use Rattle.row_keeper.specs.Kept.{IsKept, kept_then, schema_then}
use Rattle.row_keeper.specs.OneTable.{view_restored}
use Rattle.row_keeper.specs.StoreView.{StoreView}
use Rattle.row_keeper.specs.TableView.{states_now, states_then}
use Rattle.row_keeper.proofs.StoreLemmas.{kept_before, restored_kept, restored_now, restored_then}
use Rattle.row_keeper.proofs.store.Store.restore.Goals as goal

pub invariant_of-self : goal.invariant_of-self
invariant_of-self c =
    let len : length c.restore_all.new.tables ≡ c.bring_back.new.tables.len = omega (arith, c.restore_all.auto.tables, c.deref_mut.ensures.len) in
    let items = with_items_is c.bring_back.new.tables c.restore_all.new.tables len ∙ c.restore_all.ensures ∙ ap (map view_restored) (c.deref_mut.ensures.value ∙ c.bring_back.ensures.tables) in
    let kept = restored_kept (schema_then c.self.inside.schema c.self.inside.aside) (kept_then c.self.inside.tables.items c.self.inside.aside) false
    (kept_before c.self.inside.schema c.self.inside.tables.items c.self.inside.aside c.self.inside.is_begun c.self.invariant) in
    subst (λ a. IsKept c.bring_back.new.schema (with_items c.bring_back.new.tables c.restore_all.new.tables).items a false) (sym c.bring_back.ensures.none)
    (subst (λ s. IsKept s (with_items c.bring_back.new.tables c.restore_all.new.tables).items None false) (sym c.bring_back.ensures.schema)
    (subst (λ l. IsKept (schema_then c.self.inside.schema c.self.inside.aside) l None false) (sym items) kept))

pub returns : goal.returns
returns c =
    let len : length c.restore_all.new.tables ≡ c.bring_back.new.tables.len = omega (arith, c.restore_all.auto.tables, c.deref_mut.ensures.len) in
    let items = with_items_is c.bring_back.new.tables c.restore_all.new.tables len ∙ c.restore_all.ensures ∙ ap (map view_restored) (c.deref_mut.ensures.value ∙ c.bring_back.ensures.tables) in
    let kept = kept_then c.self.inside.tables.items c.self.inside.aside in
    let made = (with_items c.bring_back.new.tables c.restore_all.new.tables).items in
    let was : schema_then c.bring_back.new.schema c.bring_back.new.aside ≡ schema_then c.self.inside.schema c.self.inside.aside = ap (schema_then c.bring_back.new.schema) c.bring_back.ensures.none ∙ c.bring_back.ensures.schema in
    let now : states_now made ≡ states_then kept = ap states_now items ∙ restored_now kept in
    let then : states_then (kept_then made c.bring_back.new.aside) ≡ states_then kept = ap (λ a. states_then (kept_then made a)) c.bring_back.ensures.none ∙ ap states_then items ∙ restored_then kept in
    let ended : StoreView → StoreView = λ w. record { schema = w.was; was = w.was; now = w.then; then = w.then; is_begun = false } in
    (λ k. record { schema = c.bring_back.ensures.schema k; was = was k; now = now k; then = then k; is_begun = false }) ∙ ap ended c.self.view_is
