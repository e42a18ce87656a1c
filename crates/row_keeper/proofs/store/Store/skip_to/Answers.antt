use Rattle.std.proofs.Common.{◌≡◌, ◌∙◌, ℕ, List, [], ◌∷◌, Bool, true, false, Option, ap, sym, subst, map, refl, length, arith}
use Rattle.std.specs.Vec.{with_items}
use Rattle.std.proofs.lemmas.List.{with_items_is}
use Rattle.fx_core.specs.declared.schema.Schema.{Schema}
use Rattle.row_keeper.specs.Kept.{IsKept, columns_kept, kept_then, schema_then}
use Rattle.row_keeper.specs.Skips.{numbers_passed, passed_now}
use Rattle.row_keeper.specs.StoreView.{StoreView}
use Rattle.row_keeper.specs.TableView.{TableView, states_now, states_then}
use Rattle.row_keeper.specs.declared.store.Aside.{Aside}
use Rattle.row_keeper.proofs.StoreLemmas.{then_stays}
use Rattle.row_keeper.proofs.store.Store.skip_to.Goals as goal

skipped_now : (n : ℕ) (tables : List TableView) → states_now (map (passed_now n) tables) ≡ map (numbers_passed n) (states_now tables)
skipped_now n [] = refl
skipped_now n (t ∷ ts) = ap (λ l. numbers_passed n t.now ∷ l) (skipped_now n ts)

skipped_then : (n : ℕ) (tables : List TableView) → states_then (map (passed_now n) tables) ≡ states_then tables
skipped_then n [] = refl
skipped_then n (t ∷ ts) = ap (λ l. t.then ∷ l) (skipped_then n ts)

skipped_columns : (n : ℕ) (tables : List TableView) → columns_kept (map (passed_now n) tables) ≡ columns_kept tables
skipped_columns n [] = refl
skipped_columns n (t ∷ ts) = ap (λ l. t.columns ∷ l) (skipped_columns n ts)

skipped_kept : (n : ℕ) (schema : Option Schema) (tables : List TableView) (aside : Option Aside) (is : Bool) → is ≡ true → IsKept schema tables aside is → IsKept schema (map (passed_now n) tables) aside is
skipped_kept n schema tables aside is begun k = record {
  columns = skipped_columns n tables ∙ k.columns;
  lawful = k.lawful;
  apart = k.apart;
  alone = k.alone;
  still = λ e. absurd (let z : true ≡ false = sym begun ∙ e in cc);
}

pub invariant_of-self : goal.invariant_of-self
invariant_of-self c =
    let len : length c.skip_all.new.tables ≡ c.self.inside.tables.len = omega (arith, c.skip_all.auto.tables, c.deref_mut.ensures.len) in
    let items = with_items_is c.self.inside.tables c.skip_all.new.tables len ∙ c.skip_all.ensures ∙ ap (map (passed_now c.args.number)) c.deref_mut.ensures.value in
    let begun : c.self.inside.is_begun ≡ true = ap (λ (w : StoreView). w.is_begun) c.self.view_is ∙ c.requires in
    subst (λ l. IsKept c.self.inside.schema l c.self.inside.aside c.self.inside.is_begun) (sym items) (skipped_kept c.args.number c.self.inside.schema c.self.inside.tables.items c.self.inside.aside c.self.inside.is_begun begun c.self.invariant)

pub returns : goal.returns
returns c =
    let len : length c.skip_all.new.tables ≡ c.self.inside.tables.len = omega (arith, c.skip_all.auto.tables, c.deref_mut.ensures.len) in
    let items = with_items_is c.self.inside.tables c.skip_all.new.tables len ∙ c.skip_all.ensures ∙ ap (map (passed_now c.args.number)) c.deref_mut.ensures.value in
    let now : states_now (with_items c.self.inside.tables c.skip_all.new.tables).items ≡ map (numbers_passed c.args.number) (states_now c.self.inside.tables.items) = ap states_now items ∙ skipped_now c.args.number c.self.inside.tables.items in
    let then : states_then (kept_then (with_items c.self.inside.tables c.skip_all.new.tables).items c.self.inside.aside) ≡ states_then (kept_then c.self.inside.tables.items c.self.inside.aside) =
    then_stays c.self.inside.tables.items (with_items c.self.inside.tables c.skip_all.new.tables).items c.self.inside.aside (ap states_then items ∙ skipped_then c.args.number c.self.inside.tables.items) in
    let seen : StoreView → StoreView = λ w. record { schema = w.schema; was = w.was; now = map (numbers_passed c.args.number) w.now; then = w.then; is_begun = w.is_begun } in
    (λ k. record { schema = c.self.inside.schema; was = schema_then c.self.inside.schema c.self.inside.aside; now = now k; then = then k; is_begun = c.self.inside.is_begun }) ∙ ap seen c.self.view_is
