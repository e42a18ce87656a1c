use Rattle.std.proofs.Common.{◌≡◌, ◌∙◌, ap, false, sym}
use Rattle.row_keeper.specs.Kept.{kept_then, schema_then}
use Rattle.row_keeper.specs.StoreView.{StoreView, tables_now, tables_then}
use Rattle.row_keeper.specs.TableView.{states_now, states_then}
use Rattle.row_keeper.specs.Tables.{Tables}
use Rattle.row_keeper.proofs.store.Store.begin.Goals as goal

pub returns-clause-still : goal.returns-clause-still
returns-clause-still c =
    let s = c.self.inside in
    let idle : s.is_begun ≡ false = ap (λ (w : StoreView). w.is_begun) c.self.view_is ∙ c.requires.idle in
    let none = c.self.invariant.alone idle in
    let kept : schema_then s.schema s.aside ≡ s.schema = ap (schema_then s.schema) none in
    let states : states_then (kept_then s.tables.items s.aside) ≡ states_now s.tables.items = ap (λ a. states_then (kept_then s.tables.items a)) none ∙ c.self.invariant.still idle in
    let tables : (let t : Tables = record { kept = schema_then s.schema s.aside; states = states_then (kept_then s.tables.items s.aside) } in t) ≡ record { kept = s.schema; states = states_now s.tables.items } = λ k. record { kept = kept k; states = states k } in
    ap tables_then (sym c.self.view_is) ∙ tables ∙ ap tables_now c.self.view_is
