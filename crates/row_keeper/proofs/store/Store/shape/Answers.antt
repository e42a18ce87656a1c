use Rattle.std.proofs.Common.{◌≡◌, ◌≤◌, ◌∙◌, List, Option, Some, None, ap, ap₂, sym, subst, map, length}
use Rattle.std.specs.List.{AllByRecursion}
use Rattle.fx_core.specs.declared.schema.Schema.{Schema}
use Rattle.fx_core.specs.declared.schema.TableShape.{TableShape}
use Rattle.row_keeper.specs.Changes.{Shapes}
use Rattle.row_keeper.specs.Kept.{IsKept, columns_shaped, empty_table, schema_then}
use Rattle.row_keeper.specs.Sound.{IsSoundTable}
use Rattle.row_keeper.specs.StoreView.{StoreView, shape_of, tables_now}
use Rattle.row_keeper.specs.TableView.{TableView, states_now}
use Rattle.row_keeper.specs.Tables.{AreStatesOf, TableState, Tables, shapes_of}
use Rattle.row_keeper.proofs.StoreLemmas.{empty_kept, empty_states, narrow, shapes_none, shapes_same, states_of}
use Rattle.row_keeper.proofs.store.Store.shape.Goals as goal

abbrev tables_of : Option Schema → List TableState → Tables
tables_of schema states = record { kept = schema; states = states }

pub returns-then-is_same_schema-clause-shapes : goal.returns-then-is_same_schema-clause-shapes
returns-then-is_same_schema-clause-shapes c =
    let s = c.args.schema.now in
    let kept = c.in-Some.kept in
    let same : kept ≡ s = c.if-is_same_schema.ensures in
    let columns = c.self.invariant.columns ∙ ap (λ (o : Option Schema). columns_shaped (shapes_of o)) c.in-Some.is in
    let told = ap (λ (o : Option Schema). tables_of o (states_now c.self.inside.tables.items)) (sym c.in-Some.is) ∙ ap tables_now c.self.view_is in
    subst (λ (t : Tables). Shapes s None t t) told (shapes_same s kept c.self.inside.tables.items columns same)

pub returns-then-is_same_schema-clause-sound : goal.returns-then-is_same_schema-clause-sound
returns-then-is_same_schema-clause-sound c =
    let s = c.args.schema.now in
    let kept = c.in-Some.kept in
    let same : kept ≡ s = c.if-is_same_schema.ensures in
    let columns = c.self.invariant.columns ∙ ap (λ (o : Option Schema). columns_shaped (shapes_of o)) c.in-Some.is in
    let sound = subst (AllByRecursion IsSoundTable) c.deref.ensures.value c.are_sound.ensures in
    let states = states_of c.self.inside.tables.items kept.tables columns sound in
    subst (λ (w : StoreView). AreStatesOf s.tables w.now) c.self.view_is (subst (λ (k : Schema). AreStatesOf k.tables (states_now c.self.inside.tables.items)) same states)

pub empty_tables-requires : goal.empty_tables-requires
empty_tables-requires c = subst (AllByRecursion (λ (t : TableShape). length t.columns ≤ 63)) (sym c.as_slice.ensures) (narrow c.args.schema.now c.requires.lawful)

pub invariant_of-self : goal.invariant_of-self
invariant_of-self c =
    let s = c.args.schema.now in
    let items = c.in_ok-tables.ensures ∙ ap (map empty_table) c.as_slice.ensures in
    let kept = subst (λ (k : Schema). IsKept (Some k) (map empty_table s.tables) c.self.inside.aside c.self.inside.is_begun) (sym c.in_ok-kept.ensures) (empty_kept s c.self.inside.aside c.self.inside.is_begun c.requires.lawful (c.self.invariant.alone (ap (λ (w : StoreView). w.is_begun) c.self.view_is ∙ c.requires.idle))) in
    subst (λ (l : List TableView). IsKept (Some c.in_ok-kept.kept) l c.self.inside.aside c.self.inside.is_begun) (sym items) kept

pub returns-clause-shapes : goal.returns-clause-shapes
returns-clause-shapes c =
    let s = c.args.schema.now in
    let columns = c.self.invariant.columns ∙ ap (λ (o : Option Schema). columns_shaped (shapes_of o)) c.in_default.is in
    let items = c.in_ok-tables.ensures ∙ ap (map empty_table) c.as_slice.ensures in
    let before = ap (λ (o : Option Schema). tables_of o (states_now c.self.inside.tables.items)) (sym c.in_default.is) ∙ ap tables_now c.self.view_is in
    let after = ap₂ (λ (k : Schema) (l : List TableView). tables_of (Some k) (states_now l)) (sym c.in_ok-kept.ensures) (sym items) in
    subst (λ (b : Tables). Shapes s None (tables_now c.args.self.now) b) after
    (subst (λ (a : Tables). Shapes s None a (tables_of (Some s) (states_now (map empty_table s.tables)))) before (shapes_none s c.self.inside.tables.items columns))

pub returns-clause-sound : goal.returns-clause-sound
returns-clause-sound c =
    let s = c.args.schema.now in
    let items = c.in_ok-tables.ensures ∙ ap (map empty_table) c.as_slice.ensures in
    subst (λ (l : List TableView). AreStatesOf s.tables (states_now l)) (sym items) (empty_states s.tables)

pub returns-then-is_same_schema-clause-shaped : goal.returns-then-is_same_schema-clause-shaped
returns-then-is_same_schema-clause-shaped c =
    let schema = c.self.inside.schema in
    let none = c.self.invariant.alone (ap (λ (w : StoreView). w.is_begun) c.self.view_is ∙ c.requires.idle) in
    let same : schema ≡ Some c.args.schema.now = c.in-Some.is ∙ ap (λ (k : Schema). Some k) c.if-is_same_schema.ensures in
    let then : schema_then schema c.self.inside.aside ≡ Some c.args.schema.now = ap (schema_then schema) none ∙ same in
    ap shape_of (sym c.self.view_is) ∙ (λ k. record { now = same k; then = then k })

pub returns-clause-shaped : goal.returns-clause-shaped
returns-clause-shaped c =
    let none = c.self.invariant.alone (ap (λ (w : StoreView). w.is_begun) c.self.view_is ∙ c.requires.idle) in
    let same = ap (λ (k : Schema). Some k) c.in_ok-kept.ensures in
    let then : schema_then (Some c.in_ok-kept.kept) c.self.inside.aside ≡ Some c.args.schema.now = ap (schema_then (Some c.in_ok-kept.kept)) none ∙ same in
    λ k. record { now = same k; then = then k }
