use Rattle.std.proofs.Common.{◌≡◌, ◌≤◌, ◌∙◌, List, ap, ap₂, length, subst, sym}
use Rattle.std.specs.List.{AllByRecursion}
use Rattle.fx_core.specs.Lawful.{IsLawfulSchema}
use Rattle.fx_core.specs.declared.schema.Schema.{Schema}
use Rattle.fx_core.specs.declared.schema.TableShape.{TableShape}
use Rattle.row_keeper.specs.Kept.{columns_kept, columns_shaped}
use Rattle.row_keeper.specs.MovedTables.{AreMovesOf, IsReshaped, breach, broken_table, moved_states, reshaped}
use Rattle.row_keeper.specs.Shaped.{shaped_so}
use Rattle.row_keeper.specs.StoreView.{StoreView, shape_of, tables_now}
use Rattle.row_keeper.specs.TableView.{TableView, states_now}
use Rattle.row_keeper.specs.Tables.{shapes_of}
use Rattle.row_keeper.proofs.StoreLemmas.{few_tables, narrow}
use Rattle.row_keeper.proofs.store.Store.reshape.Goals as goal

pub moved_tables-requires-clause-narrow : goal.moved_tables-requires-clause-narrow
moved_tables-requires-clause-narrow c = subst (AllByRecursion (λ (t : TableShape). length t.columns ≤ 63)) (sym c.as_slice.ensures) (narrow c.args.schema.now c.requires.lawful)

pub moved_tables-requires-clause-moves : goal.moved_tables-requires-clause-moves
moved_tables-requires-clause-moves c =
    let news = c.args.schema.now.tables in
    let moves = c.args.moves.now in
    let each = subst (λ (w : StoreView). AreMovesOf (columns_shaped (shapes_of w.schema)) news moves) (sym c.self.view_is) c.requires.moves.each in
    let own = subst (λ cs. AreMovesOf cs news moves) (sym c.self.invariant.columns) each in
    let here = subst (λ (l : List TableView). AreMovesOf (columns_kept l) news moves) (sym c.deref.ensures.value) own in
    subst (λ l. AreMovesOf (columns_kept c.deref.result.now) l moves) (sym c.as_slice.ensures) here

pub judge-requires : goal.judge-requires
judge-requires c =
    subst (λ (l : List TableView). length l ≤ 32) (sym c.deref-2.ensures.value)
    (few_tables c.args.schema.now c.in_ok-tables.tables.items c.requires.lawful (c.in_ok-tables.ensures.columns ∙ ap columns_shaped c.as_slice.ensures))

pub returns-in-Broken-clause-moved : goal.returns-in-Broken-clause-moved
returns-in-Broken-clause-moved c =
    let schema = c.args.schema.now in
    let moves = c.args.moves.now in
    let old = tables_now c.args.self.now in
    let columns = c.in_ok-tables.ensures.columns ∙ ap columns_shaped c.as_slice.ensures in
    let states = c.in_ok-tables.ensures.now ∙ ap (λ (l : List TableView). moved_states (states_now l) moves) c.deref.ensures.value ∙ ap (λ (w : StoreView). moved_states w.now moves) c.self.view_is in
    let broken = subst (λ (l : List TableView). broken_table 0 (columns_kept l) (states_now l) ≡ breach c.in_ok-judged.judged) c.deref-2.ensures.value c.in_ok-judged.ensures.broken in
    (sym (ap₂ (broken_table 0) columns states) ∙ broken, sym (ap (λ r. reshaped schema moves r old) c.in-Broken.is))

pub returns-in-Broken-clause-sound : goal.returns-in-Broken-clause-sound
returns-in-Broken-clause-sound c =
    subst (λ cs. IsReshaped cs c.in_ok-judged.judged) (ap columns_kept c.deref-2.ensures.value ∙ c.in_ok-tables.ensures.columns ∙ ap columns_shaped c.as_slice.ensures) c.in_ok-judged.ensures.sound

pub returns-in-Broken-clause-shaped : goal.returns-in-Broken-clause-shaped
returns-in-Broken-clause-shaped c = sym (ap (λ r. shaped_so c.args.schema.now r (shape_of c.args.self.now)) c.in-Broken.is)

pub put_aside-requires-clause-lawful : goal.put_aside-requires-clause-lawful
put_aside-requires-clause-lawful c = subst IsLawfulSchema (sym c.in_ok-kept-in-Done.ensures) c.requires.lawful

pub put_aside-requires-clause-columns : goal.put_aside-requires-clause-columns
put_aside-requires-clause-columns c = c.in_ok-tables.ensures.columns ∙ ap columns_shaped c.as_slice.ensures ∙ ap (λ (s : Schema). columns_shaped s.tables) (sym c.in_ok-kept-in-Done.ensures)
