use Rattle.std.proofs.Common.{◌≤◌, ◌∙◌, List, Option, ap, length, subst, sym}
use Rattle.std.specs.List.{AllByRecursion}
use Rattle.fx_core.specs.declared.schema.Schema.{Schema}
use Rattle.fx_core.specs.declared.schema.TableShape.{TableShape}
use Rattle.row_keeper.specs.Kept.{columns_kept, columns_shaped}
use Rattle.row_keeper.specs.MovedTables.{AreMovesOf, IsReshaped}
use Rattle.row_keeper.specs.Shaped.{shaped_so}
use Rattle.row_keeper.specs.TableView.{TableView}
use Rattle.row_keeper.specs.Tables.{shapes_of}
use Rattle.row_keeper.proofs.StoreLemmas.{few_tables, narrow}
use Rattle.sql_keeper.specs.View.{SqlView, sql_shape}
use Rattle.sql_keeper.proofs.keeper.SqlKeeper.move_tables.Goals as goal

pub moved_tables-requires-clause-narrow : goal.moved_tables-requires-clause-narrow
moved_tables-requires-clause-narrow c = subst (AllByRecursion (λ (t : TableShape). length t.columns ≤ 63)) (sym c.as_slice-2.ensures) (narrow c.args.schema.now c.requires.lawful)

pub moved_tables-requires-clause-moves : goal.moved_tables-requires-clause-moves
moved_tables-requires-clause-moves c =
    let news = c.args.schema.now.tables in
    let moves = c.args.moves.now in
    let each = subst (λ (w : SqlView). AreMovesOf (columns_shaped (shapes_of w.schema)) news moves) (sym c.self.view_is) c.requires.moves.each in
    let own = subst (λ (o : Option Schema). AreMovesOf (columns_shaped (shapes_of o)) news moves) c.in-Some-Some-Some.is-0 each in
    let here = subst (λ (l : List TableShape). AreMovesOf (columns_shaped l) news moves) (sym c.as_slice.ensures) own in
    subst (λ (l : List TableShape). AreMovesOf (columns_shaped c.as_slice.result.now) l moves) (sym c.as_slice-2.ensures) here

pub judge-requires : goal.judge-requires
judge-requires c =
    subst (λ (l : List TableView). length l ≤ 32) (sym c.deref-2.ensures.value)
    (few_tables c.args.schema.now c.in_ok-tables.tables.items c.requires.lawful (c.in_ok-tables.ensures ∙ ap columns_shaped c.as_slice-2.ensures))

pub returns-in-Broken-clause-sound : goal.returns-in-Broken-clause-sound
returns-in-Broken-clause-sound c =
    subst (λ cs. IsReshaped cs c.in_ok-judged.judged) (ap columns_kept c.deref-2.ensures.value ∙ c.in_ok-tables.ensures ∙ ap columns_shaped c.as_slice-2.ensures) c.in_ok-judged.ensures.sound

pub returns-in-Broken-clause-shaped : goal.returns-in-Broken-clause-shaped
returns-in-Broken-clause-shaped c = ap sql_shape c.self.view_is ∙ sym (ap (λ r. shaped_so c.args.schema.now r (sql_shape c.args.self.now)) c.in-Broken.is)
