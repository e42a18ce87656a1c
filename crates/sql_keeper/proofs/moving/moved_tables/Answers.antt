use Rattle.std.proofs.Common.{◌<◌, ◌≤◌, ◌∙◌, ◌++◌, ◌∷◌, [], ap, arith, length, sym, take}
use Rattle.std.proofs.lemmas.List.{map_more, map_push}
use Rattle.fx_core.specs.declared.schema.TableShape.{TableShape}
use Rattle.row_keeper.specs.Kept.{columns_kept, columns_shaped}
use Rattle.row_keeper.specs.TableView.{TableView}
use Rattle.row_keeper.proofs.MovedLemmas.{all_at, as_many, move_at}
use Rattle.row_keeper.proofs.RuleLemmas.{at_slice}
use Rattle.sql_keeper.proofs.moving.moved_tables.Goals as goal

pub moved_table-requires-clause-narrow : goal.moved_table-requires-clause-narrow
moved_table-requires-clause-narrow c =
    all_at (λ (t : TableShape). length t.columns ≤ 63) c.args.shapes.now c.loop-place.place c.index-shapes-place.result c.requires.narrow
    (at_slice c.args.shapes.now c.loop-place.place c.index-shapes-place.result c.loop-place-test.true c.index-shapes-place.is)

pub moved_table-requires-clause-moves : goal.moved_table-requires-clause-moves
moved_table-requires-clause-moves c =
    let many = as_many (columns_shaped c.args.olds.now) c.args.shapes.now c.args.moves.now c.requires.moves in
    let below : c.loop-place.place < length c.args.moves.now = omega (arith, many, c.loop-place-test.true) in
    move_at (columns_shaped c.args.olds.now) c.args.shapes.now c.args.moves.now c.loop-place.place c.index-shapes-place.result c.index-moves-place.result c.requires.moves
    (at_slice c.args.shapes.now c.loop-place.place c.index-shapes-place.result c.loop-place-test.true c.index-shapes-place.is)
    (at_slice c.args.moves.now c.loop-place.place c.index-moves-place.result below c.index-moves-place.is)

pub loop-place-preserved : goal.loop-place-preserved
loop-place-preserved c =
    let place = c.loop-place.place in
    let shapes = c.args.shapes.now in
    let table = c.in_ok-moved_table.field-0 in
    ap columns_kept c.in_ok-push.ensures.items ∙ map_push (λ (t : TableView). t.columns) c.loop-place.made.items table ∙ ap (λ l. l ++ table.columns ∷ []) c.loop-place.invariant
    ∙ ap (λ cs. columns_shaped (take place shapes) ++ cs ∷ []) (c.in_ok-moved_table.ensures ∙ ap (λ (t : TableShape). t.columns) c.index-shapes-place.is)
    ∙ sym (map_more (λ (t : TableShape). t.columns) shapes place c.index-shapes-place.result c.loop-place-test.true)

pub bounds-moves-place : goal.bounds-moves-place
bounds-moves-place c =
    let many = as_many (columns_shaped c.args.olds.now) c.args.shapes.now c.args.moves.now c.requires.moves in
    omega (arith, many, c.loop-place-test.true)
