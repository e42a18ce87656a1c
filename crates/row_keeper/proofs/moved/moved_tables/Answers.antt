use Rattle.std.proofs.Common.{◌<◌, ◌≤◌, ◌∙◌, ◌++◌, ◌∷◌, [], ap, arith, length, map, sym, take}
use Rattle.std.proofs.lemmas.List.{map_more, map_push, take_all}
use Rattle.fx_core.specs.declared.schema.TableShape.{TableShape}
use Rattle.row_keeper.specs.Kept.{columns_kept, columns_shaped}
use Rattle.row_keeper.specs.MovedTables.{moved_state, moved_states}
use Rattle.row_keeper.specs.TableView.{TableView, states_now}
use Rattle.row_keeper.proofs.MovedLemmas.{all_at, as_many, move_at}
use Rattle.row_keeper.proofs.RuleLemmas.{at_slice}
use Rattle.row_keeper.proofs.moved.moved_tables.Goals as goal

pub moved_table-requires-clause-narrow : goal.moved_table-requires-clause-narrow
moved_table-requires-clause-narrow c =
    all_at (λ (t : TableShape). length t.columns ≤ 63) c.args.shapes.now c.loop-place.place c.index-shapes-place.result c.requires.narrow
    (at_slice c.args.shapes.now c.loop-place.place c.index-shapes-place.result c.loop-place-test.true c.index-shapes-place.is)

pub moved_table-requires-clause-moves : goal.moved_table-requires-clause-moves
moved_table-requires-clause-moves c =
    let many = as_many (columns_kept c.args.tables.now) c.args.shapes.now c.args.moves.now c.requires.moves in
    let below : c.loop-place.place < length c.args.moves.now = omega (arith, many, c.loop-place-test.true) in
    move_at (columns_kept c.args.tables.now) c.args.shapes.now c.args.moves.now c.loop-place.place c.index-shapes-place.result c.index-moves-place.result c.requires.moves
    (at_slice c.args.shapes.now c.loop-place.place c.index-shapes-place.result c.loop-place-test.true c.index-shapes-place.is)
    (at_slice c.args.moves.now c.loop-place.place c.index-moves-place.result below c.index-moves-place.is)

pub loop-place-preserved : goal.loop-place-preserved
loop-place-preserved c =
    let place = c.loop-place.place in
    let shapes = c.args.shapes.now in
    let moves = c.args.moves.now in
    let shape = c.index-shapes-place.result in
    let move_ = c.index-moves-place.result in
    let f = moved_state (states_now c.args.tables.now) in
    let table = c.in_ok-moved_table.field-0 in
    let many = as_many (columns_kept c.args.tables.now) shapes moves c.requires.moves in
    let below : place < length moves = omega (arith, many, c.loop-place-test.true) in
    let pushed = c.in_ok-push.ensures.items in
    record {
      columns = ap columns_kept pushed ∙ map_push (λ (t : TableView). t.columns) c.loop-place.made.items table ∙ ap (λ l. l ++ table.columns ∷ []) c.loop-place.invariant.columns
          ∙ ap (λ cs. columns_shaped (take place shapes) ++ cs ∷ []) (c.in_ok-moved_table.ensures.columns ∙ ap (λ (t : TableShape). t.columns) c.index-shapes-place.is)
          ∙ sym (map_more (λ (t : TableShape). t.columns) shapes place shape c.loop-place-test.true);
      now = ap states_now pushed ∙ map_push (λ (t : TableView). t.now) c.loop-place.made.items table ∙ ap (λ l. l ++ table.now ∷ []) c.loop-place.invariant.now
          ∙ ap (λ s. map f (take place moves) ++ s ∷ []) (c.in_ok-moved_table.ensures.now ∙ ap f c.index-moves-place.is)
          ∙ sym (map_more f moves place move_ below);
    }

pub bounds-moves-place : goal.bounds-moves-place
bounds-moves-place c =
    let many = as_many (columns_kept c.args.tables.now) c.args.shapes.now c.args.moves.now c.requires.moves in
    omega (arith, many, c.loop-place-test.true)

pub returns-clause-now : goal.returns-clause-now
returns-clause-now c =
    let many = as_many (columns_kept c.args.tables.now) c.args.shapes.now c.args.moves.now c.requires.moves in
    let all : length c.args.moves.now ≤ c.loop-place.place = omega (arith, many, c.loop-place-test.false) in
    c.loop-place.invariant.now ∙ ap (moved_states (states_now c.args.tables.now)) (take_all c.loop-place.place c.args.moves.now all)
