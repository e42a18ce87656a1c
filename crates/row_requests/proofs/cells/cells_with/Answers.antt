use Rattle.std.proofs.Common.{◌∙◌, ◌++◌, ◌∷◌, [], ◌<◌, ap, arith, length, map, refl, sym, take}
use Rattle.std.proofs.lemmas.Option.{slice_get_read}
use Rattle.fx_types.specs.ValueView.{view}
use Rattle.row_requests.specs.Changes.{cells_with}
use Rattle.row_requests.proofs.Given.{cells_more, slice_view}
use Rattle.row_requests.proofs.cells.cells_with.Goals as goal

pub loop-place-preserved : goal.loop-place-preserved
loop-place-preserved c =
    let place = c.loop-place.place in
    let within : place < length c.args.cells.now = omega (arith, c.loop-place-test.true, c.requires) in
    c.in_ok-push.ensures.ok
    ∙ ap (λ l. l ++ view c.in_ok-cell_with.field-0 ∷ []) c.loop-place.invariant
    ∙ ap (λ v. cells_with c.args.given.now (take place c.args.columns.now) (take place (map view c.args.cells.now)) ++ v ∷ []) c.in_ok-cell_with.ensures
    ∙ sym (cells_more c.args.given.now c.args.columns.now (map view c.args.cells.now) place c.index-columns-place.result (view c.index-cells-place.result)
    (slice_get_read c.args.columns.now (length c.args.columns.now) place c.index-columns-place.result refl c.loop-place-test.true c.index-columns-place.is)
    (slice_view c.args.cells.now place c.index-cells-place.result (slice_get_read c.args.cells.now (length c.args.cells.now) place c.index-cells-place.result refl within c.index-cells-place.is)))
