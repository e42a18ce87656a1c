use Rattle.std.proofs.Common.{◌≡◌, List, Some, subst, sym, ◌∙◌}
use Rattle.std.proofs.lemmas.Result.{err_from_is_err_and}
use Rattle.app_cells.specs.Spots.{IsFrame}
use Rattle.app_cells.specs.declared.cell.Spot.{Spot}
use Rattle.app_texts.proofs.FramePlaces.{spot_is}
use Rattle.app_texts.proofs.GivenTexts.{IsFound, broken_so, nowhere_so, placed_so, replaced_so}
use Rattle.app_texts.proofs.edits.edit_cells.Goals as goal

pub spots_of-requires : goal.spots_of-requires
spots_of-requires c = subst IsFrame (sym c.in_ok-frame.ensures) c.requires.frame

pub given_cell-requires : goal.given_cell-requires
given_cell-requires c =
    let f = c.in_ok-frame.frame in
    let is = c.as_slice-cells.result.now in
    let found = sym c.in-Some.is ∙ rw c.deref.ensures.value at c.in_ok-spot.ensures in
    spot_is f is c.in_ok-spots.spots.items c.args.address.now c.in-Some.spot c.in_ok-spots.ensures found

pub returns-in_ok-cells-in-Some-clause-cells : goal.returns-in_ok-cells-in-Some-clause-cells
returns-in_ok-cells-in-Some-clause-cells c =
    let a = c.args.app.now in
    let f = c.in_ok-frame.frame in
    let is = c.as_slice-cells.result.now in
    let ss = c.in_ok-spots.spots.items in
    let found : IsFound a c.args.address.now f is ss c.in-Some.spot = record {
      frame = c.in_ok-frame.ensures;
      cells = c.as_slice-cells.ensures;
      spots = c.in_ok-spots.ensures;
      found = sym c.in-Some.is ∙ rw c.deref.ensures.value at c.in_ok-spot.ensures;
    } in
    replaced_so a c.args.address.now c.args.text.now f is ss c.in-Some.spot c.in_ok-given-in-Some.given c.in_ok-cells-in-Some.cells.items found c.in_ok-given-in-Some.ensures.given (rw c.deref-in-Some.ensures.value at c.in_ok-cells-in-Some.ensures)

pub returns-in_ok-cells-in-Some-clause-placed : goal.returns-in_ok-cells-in-Some-clause-placed
returns-in_ok-cells-in-Some-clause-placed c =
    let a = c.args.app.now in
    let f = c.in_ok-frame.frame in
    let is = c.as_slice-cells.result.now in
    let ss = c.in_ok-spots.spots.items in
    let found : IsFound a c.args.address.now f is ss c.in-Some.spot = record {
      frame = c.in_ok-frame.ensures;
      cells = c.as_slice-cells.ensures;
      spots = c.in_ok-spots.ensures;
      found = sym c.in-Some.is ∙ rw c.deref.ensures.value at c.in_ok-spot.ensures;
    } in
    placed_so a c.args.address.now c.args.text.now f is ss c.in-Some.spot c.in_ok-given-in-Some.given c.in_ok-cells-in-Some.cells.items found c.in_ok-given-in-Some.ensures.given (rw c.deref-in-Some.ensures.value at c.in_ok-cells-in-Some.ensures) c.requires.placed

pub returns-in_err-given-in-Some-clause-broken : goal.returns-in_err-given-in-Some-clause-broken
returns-in_err-given-in-Some-clause-broken c =
    let a = c.args.app.now in
    let f = c.in_ok-frame.frame in
    let is = c.as_slice-cells.result.now in
    let ss = c.in_ok-spots.spots.items in
    let found : IsFound a c.args.address.now f is ss c.in-Some.spot = record {
      frame = c.in_ok-frame.ensures;
      cells = c.as_slice-cells.ensures;
      spots = c.in_ok-spots.ensures;
      found = sym c.in-Some.is ∙ rw c.deref.ensures.value at c.in_ok-spot.ensures;
    } in
    let p = err_from_is_err_and c.from_residual-in_err-given-in-Some.result c.from_residual-in_err-given-in-Some.ensures.1 in
    rw (p.1, p.2) (broken_so a c.args.address.now c.args.text.now f is ss c.in-Some.spot c.in_err-given-in-Some.field-0.0 found c.in_err-given-in-Some.ensures.broken)

pub returns-in_ok-no_place-in-None-clause-broken : goal.returns-in_ok-no_place-in-None-clause-broken
returns-in_ok-no_place-in-None-clause-broken c =
    nowhere_so c.args.app.now c.args.address.now c.args.text.now c.in_ok-frame.frame c.as_slice-cells.result.now c.in_ok-spots.spots.items c.in_ok-no_place-in-None.field-0
    c.in_ok-frame.ensures c.as_slice-cells.ensures c.in_ok-spots.ensures (sym c.in-None.is ∙ rw c.deref.ensures.value at c.in_ok-spot.ensures) c.in_ok-no_place-in-None.ensures
