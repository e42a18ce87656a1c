use Rattle.std.proofs.Common.{ap, option_map, sym, ◌∙◌}
use Rattle.app_texts.specs.Numbers.{spot_number}
use Rattle.app_texts.specs.Places.{is_same_spot}
use Rattle.app_cells.specs.declared.cell.Cell.{Cell}
use Rattle.app_cells.specs.declared.app.CellInfo.{CellInfo}
use Rattle.app_texts.proofs.Numbered.{mapped_none, mapped_some}
use Rattle.app_texts.proofs.numbers.written_at.Goals as goal

pub returns-in-Some : goal.returns-in-Some
returns-in-Some c =
    let s = c.args.spot.now in
    c.cell_at.ensures ∙ sym (mapped_some (λ (x : Cell). is_same_spot s x.spot) (λ (i : CellInfo). i.cell) c.args.cells.now c.in-Some.number.now
    (sym (c.requires s) ∙ ap (spot_number c.args.numbers.now) (sym c.in_ok-place.ensures) ∙ sym c.get.ensures.value ∙ ap (option_map (λ k. k.now)) c.in-Some.is))

pub returns : goal.returns
returns c =
    let s = c.args.spot.now in
    sym (mapped_none (λ (x : Cell). is_same_spot s x.spot) (λ (i : CellInfo). i.cell) c.args.cells.now
    (sym (c.requires s) ∙ ap (spot_number c.args.numbers.now) (sym c.in_ok-place.ensures) ∙ sym c.get.ensures.value ∙ ap (option_map (λ k. k.now)) c.in-None.is))
