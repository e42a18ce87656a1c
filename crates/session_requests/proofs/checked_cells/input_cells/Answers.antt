use Rattle.std.proofs.Common.{◌≡◌, ◌∙◌, ap}
use Rattle.std.specs.Prelude.{codes}
use Rattle.recalc.specs.app_cells.Leaning.{cell_of_property}
use Rattle.session_requests.proofs.checked_cells.input_cells.Goals as goal

pub returns-clause-shown : goal.returns-clause-shown
returns-clause-shown c = λ d p lone.
    c.in_ok-add-4.ensures.still d (c.in_ok-add-3.ensures.still d (c.in_ok-add-2.ensures.still d
    (c.in_ok-add.ensures.added d (c.cell_of_property.ensures ∙ ap (λ j. cell_of_property c.args.app.now.names j (codes "Visible")) c.shown_by-around.ensures ∙ p) lone)))
