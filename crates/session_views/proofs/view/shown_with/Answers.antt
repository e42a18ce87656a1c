use Rattle.std.proofs.Common.{arith, refl}
use Rattle.session_views.proofs.Counts.{shown_one}
use Rattle.view_text.specs.declared.views.Shown.{Shown}
use Rattle.session_views.proofs.view.shown_with.Goals as goal

pub returns-clause-shows : goal.returns-clause-shows
returns-clause-shows g c = λ moment tables today heard. record { name = c.in_ok-name.ensures; kind = refl; shows = c.in_ok-values.ensures; items = c.in_ok-items.ensures.shows moment tables today heard }

pub returns-clause-ticks : goal.returns-clause-ticks
returns-clause-ticks g c =
    let shown : Shown = record { name = c.in_ok-name.name; kind = c.args.control.now.kind; values = c.in_ok-values.values; items = c.in_ok-items.items } in
    let less = shown_one c.args.app.now.names c.args.number c.args.control.now shown c.in_ok-items.items c.requires.control c.in_ok-name.ensures refl in
    omega (arith, less, c.in_ok-items.ensures.ticks)

pub returns-clause-visits : goal.returns-clause-visits
returns-clause-visits g c = c.in_ok-items.ensures.visits
