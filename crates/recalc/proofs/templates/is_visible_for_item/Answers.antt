use Rattle.fx_types.specs.ValueView.{view}
use Rattle.recalc.proofs.ForItems.{visible_for}
use Rattle.recalc.proofs.templates.is_visible_for_item.Goals as goal

pub property_for_item-requires-clause-property : goal.property_for_item-requires-clause-property
property_for_item-requires-clause-property g c = visible_for c.args.app.now c.args.gallery c.args.control c.requires.sound c.requires.stands

pub returns-clause-shows : goal.returns-clause-shows
returns-clause-shows g c = λ moment tables today heard. (view c.in_ok-visible.visible, c.in_ok-visible.ensures.shows moment tables today heard, c.is_true.ensures)

pub returns-clause-visits : goal.returns-clause-visits
returns-clause-visits g c = c.in_ok-visible.ensures.visits
