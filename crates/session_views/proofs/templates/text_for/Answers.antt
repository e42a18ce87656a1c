use Rattle.std.proofs.Common.{codes, subst}
use Rattle.std.proofs.lemmas.Result.{IfOk-weaker}
use Rattle.recalc.specs.app_semantics.Present.{present}
use Rattle.recalc.specs.app_semantics.Properties.{IsPropertyForItem}
use Rattle.fx_types.specs.ValueView.{view}
use Rattle.fx_types.specs.Values.{Data}
use Rattle.recalc.specs.fx_semantics.Around.{record_of}
use Rattle.recalc.specs.Values.{value_of}
use Rattle.session_views.proofs.Galleries.{item_fits, text_for as found}
use Rattle.session_views.proofs.templates.text_for.Goals as goal

pub property_for_item-requires-clause-property : goal.property_for_item-requires-clause-property
property_for_item-requires-clause-property g c = found c.args.app.now c.args.gallery c.args.number c.args.control.now c.requires.ready.sound c.requires.control c.requires.within

pub property_for_item-requires-clause-item : goal.property_for_item-requires-clause-item
property_for_item-requires-clause-item g c = item_fits c.args.app.now.names c.args.gallery c.args.row.now c.requires.row

pub returns-clause-shows : goal.returns-clause-shows
returns-clause-shows g c =
    IfOk-weaker c.property_for_item.result _ _ (λ v h moment tables today heard.
    subst (λ (d : Data). IsPropertyForItem (present c.args.app.now c.args.session.now tables moment) (value_of c.args.valued.now) (record_of c.args.row.now) c.args.number (codes "Text") d (view v)) c.in_ok-unwritten.ensures (h moment tables today heard))
    c.property_for_item.ensures.shows

pub returns-clause-ticks : goal.returns-clause-ticks
returns-clause-ticks g c = c.property_for_item.ensures.steps

pub returns-clause-visits : goal.returns-clause-visits
returns-clause-visits g c = c.property_for_item.ensures.visits
