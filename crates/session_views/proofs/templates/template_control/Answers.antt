use Rattle.session_views.proofs.Visiting.{both_most}
use Rattle.session_views.specs.Visits.{PropertyVisits}
use Rattle.recalc.proofs.CellVisits.{told_back}
use Rattle.row_keeper.specs.Tables.{rows_of_tables}
use Rattle.recalc.specs.Values.{value_of}
use Rattle.recalc.specs.fx_semantics.Around.{record_of}
use Rattle.std.proofs.Common.{arith, sym, ◌∙◌, codes}
use Rattle.fx_types.specs.ValueView.{view}
use Rattle.recalc.proofs.Asked.{heard_before}
use Rattle.recalc.specs.Asking.{Keeping, keeping}
use Rattle.session_views.proofs.Galleries.{is_in_gallery, item_fits}
use Rattle.session_views.proofs.templates.template_control.Goals as goal

pub is_visible_for_item-requires-clause-stands : goal.is_visible_for_item-requires-clause-stands
is_visible_for_item-requires-clause-stands g c = (c.args.control.now, c.requires.control, is_in_gallery c.args.gallery c.args.control.now.gallery c.requires.within)

pub is_visible_for_item-requires-clause-item : goal.is_visible_for_item-requires-clause-item
is_visible_for_item-requires-clause-item g c = item_fits c.args.app.now.names c.args.gallery c.args.row.now c.requires.row

pub returns-in_ok-shown-clause-shows : goal.returns-in_ok-shown-clause-shows
returns-in_ok-shown-clause-shows g c = λ moment tables today heard.
    let before : Keeping = keeping (g.K.Keeper.told c.is_visible_for_item.new.keeper) (g.K.Keeper.began c.is_visible_for_item.new.keeper) (g.K.Keeper.shaped c.is_visible_for_item.new.keeper) (g.K.Keeper.in_transaction c.is_visible_for_item.new.keeper) (g.K.Keeper.marks c.is_visible_for_item.new.keeper) (g.K.Keeper.visited c.is_visible_for_item.new.keeper) (g.K.Keeper.loan c.is_visible_for_item.new.keeper) in
    let after : Keeping = keeping (g.K.Keeper.told c.text_for.new.keeper) (g.K.Keeper.began c.text_for.new.keeper) (g.K.Keeper.shaped c.text_for.new.keeper) (g.K.Keeper.in_transaction c.text_for.new.keeper) (g.K.Keeper.marks c.text_for.new.keeper) (g.K.Keeper.visited c.text_for.new.keeper) (g.K.Keeper.loan c.text_for.new.keeper) in
    let seen = c.in_ok-visible.ensures.shows moment tables today (heard_before before after c.in_ok-text.ensures.read tables heard) in (
      c.requires.within,
      (seen.0, seen.1, sym seen.2 ∙ c.if-visible.true),
      record {
        name = c.in_ok-shown.ensures.name;
        kind = c.in_ok-shown.ensures.kind;
        words = view c.in_ok-text.text;
        are_words = c.in_ok-text.ensures.shows moment tables today heard;
        shows = c.in_ok-shown.ensures.values;
      },
    )

pub returns-else-visible-clause-shows : goal.returns-else-visible-clause-shows
returns-else-visible-clause-shows g c = λ moment tables today heard.
    let seen = c.in_ok-visible.ensures.shows moment tables today heard in
    λ within. (seen.0, seen.1, sym seen.2 ∙ c.if-visible.false)

pub returns-in_ok-shown-clause-ticks : goal.returns-in_ok-shown-clause-ticks
returns-in_ok-shown-clause-ticks g c = omega (arith, c.in_ok-visible.ensures.steps, c.in_ok-text.ensures.ticks)

pub returns-else-visible-clause-ticks : goal.returns-else-visible-clause-ticks
returns-else-visible-clause-ticks g c = omega (arith, c.in_ok-visible.ensures.steps)

pub returns-in_ok-shown-clause-visits : goal.returns-in_ok-shown-clause-visits
returns-in_ok-shown-clause-visits g c = λ moment today t told.
    let before : Keeping = keeping (g.K.Keeper.told c.is_visible_for_item.new.keeper) (g.K.Keeper.began c.is_visible_for_item.new.keeper) (g.K.Keeper.shaped c.is_visible_for_item.new.keeper) (g.K.Keeper.in_transaction c.is_visible_for_item.new.keeper) (g.K.Keeper.marks c.is_visible_for_item.new.keeper) (g.K.Keeper.visited c.is_visible_for_item.new.keeper) (g.K.Keeper.loan c.is_visible_for_item.new.keeper) in
    let after : Keeping = keeping (g.K.Keeper.told c.text_for.new.keeper) (g.K.Keeper.began c.text_for.new.keeper) (g.K.Keeper.shaped c.text_for.new.keeper) (g.K.Keeper.in_transaction c.text_for.new.keeper) (g.K.Keeper.marks c.text_for.new.keeper) (g.K.Keeper.visited c.text_for.new.keeper) (g.K.Keeper.loan c.text_for.new.keeper) in
    both_most (PropertyVisits c.args.app.now c.args.session.now (rows_of_tables t.states) moment (value_of c.args.valued.now) (record_of c.args.row.now) c.args.number (codes "Visible")) (PropertyVisits c.args.app.now c.args.session.now (rows_of_tables t.states) moment (value_of c.args.valued.now) (record_of c.args.row.now) c.args.number (codes "Text"))
    (g.K.Keeper.visited c.args.keeper.now) (g.K.Keeper.visited c.is_visible_for_item.new.keeper) (g.K.Keeper.visited c.text_for.new.keeper)
    (c.in_ok-visible.ensures.visits moment today t (told_back before after c.in_ok-text.ensures.read t told)) (c.in_ok-text.ensures.visits moment today t told)

pub returns-else-visible-clause-visits : goal.returns-else-visible-clause-visits
returns-else-visible-clause-visits g c = c.in_ok-visible.ensures.visits
