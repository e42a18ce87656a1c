use Rattle.std.proofs.Common.{◌≡◌, Option, option_map, subst, sym}
use Rattle.fx_base.specs.Silence.{SilenceCause}
use Rattle.fx_types.specs.ValueView.{view}
use Rattle.fx_types.specs.Values.{Data}
use Rattle.recalc.specs.Kept.{cached_value}
use Rattle.std.specs.Option.{option_to_list}
use Rattle.session_requests.proofs.Written.{event_written}
use Rattle.session_requests.specs.Triggers.{ItemFits}
use Rattle.session_requests.specs.declared.trigger.Trigger.TheVariants.{OnSelect}
use Rattle.session_state.specs.Changes.{FitsNames}
use Rattle.session_requests.specs.Targets.{IsTarget}
use Rattle.session_requests.proofs.Acted.{event_item}
use Rattle.session_requests.proofs.Fitting.{target_fits}
use Rattle.session_requests.proofs.Giving.{target_but, target_source}
use Rattle.session_requests.proofs.Items.{item_within}
use Rattle.session_requests.proofs.Posted.{event_ends, has_gallery, of_ok}
use Rattle.session_requests.proofs.Writable.{only_none, only_target}
use Rattle.session_requests.specs.Writable.{TargetMayWrite}
use Rattle.session_requests.proofs.WholeSent.{cut_none, cut_target, on_err}
use Rattle.session_requests.specs.WrittenWhole.{TargetWrites}
use Rattle.session_requests.proofs.effects.end_event.Goals as goal

pub choose-requires : goal.choose-requires
choose-requires g c =
    let values = cached_value c.args.cache.now in
    has_gallery c.args.app.now.names values c.args.session c.in-Ok.target c.requires.sound.names c.requires.fits
    (of_ok (IsTarget c.args.app.now.names values) c.args.verdict c.in-Ok.target c.requires.verdict c.in-Ok.is)

pub take_effect-requires-clause-fits : goal.take_effect-requires-clause-fits
take_effect-requires-clause-fits g c =
    let names = c.args.app.now.names in
    let values = cached_value c.args.cache.now in
    subst (FitsNames names) (sym c.choose.ensures)
    (target_fits names c.args.session c.in-Ok.target c.requires.fits
    (item_within names values c.in-Ok.target c.requires.sound.names (of_ok (IsTarget names values) c.args.verdict c.in-Ok.target c.requires.verdict c.in-Ok.is)))

pub take_effect-requires-clause-item : goal.take_effect-requires-clause-item
take_effect-requires-clause-item g c =
    let values = cached_value c.args.cache.now in
    subst (λ (o : Option Data). ItemFits c.args.app.now (OnSelect c.in-Ok.target.control) o) (sym c.in_ok-item-in-Ok.ensures)
    (event_item c.args.app.now values c.in-Ok.target c.requires.sound c.requires.cached.order.fits (of_ok (IsTarget c.args.app.now.names values) c.args.verdict c.in-Ok.target c.requires.verdict c.in-Ok.is))

pub returns-in_ok-item-in-Ok-clause-done : goal.returns-in_ok-item-in-Ok-clause-done
returns-in_ok-item-in-Ok-clause-done g c =
    event_ends (SilenceCause (g.K.Keeper.marks c.args.keeper.now) (g.K.Keeper.marks c.take_effect.new.keeper)) c.args.app.now c.args.moment c.args.name.now c.args.body.now c.args.seq c.args.session c.choose.new.session (cached_value c.args.cache.now)
    c.args.verdict c.in-Ok.target (option_map view c.in_ok-item-in-Ok.item) (g.K.Keeper.told c.args.keeper.now) (g.K.Keeper.told c.take_effect.new.keeper) c.args.sessions.now.items c.take_effect.new.sessions.items c.take_effect.result
    c.in-Ok.is c.in_ok-item-in-Ok.ensures c.choose.ensures c.take_effect.ensures.done

pub take_effect-requires-clause-before : goal.take_effect-requires-clause-before
take_effect-requires-clause-before g c =
    let names = c.args.app.now.names in
    record {
      before = c.args.session;
      found = c.requires.found;
      cached = c.requires.cached;
      but = target_but names c.args.session c.choose.new.session c.in-Ok.target _
          (item_within names (cached_value c.args.cache.now) c.in-Ok.target c.requires.sound.names (of_ok (IsTarget names (cached_value c.args.cache.now)) c.args.verdict c.in-Ok.target c.requires.verdict c.in-Ok.is))
          c.chosen_by-chosen.ensures c.choose.ensures;
    }

pub take_effect-requires-clause-given : goal.take_effect-requires-clause-given
take_effect-requires-clause-given g c =
    let names = c.args.app.now.names in
    target_source names c.in-Ok.target _
    (item_within names (cached_value c.args.cache.now) c.in-Ok.target c.requires.sound.names (of_ok (IsTarget names (cached_value c.args.cache.now)) c.args.verdict c.in-Ok.target c.requires.verdict c.in-Ok.is))
    c.chosen_by-chosen.ensures

pub returns-in_ok-item-in-Ok-clause-wrote : goal.returns-in_ok-item-in-Ok-clause-wrote
returns-in_ok-item-in-Ok-clause-wrote g c =
    event_written (SilenceCause (g.K.Keeper.marks c.args.keeper.now) (g.K.Keeper.marks c.take_effect.new.keeper)) c.args.app.now c.args.moment c.args.session c.choose.new.session (cached_value c.args.cache.now) c.args.verdict c.in-Ok.target
    (option_map view c.in_ok-item-in-Ok.item) (option_to_list c.chosen_by-chosen.result) (g.K.Keeper.told c.args.keeper.now) (g.K.Keeper.told c.take_effect.new.keeper) c.take_effect.new.wrote.items c.take_effect.result
    c.in-Ok.is c.in_ok-item-in-Ok.ensures c.choose.ensures c.chosen_by-chosen.ensures c.take_effect.ensures.wrote

pub returns-in_ok-item-in-Ok-clause-only : goal.returns-in_ok-item-in-Ok-clause-only
returns-in_ok-item-in-Ok-clause-only g c =
    only_target (SilenceCause (g.K.Keeper.marks c.args.keeper.now) (g.K.Keeper.marks c.take_effect.new.keeper)) c.args.app.now c.args.verdict c.in-Ok.target (option_to_list c.chosen_by-chosen.result) c.take_effect.new.wrote.items
    (g.K.Keeper.told c.args.keeper.now) (g.K.Keeper.told c.take_effect.new.keeper) c.in-Ok.is c.chosen_by-chosen.ensures c.take_effect.ensures.only

pub returns-in_err-item-in-Ok-clause-only : goal.returns-in_err-item-in-Ok-clause-only
returns-in_err-item-in-Ok-clause-only g c =
    only_none (SilenceCause (g.K.Keeper.marks c.args.keeper.now) (g.K.Keeper.marks c.args.keeper.now)) (TargetMayWrite c.args.app.now c.args.verdict) c.args.wrote.now.items (g.K.Keeper.told c.args.keeper.now) c.requires.wrote

pub returns-in_ok-item-in-Ok-clause-cut : goal.returns-in_ok-item-in-Ok-clause-cut
returns-in_ok-item-in-Ok-clause-cut g c =
    cut_target (SilenceCause (g.K.Keeper.marks c.args.keeper.now) (g.K.Keeper.marks c.take_effect.new.keeper)) c.args.app.now c.args.moment c.args.session c.choose.new.session (cached_value c.args.cache.now) c.args.verdict c.in-Ok.target
    (option_map view c.in_ok-item-in-Ok.item) (option_to_list c.chosen_by-chosen.result) c.take_effect.new.wrote.items (g.K.Keeper.told c.args.keeper.now) (g.K.Keeper.told c.take_effect.new.keeper) c.take_effect.result
    c.in-Ok.is c.in_ok-item-in-Ok.ensures c.choose.ensures c.chosen_by-chosen.ensures c.take_effect.ensures.cut

pub returns-in_err-item-in-Ok-clause-cut : goal.returns-in_err-item-in-Ok-clause-cut
returns-in_err-item-in-Ok-clause-cut g c =
    on_err _
    (cut_none (SilenceCause (g.K.Keeper.marks c.args.keeper.now) (g.K.Keeper.marks c.args.keeper.now)) (TargetWrites c.args.app.now c.args.moment c.args.session (cached_value c.args.cache.now) c.args.verdict) c.args.wrote.now.items (g.K.Keeper.told c.args.keeper.now) c.requires.wrote)
