use Rattle.std.proofs.Common.{◌≡◌, List, None, [], ◌∷◌, subst, sym}
use Rattle.std.specs.Prelude.{unwrap_or}
use Rattle.fx_types.specs.Values.{blank}
use Rattle.recalc.specs.app_semantics.Present.{input_of}
use Rattle.recalc.specs.app_semantics.Properties.{is_true}
use Rattle.recalc.specs.Kept.{cached_value}
use Rattle.fx_base.specs.Silence.{SilenceCause}
use Rattle.session_requests.proofs.Written.{input_written}
use Rattle.session_requests.specs.Triggers.{ItemFits}
use Rattle.session_requests.specs.declared.trigger.Trigger.{Trigger}
use Rattle.session_state.specs.Changes.{FitsNames}
use Rattle.fx_core.specs.declared.sources.Source.TheVariants as source
use Rattle.fx_core.specs.declared.sources.Source.{Source}
use Rattle.session_requests.specs.Caching.{SameSessionExcept}
use Rattle.session_requests.specs.Targets.{InputValue}
use Rattle.session_state.specs.Sessions.{SessionState}
use Rattle.session_requests.proofs.Acted.{input_item}
use Rattle.session_requests.proofs.Fitting.{input_fits}
use Rattle.session_requests.proofs.Giving.{input_but, input_source}
use Rattle.session_requests.proofs.Posted.{given_of, has_input, taker_of}
use Rattle.session_requests.proofs.Writable.{only_given, only_none}
use Rattle.session_requests.specs.Writable.{GivenMayWrite}
use Rattle.session_requests.proofs.WholeSent.{cut_given, cut_none, on_err}
use Rattle.session_requests.specs.WrittenWhole.{InputGivenWrites}
use Rattle.session_requests.proofs.effects.end_input.Goals as goal

pub give-requires : goal.give-requires
give-requires g c =
    let given : InputValue = (c.in-Ok.control, c.in-Ok.given) in
    has_input c.args.app.now.names c.args.session given c.requires.fits (given_of c.args.app.now.names c.args.session (cached_value c.args.cache.now) c.args.verdict given c.requires.verdict c.in-Ok.is)

pub input_trigger-requires : goal.input_trigger-requires
input_trigger-requires g c =
    let names = c.args.app.now.names in
    let given : InputValue = (c.in-Ok.control, c.in-Ok.given) in
    let fits = given_of names c.args.session (cached_value c.args.cache.now) c.args.verdict given c.requires.verdict c.in-Ok.is in
    has_input names c.give.new.session given (subst (FitsNames names) (sym c.give.ensures) (input_fits names c.args.session given c.requires.fits fits)) fits

pub take_effect-requires-clause-fits : goal.take_effect-requires-clause-fits
take_effect-requires-clause-fits g c =
    let names = c.args.app.now.names in
    let given : InputValue = (c.in-Ok.control, c.in-Ok.given) in
    subst (FitsNames names) (sym c.give.ensures)
    (input_fits names c.args.session given c.requires.fits (given_of names c.args.session (cached_value c.args.cache.now) c.args.verdict given c.requires.verdict c.in-Ok.is))

pub take_effect-requires-clause-item : goal.take_effect-requires-clause-item
take_effect-requires-clause-item g c =
    let names = c.args.app.now.names in
    let values = cached_value c.args.cache.now in
    let given : InputValue = (c.in-Ok.control, c.in-Ok.given) in
    subst (λ (t : Trigger). ItemFits c.args.app.now t None) (sym c.in_ok-trigger-in-Ok.ensures)
    (input_item c.args.app.now c.in-Ok.control (is_true (input_of names c.give.new.session values c.in-Ok.control))
    (taker_of names c.args.session values c.args.verdict given c.requires.verdict c.in-Ok.is))

pub take_effect-requires-clause-before : goal.take_effect-requires-clause-before
take_effect-requires-clause-before g c =
    let names = c.args.app.now.names in
    let given : InputValue = (c.in-Ok.control, c.in-Ok.given) in
    record {
      before = c.args.session;
      found = c.requires.found;
      cached = c.requires.cached;
      but = subst (λ (s : SessionState). SameSessionExcept names (source.Input c.in-Ok.control ∷ []) c.args.session s) (sym c.give.ensures) (input_but names c.args.session given);
    }

pub take_effect-requires-clause-given : goal.take_effect-requires-clause-given
take_effect-requires-clause-given g c =
    let given : InputValue = (c.in-Ok.control, c.in-Ok.given) in
    input_source c.args.app.now.names c.in-Ok.control (unwrap_or c.in-Ok.given blank) (given_of c.args.app.now.names c.args.session (cached_value c.args.cache.now) c.args.verdict given c.requires.verdict c.in-Ok.is)

pub returns-in_ok-trigger-in-Ok-clause-wrote : goal.returns-in_ok-trigger-in-Ok-clause-wrote
returns-in_ok-trigger-in-Ok-clause-wrote g c =
    let given : InputValue = (c.in-Ok.control, c.in-Ok.given) in
    input_written (SilenceCause (g.K.Keeper.marks c.args.keeper.now) (g.K.Keeper.marks c.take_effect.new.keeper)) c.args.app.now c.args.moment c.args.session c.give.new.session (cached_value c.args.cache.now) c.args.verdict given
    c.in_ok-trigger-in-Ok.trigger (g.K.Keeper.told c.args.keeper.now) (g.K.Keeper.told c.take_effect.new.keeper) c.take_effect.new.wrote.items c.take_effect.result
    c.in-Ok.is c.in_ok-trigger-in-Ok.ensures c.give.ensures c.take_effect.ensures.wrote

pub returns-in_ok-trigger-in-Ok-clause-only : goal.returns-in_ok-trigger-in-Ok-clause-only
returns-in_ok-trigger-in-Ok-clause-only g c =
    let given : InputValue = (c.in-Ok.control, c.in-Ok.given) in
    only_given (SilenceCause (g.K.Keeper.marks c.args.keeper.now) (g.K.Keeper.marks c.take_effect.new.keeper)) c.args.app.now c.give.new.session (cached_value c.args.cache.now) c.args.verdict given c.in_ok-trigger-in-Ok.trigger c.take_effect.new.wrote.items
    (g.K.Keeper.told c.args.keeper.now) (g.K.Keeper.told c.take_effect.new.keeper) c.in-Ok.is c.in_ok-trigger-in-Ok.ensures c.take_effect.ensures.only

pub returns-in_err-trigger-in-Ok-clause-only : goal.returns-in_err-trigger-in-Ok-clause-only
returns-in_err-trigger-in-Ok-clause-only g c =
    only_none (SilenceCause (g.K.Keeper.marks c.args.keeper.now) (g.K.Keeper.marks c.args.keeper.now)) (GivenMayWrite c.args.app.now c.args.verdict) c.args.wrote.now.items (g.K.Keeper.told c.args.keeper.now) c.requires.wrote

pub returns-in_ok-trigger-in-Ok-clause-cut : goal.returns-in_ok-trigger-in-Ok-clause-cut
returns-in_ok-trigger-in-Ok-clause-cut g c =
    let given : InputValue = (c.in-Ok.control, c.in-Ok.given) in
    cut_given (SilenceCause (g.K.Keeper.marks c.args.keeper.now) (g.K.Keeper.marks c.take_effect.new.keeper)) c.args.app.now c.args.moment c.args.session c.give.new.session (cached_value c.args.cache.now) c.args.verdict given c.in_ok-trigger-in-Ok.trigger
    c.take_effect.new.wrote.items (g.K.Keeper.told c.args.keeper.now) (g.K.Keeper.told c.take_effect.new.keeper) c.take_effect.result c.in-Ok.is c.in_ok-trigger-in-Ok.ensures c.give.ensures c.take_effect.ensures.cut

pub returns-in_err-trigger-in-Ok-clause-cut : goal.returns-in_err-trigger-in-Ok-clause-cut
returns-in_err-trigger-in-Ok-clause-cut g c =
    on_err _
    (cut_none (SilenceCause (g.K.Keeper.marks c.args.keeper.now) (g.K.Keeper.marks c.args.keeper.now)) (InputGivenWrites c.args.app.now c.args.moment c.args.session (cached_value c.args.cache.now) c.args.verdict) c.args.wrote.now.items (g.K.Keeper.told c.args.keeper.now) c.requires.wrote)
