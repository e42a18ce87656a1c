use Rattle.std.proofs.Common.{◌∙◌, ◌≡◌, Result, ap, subst, sym}
use Rattle.std.proofs.Math.Logic.{∥∥₁_map}
use Rattle.std.proofs.lemmas.Result.{IfOk-weaker}
use Rattle.recalc.proofs.Asked.{heard_told}
use Rattle.row_keeper.specs.Tables.{rows_told}
use Rattle.fx_base.specs.Silence.{SilenceCause}
use Rattle.recalc.specs.Values.{CellValues}
use Rattle.recalc.specs.Kept.{cached_value}
use Rattle.numbered_requests.specs.Replies.{said}
use Rattle.view_text.specs.declared.refused.Refusal.{Refusal}
use Rattle.recalc.proofs.Leaving.{left_all, left_then}
use Rattle.session_requests.specs.Acting.{EndsInput, InputWrites}
use Rattle.session_requests.specs.Targets.{InputValue}
use Rattle.session_requests.proofs.Written.{input_writes_lost, ok_both}
use Rattle.session_requests.proofs.Posted.{input_lost, input_over, stays_lost}
use Rattle.session_requests.proofs.Writable.{input_may, only_after, only_left}
use Rattle.session_requests.specs.Writable.{GivenMayWrite, InputMayWrite}
use Rattle.session_requests.proofs.WholeSent.{cut_left, input_cut, on_err}
use Rattle.session_requests.specs.WrittenWhole.{InputWritesWhole}
use Rattle.session_requests.proofs.posting.act_input.Goals as goal

pub end_input-requires-clause-verdict : goal.end_input-requires-clause-verdict
end_input-requires-clause-verdict g c =
    (c.args.input, input_over c.args.app.now.names c.args.session c.args.input c.as_slice-values.result.now c.look_for_input.new.cache.values c.input_target-verdict.result (c.as_slice-values.ensures ∙ ap (λ (w : CellValues). w.cells) c.values.ensures) (c.input_target-verdict.ensures.is c.args.session (sym c.screen.ensures)))

pub returns-clause-done : goal.returns-clause-done
returns-clause-done g c =
    let told = g.K.Keeper.told in
    let marks = g.K.Keeper.marks in
    let app = c.args.app.now in
    let values = cached_value c.look_for_input.new.cache in
    let before = marks c.args.keeper.now in
    let seen = told c.look_for_input.new.keeper in
    let valued = marks c.look_for_input.new.keeper in
    let now = marks c.end_input.new.keeper in
    let read = c.look_for_input.ensures.read in
    let is = input_over app.names c.args.session c.args.input c.as_slice-values.result.now c.look_for_input.new.cache.values c.input_target-verdict.result (c.as_slice-values.ensures ∙ ap (λ (w : CellValues). w.cells) c.values.ensures) (c.input_target-verdict.ensures.is c.args.session (sym c.screen.ensures)) in
    IfOk-weaker c.end_input.result _ _ (λ r h. record {
      session = c.args.session;
      found = c.requires.found;
      seen = seen;
      stays = stays_lost before valued now c.end_input.ensures.cause.later (told c.args.keeper.now) seen read.told;
      values = values;
      fresh = ∥∥₁_map c.in_ok-look_for_input.ensures.fresh (λ f. f (rows_told seen) (heard_told seen));
      ends = subst (λ (v : Result InputValue Refusal). EndsInput (SilenceCause before now) app c.args.moment c.args.name.now c.args.body.now c.args.input.seq c.args.session values v seen c.args.sessions.now.items (said r) (told c.end_input.new.keeper) c.end_input.new.sessions.items) is
          (input_lost before valued now app c.args.moment c.args.name.now c.args.body.now c.args.input.seq c.args.session values c.input_target-verdict.result seen (told c.end_input.new.keeper) c.args.sessions.now.items c.end_input.new.sessions.items (said r) read.later h);
    }) c.end_input.ensures.done

pub returns-in_err-look_for_input-clause-clean : goal.returns-in_err-look_for_input-clause-clean
returns-in_err-look_for_input-clause-clean g c = left_all c.args.app.now c.args.wrote.now.items c.args.cache.now c.look_for_input.new.cache c.look_for_input.ensures.clean

pub returns-clause-clean : goal.returns-clause-clean
returns-clause-clean g c =
    let app = c.args.app.now in
    let ws = c.end_input.new.wrote.items in
    left_then app ws c.args.cache.now c.look_for_input.new.cache c.end_input.new.cache (left_all app ws c.args.cache.now c.look_for_input.new.cache c.look_for_input.ensures.clean) c.end_input.ensures.clean

pub returns-clause-wrote : goal.returns-clause-wrote
returns-clause-wrote g c =
    let told = g.K.Keeper.told in
    let marks = g.K.Keeper.marks in
    let app = c.args.app.now in
    let values = cached_value c.look_for_input.new.cache in
    let before = marks c.args.keeper.now in
    let seen = told c.look_for_input.new.keeper in
    let valued = marks c.look_for_input.new.keeper in
    let now = marks c.end_input.new.keeper in
    let read = c.look_for_input.ensures.read in
    let is = input_over app.names c.args.session c.args.input c.as_slice-values.result.now c.look_for_input.new.cache.values c.input_target-verdict.result (c.as_slice-values.ensures ∙ ap (λ (w : CellValues). w.cells) c.values.ensures) (c.input_target-verdict.ensures.is c.args.session (sym c.screen.ensures)) in
    IfOk-weaker c.end_input.result _ _ (λ r both. (
      record {
        session = c.args.session;
        found = c.requires.found;
        seen = seen;
        stays = stays_lost before valued now c.end_input.ensures.cause.later (told c.args.keeper.now) seen read.told;
        values = values;
        fresh = ∥∥₁_map c.in_ok-look_for_input.ensures.fresh (λ f. f (rows_told seen) (heard_told seen));
        ends = subst (λ (v : Result InputValue Refusal). EndsInput (SilenceCause before now) app c.args.moment c.args.name.now c.args.body.now c.args.input.seq c.args.session values v seen c.args.sessions.now.items (said r) (told c.end_input.new.keeper) c.end_input.new.sessions.items) is
            (input_lost before valued now app c.args.moment c.args.name.now c.args.body.now c.args.input.seq c.args.session values c.input_target-verdict.result seen (told c.end_input.new.keeper) c.args.sessions.now.items c.end_input.new.sessions.items (said r) read.later both.0);
      },
      subst (λ (v : Result InputValue Refusal). InputWrites (SilenceCause before now) app c.args.moment c.args.session values v seen (told c.end_input.new.keeper) c.end_input.new.wrote.items) is
          (input_writes_lost before valued now app c.args.moment c.args.session values c.input_target-verdict.result seen (told c.end_input.new.keeper) c.end_input.new.wrote.items read.later both.1),
    )) (ok_both _ _ c.end_input.result c.end_input.ensures.done c.end_input.ensures.wrote)

pub returns-in_err-look_for_input-clause-only : goal.returns-in_err-look_for_input-clause-only
returns-in_err-look_for_input-clause-only g c =
    only_left (SilenceCause (g.K.Keeper.marks c.args.keeper.now) (g.K.Keeper.marks c.look_for_input.new.keeper)) (InputMayWrite c.args.app.now c.args.input) c.args.wrote.now.items (g.K.Keeper.told c.args.keeper.now) (g.K.Keeper.told c.look_for_input.new.keeper) c.requires.wrote c.look_for_input.ensures.read.told

pub returns-clause-only : goal.returns-clause-only
returns-clause-only g c =
    let told = g.K.Keeper.told in
    let marks = g.K.Keeper.marks in
    let app = c.args.app.now in
    let first = c.args.keeper.now in
    let second = c.look_for_input.new.keeper in
    let last = c.end_input.new.keeper in
    let is = input_over app.names c.args.session c.args.input c.as_slice-values.result.now c.look_for_input.new.cache.values c.input_target-verdict.result (c.as_slice-values.ensures ∙ ap (λ (w : CellValues). w.cells) c.values.ensures) (c.input_target-verdict.ensures.is c.args.session (sym c.screen.ensures)) in
    only_after (marks first) (marks second) (marks last) (GivenMayWrite app c.input_target-verdict.result) (InputMayWrite c.args.app.now c.args.input) c.end_input.new.wrote.items (told first) (told second) (told last)
    (λ x may. input_may app c.args.session (cached_value c.look_for_input.new.cache) c.args.input c.input_target-verdict.result x is may) c.look_for_input.ensures.read.later c.end_input.ensures.cause.later c.look_for_input.ensures.read.told c.end_input.ensures.only

pub returns-in_err-look_for_input-clause-cut : goal.returns-in_err-look_for_input-clause-cut
returns-in_err-look_for_input-clause-cut g c =
    on_err _
    (cut_left (SilenceCause (g.K.Keeper.marks c.args.keeper.now) (g.K.Keeper.marks c.look_for_input.new.keeper)) (λ t. InputWritesWhole c.args.app.now c.args.moment c.args.name.now c.args.input t c.args.sessions.now.items) c.args.wrote.now.items
    (g.K.Keeper.told c.args.keeper.now) (g.K.Keeper.told c.look_for_input.new.keeper) c.requires.wrote c.look_for_input.ensures.read.told)

pub returns-clause-cut : goal.returns-clause-cut
returns-clause-cut g c =
    let told = g.K.Keeper.told in
    let marks = g.K.Keeper.marks in
    let app = c.args.app.now in
    let first = c.args.keeper.now in
    let second = c.look_for_input.new.keeper in
    let last = c.end_input.new.keeper in
    let is = input_over app.names c.args.session c.args.input c.as_slice-values.result.now c.look_for_input.new.cache.values c.input_target-verdict.result (c.as_slice-values.ensures ∙ ap (λ (w : CellValues). w.cells) c.values.ensures) (c.input_target-verdict.ensures.is c.args.session (sym c.screen.ensures)) in
    input_cut c.fitting_holds.ensures c.one_fresh_at.ensures (marks first) (marks second) (marks last) app c.args.moment c.args.name.now c.args.session (cached_value c.look_for_input.new.cache) c.args.sessions.now.items c.end_input.new.wrote.items
    (told first) (told second) (told last) c.end_input.result c.requires.sound c.requires.fits c.requires.found c.requires.rows
    c.look_for_input.ensures.read.later c.end_input.ensures.cause.later c.look_for_input.ensures.read.told c.args.input c.input_target-verdict.result
    (∥∥₁_map c.in_ok-look_for_input.ensures.fresh (λ f. f (rows_told (told second)) (heard_told (told second)))) is c.end_input.ensures.cut
