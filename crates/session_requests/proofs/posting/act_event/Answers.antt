use Rattle.std.proofs.Common.{refl, subst, sym}
use Rattle.std.proofs.Math.Logic.{∥∥₁_map}
use Rattle.std.proofs.lemmas.Result.{IfOk-weaker}
use Rattle.recalc.specs.Values.{CellValues}
use Rattle.recalc.specs.Values as cells
use Rattle.recalc.specs.app_semantics.Present.{present}
use Rattle.fx_base.specs.Silence.{SilenceCause}
use Rattle.recalc.proofs.Leaving.{left_all, left_then}
use Rattle.session_requests.specs.Posting.{IsVerdict}
use Rattle.session_requests.specs.Targets.{event_target}
use Rattle.session_requests.proofs.Resting.{cached_found}
use Rattle.session_requests.proofs.Undone.{cached_stays}
use Rattle.fx_scalar.specs.ScalarFunctions.{IsToday}
use Rattle.recalc.proofs.Asked.{heard_before, heard_told, read_on}
use Rattle.recalc.specs.Asking.{Keeping, keeping}
use Rattle.recalc.specs.Kept.{cached_value}
use Rattle.numbered_requests.specs.Replies.{said}
use Rattle.row_keeper.specs.Tables.{rows_told}
use Rattle.session_requests.proofs.Written.{event_writes_lost, ok_both}
use Rattle.session_requests.proofs.Posted.{event_lost, stays_lost}
use Rattle.fx_base.proofs.Silences.{later_then}
use Rattle.session_requests.proofs.Writable.{event_may, only_after, only_left}
use Rattle.session_requests.specs.Writable.{EventMayWrite, TargetMayWrite}
use Rattle.session_requests.proofs.WholeSent.{cut_left, event_cut, on_err, stays_two}
use Rattle.session_requests.specs.WrittenWhole.{EventWritesWhole}
use Rattle.session_requests.proofs.posting.act_event.Goals as goal

pub returns-clause-done : goal.returns-clause-done
returns-clause-done g c =
    let told = g.K.Keeper.told in
    let marks = g.K.Keeper.marks in
    let app = c.args.app.now in
    let values = cached_value c.look_for_event.new.cache in
    let before = marks c.args.keeper.now in
    let seen = told c.judge_event.new.keeper in
    let judged = marks c.judge_event.new.keeper in
    let now = marks c.end_event.new.keeper in
    let first : Keeping = keeping (told c.args.keeper.now) (g.K.Keeper.began c.args.keeper.now) (g.K.Keeper.shaped c.args.keeper.now) (g.K.Keeper.in_transaction c.args.keeper.now) (marks c.args.keeper.now) (g.K.Keeper.visited c.args.keeper.now) (g.K.Keeper.loan c.args.keeper.now) in
    let second : Keeping = keeping (told c.look_for_event.new.keeper) (g.K.Keeper.began c.look_for_event.new.keeper) (g.K.Keeper.shaped c.look_for_event.new.keeper) (g.K.Keeper.in_transaction c.look_for_event.new.keeper) (marks c.look_for_event.new.keeper) (g.K.Keeper.visited c.look_for_event.new.keeper) (g.K.Keeper.loan c.look_for_event.new.keeper) in
    let third : Keeping = keeping seen (g.K.Keeper.began c.judge_event.new.keeper) (g.K.Keeper.shaped c.judge_event.new.keeper) (g.K.Keeper.in_transaction c.judge_event.new.keeper) judged (g.K.Keeper.visited c.judge_event.new.keeper) (g.K.Keeper.loan c.judge_event.new.keeper) in
    let read = read_on first second third c.look_for_event.ensures.read c.in_ok-verdict.ensures.read in
    IfOk-weaker c.end_event.result _ _ (λ r h. record {
      session = c.args.session;
      found = c.requires.found;
      seen = seen;
      stays = stays_lost before judged now c.end_event.ensures.cause.later (told c.args.keeper.now) seen read.told;
      values = values;
      fresh = ∥∥₁_map c.in_ok-look_for_event.ensures.fresh (λ f. f (rows_told seen) (heard_before second third c.in_ok-verdict.ensures.read (rows_told seen) (heard_told seen)));
      verdict = c.in_ok-verdict.verdict;
      judged = subst (λ (w : CellValues). IsVerdict (present app c.args.session (rows_told seen) c.args.moment) (cells.value_of w) (event_target app.names c.args.session (cells.value_of w) c.args.event.now) c.in_ok-verdict.verdict) c.values.ensures
          (c.in_ok-verdict.ensures.judged c.args.moment (subst (λ (w : CellValues). IsToday c.args.moment w.day) (sym c.values.ensures) c.look_for_event.ensures.cached.day));
      ends = event_lost before judged now app c.args.moment c.args.name.now c.args.body.now c.args.event.now.seq c.args.session values c.in_ok-verdict.verdict seen (told c.end_event.new.keeper) c.args.sessions.now.items c.end_event.new.sessions.items (said r) read.later h;
    }) c.end_event.ensures.done

pub end_event-requires-clause-cached : goal.end_event-requires-clause-cached
end_event-requires-clause-cached g c =
    cached_stays c.args.app.now c.args.session (SilenceCause (g.K.Keeper.marks c.look_for_event.new.keeper) (g.K.Keeper.marks c.judge_event.new.keeper)) (g.K.Keeper.told c.look_for_event.new.keeper) (g.K.Keeper.told c.judge_event.new.keeper) c.args.moment c.look_for_event.new.cache c.judge_event.ensures.read.told c.look_for_event.ensures.cached

pub returns-in_err-verdict-clause-cached : goal.returns-in_err-verdict-clause-cached
returns-in_err-verdict-clause-cached g c = λ s found.
    cached_found c.args.app.now c.args.name.now c.args.session (g.K.Keeper.told c.judge_event.new.keeper) c.args.moment c.look_for_event.new.cache c.args.sessions.now.items c.args.sessions.now.items refl c.requires.found
    (cached_stays c.args.app.now c.args.session (SilenceCause (g.K.Keeper.marks c.look_for_event.new.keeper) (g.K.Keeper.marks c.judge_event.new.keeper)) (g.K.Keeper.told c.look_for_event.new.keeper) (g.K.Keeper.told c.judge_event.new.keeper) c.args.moment c.look_for_event.new.cache c.judge_event.ensures.read.told c.look_for_event.ensures.cached) s found

pub returns-in_err-look_for_event-clause-clean : goal.returns-in_err-look_for_event-clause-clean
returns-in_err-look_for_event-clause-clean g c = left_all c.args.app.now c.args.wrote.now.items c.args.cache.now c.look_for_event.new.cache c.look_for_event.ensures.clean

pub returns-in_err-verdict-clause-clean : goal.returns-in_err-verdict-clause-clean
returns-in_err-verdict-clause-clean g c = left_all c.args.app.now c.args.wrote.now.items c.args.cache.now c.look_for_event.new.cache c.look_for_event.ensures.clean

pub returns-clause-clean : goal.returns-clause-clean
returns-clause-clean g c =
    let app = c.args.app.now in
    let ws = c.end_event.new.wrote.items in
    left_then app ws c.args.cache.now c.look_for_event.new.cache c.end_event.new.cache (left_all app ws c.args.cache.now c.look_for_event.new.cache c.look_for_event.ensures.clean) c.end_event.ensures.clean

pub returns-clause-wrote : goal.returns-clause-wrote
returns-clause-wrote g c =
    let told = g.K.Keeper.told in
    let marks = g.K.Keeper.marks in
    let app = c.args.app.now in
    let values = cached_value c.look_for_event.new.cache in
    let before = marks c.args.keeper.now in
    let seen = told c.judge_event.new.keeper in
    let judged = marks c.judge_event.new.keeper in
    let now = marks c.end_event.new.keeper in
    let first : Keeping = keeping (told c.args.keeper.now) (g.K.Keeper.began c.args.keeper.now) (g.K.Keeper.shaped c.args.keeper.now) (g.K.Keeper.in_transaction c.args.keeper.now) (marks c.args.keeper.now) (g.K.Keeper.visited c.args.keeper.now) (g.K.Keeper.loan c.args.keeper.now) in
    let second : Keeping = keeping (told c.look_for_event.new.keeper) (g.K.Keeper.began c.look_for_event.new.keeper) (g.K.Keeper.shaped c.look_for_event.new.keeper) (g.K.Keeper.in_transaction c.look_for_event.new.keeper) (marks c.look_for_event.new.keeper) (g.K.Keeper.visited c.look_for_event.new.keeper) (g.K.Keeper.loan c.look_for_event.new.keeper) in
    let third : Keeping = keeping seen (g.K.Keeper.began c.judge_event.new.keeper) (g.K.Keeper.shaped c.judge_event.new.keeper) (g.K.Keeper.in_transaction c.judge_event.new.keeper) judged (g.K.Keeper.visited c.judge_event.new.keeper) (g.K.Keeper.loan c.judge_event.new.keeper) in
    let read = read_on first second third c.look_for_event.ensures.read c.in_ok-verdict.ensures.read in
    IfOk-weaker c.end_event.result _ _ (λ r both. (
      record {
        session = c.args.session;
        found = c.requires.found;
        seen = seen;
        stays = stays_lost before judged now c.end_event.ensures.cause.later (told c.args.keeper.now) seen read.told;
        values = values;
        fresh = ∥∥₁_map c.in_ok-look_for_event.ensures.fresh (λ f. f (rows_told seen) (heard_before second third c.in_ok-verdict.ensures.read (rows_told seen) (heard_told seen)));
        verdict = c.in_ok-verdict.verdict;
        judged = subst (λ (w : CellValues). IsVerdict (present app c.args.session (rows_told seen) c.args.moment) (cells.value_of w) (event_target app.names c.args.session (cells.value_of w) c.args.event.now) c.in_ok-verdict.verdict) c.values.ensures
            (c.in_ok-verdict.ensures.judged c.args.moment (subst (λ (w : CellValues). IsToday c.args.moment w.day) (sym c.values.ensures) c.look_for_event.ensures.cached.day));
        ends = event_lost before judged now app c.args.moment c.args.name.now c.args.body.now c.args.event.now.seq c.args.session values c.in_ok-verdict.verdict seen (told c.end_event.new.keeper) c.args.sessions.now.items c.end_event.new.sessions.items (said r) read.later both.0;
      },
      event_writes_lost before judged now app c.args.moment c.args.session values c.in_ok-verdict.verdict seen (told c.end_event.new.keeper) c.end_event.new.wrote.items read.later both.1,
    )) (ok_both _ _ c.end_event.result c.end_event.ensures.done c.end_event.ensures.wrote)

pub returns-in_err-look_for_event-clause-only : goal.returns-in_err-look_for_event-clause-only
returns-in_err-look_for_event-clause-only g c =
    only_left (SilenceCause (g.K.Keeper.marks c.args.keeper.now) (g.K.Keeper.marks c.look_for_event.new.keeper)) (EventMayWrite c.args.app.now c.args.event.now) c.args.wrote.now.items (g.K.Keeper.told c.args.keeper.now) (g.K.Keeper.told c.look_for_event.new.keeper) c.requires.wrote c.look_for_event.ensures.read.told

pub returns-in_err-verdict-clause-only : goal.returns-in_err-verdict-clause-only
returns-in_err-verdict-clause-only g c =
    let told = g.K.Keeper.told in
    let marks = g.K.Keeper.marks in
    let first = c.args.keeper.now in
    let second = c.look_for_event.new.keeper in
    let third = c.judge_event.new.keeper in
    only_after (marks first) (marks second) (marks third) (EventMayWrite c.args.app.now c.args.event.now) (EventMayWrite c.args.app.now c.args.event.now) c.args.wrote.now.items (told first) (told second) (told third) (λ x h. h) c.look_for_event.ensures.read.later c.judge_event.ensures.read.later c.look_for_event.ensures.read.told
    (only_left (SilenceCause (marks second) (marks third)) (EventMayWrite c.args.app.now c.args.event.now) c.args.wrote.now.items (told second) (told third) c.requires.wrote c.judge_event.ensures.read.told)

pub returns-clause-only : goal.returns-clause-only
returns-clause-only g c =
    let told = g.K.Keeper.told in
    let marks = g.K.Keeper.marks in
    let app = c.args.app.now in
    let first = c.args.keeper.now in
    let second = c.look_for_event.new.keeper in
    let third = c.judge_event.new.keeper in
    let last = c.end_event.new.keeper in
    let values = cached_value c.look_for_event.new.cache in
    let verdict = c.in_ok-verdict.verdict in
    let p = present app c.args.session (rows_told (told third)) c.args.moment in
    let judged = subst (λ (w : CellValues). IsVerdict p (cells.value_of w) (event_target app.names c.args.session (cells.value_of w) c.args.event.now) verdict) c.values.ensures
    (c.in_ok-verdict.ensures.judged c.args.moment (subst (λ (w : CellValues). IsToday c.args.moment w.day) (sym c.values.ensures) c.look_for_event.ensures.cached.day)) in
    only_after (marks first) (marks second) (marks last) (EventMayWrite c.args.app.now c.args.event.now) (EventMayWrite c.args.app.now c.args.event.now) c.end_event.new.wrote.items (told first) (told second) (told last) (λ x h. h)
    c.look_for_event.ensures.read.later (later_then (marks second) (marks third) (marks last) c.judge_event.ensures.read.later c.end_event.ensures.cause.later) c.look_for_event.ensures.read.told
    (only_after (marks second) (marks third) (marks last) (TargetMayWrite app verdict) (EventMayWrite c.args.app.now c.args.event.now) c.end_event.new.wrote.items (told second) (told third) (told last)
    (λ x may. event_may p app c.args.session values c.args.event.now verdict x judged may) c.judge_event.ensures.read.later c.end_event.ensures.cause.later c.judge_event.ensures.read.told c.end_event.ensures.only)

pub returns-in_err-look_for_event-clause-cut : goal.returns-in_err-look_for_event-clause-cut
returns-in_err-look_for_event-clause-cut g c =
    on_err _
    (cut_left (SilenceCause (g.K.Keeper.marks c.args.keeper.now) (g.K.Keeper.marks c.look_for_event.new.keeper)) (λ t. EventWritesWhole c.args.app.now c.args.moment c.args.name.now c.args.event.now t c.args.sessions.now.items) c.args.wrote.now.items
    (g.K.Keeper.told c.args.keeper.now) (g.K.Keeper.told c.look_for_event.new.keeper) c.requires.wrote c.look_for_event.ensures.read.told)

pub returns-in_err-verdict-clause-cut : goal.returns-in_err-verdict-clause-cut
returns-in_err-verdict-clause-cut g c =
    let told = g.K.Keeper.told in
    let marks = g.K.Keeper.marks in
    let first = c.args.keeper.now in
    let second = c.look_for_event.new.keeper in
    let third = c.judge_event.new.keeper in
    on_err _
    (cut_left (SilenceCause (marks first) (marks third)) (λ t. EventWritesWhole c.args.app.now c.args.moment c.args.name.now c.args.event.now t c.args.sessions.now.items) c.args.wrote.now.items (told first) (told third) c.requires.wrote
    (stays_two (marks first) (marks second) (marks third) (told first) (told second) (told third) c.look_for_event.ensures.read.later c.judge_event.ensures.read.later c.look_for_event.ensures.read.told c.judge_event.ensures.read.told))

pub returns-clause-cut : goal.returns-clause-cut
returns-clause-cut g c =
    let told = g.K.Keeper.told in
    let marks = g.K.Keeper.marks in
    let app = c.args.app.now in
    let first = c.args.keeper.now in
    let second = c.look_for_event.new.keeper in
    let third = c.judge_event.new.keeper in
    let last = c.end_event.new.keeper in
    let before : Keeping = keeping (told second) (g.K.Keeper.began second) (g.K.Keeper.shaped second) (g.K.Keeper.in_transaction second) (marks second) (g.K.Keeper.visited second) (g.K.Keeper.loan second) in
    let after : Keeping = keeping (told third) (g.K.Keeper.began third) (g.K.Keeper.shaped third) (g.K.Keeper.in_transaction third) (marks third) (g.K.Keeper.visited third) (g.K.Keeper.loan third) in
    let seen = rows_told (told third) in
    let verdict = c.in_ok-verdict.verdict in
    event_cut c.fitting_holds.ensures c.one_fresh_at.ensures (marks first) (marks third) (marks last) app c.args.moment c.args.name.now c.args.session (cached_value c.look_for_event.new.cache) c.args.sessions.now.items c.end_event.new.wrote.items
    (told first) (told third) (told last) c.end_event.result c.requires.sound c.requires.fits c.requires.found c.requires.rows
    (later_then (marks first) (marks second) (marks third) c.look_for_event.ensures.read.later c.judge_event.ensures.read.later) c.end_event.ensures.cause.later
    (stays_two (marks first) (marks second) (marks third) (told first) (told second) (told third) c.look_for_event.ensures.read.later c.judge_event.ensures.read.later c.look_for_event.ensures.read.told c.judge_event.ensures.read.told)
    c.one_value.ensures c.args.event.now verdict
    (∥∥₁_map c.in_ok-look_for_event.ensures.fresh (λ f. f seen (heard_before before after c.in_ok-verdict.ensures.read seen (heard_told (told third)))))
    (subst (λ (w : CellValues). IsVerdict (present app c.args.session seen c.args.moment) (cells.value_of w) (event_target app.names c.args.session (cells.value_of w) c.args.event.now) verdict) c.values.ensures
    (c.in_ok-verdict.ensures.judged c.args.moment (subst (λ (w : CellValues). IsToday c.args.moment w.day) (sym c.values.ensures) c.look_for_event.ensures.cached.day)))
    c.end_event.ensures.cut
