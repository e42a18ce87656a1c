use Rattle.std.proofs.Common.{◌≡◌, true, length, refl, subst, sym, rules, arith}
use Rattle.fx_base.specs.Faults.{Rose}
use Rattle.fx_base.specs.Telling.{Tells}
use Rattle.fx_base.proofs.Chains.{told}
use Rattle.app_wire.specs.Doorway.{Closes, NextComes}
use Rattle.office.proofs.Plays.{three}
use Rattle.office.specs.Answers.{Converses, IsAnswerCount}
use Rattle.fx_cli.specs.Conversations.{Conversation, office_at}
use Rattle.fx_cli.proofs.Replays.{sends_one}
use Rattle.fx_cli.proofs.replay.hold_next.Goals as goal

pub returns-clause-held : goal.returns-clause-held
returns-clause-held g c =
    let tells = g.D.Doors.told in
    let single = g.D.Doors.single c.args.doors.now in
    let talked = c.converse-end.ensures.talked in
    let more : c.in_ok-next.field-0 ≡ true = search rules in
    let came = subst (λ m. Tells (NextComes m) (tells c.args.doors.now) (tells c.next.new.self)) more (told (NextComes c.in_ok-next.field-0) _ _ c.in_ok-next.ensures.ok) in
    let closed = told Closes (tells c.converse-end.new.doors) (tells c.hang_up.new.self) c.hang_up.ensures.told in
    let conversation : Conversation = record {
      exchanges = talked.0;
      end = c.converse-end.result;
      office = office_at c.converse-end.new.self;
      before = g.D.Doors.faults c.next.new.self;
      after = g.D.Doors.faults c.hang_up.new.self;
    } in
    record {
      conversation = conversation;
      ended = refl;
      left = refl;
      counted = refl;
      held = record {
        plays = talked.2;
        few = subst (λ one. IsAnswerCount conversation.end one (length conversation.exchanges)) c.in_ok-next.ensures.single talked.3;
        since = c.in_ok-next.ensures.cause.later;
        later = omega (arith, c.converse-end.ensures.later, c.hang_up.ensures.faults);
        cause = λ e. subst (Rose conversation.before) (sym c.hang_up.ensures.faults) (c.converse-end.ensures.cause e);
      };
      ticks = talked.1;
      told = three (sends_one single conversation) came
          (subst (λ one. Tells (Converses one conversation.end conversation.exchanges) (tells c.next.new.self) (tells c.converse-end.new.doors)) c.in_ok-next.ensures.single talked.4) closed;
    }
