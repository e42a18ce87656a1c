use Rattle.std.proofs.Common.{◌≡◌, ◌∙◌, ◌+◌, ap, arith, length}
use Rattle.fx_base.specs.Telling.{Stays}
use Rattle.fx_base.proofs.Silences.{goes_two, later_then}
use Rattle.row_requests.proofs.AnyKeepers.{may_break, may_end, may_step}
use Rattle.row_requests.specs.Steps.{said_of}
use Rattle.row_requests.proofs.Performing.{step_off, step_on}
use Rattle.row_requests.proofs.transaction.change_rows.Goals as goal

pub returns-in-Ok-Refused-clause-done : goal.returns-in-Ok-Refused-clause-done
returns-in-Ok-Refused-clause-done g c =
    let told = g.K.Keeper.told in
    let marks = g.K.Keeper.marks in
    let l = c.loop-change in
    step_off c.args.schema.now.tables c.args.changes.now l.at l.change-index l.ids c.change-item.result c.in-Ok-Refused.refusal c.in-Ok-Refused.field-0
    (marks c.args.keeper.now) (marks l.keeper) (marks c.change_one.new.keeper) (told c.args.keeper.now) (told l.keeper) (told c.change_one.new.keeper)
    l.invariant.at c.change-item.is c.loop-change-test.true c.in-Ok-Refused.field-0-is l.invariant.later c.in-Ok-Refused.ensures.cause.later l.invariant.goes c.in-Ok-Refused.ensures.done

pub loop-change-preserved : goal.loop-change-preserved
loop-change-preserved g c =
    let told = g.K.Keeper.told in
    let began = g.K.Keeper.began in
    let marks = g.K.Keeper.marks in
    let l = c.loop-change in
    record {
      at = ap (λ n. n + 1) l.invariant.at;
      goes = step_on c.args.schema.now.tables c.args.changes.now l.at l.change-index l.ids c.push.new.self c.change-item.result c.in-Ok-Id.id c.in-Ok-Id.field-0
          (marks c.args.keeper.now) (marks l.keeper) (marks c.change_one.new.keeper) (told c.args.keeper.now) (told l.keeper) (told c.change_one.new.keeper)
          l.invariant.at c.change-item.is c.loop-change-test.true c.in-Ok-Id.field-0-is c.in-Ok.ensures.ok l.invariant.later c.in-Ok-Id.ensures.cause.later l.invariant.goes c.in-Ok-Id.ensures.done;
      sound = c.in-Ok-Id.ensures.sound;
      may = may_step c.args.schema.now.tables c.args.changes.now l.at l.change-index l.ids c.push.new.self c.change-item.result c.in-Ok-Id.id c.in-Ok-Id.field-0
          l.invariant.at c.change-item.is c.loop-change-test.true (ap said_of c.in-Ok-Id.field-0-is) c.in-Ok.ensures.ok l.invariant.may c.in-Ok-Id.ensures.may;
      stays = goes_two Stays Stays Stays (λ a b d p q. q ∙ p) (marks c.args.keeper.now) (marks l.keeper) (marks c.change_one.new.keeper) l.invariant.later c.in-Ok-Id.ensures.cause.later
          (began c.args.keeper.now) (began l.keeper) (began c.change_one.new.keeper) l.invariant.stays c.in-Ok-Id.ensures.began;
      later = later_then (marks c.args.keeper.now) (marks l.keeper) (marks c.change_one.new.keeper) l.invariant.later c.in-Ok-Id.ensures.cause.later;
      begun = c.in-Ok-Id.ensures.open;
      shaped = c.in-Ok-Id.ensures.shaped ∙ l.invariant.shaped;
      loan = c.in-Ok-Id.ensures.loan ∙ l.invariant.loan;
    }

pub returns-in-Ok-Refused-clause-may : goal.returns-in-Ok-Refused-clause-may
returns-in-Ok-Refused-clause-may g c =
    let l = c.loop-change in
    may_break c.args.schema.now.tables c.args.changes.now l.at l.change-index l.ids c.change-item.result c.in-Ok-Refused.refusal c.in-Ok-Refused.field-0
    l.invariant.at c.change-item.is c.loop-change-test.true (ap said_of c.in-Ok-Refused.field-0-is) l.invariant.may c.in-Ok-Refused.ensures.may

pub returns-clause-may : goal.returns-clause-may
returns-clause-may g c =
    let l = c.loop-change in
    let all : l.change-index ≡ length c.args.changes.now = omega (arith, l.auto.change-index-end, c.loop-change-test.false) in
    may_end c.args.schema.now.tables c.args.changes.now l.change-index l.ids all l.invariant.may
