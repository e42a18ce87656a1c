use Rattle.std.proofs.Common.{◌∙◌, ◌+◌, ◌≤◌, [], subst, sym}
use Rattle.std.proofs.lemmas.Result.{on_ok_weaker}
use Rattle.std.specs.Prelude.{OnOk}
use Rattle.fx_scalar.specs.ScalarFunctions.{IsToday}
use Rattle.recalc.proofs.CellVisits.{no_visits}
use Rattle.recalc.specs.Visits.{VisitsPerCell, WhereTold}
use Rattle.row_keeper.specs.Tables.{rows_of_tables}
use Rattle.recalc.proofs.Freshening.{clean_fresh}
use Rattle.recalc.proofs.Leaving.{brought_left, left_same, left_then, made_left}
use Rattle.recalc.proofs.Turns.{leaves_start, no_ticks}
use Rattle.recalc.specs.Kept.{CacheState}
use Rattle.recalc.specs.Steps.{KeepsClean, OncePerCell}
use Rattle.recalc.proofs.cache.Cache.refresh.Goals as goal

pub returns-then-all_stand-clause-fresh : goal.returns-then-all_stand-clause-fresh
returns-then-all_stand-clause-fresh g c = λ right tables k heard root.
    clean_fresh c.args.app.now c.args.session.now tables c.args.moment c.args.self.now k (right tables heard) (c.all_stand.ensures c.if-all_stand.true k root)

pub returns-then-all_stand-clause-left : goal.returns-then-all_stand-clause-left
returns-then-all_stand-clause-left g c = λ room. leaves_start c.args.app.now c.args.self.now

pub returns-then-all_stand-clause-but : goal.returns-then-all_stand-clause-but
returns-then-all_stand-clause-but g c = left_same c.args.app.now [] c.args.self.now

pub returns-then-all_stand-clause-ticks : goal.returns-then-all_stand-clause-ticks
returns-then-all_stand-clause-ticks g c = λ room. no_ticks c.args.app.now c.args.roots.now c.args.self.now c.args.self.now c.args.steps.now

pub needs_of-requires-clause-order : goal.needs_of-requires-clause-order
needs_of-requires-clause-order g c = (c.make_numbers.ensures.numbers c.args.app.now).order c.requires.order

pub returns-in_err-marks-clause-order : goal.returns-in_err-marks-clause-order
returns-in_err-marks-clause-order g c = (c.make_numbers.ensures.numbers c.args.app.now).order c.requires.order

pub returns-in_err-marks-clause-right : goal.returns-in_err-marks-clause-right
returns-in_err-marks-clause-right g c = λ right tables heard. (c.make_numbers.ensures.numbers c.args.app.now).right c.args.session.now tables c.args.moment [] (right tables heard)

pub returns-in_err-marks-clause-day : goal.returns-in_err-marks-clause-day
returns-in_err-marks-clause-day g c = (c.make_numbers.ensures.numbers c.args.app.now).day

pub returns-in_err-marks-clause-left : goal.returns-in_err-marks-clause-left
returns-in_err-marks-clause-left g c = λ room.
    subst (λ (x : CacheState). KeepsClean c.args.app.now c.args.self.now x) (sym ((c.make_numbers.ensures.numbers c.args.app.now).same room)) (leaves_start c.args.app.now c.args.self.now)

pub returns-in_err-marks-clause-but : goal.returns-in_err-marks-clause-but
returns-in_err-marks-clause-but g c = made_left c.args.app.now c.args.self.now c.make_numbers.new.self (c.make_numbers.ensures.numbers c.args.app.now)

pub bring_all-requires-clause-order : goal.bring_all-requires-clause-order
bring_all-requires-clause-order g c = (c.make_numbers.ensures.numbers c.args.app.now).order c.requires.order

pub bring_all-requires-clause-day : goal.bring_all-requires-clause-day
bring_all-requires-clause-day g c = subst (IsToday c.args.moment) (sym (c.make_numbers.ensures.numbers c.args.app.now).day) c.requires.day

pub bring_all-requires-clause-room : goal.bring_all-requires-clause-room
bring_all-requires-clause-room g c = c.make_numbers.ensures.room

pub returns-clause-right : goal.returns-clause-right
returns-clause-right g c = λ right. c.bring_all.ensures.right (λ tables heard. (c.make_numbers.ensures.numbers c.args.app.now).right c.args.session.now tables c.args.moment [] (right tables heard))

pub returns-clause-day : goal.returns-clause-day
returns-clause-day g c = c.bring_all.ensures.left.day ∙ (c.make_numbers.ensures.numbers c.args.app.now).day

pub returns-clause-fresh : goal.returns-clause-fresh
returns-clause-fresh g c = λ right.
    let after = c.bring_all.ensures.right (λ tables heard. (c.make_numbers.ensures.numbers c.args.app.now).right c.args.session.now tables c.args.moment [] (right tables heard)) in
    on_ok_weaker c.bring_all.result (λ made tables k heard root. clean_fresh c.args.app.now c.args.session.now tables c.args.moment c.bring_all.new.self k (after tables heard) (made k root)) c.bring_all.ensures.made

pub returns-clause-left : goal.returns-clause-left
returns-clause-left g c = λ room. subst (λ (x : CacheState). KeepsClean c.args.app.now x c.bring_all.new.self) ((c.make_numbers.ensures.numbers c.args.app.now).same room) c.bring_all.ensures.left

pub returns-clause-ticks : goal.returns-clause-ticks
returns-clause-ticks g c = λ room.
    subst (λ (x : CacheState). OnOk c.bring_all.result (OncePerCell c.args.app.now c.args.roots.now x c.bring_all.new.self c.args.steps.now c.bring_all.new.steps)) ((c.make_numbers.ensures.numbers c.args.app.now).same room) c.bring_all.ensures.ticks

pub returns-clause-slow : goal.returns-clause-slow
returns-clause-slow g c = λ room.
    subst (λ (x : CacheState). OnOk c.bring_all.result (c.bring_all.new.self.last + c.args.steps.now ≤ x.last + c.bring_all.new.steps)) ((c.make_numbers.ensures.numbers c.args.app.now).same room) c.bring_all.ensures.slow

pub returns-clause-but : goal.returns-clause-but
returns-clause-but g c =
    left_then c.args.app.now [] c.args.self.now c.make_numbers.new.self c.bring_all.new.self
    (made_left c.args.app.now c.args.self.now c.make_numbers.new.self (c.make_numbers.ensures.numbers c.args.app.now)) (brought_left c.args.app.now c.make_numbers.new.self c.bring_all.new.self c.bring_all.ensures.left)

pub returns-then-all_stand-clause-visits : goal.returns-then-all_stand-clause-visits
returns-then-all_stand-clause-visits g c = λ right room t told.
    no_visits c.args.app.now c.args.session.now (rows_of_tables t.states) c.args.moment c.args.roots.now c.args.self.now c.args.steps.now (g.K.Keeper.visited c.args.keeper.now)

pub returns-clause-visits : goal.returns-clause-visits
returns-clause-visits g c = λ right room.
    let same = (c.make_numbers.ensures.numbers c.args.app.now).same room in
    subst (λ (x : CacheState). OnOk c.bring_all.result (WhereTold (g.K.Keeper.told c.bring_all.new.keeper) (λ rows.
    VisitsPerCell c.args.app.now c.args.session.now rows c.args.moment c.args.roots.now x c.bring_all.new.self c.args.steps.now c.bring_all.new.steps (g.K.Keeper.visited c.args.keeper.now) (g.K.Keeper.visited c.bring_all.new.keeper)))) same
    (c.bring_all.ensures.visits (λ tables heard. (c.make_numbers.ensures.numbers c.args.app.now).right c.args.session.now tables c.args.moment [] (right tables heard)))
