use Rattle.fx_cli.specs.Outside.{outside, sight}
use Rattle.fx_cli.proofs.Runs.{ran, served_app}
use Rattle.fx_cli.proofs.run_words.Goals as goal

pub returns-clause-headline : goal.returns-clause-headline
returns-clause-headline g c = λ zero serve.
    served_app (sight g.D.Doors g.K.Keeper g.F.Files g.O.Sink g.C.Clock) c.args.words.now
    (outside c.args.doors.now c.args.keeper.now c.args.files.now c.args.out.now c.args.clock.now)
    (outside c.carry_out-report.new.doors c.carry_out-report.new.keeper c.carry_out-report.new.files c.say.new.out c.carry_out-report.new.clock)
    c.carry_out-report.result c.say.result.0 c.carry_out-report.ensures.reports c.say.ensures.said zero serve

pub returns-clause-run : goal.returns-clause-run
returns-clause-run g c =
    ran (sight g.D.Doors g.K.Keeper g.F.Files g.O.Sink g.C.Clock) c.args.words.now
    (outside c.args.doors.now c.args.keeper.now c.args.files.now c.args.out.now c.args.clock.now)
    (outside c.carry_out-report.new.doors c.carry_out-report.new.keeper c.carry_out-report.new.files c.say.new.out c.carry_out-report.new.clock)
    c.one_verdict.ensures c.one_app.ensures c.carry_out-report.result c.say.result.0 c.requires.files
    c.carry_out-report.ensures.reports c.carry_out-report.ensures.leaves c.say.ensures.said c.carry_out-report.ensures.told
    (record { files = c.carry_out-report.ensures.later; doors = c.carry_out-report.ensures.doors_later; keeper = c.carry_out-report.ensures.keeper_later; out = c.say.ensures.later })
