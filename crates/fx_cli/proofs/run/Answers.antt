use Rattle.std.proofs.Common.{sym, ◌∙◌}
use Rattle.fx_cli.specs.Outside.{outside, sight}
use Rattle.fx_cli.proofs.Completed.{completes, sample_completes}
use Rattle.fx_cli.proofs.run.Goals as goal

pub returns-in-Some-clause-complete : goal.returns-in-Some-clause-complete
returns-in-Some-clause-complete g c =
    let done = c.run_sample.ensures.sampled in
    sample_completes (sight g.D.Doors g.K.Keeper g.F.Files g.O.Sink g.C.Clock) c.args.words.now
    (outside c.args.doors.now c.args.keeper.now c.args.files.now c.args.out.now c.args.clock.now)
    (outside c.args.doors.now c.run_sample.new.keeper c.args.files.now c.run_sample.new.out c.args.clock.now)
    c.in-Some.n done.0 c.run_sample.result.0 (sym c.sample_of.ensures.number ∙ c.in-Some.is) done.1 done.2

pub returns-in-None-clause-complete : goal.returns-in-None-clause-complete
returns-in-None-clause-complete g c =
    completes (sight g.D.Doors g.K.Keeper g.F.Files g.O.Sink g.C.Clock) c.args.words.now
    (outside c.args.doors.now c.args.keeper.now c.args.files.now c.args.out.now c.args.clock.now)
    (outside c.run_words.new.doors c.run_words.new.keeper c.run_words.new.files c.run_words.new.out c.run_words.new.clock)
    c.run_words.result.0 c.run_words.ensures.run
