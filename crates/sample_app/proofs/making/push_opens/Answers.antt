use Rattle.std.proofs.Common.{map}
use Rattle.app_wire.specs.Framing.{asked}
use Rattle.sample_app.specs.Sample.{open_request as opens_of}
use Rattle.sample_app.proofs.Pushed.{more}
use Rattle.sample_app.proofs.making.push_opens.Goals as goal

pub loop-before-preserved : goal.loop-before-preserved
loop-before-preserved c =
    more opens_of (map asked c.args.all.now.items) (map asked c.loop-before.all.items) (map asked c.push_open.new.all.items) c.loop-before.before c.loop-before.invariant c.in_ok-push_open.ensures
