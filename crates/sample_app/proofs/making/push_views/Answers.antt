use Rattle.std.proofs.Common.{map}
use Rattle.app_wire.specs.Framing.{asked}
use Rattle.sample_app.specs.Sample.{view_request as views_of}
use Rattle.sample_app.proofs.Pushed.{more}
use Rattle.sample_app.proofs.making.push_views.Goals as goal

pub loop-before-preserved : goal.loop-before-preserved
loop-before-preserved c =
    more views_of (map asked c.args.all.now.items) (map asked c.loop-before.all.items) (map asked c.push_view.new.all.items) c.loop-before.before c.loop-before.invariant c.in_ok-push_view.ensures
