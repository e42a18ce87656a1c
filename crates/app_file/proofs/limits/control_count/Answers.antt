use Rattle.std.proofs.Common.{◌∙◌}
use Rattle.app_file.proofs.Counting.{all_counted}
use Rattle.app_file.proofs.limits.control_count.Goals as goal

pub returns : goal.returns
returns c =
    c.len.ensures ∙ c.loop-screen.names.ok.0
    ∙ all_counted c.args.app.now c.as_slice-screen-items.result.now c.loop-screen.screen-index c.loop-screen.names.items c.as_slice-screen-items.ensures c.loop-screen-test.false c.loop-screen.invariant
