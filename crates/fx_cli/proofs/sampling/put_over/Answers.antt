use Rattle.std.proofs.Common.{map}
use Rattle.app_wire.specs.Framing.{asked}
use Rattle.office.specs.State.{started}
use Rattle.numbered_requests.specs.Replies.{said}
use Rattle.fx_cli.proofs.Samples.{sampled_over}
use Rattle.fx_cli.proofs.sampling.put_over.Goals as goal

pub returns-clause-sampled : goal.returns-clause-sampled
returns-clause-sampled g c =
    let played = c.in_ok-played.played in
    sampled_over g.K.Keeper (map asked c.args.requests.now) (map said played.replies.items)
    (record { state = started c.args.app (g.K.Keeper.told c.args.keeper.now); marks = g.K.Keeper.marks c.args.keeper.now }) played.sessions c.play_over.new.keeper c.tell.new.keeper c.tell.result
    c.in_ok-played.ensures.played c.tell.ensures.cause.later c.tell.ensures.told
