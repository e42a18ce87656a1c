use Rattle.std.proofs.Common.{subst}
use Rattle.fx_base.specs.Silence.{SilenceCause}
use Rattle.fx_base.proofs.Silences.{goes_weaker}
use Rattle.row_keeper.specs.Changes.{CountsQuery}
use Rattle.sample_app.specs.Counts.{HasRowCount}
use Rattle.sample_app.proofs.Counted.{counts_rows}
use Rattle.sample_app.proofs.counting.count_first.Goals as goal

pub returns-in-Ok-clause-counted : goal.returns-in-Ok-clause-counted
returns-in-Ok-clause-counted g c =
    goes_weaker (SilenceCause (g.K.Keeper.marks c.args.keeper.now) (g.K.Keeper.marks c.count.new.self)) (CountsQuery c.in_ok-query.query c.in-Ok.count) (HasRowCount c.in-Ok.count)
    (λ a b h. counts_rows c.in-Ok.count a b (subst (λ q. CountsQuery q c.in-Ok.count a b) c.in_ok-query.ensures h))
    (g.K.Keeper.told c.args.keeper.now) (g.K.Keeper.told c.count.new.self) c.in-Ok.ensures.number
