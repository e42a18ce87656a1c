use Rattle.fx_semantics.proofs.SingleRows.{Once}
use Rattle.fx_behave.proofs.CutOff.{performing_on}
use Rattle.fx_behave.proofs.laws.cuts_go_on.Goals as goal

pub returns : goal.returns
returns g c = λ f one t h x s u v a b.
    let once : Once = record {
      sums = c.sum_once.ensures;
      least = c.least_once.ensures;
      greatest = c.greatest_once.ensures;
      counts = c.count_once.ensures;
      counted = c.count_if_once.ensures;
      sorted = c.sort_once.ensures;
    } in
    performing_on (record { gives = g.W.World.gives; frame = f }) once one t h x s u v a b
