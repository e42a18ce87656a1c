use Rattle.std.proofs.Common.{ap}
use Rattle.fx_semantics.proofs.SingleRows.{Once}
use Rattle.fx_behave.proofs.SingleAll.{one_performing}
use Rattle.fx_behave.proofs.laws.one_performing.Goals as goal

pub returns : goal.returns
returns g c = λ f one t h x y s a b p q.
    let once : Once = record {
      sums = c.sum_once.ensures;
      least = c.least_once.ensures;
      greatest = c.greatest_once.ensures;
      counts = c.count_once.ensures;
      counted = c.count_if_once.ensures;
      sorted = c.sort_once.ensures;
    } in
    let same = one_performing (record { gives = g.W.World.gives; frame = f }) once one t h s x y a b p q in
    (ap (λ o. o.0) same, ap (λ o. o.1) same)
