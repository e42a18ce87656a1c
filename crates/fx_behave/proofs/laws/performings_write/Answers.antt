use Rattle.fx_behave.proofs.WritesAll.{performing_writes}
use Rattle.fx_behave.proofs.laws.performings_write.Goals as goal

pub returns : goal.returns
returns g c = λ f t h x s u p. performing_writes (record { gives = g.W.World.gives; frame = f }) t h x s u p
