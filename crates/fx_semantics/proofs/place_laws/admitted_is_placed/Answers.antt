use Rattle.fx_semantics.proofs.Placed.{whole_placed}
use Rattle.fx_semantics.proofs.place_laws.admitted_is_placed.Goals as goal

pub returns : goal.returns
returns c = whole_placed
