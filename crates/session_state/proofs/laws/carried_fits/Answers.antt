use Rattle.session_state.proofs.Carried.{fits_carried}
use Rattle.session_state.proofs.laws.carried_fits.Goals as goal

pub returns : goal.returns
returns c = λ n m s alike tables f. fits_carried n m s alike tables f
