use Rattle.session_state.proofs.CarriedControls.{fits_over}
use Rattle.session_state.proofs.laws.carried_over_fits.Goals as goal

pub returns : goal.returns
returns c = λ n m s some tables f. fits_over n m s some tables f
