use Rattle.csv_requests.proofs.GoingIn.{goes_in}
use Rattle.csv_requests.proofs.laws.batches_go_in.Goals as goal

pub returns : goal.returns
returns c = goes_in c.compare_is_total.ensures.total
