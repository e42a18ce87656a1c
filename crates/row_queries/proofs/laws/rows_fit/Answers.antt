use Rattle.row_queries.proofs.Fitting.{all_fit}
use Rattle.row_queries.proofs.laws.rows_fit.Goals as goal

pub returns : goal.returns
returns c = all_fit
