use Rattle.fx_tables.specs.RowCalls.{IsTableBy}
use Rattle.fx_tables.proofs.OneAnswers.{one_or_error, one_table}
use Rattle.fx_tables.proofs.laws.sort_once.Goals as goal

pub returns : goal.returns
returns c = λ down rows keys a b h k. one_or_error keys (IsTableBy down keys rows) (one_table c.ordered_once.ensures down keys rows) a b h k
