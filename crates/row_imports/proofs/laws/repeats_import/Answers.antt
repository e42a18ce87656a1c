use Rattle.row_imports.proofs.Repeats.{repeats}
use Rattle.row_imports.proofs.laws.repeats_import.Goals as goal

pub returns : goal.returns
returns c = repeats c.compare_is_total.ensures.total
