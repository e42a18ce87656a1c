use Rattle.fx_infer.proofs.Levels.{trees_no_deeper, entries_no_deeper}
use Rattle.fx_infer.proofs.depths.no_deeper.Goals as goal

pub returns-clause-formula : goal.returns-clause-formula
returns-clause-formula c = trees_no_deeper

pub returns-clause-named : goal.returns-clause-named
returns-clause-named c = entries_no_deeper
