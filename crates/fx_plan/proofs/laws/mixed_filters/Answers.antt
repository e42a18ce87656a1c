use Rattle.fx_plan.proofs.Limiting.{mixed_are_taken}
use Rattle.fx_plan.proofs.MixedFilters.{queries_are_unmixed, splits_are_queries}
use Rattle.fx_plan.proofs.laws.mixed_filters.Goals as goal

pub returns-clause-queries : goal.returns-clause-queries
returns-clause-queries c = splits_are_queries

pub returns-clause-unmixed : goal.returns-clause-unmixed
returns-clause-unmixed c = queries_are_unmixed

pub returns-clause-taken : goal.returns-clause-taken
returns-clause-taken c = mixed_are_taken
