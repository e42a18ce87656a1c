use Rattle.fx_typing.proofs.Elaborates.{broken_is_nothing, whole_is_nothing}
use Rattle.fx_typing.proofs.relation.broken_elaborates_nothing.Goals as goal

pub returns-clause-node : goal.returns-clause-node
returns-clause-node c = broken_is_nothing

pub returns-clause-whole : goal.returns-clause-whole
returns-clause-whole c = whole_is_nothing
