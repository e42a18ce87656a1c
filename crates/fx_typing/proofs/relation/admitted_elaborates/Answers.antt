use Rattle.fx_typing.proofs.Elaborates.{admitted_elaborates, whole_elaborates}
use Rattle.fx_typing.proofs.relation.admitted_elaborates.Goals as goal

pub returns-clause-node : goal.returns-clause-node
returns-clause-node c = admitted_elaborates

pub returns-clause-whole : goal.returns-clause-whole
returns-clause-whole c = whole_elaborates
