use Rattle.fx_typing.proofs.Elaborates.{elaborated_is_admitted, whole_is_admitted}
use Rattle.fx_typing.proofs.relation.elaborated_is_admitted.Goals as goal

pub returns-clause-node : goal.returns-clause-node
returns-clause-node c = elaborated_is_admitted

pub returns-clause-whole : goal.returns-clause-whole
returns-clause-whole c = whole_is_admitted
