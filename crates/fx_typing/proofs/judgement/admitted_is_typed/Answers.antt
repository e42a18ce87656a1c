use Rattle.fx_typing.proofs.Whole.{admitted_typed, admitted_wanted}
use Rattle.fx_typing.proofs.judgement.admitted_is_typed.Goals as goal

pub returns-clause-typed : goal.returns-clause-typed
returns-clause-typed c = admitted_typed

pub returns-clause-wanted : goal.returns-clause-wanted
returns-clause-wanted c = admitted_wanted
