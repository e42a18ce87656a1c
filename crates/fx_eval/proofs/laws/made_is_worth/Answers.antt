use Rattle.std.proofs.Common.{refl}
use Rattle.fx_semantics.specs.Fresh.{meaning, meanings}
use Rattle.fx_semantics.specs.Rows.{rows_in}
use Rattle.fx_eval.proofs.Made.{over_error, over_made}
use Rattle.fx_eval.specs.Laws.{standing_in}
use Rattle.fx_core.specs.Term.{over}
use Rattle.fx_eval.proofs.laws.made_is_worth.Goals as goal

pub returns-clause-made : goal.returns-clause-made
returns-clause-made c = λ types told rows item caught f t ts n d gs v p e q k m.
    over_made f (over f) n 1 (meaning t) (meanings ts) (standing_in types told rows item caught) d (rows_in d) gs v p e refl q k m

pub returns-clause-error : goal.returns-clause-error
returns-clause-error c = λ types told rows item caught f t ts k cs p.
    over_error f (meaning t) (meanings ts) (standing_in types told rows item caught) k cs p
