use Rattle.std.proofs.Common.{◌∙◌, List, Option, [], ℕ, ap, sym}
use Rattle.std.specs.Prelude.{unwrap_or}
use Rattle.app_moves.proofs.Words.{empty_is}
use Rattle.app_moves.proofs.refusals.column_given.Goals as goal

pub returns-in-None : goal.returns-in-None
returns-in-None c = empty_is ∙ sym (ap (λ (o : Option (List ℕ)). unwrap_or o []) c.in-None.is)
