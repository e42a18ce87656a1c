use Rattle.std.proofs.Common.{◌∙◌, ap, codes, refl, sym}
use Rattle.app_moves.specs.Refusals.{word}
use Rattle.app_moves.proofs.Words.{plain}
use Rattle.app_moves.proofs.refusals.word.Goals as goal

pub returns-in-Moves : goal.returns-in-Moves
returns-in-Moves c = plain (codes "move") refl ∙ sym (ap word c.in-Moves.is)

pub returns-in-Types : goal.returns-in-Types
returns-in-Types c = plain (codes "type") refl ∙ sym (ap word c.in-Types.is)
