use Rattle.std.proofs.Common.{◌∙◌, ap, sym}
use Rattle.row_keeper.specs.declared.rows.RowRule.TheVariants as rule
use Rattle.app_moves.specs.Refusals.{row_word}
use Rattle.app_moves.proofs.Words.{name_is}
use Rattle.app_moves.proofs.refusals.row_word.Goals as goal

pub returns-in-Required : goal.returns-in-Required
returns-in-Required c = name_is rule.Required ∙ sym (ap row_word c.in-Required.is)

pub returns-in-Unique : goal.returns-in-Unique
returns-in-Unique c = name_is rule.Unique ∙ sym (ap row_word c.in-Unique.is)

pub returns-in-Size : goal.returns-in-Size
returns-in-Size c = name_is rule.Size ∙ sym (ap row_word c.in-Size.is)

pub returns-in-Full : goal.returns-in-Full
returns-in-Full c = name_is rule.Full ∙ sym (ap row_word c.in-Full.is)
