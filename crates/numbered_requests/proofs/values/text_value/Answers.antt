use Rattle.std.proofs.Common.{◌∙◌}
use Rattle.numbered_requests.proofs.JsonValues.{of_other, of_text}
use Rattle.numbered_requests.proofs.values.text_value.Goals as goal

pub returns-in-Some : goal.returns-in-Some
returns-in-Some c = c.tagged_value.ensures ∙ of_text c.args.key.now c.in-Some.text.now _ c.in-Some.ensures

pub returns-in-None : goal.returns-in-None
returns-in-None c = of_other c.args.key.now _ c.in-None.ensures
