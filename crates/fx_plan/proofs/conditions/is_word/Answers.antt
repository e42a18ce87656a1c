use Rattle.std.proofs.Common.{◌∙◌}
use Rattle.fx_core.proofs.Spelled.{spells_word}
use Rattle.fx_plan.proofs.conditions.is_word.Goals as goal

pub returns : goal.returns
returns c =
    c.eq.ensures
    ∙ spells_word c.as_str.result.now c.args.name.now c.args.word.now c.as_str.ensures.bytes c.as_str.ensures.scalars c.requires
