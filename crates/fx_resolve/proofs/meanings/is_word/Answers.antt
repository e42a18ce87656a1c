use Rattle.std.proofs.Common.{◌∙◌}
use Rattle.fx_resolve.proofs.Spelled.{spells_word}
use Rattle.fx_resolve.proofs.meanings.is_word.Goals as goal

pub returns : goal.returns
returns c =
    c.eq.ensures
    ∙ spells_word c.as_str.result.now c.args.name.now c.args.word.now c.as_str.ensures.bytes c.as_str.ensures.scalars c.requires
