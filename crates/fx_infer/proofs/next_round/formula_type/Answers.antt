use Rattle.std.proofs.Common.{Err, ap, sym, ◌∙◌}
use Rattle.fx_typing.specs.Rounds as rounds
use Rattle.fx_infer.proofs.next_round.formula_type.Goals as goal

pub returns-in-Err-Broken : goal.returns-in-Err-Broken
returns-in-Err-Broken c =
    sym (ap rounds.type_or_blank (c.elaborate_alone.ensures.broken c.in-Err-Broken.field-0-0 (c.in-Err-Broken.is ∙ ap Err c.in-Err-Broken.field-0-is)))
