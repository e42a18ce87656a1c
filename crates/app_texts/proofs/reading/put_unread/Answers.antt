use Rattle.std.proofs.Common.{[], ◌∷◌, refl, subst, ◌∙◌}
use Rattle.app_texts.specs.Texts.{IsToldOfText}
use Rattle.app_texts.proofs.ReadSteps.{formulas_words_plain}
use Rattle.app_texts.proofs.reading.put_unread.Goals as goal

pub returns-in_ok-push-in-Refused : goal.returns-in_ok-push-in-Refused
returns-in_ok-push-in-Refused c =
    let b = c.in-Refused.broken in
    record {
      more = b ∷ [];
      behind = c.in_ok-push-in-Refused.ensures.items;
      holds = (b, refl, subst (λ x. IsToldOfText x c.args.source.now c.args.end b) (c.in_ok-cell.ensures ∙ formulas_words_plain) c.in-Refused.ensures);
    }
