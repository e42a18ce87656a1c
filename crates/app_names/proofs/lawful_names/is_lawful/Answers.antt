use Rattle.std.proofs.Common.{sym, ◌∙◌}
use Rattle.app_names.proofs.Tested.{names_right}
use Rattle.app_names.proofs.lawful_names.is_lawful.Goals as goal

pub returns : goal.returns
returns c =
    let right = names_right c.args.names.now in
    ((λ h. right.0 (sym c.are_lawful.ensures ∙ h)), (λ h. c.are_lawful.ensures ∙ right.1 h))
