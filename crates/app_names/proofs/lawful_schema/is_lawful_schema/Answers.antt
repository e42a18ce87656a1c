use Rattle.std.proofs.Common.{sym, ◌∙◌}
use Rattle.app_names.proofs.Tested.{schema_right}
use Rattle.app_names.proofs.lawful_schema.is_lawful_schema.Goals as goal

pub returns : goal.returns
returns c =
    let right = schema_right c.args.schema.now in
    ((λ h. right.0 (sym c.is_schema.ensures ∙ h)), (λ h. c.is_schema.ensures ∙ right.1 h))
