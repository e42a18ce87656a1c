use Rattle.fx_value.proofs.Coercions.{stays_text}
use Rattle.fx_value.proofs.coercion.to_text.Goals as goal

pub returns-in_default : goal.returns-in_default
returns-in_default c =
    let s = stays_text c.args.v c.in_default.not-Number c.in_default.not-Boolean c.in_default.not-Date c.requires in
    record { value = s.0; fits = s.1 }
