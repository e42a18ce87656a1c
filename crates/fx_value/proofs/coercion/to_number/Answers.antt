use Rattle.fx_value.proofs.Coercions.{stays_number}
use Rattle.fx_value.proofs.coercion.to_number.Goals as goal

pub returns-in_default : goal.returns-in_default
returns-in_default c =
    let s = stays_number c.args.v c.in_default.not-Boolean c.in_default.not-Text c.requires in
    record { value = s.0; fits = s.1 }
