use Rattle.fx_value.proofs.Coercions.{stays_boolean}
use Rattle.fx_value.proofs.coercion.to_boolean.Goals as goal

pub returns-in_default : goal.returns-in_default
returns-in_default c =
    let s = stays_boolean c.args.v c.in_default.not-Number c.requires in
    record { value = s.0; fits = s.1 }
