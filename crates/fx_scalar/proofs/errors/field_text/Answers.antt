use Rattle.std.proofs.Common.{refl}
use Rattle.fx_types.specs.ValueView.{view}
use Rattle.fx_scalar.proofs.ErrorLemmas.{none_found, value_found}
use Rattle.fx_scalar.proofs.errors.field_text.Goals as goal

pub returns-in-Some : goal.returns-in-Some
returns-in-Some c = rw (value_found c.args.name.now c.args.fields.now (view c.in-Some.value.now) c.in-Some.ensures) c.as_text.ensures

pub returns-in-None : goal.returns-in-None
returns-in-None c = rw (none_found c.args.name.now c.args.fields.now c.in-None.ensures) refl
