use Rattle.std.proofs.Common.{refl}
use Rattle.fx_types.specs.Types.{texts}
use Rattle.fx_scalar.proofs.numbers.value.Goals as goal

pub coerce-requires : goal.coerce-requires
coerce-requires c = record { from = texts; fitting = refl; coercion = tt }
