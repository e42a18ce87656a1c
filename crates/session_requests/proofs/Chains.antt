-- What is said of tables that may not be told any more.
use Rattle.std.proofs.Common.{Option, Some, None}
use Rattle.fx_base.specs.Silence.{MayFallSilent}
use Rattle.row_keeper.specs.Tables.{Tables}

-- what it says of all that are told
pub goes_as : (lost : Type 0) (P R : Tables → Tables → Type 0) → ((t u : Tables) → P t u → R t u) → (x y : Option Tables) → MayFallSilent lost P x y → MayFallSilent lost R x y
goes_as lost P R see None y h = h
goes_as lost P R see (Some t) None h = h
goes_as lost P R see (Some t) (Some u) h = see t u h
