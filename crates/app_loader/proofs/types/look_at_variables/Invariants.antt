use Rattle.std.proofs.Common.{All, take}
use Rattle.fx_types.specs.TypeView.{shape}
use Rattle.fx_semantics.specs.Sound.{IsLawfulType}
use Rattle.fx_core.specs.declared.names.Variable.{Variable}
use Rattle.app_loader.proofs.types.look_at_variables.Given as goal

abbrev pub invariant-loop-variable : goal.invariant-loop-variable
invariant-loop-variable l = All (λ (x : Variable). IsLawfulType (shape x.ty)) (take l.variable-index l.variables)
