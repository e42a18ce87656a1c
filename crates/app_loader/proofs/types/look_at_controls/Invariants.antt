use Rattle.std.proofs.Common.{All, take}
use Rattle.fx_types.specs.TypeView.{shape}
use Rattle.fx_semantics.specs.Sound.{IsLawfulType}
use Rattle.fx_core.specs.declared.names.ControlName.{ControlName}
use Rattle.app_loader.proofs.types.look_at_controls.Given as goal

abbrev pub invariant-loop-control : goal.invariant-loop-control
invariant-loop-control l = All (λ (x : ControlName). IsLawfulType (shape x.items)) (take l.control-index l.controls)
