use Rattle.std.proofs.Common.{◌≡◌, ◌++◌, drop, map}
use Rattle.fx_core.specs.declared.names.ControlName.{ControlName}
use Rattle.app_names.proofs.given_names.put_control_names.Given as goal

abbrev pub invariant-loop-control : goal.invariant-loop-control
invariant-loop-control l = l.names.items ++ map (λ (c : ControlName). c.name) (drop l.control-index l.frame.controls) ≡ l.fn.names.items ++ map (λ (c : ControlName). c.name) l.frame.controls
