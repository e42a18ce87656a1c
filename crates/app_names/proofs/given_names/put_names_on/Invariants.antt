use Rattle.std.proofs.Common.{◌≡◌, ◌++◌, drop, map}
use Rattle.fx_core.specs.declared.names.ControlName.{ControlName}
use Rattle.std.specs.Prelude.{nat_eq}
use Rattle.std.specs.List.{filter}
use Rattle.app_names.proofs.given_names.put_names_on.Given as goal

abbrev pub invariant-loop-control : goal.invariant-loop-control
invariant-loop-control l = l.names.items ++ map (λ (c : ControlName). c.name) (filter (λ (c : ControlName). nat_eq c.screen l.screen) (drop l.control-index l.frame.controls)) ≡ l.fn.names.items ++ map (λ (c : ControlName). c.name) (filter (λ (c : ControlName). nat_eq c.screen l.screen) l.frame.controls)
