use Rattle.std.proofs.Common.{◌≡◌, ◌++◌, drop, length, map}
use Rattle.app_file.specs.declared.file.ControlShape.{ControlShape}
use Rattle.app_file.proofs.limits.put_control_names.Given as goal

abbrev pub invariant-loop-control : goal.invariant-loop-control
invariant-loop-control l =
    l.counts.items ++ map length (map (λ (c : ControlShape). c.name) (drop l.control-index l.control-items))
    ≡ l.fn.counts.items ++ map length (map (λ (c : ControlShape). c.name) l.control-items)
