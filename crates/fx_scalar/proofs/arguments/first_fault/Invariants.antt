use Rattle.std.proofs.Common.{◌≡◌, drop}
use Rattle.fx_scalar.specs.Arguments.{first_fault, views}
use Rattle.fx_scalar.proofs.arguments.first_fault.Given as goal

abbrev pub invariant-loop-arg : goal.invariant-loop-arg
invariant-loop-arg l = first_fault (views (drop l.arg-index l.args)) ≡ first_fault (views l.args)
