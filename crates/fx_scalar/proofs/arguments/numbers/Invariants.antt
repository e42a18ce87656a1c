use Rattle.std.proofs.Common.{◌≡◌, take, map}
use Rattle.fx_scalar.specs.Arguments.{maybe_number, views}
use Rattle.fx_scalar.proofs.arguments.numbers.Given as goal

abbrev pub invariant-loop-arg : goal.invariant-loop-arg
invariant-loop-arg l = l.numbers.items ≡ map maybe_number (views (take l.arg-index l.args))
