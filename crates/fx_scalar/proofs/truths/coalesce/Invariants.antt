use Rattle.std.proofs.Common.{◌≡◌, drop}
use Rattle.fx_scalar.specs.Arguments.{views}
use Rattle.fx_scalar.specs.ScalarFunctions.{coalesced}
use Rattle.fx_scalar.proofs.truths.coalesce.Given as goal

abbrev pub invariant-loop-arg : goal.invariant-loop-arg
invariant-loop-arg l = coalesced (views (drop l.arg-index l.args)) ≡ coalesced (views l.args)
