use Rattle.std.proofs.Common.{◌≡◌, ◌++◌, drop}
use Rattle.fx_udf.specs.Calling.{calls_from}
use Rattle.fx_udf.proofs.calls.calls_of.Given as goal

-- the calls so far, with those of the bodies that are left, are all
abbrev pub invariant-loop-number : goal.invariant-loop-number
invariant-loop-number l = l.calls.items ++ calls_from l.number (drop l.number l.bodies) ≡ calls_from 0 l.bodies
