use Rattle.std.proofs.Common.{◌≡◌, take, map}
use Rattle.fx_scalar.specs.Arguments.{text_in, views}
use Rattle.fx_scalar.proofs.arguments.texts.Given as goal

abbrev pub invariant-loop-arg : goal.invariant-loop-arg
invariant-loop-arg l = l.texts.items ≡ map text_in (views (take l.arg-index l.args))
