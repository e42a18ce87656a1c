use Rattle.std.proofs.Common.{◌≡◌, ◌++◌, drop, map}
use Rattle.app_names.specs.AppNames.{variables_among}
use Rattle.app_names.proofs.naming.variables_of.Given as goal

abbrev pub invariant-loop-one : goal.invariant-loop-one
invariant-loop-one l = l.variables ++ variables_among (drop l.one-index l.things) ≡ variables_among l.things
