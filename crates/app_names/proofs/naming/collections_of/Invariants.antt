use Rattle.std.proofs.Common.{◌≡◌, ◌++◌, drop, map}
use Rattle.app_names.specs.AppNames.{collections_among}
use Rattle.app_names.proofs.naming.collections_of.Given as goal

abbrev pub invariant-loop-one : goal.invariant-loop-one
invariant-loop-one l = l.collections ++ collections_among (drop l.one-index l.things) ≡ collections_among l.things
