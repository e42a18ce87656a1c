use Rattle.std.proofs.Common.{◌≡◌, ◌++◌}
use Rattle.app_names.proofs.declared_things.put_behind.Given as goal

abbrev pub invariant-loop-one : goal.invariant-loop-one
invariant-loop-one l = l.things.items ++ l.one-iterator.rest.items ≡ l.fn.things.items ++ l.fn.new.items
