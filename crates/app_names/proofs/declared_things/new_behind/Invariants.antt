use Rattle.std.proofs.Common.{◌≡◌, ◌++◌}
use Rattle.app_names.specs.Declarations.{new_behind}
use Rattle.app_names.proofs.declared_things.new_behind.Given as goal

abbrev pub invariant-loop-one : goal.invariant-loop-one
invariant-loop-one l = l.new.items ++ new_behind (l.before ++ l.new.items) l.one-iterator.rest.items ≡ new_behind l.before l.fn.all.items
