use Rattle.std.proofs.Common.{◌≡◌, ◌++◌}
use Rattle.app_loader.proofs.infos.in_order.Given as goal

abbrev pub invariant-loop-thing : goal.invariant-loop-thing
invariant-loop-thing g l = l.all ++ l.thing-iterator.rest.items ≡ l.fn.things.items
