use Rattle.std.proofs.Common.{◌≡◌, take}
use Rattle.fx_core.proofs.expr.+copy.Given as goal

abbrev pub invariant-Args::copy-loop-item : goal.invariant-Args::copy-loop-item
invariant-Args::copy-loop-item l = l.items.items ≡ take l.item-index l.self

abbrev pub invariant-Parts::copy-loop-name : goal.invariant-Parts::copy-loop-name
invariant-Parts::copy-loop-name l = l.items.items ≡ take l.name-index l.self
