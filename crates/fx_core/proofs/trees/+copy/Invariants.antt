use Rattle.std.proofs.Common.{◌≡◌, take}
use Rattle.fx_core.proofs.trees.+copy.Given as goal

abbrev pub invariant-CoreArgs::copy-loop-item : goal.invariant-CoreArgs::copy-loop-item
invariant-CoreArgs::copy-loop-item l = l.items.items ≡ take l.item-index l.self

abbrev pub invariant-CoreFields::copy-loop-name : goal.invariant-CoreFields::copy-loop-name
invariant-CoreFields::copy-loop-name l = l.items.items ≡ take l.name-index l.self
