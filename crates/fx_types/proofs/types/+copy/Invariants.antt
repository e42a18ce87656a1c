use Rattle.std.proofs.Common.{◌≡◌, take}
use Rattle.fx_types.proofs.types.+copy.Given as goal

abbrev pub invariant-Columns::copy-loop-name : goal.invariant-Columns::copy-loop-name
invariant-Columns::copy-loop-name l = l.items.items ≡ take l.name-index l.name-items
