use Rattle.std.proofs.Common.{◌≡◌, take}
use Rattle.fx_types.proofs.values.+copy.Given as goal

abbrev pub invariant-Fields::copy-loop-name : goal.invariant-Fields::copy-loop-name
invariant-Fields::copy-loop-name l = l.items.items ≡ take l.name-index l.name-items

abbrev pub invariant-Rows::copy-loop-row : goal.invariant-Rows::copy-loop-row
invariant-Rows::copy-loop-row l = l.items.items ≡ take l.row-index l.row-items
