use Rattle.std.proofs.Common.{◌≡◌, map, take}
use Rattle.fx_types.specs.ValueView.{view}
use Rattle.row_books.specs.Numbers.{numbers_of}
use Rattle.row_books.proofs.numbers.numbers_in.Given as goal

abbrev pub invariant-loop-value : goal.invariant-loop-value
invariant-loop-value l = l.numbers.items ≡ numbers_of (map view (take l.value-index l.values))
