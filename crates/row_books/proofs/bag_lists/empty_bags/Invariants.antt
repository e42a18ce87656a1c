use Rattle.std.proofs.Common.{◌≡◌, length, map}
use Rattle.number_bags.specs.Bags.{now_in}
use Rattle.row_books.specs.Numbers.{AreEmpty}
use Rattle.row_books.proofs.bag_lists.empty_bags.Given as goal

abbrev pub invariant-loop : goal.invariant-loop
invariant-loop l = AreEmpty (map now_in l.bags.items) × (length l.bags.items ≡ l.counter)
