use Rattle.number_bags.specs.Bags.{now_in, then_in}
use Rattle.row_books.proofs.Places.{AreMoved}
use Rattle.row_books.proofs.bag_lists.restore_all.Given as goal

abbrev pub invariant-loop-bag : goal.invariant-loop-bag
invariant-loop-bag l = AreMoved now_in then_in l.initial.bags l.bag-index l.bags
