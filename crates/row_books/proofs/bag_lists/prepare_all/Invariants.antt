use Rattle.std.proofs.Common.{◌≡◌, map}
use Rattle.number_bags.specs.Bags.{now_in, then_in}
use Rattle.row_books.proofs.BagLoops.{AreReadyUpTo}
use Rattle.row_books.proofs.bag_lists.prepare_all.Given as goal

abbrev pub invariant-loop-place : goal.invariant-loop-place
invariant-loop-place l = (map now_in l.bags ≡ map now_in l.initial.bags) × (map then_in l.bags ≡ map then_in l.initial.bags) × AreReadyUpTo l.out l.place l.bags
