use Rattle.std.proofs.Common.{◌≡◌, map}
use Rattle.number_bags.specs.Bags.{now_in, then_in}
use Rattle.row_books.proofs.BagLoops.{AreReadyFrom, carried}
use Rattle.row_books.proofs.Places.{AreUpTo}
use Rattle.row_books.proofs.bag_lists.carry_all.Given as goal

abbrev pub invariant-loop-place : goal.invariant-loop-place
invariant-loop-place l = AreUpTo now_in (carried l.out l.put l.initial.bags) l.initial.bags l.place l.bags × (map then_in l.bags ≡ map then_in l.initial.bags) × AreReadyFrom l.out l.place l.bags
