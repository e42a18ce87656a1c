use Rattle.std.proofs.Common.{ap, map, refl, sym, ◌∙◌}
use Rattle.std.specs.Prelude.{slice_get}
use Rattle.number_bags.specs.Bags.{now_in, then_in}
use Rattle.row_books.proofs.Places.{moved_all, moved_more, upto_none}
use Rattle.row_books.proofs.bag_lists.settle_all.Goals as goal

pub loop-bag-init : goal.loop-bag-init
loop-bag-init c = (upto_none then_in (λ k. slice_get (map now_in c.args.bags.now) k) c.args.bags.now, refl)

pub loop-bag-preserved : goal.loop-bag-preserved
loop-bag-preserved c =
    moved_more then_in now_in c.args.bags.now c.loop-bag.bag-index c.loop-bag.bags c.settle.new.self c.bag-item.result c.loop-bag-test.true c.loop-bag.invariant c.bag-item.is (c.settle.ensures.then ∙ ap now_in (sym c.bag-item.is)) (c.settle.ensures.now ∙ ap now_in (sym c.bag-item.is))

pub returns-clause-then : goal.returns-clause-then
returns-clause-then c = moved_all then_in now_in c.args.bags.now c.loop-bag.bag-index c.loop-bag.bags c.loop-bag-test.false c.loop-bag.invariant
