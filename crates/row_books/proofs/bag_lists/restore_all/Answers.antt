use Rattle.std.proofs.Common.{ap, map, refl, sym, ◌∙◌}
use Rattle.std.specs.Prelude.{slice_get}
use Rattle.number_bags.specs.Bags.{now_in, then_in}
use Rattle.row_books.proofs.Places.{moved_all, moved_more, upto_none}
use Rattle.row_books.proofs.bag_lists.restore_all.Goals as goal

pub loop-bag-init : goal.loop-bag-init
loop-bag-init c = (upto_none now_in (λ k. slice_get (map then_in c.args.bags.now) k) c.args.bags.now, refl)

pub loop-bag-preserved : goal.loop-bag-preserved
loop-bag-preserved c =
    moved_more now_in then_in c.args.bags.now c.loop-bag.bag-index c.loop-bag.bags c.restore.new.self c.bag-item.result c.loop-bag-test.true c.loop-bag.invariant c.bag-item.is (c.restore.ensures.now ∙ ap then_in (sym c.bag-item.is)) (c.restore.ensures.then ∙ ap then_in (sym c.bag-item.is))

pub returns-clause-now : goal.returns-clause-now
returns-clause-now c = moved_all now_in then_in c.args.bags.now c.loop-bag.bag-index c.loop-bag.bags c.loop-bag-test.false c.loop-bag.invariant
