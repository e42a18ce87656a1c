use Rattle.std.proofs.Common.{arith, refl, subst, ◌∙◌}
use Rattle.number_bags.specs.Bags.{now_in, then_in}
use Rattle.row_books.specs.Numbers.{ChangesAt, IsPrepared, Stands, number_at}
use Rattle.row_books.proofs.BagLoops.{ready_all, ready_more, ready_none, same_length}
use Rattle.row_books.proofs.Places.{same_by}
use Rattle.row_books.proofs.bag_lists.prepare_all.Goals as goal

pub loop-place-init : goal.loop-place-init
loop-place-init c = (refl, refl, ready_none c.args.out.now c.args.bags.now)

pub prepare_at-requires : goal.prepare_at-requires
prepare_at-requires c =
    let e = same_length now_in c.loop-place.bags c.args.bags.now c.loop-place.invariant.0 in
    omega (arith, e, c.loop-place-test.true)

pub returns-in_err-prepare_at-clause-now : goal.returns-in_err-prepare_at-clause-now
returns-in_err-prepare_at-clause-now c =
    same_by now_in c.loop-place.place Stands c.loop-place.bags c.prepare_at.new.bags c.in_err-prepare_at.ensures.err (λ b d g. g.0) ∙ c.loop-place.invariant.0

pub returns-in_err-prepare_at-clause-then : goal.returns-in_err-prepare_at-clause-then
returns-in_err-prepare_at-clause-then c =
    same_by then_in c.loop-place.place Stands c.loop-place.bags c.prepare_at.new.bags c.in_err-prepare_at.ensures.err (λ b d g. g.1) ∙ c.loop-place.invariant.1

pub loop-place-preserved : goal.loop-place-preserved
loop-place-preserved c =
    let i = c.loop-place.place in
    let old = c.loop-place.bags in
    let new = c.prepare_at.new.bags in
    let h : ChangesAt i (IsPrepared (number_at c.args.out.now i)) old new = subst (λ o. ChangesAt i (IsPrepared o) old new) c.number_at.ensures c.in_ok-prepare_at.ensures.ok in
    let prepared = IsPrepared (number_at c.args.out.now i) in
    (same_by now_in i prepared old new h (λ b d g. g.0) ∙ c.loop-place.invariant.0, same_by then_in i prepared old new h (λ b d g. g.1) ∙ c.loop-place.invariant.1, ready_more c.args.out.now i old new h c.loop-place.invariant.2)

pub returns-clause-ready : goal.returns-clause-ready
returns-clause-ready c =
    let e = same_length now_in c.loop-place.bags c.args.bags.now c.loop-place.invariant.0 in
    ready_all c.args.out.now c.loop-place.place c.loop-place.bags (omega (arith, e, c.loop-place-test.false)) c.loop-place.invariant.2
