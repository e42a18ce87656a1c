use Rattle.std.proofs.Common.{arith, refl, subst, sym, ◌∙◌}
use Rattle.std.specs.Prelude.{IsSomeAnd, slice_get}
use Rattle.number_bags.specs.Bags.{IsReady, now_in, then_in}
use Rattle.number_bags.specs.declared.bags.NumberBag.{NumberBag}
use Rattle.row_books.specs.Numbers.{ChangesAt, IsCarried, number_at}
use Rattle.row_books.proofs.BagLoops.{carried, carried_all, carried_more, ready_past, ready_there, same_length}
use Rattle.row_books.proofs.Places.{same_by, upto_none}
use Rattle.row_books.proofs.bag_lists.carry_all.Goals as goal

pub loop-place-init : goal.loop-place-init
loop-place-init c = (upto_none now_in (carried c.args.out.now c.args.put.now c.args.bags.now) c.args.bags.now, refl, λ k b l e. c.requires k b e)

pub carry_at-requires : goal.carry_at-requires
carry_at-requires c =
    let e = same_length then_in c.loop-place.bags c.args.bags.now c.loop-place.invariant.1 in
    let l = ready_there c.args.out.now c.loop-place.place c.loop-place.bags (omega (arith, e, c.loop-place-test.true)) c.loop-place.invariant.2 in
    subst (λ o. IsSomeAnd (slice_get c.loop-place.bags c.loop-place.place) (λ (b : NumberBag). IsReady b o)) (sym c.number_at.ensures) l

pub loop-place-preserved : goal.loop-place-preserved
loop-place-preserved c =
    let i = c.loop-place.place in
    let old = c.loop-place.bags in
    let new = c.carry_at.new.bags in
    let goes = IsCarried (number_at c.args.out.now i) (number_at c.args.put.now i) in
    let h : ChangesAt i goes old new = subst (λ o. ChangesAt i (IsCarried o (number_at c.args.put.now i)) old new) c.number_at.ensures (subst (λ p. ChangesAt i (IsCarried c.number_at.result p) old new) c.number_at-in-loop-place.ensures c.carry_at.ensures) in
    (carried_more c.args.out.now c.args.put.now c.args.bags.now i old new h c.loop-place.invariant.0, same_by then_in i goes old new h (λ b d g. g.1) ∙ c.loop-place.invariant.1, ready_past c.args.out.now i goes old new h c.loop-place.invariant.2)

pub returns-clause-now : goal.returns-clause-now
returns-clause-now c =
    carried_all c.args.out.now c.args.put.now c.args.bags.now c.loop-place.place c.loop-place.bags (omega (arith, c.loop-place-test.false)) c.loop-place.invariant.0
