use Rattle.std.proofs.Common.{inl, refl, zero}
use Rattle.std.proofs.lemmas.Result.{IfOk-weaker}
use Rattle.fx_types.specs.Types.{numbers}
use Rattle.fx_plan.proofs.Places.{found_at, found_id, indexed_at, taken_at}
use Rattle.fx_plan.proofs.ranges.ranges_of.Goals as goal

pub span_of-requires : goal.span_of-requires
span_of-requires c = (numbers, refl, c.requires.taken zero numbers refl)

pub returns-in-Some-clause-ranges : goal.returns-in-Some-clause-ranges
returns-in-Some-clause-ranges c =
    let span = rw c.in-Some.is at c.in_ok-span.ensures in
    IfOk-weaker c.reach_on.result _ _ (λ r h. found_id c.args.table.now c.args.test.now c.in-Some.span r c.requires.taken span h) c.reach_on.ensures

pub span_on-requires : goal.span_on-requires
span_on-requires c =
    taken_at c.args.table.now c.args.test.now c.as_slice-columns.result.now c.loop-place.place c.index-columns-place.result c.requires.taken
    (record { columns = c.as_slice-columns.ensures; there = c.loop-place-test.true; column = c.index-columns-place.is })

pub returns-in-Some-2-clause-ranges : goal.returns-in-Some-2-clause-ranges
returns-in-Some-2-clause-ranges c =
    let span = rw c.in-Some-2.is at c.in_ok-span-2.ensures in
    IfOk-weaker c.reach_on-in-Some-2.result _ _
    (λ r h. found_at c.args.table.now c.args.test.now c.as_slice-columns.result.now c.loop-place.place c.index-columns-place.result c.is_number.result c.in-Some-2.span r c.requires.taken
    (record { columns = c.as_slice-columns.ensures; there = c.loop-place-test.true; column = c.index-columns-place.is })
    c.loop-place.invariant.none c.loop-place.invariant.first span.0 span.1 c.is_number.ensures h)
    c.reach_on-in-Some-2.ensures

pub returns-in-Some-2-clause-reaches : goal.returns-in-Some-2-clause-reaches
returns-in-Some-2-clause-reaches c =
    let span = rw c.in-Some-2.is at c.in_ok-span-2.ensures in
    IfOk-weaker c.reach_on-in-Some-2.result _ _
    (λ r h. inl (indexed_at c.args.table.now c.args.test.now c.as_slice-columns.result.now c.loop-place.place c.index-columns-place.result r.column
    (record { columns = c.as_slice-columns.ensures; there = c.loop-place-test.true; column = c.index-columns-place.is })
    span.0 h.0))
    c.reach_on-in-Some-2.ensures
