use Rattle.std.proofs.Common.{◌+◌, drop, refl, subst, sym}
use Rattle.std.proofs.lemmas.List.{drop_all}
use Rattle.row_queries.specs.Ranges.{AreRangesRising}
use Rattle.row_counts.proofs.Holding.{HoldFrom, from_first, next_back, next_range, next_there, none_left, none_next, to_first}
use Rattle.row_counts.proofs.queries.hold_every_key.Goals as goal

pub loop-range-init : goal.loop-range-init
loop-range-init c = record { there = from_first c.args.ranges.now; back = to_first c.args.ranges.now; rising = c.requires }

pub loop-range-preserved : goal.loop-range-preserved
loop-range-preserved c =
    let ranges = c.args.ranges.now in
    let l = c.loop-range in
    let r = c.range-item.result in
    let rest = drop (l.range-index + 1) ranges in
    let cut = next_range ranges l.range-index r c.loop-range-test.true c.range-item.is in
    let rising = subst AreRangesRising cut l.invariant.rising in
    record {
      there = λ all. next_there l.held.now c.in-Some.keys.now r rest c.in-Some.ensures rising (subst (HoldFrom l.held.now) cut (l.invariant.there all));
      back = λ k. l.invariant.back (subst (HoldFrom l.held.now) (sym cut) (next_back l.held.now c.in-Some.keys.now r rest c.in-Some.ensures k));
      rising = rising.1;
    }

pub returns-in-None : goal.returns-in-None
returns-in-None c =
    let ranges = c.args.ranges.now in
    let l = c.loop-range in
    let r = c.range-item.result in
    let rest = drop (l.range-index + 1) ranges in
    let cut = next_range ranges l.range-index r c.loop-range-test.true c.range-item.is in
    (λ e. l.invariant.back (subst (HoldFrom l.held.now) (sym cut) (none_next l.held.now r rest c.in-None.ensures)), λ all. refl)

pub returns : goal.returns
returns c =
    let l = c.loop-range in
    (λ e. absurd cc, λ all. absurd (none_left l.held.now (subst (HoldFrom l.held.now) (drop_all l.range-index c.args.ranges.now c.loop-range-test.false) (l.invariant.there all))))
