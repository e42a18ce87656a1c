use Rattle.std.proofs.Common.{drop}
use Rattle.row_queries.specs.Ranges.{AreRangesRising}
use Rattle.row_counts.specs.Whole.{HoldAllKeys}
use Rattle.row_counts.proofs.Holding.{HoldFrom}
use Rattle.row_counts.proofs.queries.hold_every_key.Given as goal

abbrev pub invariant-loop-range : goal.invariant-loop-range
invariant-loop-range l = record {
  there : HoldAllKeys l.ranges → HoldFrom l.held (drop l.range-index l.ranges);
  back : HoldFrom l.held (drop l.range-index l.ranges) → HoldAllKeys l.ranges;
  rising : AreRangesRising (drop l.range-index l.ranges);
}
