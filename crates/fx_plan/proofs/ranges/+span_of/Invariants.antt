use Rattle.std.proofs.Common.{take}
use Rattle.fx_plan.specs.Ranges.{all_comparisons}
use Rattle.fx_plan.specs.Spans.{IsSpanOf}
use Rattle.row_queries.specs.Conditions.{condition_list, condition_size, conditions_size}
use Rattle.fx_plan.proofs.ranges.+span_of.Given as goal

abbrev pub decreases-span_of : goal.decreases-span_of
decreases-span_of l = condition_size l.test.now

abbrev pub decreases-span_of_all : goal.decreases-span_of_all
decreases-span_of_all l = conditions_size l.tests.now

-- the span so far
abbrev pub invariant-span_of_all-loop-test : goal.invariant-span_of_all-loop-test
invariant-span_of_all-loop-test l = IsSpanOf l.numbers l.found (all_comparisons l.column (condition_list (take l.test-index l.tests)))
