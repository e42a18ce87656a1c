use Rattle.std.proofs.Common.{◌≡◌, drop}
use Rattle.row_queries.specs.Conditions.{condition_list, condition_size, conditions_size}
use Rattle.row_queries.specs.RowTests.{all_outcome, any_outcome, met, unmet, ReadTextWhile}
use Rattle.row_queries.specs.TableRows.{values_of}
use Rattle.row_queries.proofs.outcomes.+judge.Given as goal

abbrev pub decreases-judge : goal.decreases-judge
decreases-judge l = condition_size l.test.now

abbrev pub decreases-judge_all : goal.decreases-judge_all
decreases-judge_all l = conditions_size l.tests.now

abbrev pub decreases-judge_any : goal.decreases-judge_any
decreases-judge_any l = conditions_size l.tests.now

-- what is left decides, and where it looks into a text, the whole does
abbrev pub invariant-judge_all-loop-test : goal.invariant-judge_all-loop-test
invariant-judge_all-loop-test l = record {
  value : all_outcome (values_of l.row) (condition_list (drop l.test-index l.tests)) ≡ all_outcome (values_of l.row) (condition_list l.tests);
  memory : ReadTextWhile met (values_of l.row) (condition_list (drop l.test-index l.tests)) → ReadTextWhile met (values_of l.row) (condition_list l.tests);
}

abbrev pub invariant-judge_any-loop-test : goal.invariant-judge_any-loop-test
invariant-judge_any-loop-test l = record {
  value : any_outcome (values_of l.row) (condition_list (drop l.test-index l.tests)) ≡ any_outcome (values_of l.row) (condition_list l.tests);
  memory : ReadTextWhile unmet (values_of l.row) (condition_list (drop l.test-index l.tests)) → ReadTextWhile unmet (values_of l.row) (condition_list l.tests);
}
