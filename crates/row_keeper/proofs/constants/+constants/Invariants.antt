use Rattle.std.proofs.Common.{drop}
use Rattle.row_queries.specs.Conditions.{condition_list, condition_size, conditions_size}
use Rattle.row_queries.specs.RowTests.{HaveNoFaults}
use Rattle.row_keeper.proofs.constants.+constants.Given as goal

abbrev pub decreases-is_sound : goal.decreases-is_sound
decreases-is_sound l = condition_size l.test.now

abbrev pub decreases-are_sound : goal.decreases-are_sound
decreases-are_sound l = conditions_size l.tests.now

-- where the tests that are left are sound, all are
abbrev pub invariant-are_sound-loop-test : goal.invariant-are_sound-loop-test
invariant-are_sound-loop-test l = HaveNoFaults (condition_list (drop l.test-index l.tests)) → HaveNoFaults (condition_list l.tests)
