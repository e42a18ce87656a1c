-- What is in a row test is smaller than it.
use Rattle.std.specs.Prelude.{◌+◌, ◌≤◌, List, [], ◌∷◌}
use Rattle.std.proofs.Common.{arith}
use Rattle.row_queries.specs.Conditions.{Condition, condition_size, conditions_size}
use Rattle.row_queries.specs.ConditionView.{condition}
use Rattle.row_queries.specs.declared.row_tests.TestNode.{TestNode}
use Rattle.row_queries.specs.declared.row_tests.TestNode.TheVariants as n
use Rattle.row_queries.specs.declared.row_tests.Test.TheDeep.{deep-TestNode}
use denote.Param.Weighed.{most}

pub test_falls : (a : TestNode) → deep-TestNode a ≤ condition_size (condition a)
test_falls n.All = omega arith
test_falls (n.Flag k) = omega arith
test_falls (n.Const v) = omega arith
test_falls (n.Compare op k v) = omega arith
test_falls (n.IsBlank k) = omega arith
test_falls (n.Starts k v) = omega arith
test_falls (n.Contains k v) = omega arith
test_falls (n.And ts) = omega arith
test_falls (n.Or ts) = omega arith
test_falls (n.Not a) = omega arith

pub conditions_fall : (cs : List Condition) → most (λ c. condition_size c + 1) cs
    ≤ conditions_size cs
conditions_fall [] = omega arith
conditions_fall (c ∷ cs) = omega (arith, conditions_fall cs)
