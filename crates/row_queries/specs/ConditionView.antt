-- What a row test is seen as.
use Rattle.fx_types.specs.ValueView.{view}
use Rattle.row_queries.specs.Conditions.{Condition, always, flag, constant, compares, is_blank}
use Rattle.row_queries.specs.Conditions.{starts, contains, all_of, any_of, opposite, condition_list}
use Rattle.row_queries.specs.declared.row_tests.TestNode.{TestNode}
use Rattle.row_queries.specs.declared.row_tests.TestNode.TheVariants as n

abbrev pub condition : TestNode → Condition
condition n.All = always
condition (n.Flag k) = flag k
condition (n.Const v) = constant (view v)
condition (n.Compare op k v) = compares op k (view v)
condition (n.IsBlank k) = is_blank k
condition (n.Starts k v) = starts k (view v)
condition (n.Contains k v) = contains k (view v)
condition (n.And ts) = all_of (condition_list ts)
condition (n.Or ts) = any_of (condition_list ts)
condition (n.Not a) = opposite a.value
