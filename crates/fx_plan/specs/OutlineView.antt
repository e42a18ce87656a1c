-- What a pattern is seen as.
use Rattle.fx_plan.specs.Outlines.{Outline, always, flag, constant, compares, is_blank, starts}
use Rattle.fx_plan.specs.Outlines.{contains, all_of, any_of, opposite, outline_list}
use Rattle.fx_plan.specs.declared.patterns.PatternNode.{PatternNode}
use Rattle.fx_plan.specs.declared.patterns.PatternNode.TheVariants as n

abbrev pub outline : PatternNode → Outline
outline n.All = always
outline (n.Flag k) = flag k
outline (n.Const i) = constant i
outline (n.Compare op k i) = compares op k i
outline (n.IsBlank k) = is_blank k
outline (n.Starts k i) = starts k i
outline (n.Contains k i) = contains k i
outline (n.And ts) = all_of (outline_list ts)
outline (n.Or ts) = any_of (outline_list ts)
outline (n.Not a) = opposite a.value
