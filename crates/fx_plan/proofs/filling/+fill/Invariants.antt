use Rattle.std.proofs.Common.{◌≡◌, map, take}
use Rattle.fx_types.specs.ValueView.{view}
use Rattle.fx_plan.specs.Outlines.{all_filled, outline_list, outline_size, outlines_size}
use Rattle.row_queries.specs.Conditions.{condition_list}
use Rattle.fx_plan.proofs.filling.+fill.Given as goal

abbrev pub decreases-fill : goal.decreases-fill
decreases-fill l = outline_size l.pattern.now

abbrev pub decreases-fill_all : goal.decreases-fill_all
decreases-fill_all l = outlines_size l.patterns.now

-- the tests so far
abbrev pub invariant-fill_all-loop-pattern : goal.invariant-fill_all-loop-pattern
invariant-fill_all-loop-pattern l = condition_list l.tests ≡ all_filled (map view l.constants) (outline_list (take l.pattern-index l.patterns))
