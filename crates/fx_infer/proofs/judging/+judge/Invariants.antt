use Rattle.std.proofs.Common.{◌≡◌, ◌+◌, ◌-◌, ◌*◌, length, map}
use Rattle.fx_core.specs.Tree.{tree_size}
use Rattle.fx_typing.specs.Parts.{part_count}
use Rattle.fx_resolve.specs.MeaningView.{place_view}
use Rattle.fx_resolve.specs.PartView.{judged_part}
use Rattle.fx_resolve.specs.PlanView.{tree_head}
use Rattle.fx_resolve.specs.SettingView.{setting}
use Rattle.fx_infer.specs.Below.{forest_of}
use Rattle.fx_infer.proofs.Goes.{GoesOn}
use Rattle.fx_infer.proofs.judging.+judge.Given as goal

abbrev pub decreases-judge : goal.decreases-judge
decreases-judge l = 4 * tree_size l.whole.now + 1

abbrev pub decreases-judge_parts : goal.decreases-judge_parts
decreases-judge_parts l = 4 * tree_size l.whole.now

abbrev pub decreases-judge_next : goal.decreases-judge_next
decreases-judge_next l = 4 * tree_size l.next.now + 2

abbrev pub invariant-judge_parts-loop-next : goal.invariant-judge_parts-loop-next
invariant-judge_parts-loop-next l = record {
  scopes : l.scopes ≡ l.fn.scopes;
  goes : GoesOn (place_view l.at) (setting l.fn.scopes l.stand) (tree_head l.whole) (part_count (forest_of l.whole)) (forest_of l.whole) (map judged_part l.done.items);
}

abbrev pub decreases-judge_parts-loop-next : goal.decreases-judge_parts-loop-next
decreases-judge_parts-loop-next l = part_count (forest_of l.whole) - length l.done.items
