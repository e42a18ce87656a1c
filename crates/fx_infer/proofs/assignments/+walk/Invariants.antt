use Rattle.std.proofs.Common.{◌≡◌, ◌+◌, ◌-◌, ◌*◌, length, map}
use Rattle.fx_core.specs.Tree.{tree_size}
use Rattle.fx_typing.specs.Parts.{part_count}
use Rattle.fx_resolve.specs.MeaningView.{place_view}
use Rattle.fx_resolve.specs.PartView.{judged_part}
use Rattle.fx_resolve.specs.PlanView.{tree_head}
use Rattle.fx_resolve.specs.SettingView.{setting}
use Rattle.fx_infer.specs.Below.{forest_of}
use Rattle.fx_infer.specs.GivenView.{given_type_view}
use Rattle.fx_infer.proofs.Walked.{Walked}
use Rattle.fx_infer.proofs.assignments.+walk.Given as goal

abbrev pub decreases-walk : goal.decreases-walk
decreases-walk l = 4 * tree_size l.whole.now

abbrev pub decreases-walk_inside : goal.decreases-walk_inside
decreases-walk_inside l = 4 * tree_size l.whole.now + 1

abbrev pub decreases-walk_next : goal.decreases-walk_next
decreases-walk_next l = 4 * tree_size l.next.now + 2

abbrev pub invariant-walk-loop-next : goal.invariant-walk-loop-next
invariant-walk-loop-next l = record {
  scopes : l.scopes ≡ l.fn.scopes;
  walked : Walked (place_view l.at) (setting l.fn.scopes l.stand) (tree_head l.whole) (part_count (forest_of l.whole)) (forest_of l.whole) (map judged_part l.done.items) (map given_type_view l.below.items);
}

abbrev pub decreases-walk-loop-next : goal.decreases-walk-loop-next
decreases-walk-loop-next l = part_count (forest_of l.whole) - length l.done.items
