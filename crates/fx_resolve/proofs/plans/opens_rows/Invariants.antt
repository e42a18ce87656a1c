use Rattle.std.proofs.Common.{◌≡◌, [], drop, length, map, take}
use Rattle.fx_typing.specs.Plans.{opens_rows}
use Rattle.fx_resolve.specs.PartView.{judged_part}
use Rattle.fx_resolve.specs.PlanView.{grant, tree_head}
use Rattle.fx_resolve.proofs.plans.opens_rows.Given as goal

-- whether one of those that are left does, behind those that are done
abbrev pub invariant-loop-place : goal.invariant-loop-place
invariant-loop-place l =
    opens_rows l.names (grant l.whole) (tree_head l.head) (length l.parts) (map judged_part (take l.place l.parts)) (map judged_part (drop l.place l.parts))
    ≡ opens_rows l.names (grant l.whole) (tree_head l.head) (length l.parts) [] (map judged_part l.parts)
