use Rattle.std.proofs.Common.{◌≡◌, drop, map}
use Rattle.std.specs.List.{list_any}
use Rattle.fx_types.specs.ValueView.{view}
use Rattle.fx_plan.specs.Plans.{is_fault}
use Rattle.fx_plan.proofs.plans.has_error.Given as goal

-- none of those that were seen
abbrev pub invariant-loop-constant : goal.invariant-loop-constant
invariant-loop-constant l = list_any is_fault (map view (drop l.constant-index l.constants)) ≡ list_any is_fault (map view l.constants)
