use Rattle.std.proofs.Common.{◌≡◌, map, take}
use Rattle.std.specs.List.{sum_by}
use Rattle.fx_types.specs.ValueView.{view}
use Rattle.session_state.specs.Sessions.{weighed}
use Rattle.session_state.proofs.weight.total_weight.Given as goal

abbrev pub invariant-loop-value : goal.invariant-loop-value
invariant-loop-value l = l.sum ≡ sum_by weighed (take l.value-index (map view l.values))
