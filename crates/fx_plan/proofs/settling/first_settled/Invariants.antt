use Rattle.std.proofs.Common.{◌≡◌, ◌++◌, drop, map}
use Rattle.fx_types.specs.ValueView.{view}
use Rattle.fx_plan.specs.Settled.{with_first}
use Rattle.fx_plan.proofs.settling.first_settled.Given as goal

-- the parts so far, and behind them what is left
abbrev pub invariant-loop-part : goal.invariant-loop-part
invariant-loop-part l = l.settled ++ drop l.part-index l.others ≡ with_first l.depth (map view l.values) l.fn.parts l.fn.place
