use Rattle.std.proofs.Common.{◌≡◌, drop, map}
use Rattle.fx_types.specs.ValueView.{view}
use Rattle.fx_core.specs.Term.{all, term_size, terms_size}
use Rattle.fx_plan.specs.Settled.{conditions_settled}
use Rattle.fx_plan.proofs.SettledPlaces.{before}
use Rattle.fx_plan.proofs.settling.+condition.Given as goal

abbrev pub decreases-condition : goal.decreases-condition
decreases-condition l = term_size l.part.now

abbrev pub decreases-conditions : goal.decreases-conditions
decreases-conditions l = terms_size (all l.parts.now)

-- the settled parts so far, and behind them what is left
abbrev pub invariant-conditions-loop-part : goal.invariant-conditions-loop-part
invariant-conditions-loop-part l =
    before l.settled (conditions_settled l.depth (map view l.values) (all (drop l.part-index l.parts)) l.place)
    ≡ conditions_settled l.depth (map view l.values) (all l.parts) l.fn.place
