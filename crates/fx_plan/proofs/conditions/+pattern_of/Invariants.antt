use Rattle.std.proofs.Common.{◌≡◌, drop}
use Rattle.fx_plan.specs.QueryExpressions.{patterns_behind, patterns_of}
use Rattle.fx_core.specs.Term.{all, term_size, terms_size}
use Rattle.fx_plan.proofs.conditions.+pattern_of.Given as goal

abbrev pub decreases-pattern_of : goal.decreases-pattern_of
decreases-pattern_of l = term_size l.condition.now

abbrev pub decreases-patterns_of : goal.decreases-patterns_of
decreases-patterns_of l = terms_size (all l.conditions.now)

abbrev pub decreases-negation : goal.decreases-negation
decreases-negation l = terms_size (all l.parts.now)

-- the patterns so far, and behind them those of what is left
abbrev pub invariant-patterns_of-loop-condition : goal.invariant-patterns_of-loop-condition
invariant-patterns_of-loop-condition l =
    patterns_behind l.patterns (patterns_of l.table l.scope (all (drop l.condition-index l.conditions)) l.constants)
    ≡ patterns_behind l.fn.front (patterns_of l.table l.scope (all l.conditions) l.fn.constants)
