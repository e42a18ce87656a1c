use Rattle.std.proofs.Common.{◌≡◌, Some, rules, subst, sym}
use Rattle.fx_value.specs.Aggregates.{IsGreatest}
use Rattle.number_bags.specs.Rising.{with_option}
use Rattle.number_bags.proofs.LeastLemmas.{with_greatest}
use Rattle.number_bags.proofs.extremes.greater.Goals as goal

pub returns-in-Some-Some : goal.returns-in-Some-Some
returns-in-Some-Some c zs h =
    let first : c.args.first ≡ Some c.in-Some-Some.first = search rules in
    let second : c.args.second ≡ Some c.in-Some-Some.second = search rules in
    subst (λ o. IsGreatest (with_option o zs) (Some c.greater_of.result)) (sym second)
    (with_greatest zs (Some c.in-Some-Some.first) c.in-Some-Some.second c.greater_of.result (subst (IsGreatest zs) first h) c.greater_of.ensures)
