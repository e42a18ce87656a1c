use Rattle.std.proofs.Common.{◌≡◌, Some, rules, subst, sym}
use Rattle.fx_value.specs.Aggregates.{IsLeast}
use Rattle.number_bags.specs.Rising.{with_option}
use Rattle.number_bags.proofs.LeastLemmas.{with_least}
use Rattle.number_bags.proofs.extremes.lesser.Goals as goal

pub returns-in-Some-Some : goal.returns-in-Some-Some
returns-in-Some-Some c zs h =
    let first : c.args.first ≡ Some c.in-Some-Some.first = search rules in
    let second : c.args.second ≡ Some c.in-Some-Some.second = search rules in
    subst (λ o. IsLeast (with_option o zs) (Some c.lesser_of.result)) (sym second)
    (with_least zs (Some c.in-Some-Some.first) c.in-Some-Some.second c.lesser_of.result (subst (IsLeast zs) first h) c.lesser_of.ensures)
