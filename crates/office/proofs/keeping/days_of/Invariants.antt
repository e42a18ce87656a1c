use Rattle.std.proofs.Common.{◌≡◌, length}
use Rattle.std.specs.List.{AllByRecursion}
use Rattle.fx_types.specs.ValueView.{view}
use Rattle.fx_scalar.specs.ScalarFunctions.{IsToday}
use Rattle.office.proofs.keeping.days_of.Given as goal

abbrev pub invariant-loop : goal.invariant-loop
invariant-loop l = record {
  count : length l.days.items ≡ l.counter;
  days : AllByRecursion (λ d. IsToday l.moment (view d)) l.days.items;
}
