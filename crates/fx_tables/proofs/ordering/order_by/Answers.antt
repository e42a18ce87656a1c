use Rattle.std.proofs.Common.{◌≡◌, map}
use Rattle.std.proofs.lemmas.Fn.{always_returns_same}
use Rattle.std.proofs.lemmas.Result.{IfOk-weaker}
use Rattle.std.specs.List.Sorted.{IsSortedBy, IsStableBy}
use Rattle.std.proofs.Common.{rules}
use Rattle.fx_types.specs.ValueView.{view}
use Rattle.fx_value.specs.Ordered.{IsOrderedBy}
use Rattle.fx_tables.specs.declared.ordering.Keyed.{Keyed}
use Rattle.fx_tables.proofs.OrderSteps.{before_is_order, found_order, is_before}
use Rattle.fx_tables.proofs.ordering.order_by.Goals as goal

pub returns : goal.returns
returns c =
    let total = c.compare_is_total.ensures.total in
    let keys = map view c.args.keys.now in
    let down = c.args.down in
    let xs = c.in_ok-keyed.keyed.items in
    let ys = c.sort_by.new.self.items in
    let done = c.in_ok-sort_by.ensures in
    let before = before_is_order total down in
    let sorted : IsSortedBy (is_before down) ys = done.sorted (is_before down) before (always_returns_same _ _ _ (λ a r f k. search rules)) in
    let stable : IsStableBy (is_before down) xs ys = done.stable (is_before down) before (always_returns_same _ _ _ (λ a r f k. search rules)) in
    IfOk-weaker c.rows_of.result _ (λ r. IsOrderedBy down keys c.args.rows r)
    (λ r h. found_order down keys c.args.rows r xs ys total c.in_ok-keyed.ensures done.permutation sorted stable h) c.rows_of.ensures
