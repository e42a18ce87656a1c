use Rattle.std.proofs.Common.{◌≡◌, ℕ, List, ap, length, subst, sym, ◌∙◌, rules}
use Rattle.app_cells.specs.Leaning.{edges_of}
use Rattle.depend_graph.specs.Order.{IsOrder}
use Rattle.app_loader.proofs.Ended.{ordered, right_order}
use Rattle.app_loader.proofs.judging.ordered_app.Goals as goal

pub support_all-requires-clause-order : goal.support_all-requires-clause-order
support_all-requires-clause-order c =
    let count : c.in-Ok.count ≡ length c.args.infos = search rules in
    let edges : c.deref.result.now ≡ edges_of c.args.names c.args.infos = c.deref.ensures.value ∙ c.in_ok-edges.ensures ∙ ap (edges_of c.args.names) c.as_slice.ensures in
    subst (λ (ns : List ℕ). IsOrder (length c.args.infos) (edges_of c.args.names c.args.infos) ns) (sym c.deref-in-Ok-order.ensures.value)
    (right_order c.args.names c.in-Ok.count c.args.infos c.deref.result.now c.in-Ok-order.numbers.items count edges c.in-Ok-order.ensures.order)

pub returns-in-Ok-order-clause-app : goal.returns-in-Ok-order-clause-app
returns-in-Ok-order-clause-app c =
    let count : c.in-Ok.count ≡ length c.args.infos = search rules in
    let edges : c.deref.result.now ≡ edges_of c.args.names c.args.infos = c.deref.ensures.value ∙ c.in_ok-edges.ensures ∙ ap (edges_of c.args.names) c.as_slice.ensures in
    ordered c.args.names c.args.limit c.in-Ok.count c.args.infos _ c.deref.result.now c.in-Ok-order.numbers.items _ count edges c.in-Ok-order.ensures.order c.in_ok-cells-in-Ok-order.ensures c.in_ok-in_order-in-Ok-order.ensures
