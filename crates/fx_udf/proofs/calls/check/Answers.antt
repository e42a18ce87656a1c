use Rattle.std.proofs.Common.{◌≡◌, ℕ, List, length, rules, subst, sym, ◌∙◌}
use Rattle.depend_graph.specs.Order.{AreBelow}
use Rattle.fx_udf.specs.Calling.{calls_in}
use Rattle.fx_udf.proofs.Numbered.{calls_below}
use Rattle.fx_udf.proofs.calls.check.Goals as goal

pub order-requires : goal.order-requires
order-requires c =
    let e : c.as_slice.result.now ≡ calls_in c.args.bodies.now = c.as_slice.ensures.value ∙ c.in-Ok-calls_of.ensures in
    let n : c.in-Ok.count ≡ length c.args.bodies.now = search rules in
    subst (λ (es : List (ℕ × ℕ)). AreBelow c.in-Ok.count es) (sym e) (subst (λ (k : ℕ). AreBelow k (calls_in c.args.bodies.now)) (sym n) (calls_below c.args.bodies.now c.requires))
