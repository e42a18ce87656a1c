use Rattle.std.proofs.Common.{◌≡◌, ◌+◌, refl, subst, map, set, arith}
use Rattle.std.specs.Prelude.{if◌then◌else◌}
use Rattle.std.specs.List.{sum_by}
use Rattle.fx_types.specs.ValueView.{view}
use Rattle.session_state.specs.Sessions.{SessionState, weighed}
use Rattle.session_state.specs.contracts.session.Session.{the_view}
use Rattle.session_state.proofs.Weights.{kept_weight, with_collection}
use Rattle.session_state.proofs.session.Session.put_collection.Goals as goal

pub invariant_of-self : goal.invariant_of-self
invariant_of-self c =
    let was : c.self.inside.weight ≡ sum_by weighed (map view c.self.inside.collections.items) + sum_by weighed (map view c.self.inside.variables.items) = omega (arith, c.self.invariant.0) in
    let kept = kept_weight c.self.inside.collections.items _ c.self.inside.weight _ (sum_by weighed (map view c.self.inside.variables.items)) c.args.number c.args.value c.put.result c.put.ensures.values c.put.ensures.weight was in
    (omega (arith, kept), c.self.invariant.1, c.self.invariant.2, c.self.invariant.3, c.self.invariant.4, c.self.invariant.5)

pub returns-clause-changed : goal.returns-clause-changed
returns-clause-changed c =
    let P : SessionState → Type 0 = λ s. record (the_view c.self.inside) { collections = map view c.put.new.values.items } ≡ (if c.put.result then record s { collections = set s.collections c.args.number (view c.args.value) } else s) in
    subst P c.self.view_is (with_collection (the_view c.self.inside) c.self.inside.collections.items c.put.new.values.items c.args.number c.args.value c.put.result refl c.put.ensures.values)
