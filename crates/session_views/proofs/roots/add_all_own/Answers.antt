use Rattle.std.proofs.Common.{◌≡◌, ◌≤◌, List, length, refl, subst, true}
use Rattle.fx_core.specs.declared.names.Property.{Property}
use Rattle.recalc.specs.app_semantics.Needed.{is_alone}
use Rattle.session_views.proofs.Gathering.{all_added, one_more}
use Rattle.session_views.proofs.Giving.{at_place}
use Rattle.session_views.specs.Looking.{IsOwnCell, is_control_among}
use Rattle.session_views.proofs.roots.add_all_own.Goals as goal

pub loop-property-preserved : goal.loop-property-preserved
loop-property-preserved c =
    one_more (IsOwnCell c.args.app.now.names (is_control_among c.args.app.now.names c.args.part)) (λ k. is_alone c.args.app.now.cells k ≡ true) c.args.app.now.names.properties c.loop-property.property-index c.property-item.result c.args.roots.now.items c.loop-property.roots.items c.add_own.new.roots.items
    (at_place c.as_slice-property-items.result.now c.args.app.now.names.properties c.loop-property.property-index c.loop-property.property-index c.property-item.result c.as_slice-property-items.ensures refl c.loop-property-test.true c.property-item.is)
    c.loop-property.invariant c.in_ok-add_own.ensures

pub returns : goal.returns
returns c =
    all_added (IsOwnCell c.args.app.now.names (is_control_among c.args.app.now.names c.args.part)) (λ k. is_alone c.args.app.now.cells k ≡ true) c.args.app.now.names.properties c.loop-property.property-index c.args.roots.now.items c.loop-property.roots.items
    (subst (λ (xs : List Property). length xs ≤ c.loop-property.property-index) c.as_slice-property-items.ensures c.loop-property-test.false) c.loop-property.invariant
