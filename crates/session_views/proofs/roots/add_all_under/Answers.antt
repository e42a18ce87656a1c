use Rattle.std.proofs.Common.{◌≡◌, ◌≤◌, List, length, refl, subst, true}
use Rattle.recalc.specs.app_cells.declared.app.CellInfo.{CellInfo}
use Rattle.recalc.specs.app_semantics.Needed.{is_alone}
use Rattle.session_views.proofs.Gathering.{all_added, one_more}
use Rattle.session_views.proofs.Giving.{at_place}
use Rattle.session_views.specs.Looking.{IsLeanedOn, is_control_among}
use Rattle.session_views.proofs.roots.add_all_under.Goals as goal

pub loop-info-preserved : goal.loop-info-preserved
loop-info-preserved c =
    one_more (IsLeanedOn c.args.app.now.names (is_control_among c.args.app.now.names c.args.part)) (λ k. is_alone c.args.app.now.cells k ≡ true) c.args.app.now.cells c.loop-info.info-index c.info-item.result c.args.roots.now.items c.loop-info.roots.items c.add_under.new.roots.items
    (at_place c.as_slice-info-items.result.now c.args.app.now.cells c.loop-info.info-index c.loop-info.info-index c.info-item.result c.as_slice-info-items.ensures refl c.loop-info-test.true c.info-item.is)
    c.loop-info.invariant c.in_ok-add_under.ensures

pub returns : goal.returns
returns c =
    all_added (IsLeanedOn c.args.app.now.names (is_control_among c.args.app.now.names c.args.part)) (λ k. is_alone c.args.app.now.cells k ≡ true) c.args.app.now.cells c.loop-info.info-index c.args.roots.now.items c.loop-info.roots.items
    (subst (λ (xs : List CellInfo). length xs ≤ c.loop-info.info-index) c.as_slice-info-items.ensures c.loop-info-test.false) c.loop-info.invariant
