use Rattle.std.proofs.Common.{◌≡◌, ◌≤◌, List, Some, length, subst, true}
use Rattle.fx_core.specs.declared.sources.Source.{Source}
use Rattle.recalc.specs.app_cells.Leaning.{LeansOn, cell_behind}
use Rattle.recalc.specs.app_semantics.Needed.{is_alone}
use Rattle.session_views.proofs.Gathering.{added_as, all_added, at_source, is_source, one_read}
use Rattle.session_views.specs.Looking.{IsThrough}
use Rattle.session_views.proofs.roots.add_leaned.Goals as goal

pub loop-source-preserved : goal.loop-source-preserved
loop-source-preserved c =
    one_read (λ s k. cell_behind c.args.app.now.names s ≡ Some k) (λ k. is_alone c.args.app.now.cells k ≡ true) c.as_slice-source-items.result.now c.args.info.now.reads c.loop-source.source-index _ c.args.roots.now.items c.loop-source.roots.items c.add_behind.new.roots.items
    c.as_slice-source-items.ensures c.loop-source-test.true c.loop-source.invariant c.in_ok-add_behind.ensures

pub returns : goal.returns
returns c =
    added_as (IsThrough (λ s k. cell_behind c.args.app.now.names s ≡ Some k) c.args.info.now.reads) (LeansOn c.args.app.now.names c.args.info.now) (λ k. is_alone c.args.app.now.cells k ≡ true) c.args.roots.now.items c.loop-source.roots.items
    (λ k h. is_source c.args.app.now.names c.args.info.now k h) (λ k h. at_source c.args.app.now.names c.args.info.now k h)
    (all_added (λ s k. cell_behind c.args.app.now.names s ≡ Some k) (λ k. is_alone c.args.app.now.cells k ≡ true) c.args.info.now.reads c.loop-source.source-index c.args.roots.now.items c.loop-source.roots.items
    (subst (λ (xs : List Source). length xs ≤ c.loop-source.source-index) c.as_slice-source-items.ensures c.loop-source-test.false) c.loop-source.invariant)
