use Rattle.std.proofs.Common.{◌≡◌, Some, ap, sym, true, ◌∙◌}
use Rattle.std.proofs.lemmas.Result.{IfOk-weaker}
use Rattle.recalc.specs.app_cells.Leaning.{cell_behind}
use Rattle.recalc.specs.app_semantics.Needed.{is_alone}
use Rattle.session_views.proofs.Gathering.{added_as, some_same}
use Rattle.session_views.proofs.roots.add_behind.Goals as goal

pub returns-in-Some : goal.returns-in-Some
returns-in-Some c =
    IfOk-weaker c.add_cell.result _ _ (λ u h.
    added_as (λ k. c.in-Some.cell ≡ k) (λ k. cell_behind c.args.app.now.names c.args.source.now ≡ Some k) (λ k. is_alone c.args.app.now.cells k ≡ true) c.args.roots.now.items c.add_cell.new.roots.items
    (λ k e. sym c.in-Some.ensures ∙ ap Some e) (λ k q. some_same c.in-Some.cell k (c.in-Some.ensures ∙ q)) h)
    c.add_cell.ensures
