use Rattle.std.proofs.Common.{◌≡◌, sym, true, ◌∙◌}
use Rattle.std.proofs.lemmas.Result.{IfOk-weaker}
use Rattle.recalc.specs.app_semantics.Needed.{is_alone}
use Rattle.session_views.proofs.Gathering.{added_as}
use Rattle.session_views.specs.Looking.{is_control_among}
use Rattle.session_views.proofs.roots.add_own.Goals as goal

pub returns-then-is_among : goal.returns-then-is_among
returns-then-is_among c =
    IfOk-weaker c.add_cell.result _ _ (λ u h.
    added_as (λ k. c.args.cell ≡ k) (λ k. (is_control_among c.args.app.now.names c.args.part c.args.control ≡ true) × (c.args.cell ≡ k)) (λ k. is_alone c.args.app.now.cells k ≡ true) c.args.roots.now.items c.add_cell.new.roots.items
    (λ k e. (sym c.is_among.ensures ∙ c.if-is_among.true, e)) (λ k p. p.1) h)
    c.add_cell.ensures
