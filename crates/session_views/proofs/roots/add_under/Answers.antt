use Rattle.std.proofs.Common.{◌≡◌, sym, true, ◌∙◌}
use Rattle.std.proofs.lemmas.Result.{IfOk-weaker}
use Rattle.recalc.specs.app_cells.Leaning.{LeansOn}
use Rattle.recalc.specs.app_semantics.Needed.{is_alone}
use Rattle.session_views.proofs.Gathering.{added_as}
use Rattle.session_views.specs.Looking.{IsLeanedOn, is_control_among}
use Rattle.session_views.proofs.roots.add_under.Goals as goal

pub returns-then-is_in_template : goal.returns-then-is_in_template
returns-then-is_in_template c =
    IfOk-weaker c.add_leaned.result _ _ (λ u h.
    added_as (LeansOn c.args.app.now.names c.args.info.now) (IsLeanedOn c.args.app.now.names (is_control_among c.args.app.now.names c.args.part) c.args.info.now) (λ k. is_alone c.args.app.now.cells k ≡ true) c.args.roots.now.items c.add_leaned.new.roots.items
    (λ k l. (sym c.is_in_template.ensures ∙ c.if-is_in_template.true, l)) (λ k p. p.1) h)
    c.add_leaned.ensures
