use Rattle.std.proofs.Common.{◌≡◌, ◌∙◌, [], ap, false, length, sym, true}
use Rattle.std.specs.Prelude.{◌==◌}
use Rattle.fx_core.specs.Rows.{row_of}
use Rattle.fx_typing.specs.Plans.{plan_by_row}
use Rattle.fx_resolve.proofs.Planned.{either_behind}
use Rattle.fx_resolve.proofs.plans.plan_either.Goals as goal

pub returns : goal.returns
returns c =
    let filled : c.args.done.now ≡ [] → ⊥ =
    λ e. let t : true ≡ false = sym (ap (λ ds. length ds == 0) e) ∙ sym c.is_empty.ensures ∙ c.if-is_empty.false in cc in
    c.plan_by_row.ensures
    ∙ ap (λ r. plan_by_row c.args.acts r c.args.count (length c.args.done.now)) (c.row_of.ensures ∙ ap row_of c.pick.ensures)
    ∙ either_behind c.args.acts c.args.scalars c.args.rows c.args.count c.args.done.now filled
