use Rattle.std.proofs.Common.{ap, sym, ◌∙◌, length, map, Vec, Global}
use Rattle.std.proofs.lemmas.Result.{err_from_is_err_and}
use Rattle.fx_types.specs.declared.types.Ty.{Ty}
use Rattle.fx_core.specs.declared.rows.Row.{Row}
use Rattle.fx_core.specs.Rows.{row_of}
use Rattle.fx_typing.specs.Local.{made_by}
use Rattle.fx_typing.specs.WellTyped.{head_of}
use Rattle.fx_typing.specs.declared.typed.Typed.{Typed}
use Rattle.fx_typing.specs.TypedView.{typed, piece_view, built}
use Rattle.fx_node_typing.proofs.Heads.{some_over}
use Rattle.fx_typing.proofs.Stops.{stops}
use Rattle.fx_node_typing.proofs.node_rule.make.Goals as goal

pub returns-in_err-parts : goal.returns-in_err-parts
returns-in_err-parts c =
    let p = err_from_is_err_and c.from_residual.result c.from_residual.ensures.1 in
    let by = λ (r : Row). made_by r (head_of c.args.fun) (map piece_view c.args.parts.items) in
    rw (p.1, p.2) (stops (λ (x : Vec Typed Global × Ty). built (head_of c.args.fun) x.0.items x.1) typed (by c.row_of-row.result) (by (row_of c.args.fun)) c.in_err-parts.field-0.0 (λ k h. ap by (sym c.row_of-row.ensures) ∙ h) (c.in_err-parts.ensures.made (head_of c.args.fun)))

pub apply_function-requires : goal.apply_function-requires
apply_function-requires c h =
    some_over c.args.fun (length c.in_ok-parts.parts.items) (rw c.row_of-row.ensures at c.in_ok-parts.ensures.count) (ap (λ (r : Row). r.first) (sym c.row_of-row.ensures) ∙ h)
