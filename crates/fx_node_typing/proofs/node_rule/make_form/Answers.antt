use Rattle.std.proofs.Common.{ap, sym, ◌∙◌, map, Vec, Global}
use Rattle.std.proofs.lemmas.Result.{err_from_is_err_and}
use Rattle.fx_types.specs.declared.types.Ty.{Ty}
use Rattle.fx_core.specs.declared.rows.Row.{Row}
use Rattle.fx_core.specs.Rows.{form_row}
use Rattle.fx_core.specs.Term as term
use Rattle.fx_typing.specs.Local.{made_by}
use Rattle.fx_typing.specs.declared.typed.Typed.{Typed}
use Rattle.fx_typing.specs.TypedView.{typed, piece_view, built}
use Rattle.fx_typing.proofs.Stops.{stops}
use Rattle.fx_node_typing.proofs.node_rule.make_form.Goals as goal

pub returns-in_err-parts : goal.returns-in_err-parts
returns-in_err-parts c =
    let p = err_from_is_err_and c.from_residual.result c.from_residual.ensures.1 in
    let by = λ (r : Row). made_by r (term.form c.args.form) (map piece_view c.args.parts.items) in
    rw (p.1, p.2) (stops (λ (x : Vec Typed Global × Ty). built (term.form c.args.form) x.0.items x.1) typed (by c.form_row.result) (by (form_row c.args.form)) c.in_err-parts.field-0.0 (λ k h. ap by (sym c.form_row.ensures) ∙ h) (c.in_err-parts.ensures.made (term.form c.args.form)))
