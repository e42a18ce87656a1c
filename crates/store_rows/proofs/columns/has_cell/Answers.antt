use Rattle.std.proofs.Common.{◌∙◌, ap}
use Rattle.std.specs.Ordering.{is_eq}
use Rattle.fx_types.specs.ValueView.{view}
use Rattle.fx_value.specs.Order.{order}
use Rattle.store_rows.proofs.RuleLemmas.{cell_missing, cell_there}
use Rattle.store_rows.proofs.columns.has_cell.Goals as goal

pub returns-in-Some : goal.returns-in-Some
returns-in-Some c = c.is_eq.ensures ∙ ap is_eq c.compare.ensures ∙ ap (λ v. is_eq (order v (view c.args.cell.now))) (cell_there c.args.row.now c.args.place (view c.in-Some.value.now) c.in-Some.ensures)

pub returns-in-None : goal.returns-in-None
returns-in-None c = c.is_eq-in-None.ensures ∙ ap is_eq c.compare-in-None.ensures ∙ ap (λ v. is_eq (order v (view c.args.cell.now))) (cell_missing c.args.row.now c.args.place c.in-None.ensures)
