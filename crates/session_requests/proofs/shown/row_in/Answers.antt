use Rattle.std.proofs.Common.{◌∙◌, ap, sym}
use Rattle.recalc.specs.app_semantics.Chosen.{row_at_position}
use Rattle.fx_types.specs.ValueView.{view}
use Rattle.fx_types.specs.declared.values.Value.{Value}
use Rattle.fx_semantics.proofs.RowsBack.{rows_back}
use Rattle.recalc.specs.fx_semantics.Rows.{rows_in}
use Rattle.session_requests.proofs.shown.row_in.Goals as goal

pub returns-in-Tab : goal.returns-in-Tab
returns-in-Tab c = c.row_at.ensures ∙ ap (row_at_position c.args.at) (c.as_slice.ensures ∙ rows_back c.in-Tab.rows ∙ ap (λ (v : Value). rows_in (view v)) (sym c.in-Tab.is))
