use Rattle.std.proofs.Common.{◌≡◌, ◌∙◌, ap, subst, sym}
use Rattle.fx_types.specs.declared.values.Value.{Value}
use Rattle.fx_types.specs.ValueView.{view}
use Rattle.fx_semantics.proofs.RowsBack.{rows_back}
use Rattle.fx_semantics.specs.Rows.{rows_in}
use Rattle.fx_tables.specs.RowCalls.{first_row_record}
use Rattle.fx_eval.proofs.demands.first_in.Goals as goal

pub returns-in-Tab : goal.returns-in-Tab
returns-in-Tab c =
    let P : Value → Type 0 = λ t. view c.first.result ≡ first_row_record (rows_in (view t)) in
    subst P (sym c.in-Tab.is) (c.first.ensures.value ∙ ap first_row_record (rows_back c.in-Tab.rows))
