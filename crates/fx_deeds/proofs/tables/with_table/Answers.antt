use Rattle.std.proofs.Common.{◌≡◌, ◌++◌, ap, sym, subst, ◌∙◌}
use Rattle.std.specs.Prelude.{IfOk}
use Rattle.std.proofs.lemmas.Result.{IfOk-weaker}
use Rattle.fx_types.specs.ValueView.{view}
use Rattle.fx_semantics.proofs.RowsBack.{rows_back}
use Rattle.fx_semantics.specs.Rows.{rows_in}
use Rattle.fx_deeds.proofs.tables.with_table.Goals as goal

pub returns-in-Tab : goal.returns-in-Tab
returns-in-Tab c =
    subst (λ v. IfOk c.with_copies.result (λ r. r ≡ c.args.rows ++ rows_in (view v))) (sym c.in-Tab.is)
    (IfOk-weaker c.with_copies.result _ _ (λ r h. h ∙ ap (λ z. c.args.rows ++ z) (c.as_slice.ensures ∙ rows_back c.in-Tab.more)) c.with_copies.ensures)
