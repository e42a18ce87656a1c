use Rattle.std.proofs.Common.{◌≡◌, ap, sym, ◌∙◌}
use Rattle.std.proofs.lemmas.Result.{IfOk-weaker}
use Rattle.fx_types.specs.Types.{column_list}
use Rattle.fx_types.specs.ValueView.{view}
use Rattle.fx_deeds.proofs.Lefting.{row_back}
use Rattle.fx_deeds.specs.RowValues.{record_row}
use Rattle.fx_deeds.proofs.collections.named_row.Goals as goal

pub returns-in-Rec : goal.returns-in-Rec
returns-in-Rec c =
    IfOk-weaker c.copy.result (λ r. r ≡ c.in-Rec.fields) (λ r. r ≡ record_row (column_list c.args.columns.now) (view c.args.sought.now))
    (λ r e. e ∙ sym (row_back c.in-Rec.fields) ∙ ap (λ v. record_row (column_list c.args.columns.now) (view v)) (sym c.in-Rec.is)) c.copy.ensures
