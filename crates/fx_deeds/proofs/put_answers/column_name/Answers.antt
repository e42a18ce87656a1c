use Rattle.std.proofs.Common.{◌∙◌, ap, sym}
use Rattle.std.specs.Str.{chars}
use Rattle.fx_deeds.specs.RowValues.{column_name}
use Rattle.fx_deeds.proofs.put_answers.column_name.Goals as goal

pub returns-in_ok-of-in-None : goal.returns-in_ok-of-in-None
unfolding chars
returns-in_ok-of-in-None c = c.in_ok-of-in-None.ensures ∙ ap (column_name c.args.columns.now) (sym c.in-None.is)
