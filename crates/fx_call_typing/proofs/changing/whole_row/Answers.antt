use Rattle.fx_types.specs.Types.{column_list}
use Rattle.fx_typing.specs.Deeds.{when_columns}
use Rattle.fx_typing.specs.TypedView.{typed}
use Rattle.fx_call_typing.proofs.RowSteps.{kept, broken}
use Rattle.fx_call_typing.proofs.changing.whole_row.Goals as goal

pub returns-in-Some : goal.returns-in-Some
returns-in-Some c = broken (when_columns (column_list c.args.columns.now) (column_list c.args.fields)) _ _ c.in-Some.rule c.in_ok-broken.ensures c.in-Some.is

pub returns-in-None : goal.returns-in-None
returns-in-None c = kept typed (when_columns (column_list c.args.columns.now) (column_list c.args.fields)) _ _ _ c.in_ok-broken.ensures c.in-None.is c.come_whole.ensures
