use Rattle.fx_types.specs.Types.{column_list}
use Rattle.fx_typing.proofs.Tellings.{tells_both, tells_none}
use Rattle.fx_typing.proofs.columns.tells_error.Goals as goal

pub returns-in_ok-is_told-2 : goal.returns-in_ok-is_told-2
returns-in_ok-is_told-2 c =
    tells_both c.in_ok-is_told.field-0 c.in_ok-is_told-2.field-0 (column_list c.args.columns.now) c.if-branch.true c.in_ok-is_told.ensures c.in_ok-is_told-2.ensures

pub returns-else-branch : goal.returns-else-branch
returns-else-branch c = tells_none c.in_ok-is_told.field-0 (column_list c.args.columns.now) c.if-branch.false c.in_ok-is_told.ensures
