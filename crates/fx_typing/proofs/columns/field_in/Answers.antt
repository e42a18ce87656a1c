use Rattle.std.proofs.Common.{sym, ◌∙◌}
use Rattle.fx_typing.proofs.ColumnLists.{field_item}
use Rattle.fx_typing.proofs.columns.field_in.Goals as goal

pub returns : goal.returns
returns c = c.ty.ensures ∙ sym (field_item c.args.name.now c.args.columns.now)
