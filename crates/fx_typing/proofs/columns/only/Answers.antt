use Rattle.std.proofs.Common.{◌≡◌, ap, sym, ◌∙◌}
use Rattle.fx_types.specs.Types.{column_list}
use Rattle.fx_core.specs.ColumnLists.{is_one_of, columns_only}
use Rattle.fx_typing.proofs.ColumnLists.{listed, rising_some, kept_only}
use Rattle.fx_typing.proofs.columns.only.Goals as goal

pub from_rising-requires : goal.from_rising-requires
from_rising-requires c =
    rw (c.select_columns.ensures) (rising_some (λ x. is_one_of x.0 c.args.names.now) c.into_items.result.items (rw (c.into_items.ensures.columns) c.into_items.ensures.rising))

pub returns : goal.returns
returns c =
    ap column_list c.from_rising.ensures
    ∙ ap listed c.select_columns.ensures
    ∙ kept_only c.args.names.now c.into_items.result.items
    ∙ ap (λ cs. columns_only c.args.names.now (column_list cs)) c.into_items.ensures.columns
