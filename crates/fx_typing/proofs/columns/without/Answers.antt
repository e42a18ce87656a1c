use Rattle.std.proofs.Common.{◌≡◌, ap, sym, ◌∙◌, not, bytes_eq, filter}
use Rattle.fx_types.specs.Types.{column_list}
use Rattle.fx_core.specs.ColumnLists.{columns_without}
use Rattle.fx_typing.proofs.ColumnLists.{listed, rising_some, others_without}
use Rattle.fx_typing.proofs.columns.without.Goals as goal

pub from_rising-requires : goal.from_rising-requires
from_rising-requires c =
    rw (c.others.ensures) (rising_some (λ x. not (bytes_eq x.0 c.args.name.now)) c.into_items.result.items (rw (c.into_items.ensures.columns) c.into_items.ensures.rising))

pub returns : goal.returns
returns c =
    let r = rw (← c.into_items.ensures.columns) at c.into_items.ensures.rising in
    ap column_list c.from_rising.ensures
    ∙ ap listed c.others.ensures
    ∙ others_without c.args.name.now c.into_items.result.items r
    ∙ ap (λ cs. columns_without c.args.name.now (column_list cs)) c.into_items.ensures.columns
