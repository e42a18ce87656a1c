use Rattle.std.proofs.Common.{◌≡◌, ap, ◌∙◌, arith, insert, length}
use Rattle.fx_types.specs.Types.{column_list}
use Rattle.fx_types.specs.TypeView.{shape, columns_view}
use Rattle.fx_core.specs.SourceTypes.{put_column}
use Rattle.fx_typing.specs.ColumnPlaces.{column_rank}
use Rattle.fx_typing.proofs.ColumnLists.{put_made, put_rising, place_within}
use Rattle.fx_typing.proofs.columns.put_column.Goals as goal

pub insert-requires : goal.insert-requires
insert-requires c =
    let p : c.place_of-place.result ≡ column_rank c.args.name (columns_view c.others-items.result.items) = rw (← c.as_slice.ensures.value) c.place_of-place.ensures in
    rw p (omega (arith, place_within c.args.name c.others-items.result.items, ap length c.as_slice.ensures.value, c.as_slice.ensures.len))

pub from_rising-requires : goal.from_rising-requires
from_rising-requires c =
    let p : c.place_of-place.result ≡ column_rank c.args.name (columns_view c.others-items.result.items) = rw (← c.as_slice.ensures.value) c.place_of-place.ensures in
    let e : c.insert.new.self.items ≡ insert c.others-items.result.items (column_rank c.args.name (columns_view c.others-items.result.items)) (c.args.name, c.args.ty) = rw (← p) c.in_ok-insert.ensures.items in
    put_rising c.args.name c.args.ty c.into_items.result.items c.others-items.result.items _ (rw (c.into_items.ensures.columns) c.into_items.ensures.rising) c.others-items.ensures e

pub returns : goal.returns
returns c =
    let p : c.place_of-place.result ≡ column_rank c.args.name (columns_view c.others-items.result.items) = rw (← c.as_slice.ensures.value) c.place_of-place.ensures in
    let e : c.insert.new.self.items ≡ insert c.others-items.result.items (column_rank c.args.name (columns_view c.others-items.result.items)) (c.args.name, c.args.ty) = rw (← p) c.in_ok-insert.ensures.items in
    let r = rw (← c.into_items.ensures.columns) at c.into_items.ensures.rising in
    ap column_list c.from_rising.ensures
    ∙ put_made c.args.name c.args.ty c.into_items.result.items c.others-items.result.items _ r c.others-items.ensures e
    ∙ ap (λ cs. put_column c.args.name (shape c.args.ty) (column_list cs)) c.into_items.ensures.columns
