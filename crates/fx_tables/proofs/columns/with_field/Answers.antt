use Rattle.std.proofs.Common.{◌∙◌}
use Rattle.fx_tables.proofs.ColumnSteps.{put_in}
use Rattle.fx_tables.proofs.columns.with_field.Goals as goal

pub from_rising-requires : goal.from_rising-requires
from_rising-requires c =
    (put_in c.args.name c.args.value c.into_items-items.result.items c.as_slice.result.now c.insert.new.self.items c.args.row c.place_of-place.result
    c.as_slice.ensures.value c.into_items-items.ensures.fields c.into_items-items.ensures.rising c.requires c.place_of-place.ensures.value c.in_ok-insert.ensures.items).0

pub returns : goal.returns
returns c =
    c.from_rising.ensures ∙ (put_in c.args.name c.args.value c.into_items-items.result.items c.as_slice.result.now c.insert.new.self.items c.args.row c.place_of-place.result
    c.as_slice.ensures.value c.into_items-items.ensures.fields c.into_items-items.ensures.rising c.requires c.place_of-place.ensures.value c.in_ok-insert.ensures.items).1
