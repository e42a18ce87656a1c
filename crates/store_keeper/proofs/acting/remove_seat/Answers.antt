use Rattle.std.proofs.Common.{◌≡◌, arith, length}
use Rattle.std.proofs.lemmas.List.{with_items_is}
use Rattle.row_keeper.specs.Changes.{Removes}
use Rattle.store_keeper.proofs.ActCalls.{acted}
use Rattle.store_keeper.proofs.acting.remove_seat.Goals as goal

pub returns : goal.returns
returns g c =
    let schema = c.in-Some-schema.schema in
    let tables : length c.remove_row.new.tables ≡ c.args.tables.now.len = omega (arith, c.remove_row.auto.tables, c.deref_mut.ensures.len) in
    let cs = with_items_is c.args.tables.now c.remove_row.new.tables tables in
    let counts : length c.remove_row.new.counts ≡ c.args.counts.now.len = omega (arith, c.remove_row.auto.counts, c.deref_mut-2.ensures.len) in
    let ns = with_items_is c.args.counts.now c.remove_row.new.counts counts in
    rw (c.in-Some.is, c.in-Some-schema.is) (acted _ _ schema c.args.tables.now.items _ _ c.remove_row.new.tables c.args.counts.now.items _ _ c.remove_row.new.counts (Removes c.args.table c.args.id) c.remove_row.result c.deref_mut.ensures.value cs c.deref_mut-2.ensures.value ns c.remove_row.ensures.stays c.remove_row.ensures.told)
