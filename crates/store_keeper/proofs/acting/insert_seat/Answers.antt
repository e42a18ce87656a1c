use Rattle.std.proofs.Common.{◌≡◌, arith, length}
use Rattle.std.proofs.lemmas.List.{with_items_is}
use Rattle.row_keeper.specs.Changes.{Inserts}
use Rattle.row_keeper.specs.Tables.{columns_at}
use Rattle.store_keeper.proofs.ActCalls.{acted}
use Rattle.store_keeper.proofs.acting.insert_seat.Goals as goal

pub returns-clause-acts : goal.returns-clause-acts
returns-clause-acts g c =
    let schema = c.in-Some-schema.schema in
    let tables : length c.insert_row.new.tables ≡ c.args.tables.now.len = omega (arith, c.insert_row.auto.tables, c.deref_mut.ensures.len) in
    let cs = with_items_is c.args.tables.now c.insert_row.new.tables tables in
    let counts : length c.insert_row.new.counts ≡ c.args.counts.now.len = omega (arith, c.insert_row.auto.counts, c.deref_mut-2.ensures.len) in
    let ns = with_items_is c.args.counts.now c.insert_row.new.counts counts in
    rw (c.in-Some.is, c.in-Some-schema.is) (acted _ _ schema c.args.tables.now.items _ _ c.insert_row.new.tables c.args.counts.now.items _ _ c.insert_row.new.counts (Inserts (columns_at schema.tables c.args.table) c.args.table c.args.cells.now) c.insert_row.result c.deref_mut.ensures.value cs c.deref_mut-2.ensures.value ns c.insert_row.ensures.stays c.insert_row.ensures.told)
