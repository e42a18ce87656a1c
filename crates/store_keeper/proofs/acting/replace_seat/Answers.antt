use Rattle.std.proofs.Common.{◌≡◌, arith, length, refl}
use Rattle.std.proofs.lemmas.List.{with_items_is}
use Rattle.row_keeper.specs.Changes.{Replaces}
use Rattle.row_keeper.specs.Tables.{columns_at}
use Rattle.store_keeper.proofs.ActCalls.{acted}
use Rattle.store_keeper.proofs.acting.replace_seat.Goals as goal

pub returns-clause-acts : goal.returns-clause-acts
returns-clause-acts g c =
    let schema = c.in-Some-schema.schema in
    let tables : length c.replace_row.new.tables ≡ c.args.tables.now.len = omega (arith, c.replace_row.auto.tables, c.deref_mut.ensures.len) in
    let cs = with_items_is c.args.tables.now c.replace_row.new.tables tables in
    rw (c.in-Some.is, c.in-Some-schema.is) (acted _ _ schema c.args.tables.now.items _ _ c.replace_row.new.tables c.args.counts.now c.args.counts.now c.args.counts.now c.args.counts.now (Replaces (columns_at schema.tables c.args.table) c.args.table c.args.id c.args.cells.now) c.replace_row.result c.deref_mut.ensures.value cs refl refl c.replace_row.ensures.stays c.replace_row.ensures.told)
