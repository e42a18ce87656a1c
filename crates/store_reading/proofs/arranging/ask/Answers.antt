use Rattle.std.proofs.lemmas.List.Elements.{All-from_recursion}
use Rattle.sqlite.specs.Held.{state}
use Rattle.row_queries.specs.TableRows.{IsHeldRow}
use Rattle.store_model.specs.Ends.{call_failed}
use Rattle.store_reading.proofs.DecodeLemmas.{if_ok}
use Rattle.store_reading.proofs.StayLemmas.{stays_anyway}
use Rattle.store_reading.proofs.arranging.ask.Goals as goal

pub returns-in-Ok-clause-stays : goal.returns-in-Ok-clause-stays
returns-in-Ok-clause-stays g c = stays_anyway (state g.S.Store c.args.conn.now) (state g.S.Store c.all_rows.new.conn) (call_failed c.arrange.result) c.in-Ok.ensures.stays

pub returns-in-Ok-clause-asked : goal.returns-in-Ok-clause-asked
returns-in-Ok-clause-asked g c =
    if_ok c.arrange.result c.arrange.ensures (λ asked are. (c.in-Ok.rows.items, (c.in-Ok.ensures.rising, All-from_recursion (IsHeldRow c.args.table.now) c.in-Ok.rows.items c.in-Ok.ensures.held), are, λ clean rest of. c.in-Ok.ensures.rows clean rest of))
