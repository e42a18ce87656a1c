use Rattle.std.proofs.Common.{◌≡◌, Some, get_or}
use Rattle.std.specs.Prelude.{slice_get}
use Rattle.std.proofs.lemmas.List.{get_or_default}
use Rattle.sqlite.specs.Held.{state}
use Rattle.row_keeper.specs.Changes.{Removes}
use Rattle.row_keeper.specs.declared.keeper.KeeperEnd.TheVariants.{Failed}
use Rattle.row_keeper.proofs.RuleLemmas.{at_slice}
use Rattle.store_reading.proofs.StayLemmas.{stays_itself}
use Rattle.store_rows.proofs.TableLemmas.{in_order, removed_told, not_called}
use Rattle.store_rows.proofs.tables.remove_row.Goals as goal

pub returns-in_default-clause-stays : goal.returns-in_default-clause-stays
returns-in_default-clause-stays g c = stays_itself (state g.S.Store c.args.conn.now) _

pub returns-in_default-clause-told : goal.returns-in_default-clause-told
returns-in_default-clause-told g c = λ clean rest known. not_called (state g.S.Store c.args.conn.now).now.trees c.args.schema.now c.args.tables.now c.args.counts.now (Removes c.args.table c.args.id) Failed known

pub returns-then-not-has_place-clause-stays : goal.returns-then-not-has_place-clause-stays
returns-then-not-has_place-clause-stays g c = stays_itself (state g.S.Store c.args.conn.now) _

pub returns-then-not-has_place-clause-told : goal.returns-then-not-has_place-clause-told
returns-then-not-has_place-clause-told g c = λ clean rest known. not_called (state g.S.Store c.args.conn.now).now.trees c.args.schema.now c.args.tables.now c.args.counts.now (Removes c.args.table c.args.id) Failed known

pub returns-clause-told : goal.returns-clause-told
returns-clause-told g c = λ clean rest known.
    let trees = (state g.S.Store c.args.conn.now).now.trees in
    let schema = c.args.schema.now in
    let cs = c.args.tables.now in
    let ns = c.args.counts.now in
    let t = c.in-Some._shape.now in
    let here = c.has_place.ensures c.if-not-has_place.false in
    let change = get_or cs c.args.table c.index-tables-place.result in
    let hc = at_slice cs c.args.table change here.0 (get_or_default cs c.args.table _ change here.0) in
    let n = get_or ns c.args.table (record { now = 0; then = 0 }) in
    let hn : slice_get ns c.args.table ≡ Some n = at_slice ns c.args.table n here.1 (get_or_default ns c.args.table _ n here.1) in
    removed_told trees schema cs ns c.args.table t change n known c.in-Some.ensures hc c.args.id c.take_out.new.changes c.take_out.new.count c.take_out.result (c.take_out.ensures.told clean rest c.in-Some._shape.now.columns (in_order trees schema cs ns c.args.table t change n known c.in-Some.ensures hc hn))
