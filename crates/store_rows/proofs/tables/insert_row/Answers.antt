use Rattle.std.proofs.Common.{◌≡◌, Some, IfOk, get_or, ap, sym, subst}
use Rattle.std.specs.Prelude.{slice_get}
use Rattle.std.proofs.lemmas.List.{get_or_default}
use Rattle.fx_core.specs.declared.schema.TableShape.{TableShape}
use Rattle.sqlite.specs.Held.{state}
use Rattle.row_queries.specs.TableRows.{AreCellsOf}
use Rattle.row_keeper.specs.Changes.{Inserts, IsInserted}
use Rattle.row_keeper.specs.Tables.{columns_at, columns_in}
use Rattle.row_keeper.specs.declared.keeper.KeeperEnd.TheVariants.{Failed}
use Rattle.row_keeper.proofs.RuleLemmas.{at_slice}
use Rattle.store_reading.proofs.StayLemmas.{stays_itself}
use Rattle.store_rows.proofs.TableLemmas.{fit_at, in_order, inserted_told, narrow_at, not_called}
use Rattle.store_rows.proofs.tables.insert_row.Goals as goal

pub put_new-requires-clause-narrow : goal.put_new-requires-clause-narrow
put_new-requires-clause-narrow g c = narrow_at c.args.schema.now c.args.table c.in-Some.shape.now c.requires.lawful c.in-Some.ensures

pub put_new-requires-clause-fit : goal.put_new-requires-clause-fit
put_new-requires-clause-fit g c = fit_at (slice_get c.args.schema.now.tables c.args.table) c.in-Some.shape.now (λ (t : TableShape). AreCellsOf t.columns c.args.cells.now) c.requires.fit c.in-Some.ensures

pub returns-in_default-clause-stays : goal.returns-in_default-clause-stays
returns-in_default-clause-stays g c = stays_itself (state g.S.Store c.args.conn.now) _

pub returns-in_default-clause-told : goal.returns-in_default-clause-told
returns-in_default-clause-told g c = λ clean rest known. not_called (state g.S.Store c.args.conn.now).now.trees c.args.schema.now c.args.tables.now c.args.counts.now (Inserts (columns_at c.args.schema.now.tables c.args.table) c.args.table c.args.cells.now) Failed known

pub returns-then-not-has_place-clause-stays : goal.returns-then-not-has_place-clause-stays
returns-then-not-has_place-clause-stays g c = stays_itself (state g.S.Store c.args.conn.now) _

pub returns-then-not-has_place-clause-told : goal.returns-then-not-has_place-clause-told
returns-then-not-has_place-clause-told g c = λ clean rest known. not_called (state g.S.Store c.args.conn.now).now.trees c.args.schema.now c.args.tables.now c.args.counts.now (Inserts (columns_at c.args.schema.now.tables c.args.table) c.args.table c.args.cells.now) Failed known

pub returns-clause-sound : goal.returns-clause-sound
returns-clause-sound g c = subst (λ columns. IfOk c.put_new.result (IsInserted columns)) (sym (ap columns_in c.in-Some.ensures)) c.put_new.ensures.sound

pub returns-clause-told : goal.returns-clause-told
returns-clause-told g c = λ clean rest known.
    let trees = (state g.S.Store c.args.conn.now).now.trees in
    let schema = c.args.schema.now in
    let cs = c.args.tables.now in
    let ns = c.args.counts.now in
    let t = c.in-Some.shape.now in
    let here = c.has_place.ensures c.if-not-has_place.false in
    let change = get_or cs c.args.table c.index-tables-place.result in
    let hc = at_slice cs c.args.table change here.0 (get_or_default cs c.args.table _ change here.0) in
    let n = get_or ns c.args.table (record { now = 0; then = 0 }) in
    let hn : slice_get ns c.args.table ≡ Some n = at_slice ns c.args.table n here.1 (get_or_default ns c.args.table _ n here.1) in
    inserted_told trees schema cs ns c.args.table t change n known c.in-Some.ensures hc c.all_rows-all.result c.args.cells.now c.put_new.new.changes c.put_new.new.count c.put_new.result c.all_rows-all.ensures (c.put_new.ensures.told clean rest (in_order trees schema cs ns c.args.table t change n known c.in-Some.ensures hc hn))
