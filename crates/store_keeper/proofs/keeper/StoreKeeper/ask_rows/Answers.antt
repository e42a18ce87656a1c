use Rattle.std.proofs.Common.{subst, sym}
use Rattle.std.specs.Prelude.{IsSome, slice_get}
use Rattle.sqlite.specs.Held.{state}
use Rattle.row_keeper.specs.Tables.{shapes_of}
use Rattle.store_model.specs.Model.{Kept, shape_of}
use Rattle.store_keeper.specs.Acting.{SeatAsks}
use Rattle.store_keeper.specs.Calls.{Asks}
use Rattle.store_keeper.specs.Kept.{kept}
use Rattle.store_keeper.proofs.ActCalls.{table_schema}
use Rattle.store_keeper.proofs.AskCalls.{asks}
use Rattle.store_keeper.proofs.keeper.StoreKeeper.ask_rows.Goals as goal

pub ask_seat-given-requires : goal.ask_seat-given-requires
ask_seat-given-requires g c = subst (λ (w : Kept g.row.S.Denot). IsSome (slice_get (shapes_of (shape_of w).now) c.args.query.now.table)) (sym c.self.view_is) c.requires

pub invariant_of-self : goal.invariant_of-self
invariant_of-self g c =
    let k = c.self.inside in
    let r = c.ask_seat-given.result in
    let f = c.count_fault.ensures in
    let v = c.count_visits.ensures in
    let fit = subst (λ (w : Kept g.row.S.Denot). IsSome (slice_get (shapes_of (shape_of w).now) c.args.query.now.table)) (sym c.self.view_is) c.requires in
    let there = table_schema k.schema c.args.query.now.table fit in
    let asked = subst (λ cs. SeatAsks (state g.S.Store) k.seat c.ask_seat-given.new.seat k.schema cs c.args.query.now r) c.deref.ensures.value c.ask_seat-given.ensures in
    record { lawful = c.self.invariant.lawful; kept = (asks (state g.S.Store) c.args.query.now k.tables.items k.counts.items k.is_begun k.knows c.count_fault.new.knows k.visited c.count_visits.new.visited k.faults c.count_fault.new.faults r f.knows f.silent f.later f.rose v.rows v.none v.later k.seat c.ask_seat-given.new.seat k.schema asked there c.self.invariant.kept).0 }

pub returns : goal.returns
returns g c =
    let k = c.self.inside in
    let r = c.ask_seat-given.result in
    let f = c.count_fault.ensures in
    let v = c.count_visits.ensures in
    let fit = subst (λ (w : Kept g.row.S.Denot). IsSome (slice_get (shapes_of (shape_of w).now) c.args.query.now.table)) (sym c.self.view_is) c.requires in
    let there = table_schema k.schema c.args.query.now.table fit in
    let asked = subst (λ cs. SeatAsks (state g.S.Store) k.seat c.ask_seat-given.new.seat k.schema cs c.args.query.now r) c.deref.ensures.value c.ask_seat-given.ensures in
    subst (λ (w : Kept g.row.S.Denot). Asks (state g.S.Store) c.args.query.now w (kept c.ask_seat-given.new.seat c.count_fault.new.knows k.schema k.tables.items k.counts.items k.is_begun c.count_visits.new.visited c.count_fault.new.faults) r) c.self.view_is
    (asks (state g.S.Store) c.args.query.now k.tables.items k.counts.items k.is_begun k.knows c.count_fault.new.knows k.visited c.count_visits.new.visited k.faults c.count_fault.new.faults r f.knows f.silent f.later f.rose v.rows v.none v.later k.seat c.ask_seat-given.new.seat k.schema asked there c.self.invariant.kept).1
