use Rattle.std.proofs.Common.{◌≡◌, ◌∙◌, ap, subst, sym, true}
use Rattle.std.specs.Prelude.{IsSome, slice_get}
use Rattle.sqlite.specs.Held.{state}
use Rattle.row_keeper.specs.Changes.{Removes}
use Rattle.row_keeper.specs.Tables.{shapes_of}
use Rattle.store_model.specs.Model.{Kept, shape_of}
use Rattle.store_model.specs.Steady.{IsKept}
use Rattle.store_keeper.specs.Acting.{SeatActs}
use Rattle.store_keeper.specs.Calls.{Acts}
use Rattle.store_keeper.specs.Kept.{kept}
use Rattle.store_keeper.proofs.ActCalls.{acts, table_schema}
use Rattle.store_keeper.proofs.keeper.StoreKeeper.remove_row.Goals as goal

pub invariant_of-self : goal.invariant_of-self
invariant_of-self g c =
    let k = c.self.inside in
    let r = c.remove_seat-given.result in
    let f = c.count_fault.ensures in
    let begun : k.is_begun ≡ true = ap (λ (w : Kept g.row.S.Denot). w.is_begun) c.self.view_is ∙ c.requires.begun in
    let was = subst (λ b. IsKept (state g.S.Store) (kept k.seat k.knows k.schema k.tables.items k.counts.items b k.visited k.faults)) begun c.self.invariant.kept in
    let fit = subst (λ (w : Kept g.row.S.Denot). IsSome (slice_get (shapes_of (shape_of w).now) c.args.table)) (sym c.self.view_is) c.requires.table in
    let there = table_schema k.schema c.args.table fit in
    let acted : SeatActs (state g.S.Store) k.seat c.remove_seat-given.new.seat k.schema k.tables.items c.remove_seat-given.new.tables.items k.counts.items c.remove_seat-given.new.counts.items (Removes c.args.table c.args.id) r = c.remove_seat-given.ensures in
    let now = (acts (state g.S.Store) (Removes c.args.table c.args.id) k.tables.items c.remove_seat-given.new.tables.items k.counts.items c.remove_seat-given.new.counts.items k.knows c.count_fault.new.knows k.visited k.faults c.count_fault.new.faults r f.knows f.silent f.later f.rose k.seat c.remove_seat-given.new.seat k.schema acted there was).0 in
    record {
      lawful = c.self.invariant.lawful;
      kept = subst (λ b. IsKept (state g.S.Store) (kept c.remove_seat-given.new.seat c.count_fault.new.knows k.schema c.remove_seat-given.new.tables.items c.remove_seat-given.new.counts.items b k.visited c.count_fault.new.faults)) (sym begun) now;
    }

pub returns : goal.returns
returns g c =
    let k = c.self.inside in
    let r = c.remove_seat-given.result in
    let f = c.count_fault.ensures in
    let begun : k.is_begun ≡ true = ap (λ (w : Kept g.row.S.Denot). w.is_begun) c.self.view_is ∙ c.requires.begun in
    let was = subst (λ b. IsKept (state g.S.Store) (kept k.seat k.knows k.schema k.tables.items k.counts.items b k.visited k.faults)) begun c.self.invariant.kept in
    let fit = subst (λ (w : Kept g.row.S.Denot). IsSome (slice_get (shapes_of (shape_of w).now) c.args.table)) (sym c.self.view_is) c.requires.table in
    let there = table_schema k.schema c.args.table fit in
    let acted : SeatActs (state g.S.Store) k.seat c.remove_seat-given.new.seat k.schema k.tables.items c.remove_seat-given.new.tables.items k.counts.items c.remove_seat-given.new.counts.items (Removes c.args.table c.args.id) r = c.remove_seat-given.ensures in
    let path = ap (λ b. kept k.seat k.knows k.schema k.tables.items k.counts.items b k.visited k.faults) (sym begun) ∙ c.self.view_is in
    let now = (acts (state g.S.Store) (Removes c.args.table c.args.id) k.tables.items c.remove_seat-given.new.tables.items k.counts.items c.remove_seat-given.new.counts.items k.knows c.count_fault.new.knows k.visited k.faults c.count_fault.new.faults r f.knows f.silent f.later f.rose k.seat c.remove_seat-given.new.seat k.schema acted there was).1 in
    subst (λ (w : Kept g.row.S.Denot). Acts (state g.S.Store) (Removes c.args.table c.args.id) w (kept c.remove_seat-given.new.seat c.count_fault.new.knows k.schema c.remove_seat-given.new.tables.items c.remove_seat-given.new.counts.items k.is_begun k.visited c.count_fault.new.faults) r) path
    (subst (λ b. Acts (state g.S.Store) (Removes c.args.table c.args.id) (kept k.seat k.knows k.schema k.tables.items k.counts.items true k.visited k.faults) (kept c.remove_seat-given.new.seat c.count_fault.new.knows k.schema c.remove_seat-given.new.tables.items c.remove_seat-given.new.counts.items b k.visited c.count_fault.new.faults) r) (sym begun) now)
