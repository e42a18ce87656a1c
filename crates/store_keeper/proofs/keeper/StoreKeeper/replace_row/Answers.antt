use Rattle.std.proofs.Common.{◌≡◌, ◌∙◌, ap, subst, sym, true, IfOk}
use Rattle.std.specs.Prelude.{IsSomeAnd, slice_get}
use Rattle.fx_core.specs.declared.schema.TableShape.{TableShape}
use Rattle.sqlite.specs.Held.{state}
use Rattle.row_queries.specs.TableRows.{AreCellsOf}
use Rattle.row_keeper.specs.Changes.{IsReplaced, Replaces}
use Rattle.row_keeper.specs.Tables.{columns_at, shapes_of}
use Rattle.store_model.specs.Model.{Kept, shape_of}
use Rattle.store_model.specs.Steady.{IsKept}
use Rattle.store_keeper.specs.Acting.{SeatActs}
use Rattle.store_keeper.specs.Calls.{Acts}
use Rattle.store_keeper.specs.Kept.{kept}
use Rattle.store_keeper.proofs.ActCalls.{acts, fit_schema}
use Rattle.store_keeper.proofs.keeper.StoreKeeper.replace_row.Goals as goal

pub replace_seat-given-requires-clause-fit : goal.replace_seat-given-requires-clause-fit
replace_seat-given-requires-clause-fit g c = subst (λ (w : Kept g.row.S.Denot). IsSomeAnd (slice_get (shapes_of (shape_of w).now) c.args.table) (λ (t : TableShape). AreCellsOf t.columns c.args.cells.now)) (sym c.self.view_is) c.requires.fit

pub replace_seat-given-requires-clause-lawful : goal.replace_seat-given-requires-clause-lawful
replace_seat-given-requires-clause-lawful g c = c.self.invariant.lawful

pub invariant_of-self : goal.invariant_of-self
invariant_of-self g c =
    let k = c.self.inside in
    let r = c.replace_seat-given.result in
    let f = c.count_fault.ensures in
    let begun : k.is_begun ≡ true = ap (λ (w : Kept g.row.S.Denot). w.is_begun) c.self.view_is ∙ c.requires.begun in
    let was = subst (λ b. IsKept (state g.S.Store) (kept k.seat k.knows k.schema k.tables.items k.counts.items b k.visited k.faults)) begun c.self.invariant.kept in
    let fit = subst (λ (w : Kept g.row.S.Denot). IsSomeAnd (slice_get (shapes_of (shape_of w).now) c.args.table) (λ (t : TableShape). AreCellsOf t.columns c.args.cells.now)) (sym c.self.view_is) c.requires.fit in
    let there = fit_schema k.schema c.args.table (λ (t : TableShape). AreCellsOf t.columns c.args.cells.now) fit in
    let acted : SeatActs (state g.S.Store) k.seat c.replace_seat-given.new.seat k.schema k.tables.items c.replace_seat-given.new.tables.items k.counts.items k.counts.items (Replaces (columns_at (shapes_of k.schema) c.args.table) c.args.table c.args.id c.args.cells.now) r = subst (λ ns. SeatActs (state g.S.Store) k.seat c.replace_seat-given.new.seat k.schema k.tables.items c.replace_seat-given.new.tables.items ns ns (Replaces (columns_at (shapes_of k.schema) c.args.table) c.args.table c.args.id c.args.cells.now) r) c.deref.ensures.value (c.replace_seat-given.ensures.acts) in
    let now = (acts (state g.S.Store) (Replaces (columns_at (shapes_of k.schema) c.args.table) c.args.table c.args.id c.args.cells.now) k.tables.items c.replace_seat-given.new.tables.items k.counts.items k.counts.items k.knows c.count_fault.new.knows k.visited k.faults c.count_fault.new.faults r f.knows f.silent f.later f.rose k.seat c.replace_seat-given.new.seat k.schema acted there was).0 in
    record {
      lawful = c.self.invariant.lawful;
      kept = subst (λ b. IsKept (state g.S.Store) (kept c.replace_seat-given.new.seat c.count_fault.new.knows k.schema c.replace_seat-given.new.tables.items k.counts.items b k.visited c.count_fault.new.faults)) (sym begun) now;
    }

pub returns-clause-acts : goal.returns-clause-acts
returns-clause-acts g c =
    let k = c.self.inside in
    let r = c.replace_seat-given.result in
    let f = c.count_fault.ensures in
    let begun : k.is_begun ≡ true = ap (λ (w : Kept g.row.S.Denot). w.is_begun) c.self.view_is ∙ c.requires.begun in
    let was = subst (λ b. IsKept (state g.S.Store) (kept k.seat k.knows k.schema k.tables.items k.counts.items b k.visited k.faults)) begun c.self.invariant.kept in
    let fit = subst (λ (w : Kept g.row.S.Denot). IsSomeAnd (slice_get (shapes_of (shape_of w).now) c.args.table) (λ (t : TableShape). AreCellsOf t.columns c.args.cells.now)) (sym c.self.view_is) c.requires.fit in
    let there = fit_schema k.schema c.args.table (λ (t : TableShape). AreCellsOf t.columns c.args.cells.now) fit in
    let acted : SeatActs (state g.S.Store) k.seat c.replace_seat-given.new.seat k.schema k.tables.items c.replace_seat-given.new.tables.items k.counts.items k.counts.items (Replaces (columns_at (shapes_of k.schema) c.args.table) c.args.table c.args.id c.args.cells.now) r = subst (λ ns. SeatActs (state g.S.Store) k.seat c.replace_seat-given.new.seat k.schema k.tables.items c.replace_seat-given.new.tables.items ns ns (Replaces (columns_at (shapes_of k.schema) c.args.table) c.args.table c.args.id c.args.cells.now) r) c.deref.ensures.value (c.replace_seat-given.ensures.acts) in
    let path = ap (λ b. kept k.seat k.knows k.schema k.tables.items k.counts.items b k.visited k.faults) (sym begun) ∙ c.self.view_is in
    let now = (acts (state g.S.Store) (Replaces (columns_at (shapes_of k.schema) c.args.table) c.args.table c.args.id c.args.cells.now) k.tables.items c.replace_seat-given.new.tables.items k.counts.items k.counts.items k.knows c.count_fault.new.knows k.visited k.faults c.count_fault.new.faults r f.knows f.silent f.later f.rose k.seat c.replace_seat-given.new.seat k.schema acted there was).1 in
    subst (λ (w : Kept g.row.S.Denot). Acts (state g.S.Store) (Replaces (columns_at (shapes_of (shape_of w).now) c.args.table) c.args.table c.args.id c.args.cells.now) w (kept c.replace_seat-given.new.seat c.count_fault.new.knows k.schema c.replace_seat-given.new.tables.items k.counts.items k.is_begun k.visited c.count_fault.new.faults) r) path
    (subst (λ b. Acts (state g.S.Store) (Replaces (columns_at (shapes_of k.schema) c.args.table) c.args.table c.args.id c.args.cells.now) (kept k.seat k.knows k.schema k.tables.items k.counts.items true k.visited k.faults) (kept c.replace_seat-given.new.seat c.count_fault.new.knows k.schema c.replace_seat-given.new.tables.items k.counts.items b k.visited c.count_fault.new.faults) r) (sym begun) now)

pub returns-clause-sound : goal.returns-clause-sound
returns-clause-sound g c =
    subst (λ (w : Kept g.row.S.Denot). IfOk c.replace_seat-given.result (IsReplaced (columns_at (shapes_of (shape_of w).now) c.args.table) c.args.id)) c.self.view_is c.replace_seat-given.ensures.sound
