use Rattle.std.proofs.Common.{◌≡◌, ◌∙◌, refl, subst, sym}
use Rattle.fx_base.specs.Silence.{SilenceCause}
use Rattle.fx_env.specs.Scopes.{Fixed}
use Rattle.row_keeper.specs.declared.rows.Put.TheVariants.{NoRow}
use Rattle.row_queries.specs.TableRows.{AreCellsOf}
use Rattle.fx_deeds.proofs.Cells.{changed_cells_fit}
use Rattle.fx_deeds.proofs.Tabling.{cells_there, changed_fits, changes_row, columns_there, found_fits_at, misses_row, none_of}
use Rattle.fx_deeds.specs.Finding.{IsShape}
use Rattle.fx_deeds.specs.RowValues.{changed_cells}
use Rattle.fx_deeds.proofs.CutOff.{on_any}
use Rattle.fx_deeds.proofs.CutUpdates.{stays_on}
use Rattle.fx_deeds.proofs.Attempts.{look_attempts, look_then}
use Rattle.fx_deeds.proofs.table_rows.put_changed.Goals as goal

pub returns-in_default-clause-done : goal.returns-in_default-clause-done
returns-in_default-clause-done g c = misses_row (SilenceCause (g.W.Env.marks c.args.world.now) (g.W.Env.marks c.find_cells.new.world)) (g.W.World.state c.args.world.now) (g.W.World.state c.find_cells.new.world) c.args.shape.now c.args.table c.args.id c.args.changes.now c.in_ok-found.field-0 c.new.result NoRow (none_of c.in_ok-found.field-0 c.in_default.not-Some) refl c.in_ok-found.ensures.found

pub replace-requires : goal.replace-requires
replace-requires g c =
    let p = c.args.shape.now in
    let old = found_fits_at p c.args.id c.in_ok-found.field-0 c.in-Some.found c.in-Some.is c.in_ok-found.ensures.fit in
    let cells : c.in_ok-cells.cells ≡ changed_cells p.columns c.args.changes.now c.in-Some.found = c.in_ok-cells.ensures ∙ (λ i. changed_cells (c.as_slice.ensures i) c.args.changes.now (c.as_slice-2.ensures i)) in
    cells_there (g.W.Env.fixed c.find_cells.new.world).schema c.args.table p c.in_ok-cells.cells (subst (λ (f : Fixed). IsShape f.schema c.args.table p) (sym c.find_cells.ensures.look.passed.fixed) c.requires.shape)
    (subst (AreCellsOf p.columns) (sym cells) (changed_cells_fit p c.requires.shape.1 c.requires.can.0.0 c.args.changes.now c.requires.can.0.1 c.requires.can.1 c.in-Some.found old.1))

pub returns-clause-done : goal.returns-clause-done
returns-clause-done g c =
    let p = c.args.shape.now in
    let shape = subst (λ (f : Fixed). IsShape f.schema c.args.table p) (sym c.find_cells.ensures.look.passed.fixed) c.requires.shape in
    changes_row _ _ _ _ _ _ p _ c.args.table c.args.id c.args.changes.now c.in_ok-found.field-0 c.in-Some.found c.in_ok-cells.cells c.in_ok-put.put c.find_cells.ensures.look.passed.later c.replace.ensures.attempt.passed.later
    (columns_there (g.W.Env.fixed c.find_cells.new.world).schema c.args.table p shape) c.in-Some.is (c.in_ok-cells.ensures ∙ (λ i. changed_cells (c.as_slice.ensures i) c.args.changes.now (c.as_slice-2.ensures i)))
    c.in_ok-found.ensures.found c.in_ok-put.ensures.put

pub returns-clause-fit : goal.returns-clause-fit
returns-clause-fit g c =
    let p = c.args.shape.now in
    let old = found_fits_at p c.args.id c.in_ok-found.field-0 c.in-Some.found c.in-Some.is c.in_ok-found.ensures.fit in
    let cells : c.in_ok-cells.cells ≡ changed_cells p.columns c.args.changes.now c.in-Some.found = c.in_ok-cells.ensures ∙ (λ i. changed_cells (c.as_slice.ensures i) c.args.changes.now (c.as_slice-2.ensures i)) in
    changed_fits p _ c.args.id c.in-Some.found c.in_ok-cells.cells c.in_ok-put.put c.in_ok-put.ensures.sound old
    (subst (AreCellsOf p.columns) (sym cells) (changed_cells_fit p c.requires.shape.1 c.requires.can.0.0 c.args.changes.now c.requires.can.0.1 c.requires.can.1 c.in-Some.found old.1))

pub returns-in_err-found-clause-attempt : goal.returns-in_err-found-clause-attempt
returns-in_err-found-clause-attempt g c = look_attempts _ _ _ c.find_cells.ensures.look

pub returns-in_default-clause-attempt : goal.returns-in_default-clause-attempt
returns-in_default-clause-attempt g c = look_attempts _ _ _ c.find_cells.ensures.look

pub returns-in_err-cells-clause-attempt : goal.returns-in_err-cells-clause-attempt
returns-in_err-cells-clause-attempt g c = look_attempts _ _ _ c.find_cells.ensures.look

pub returns-in_err-put-clause-attempt : goal.returns-in_err-put-clause-attempt
returns-in_err-put-clause-attempt g c = look_then _ _ _ _ c.find_cells.ensures.look c.replace.ensures.attempt

pub returns-clause-attempt : goal.returns-clause-attempt
returns-clause-attempt g c = look_then _ _ _ _ c.find_cells.ensures.look c.replace.ensures.attempt

pub returns-in_err-found-clause-stops : goal.returns-in_err-found-clause-stops
returns-in_err-found-clause-stops g c = on_any _ c.find_cells.ensures.look.stays

pub returns-in_err-cells-clause-stops : goal.returns-in_err-cells-clause-stops
returns-in_err-cells-clause-stops g c = on_any _ c.find_cells.ensures.look.stays

pub returns-in_err-put-clause-stops : goal.returns-in_err-put-clause-stops
returns-in_err-put-clause-stops g c =
    on_any _ (stays_on _ _ _ _ _ _ c.find_cells.ensures.look.passed.later c.replace.ensures.attempt.passed.later c.find_cells.ensures.look.stays c.in_err-put.ensures.stops)
