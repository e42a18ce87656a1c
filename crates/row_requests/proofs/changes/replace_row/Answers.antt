use Rattle.std.proofs.Common.{◌∙◌, ◌≡◌, List, None, ap, subst, sym}
use Rattle.std.specs.Prelude.{IsSomeAnd, slice_get}
use Rattle.fx_base.specs.Silence.{MayFallSilent, SilenceCause}
use Rattle.fx_core.specs.declared.schema.Column.{Column}
use Rattle.fx_core.specs.declared.schema.TableShape.{TableShape}
use Rattle.row_queries.specs.TableRows.{AreCellsOf}
use Rattle.std.specs.Prelude.{IfSome, length, map}
use Rattle.fx_types.specs.ValueView.{view}
use Rattle.row_queries.specs.TableRows.{IsRowOf}
use Rattle.row_queries.specs.declared.rows.Row.{Row}
use Rattle.row_keeper.specs.Changes.{IsReplaced, Replaces}
use Rattle.row_keeper.specs.Tables.{columns_at, shapes_of}
use Rattle.row_keeper.specs.Shaped.{Shaped}
use Rattle.row_requests.specs.Changes.{cells_with, first_refusal}
use Rattle.row_requests.specs.Steps.{came}
use Rattle.row_requests.proofs.AnyKeepers.{replaced_may, unjudged_replace}
use Rattle.row_requests.proofs.Given.{cells_fit, same_length, view_length}
use Rattle.row_requests.proofs.Rows.{replaced_goes, unfound_goes, unjudged_goes}
use Rattle.row_requests.proofs.Schemas.{are_apart, fits_columns, fits_there, found_sound, replaces_sound, row_cells, rows_in_order}
use Rattle.row_requests.proofs.changes.replace_row.Goals as goal

pub returns-in-None-clause-done : goal.returns-in-None-clause-done
returns-in-None-clause-done g c =
    let lost = SilenceCause (g.K.Keeper.marks c.args.keeper.now) (g.K.Keeper.marks c.find_row.new.keeper) in
    let before = g.K.Keeper.told c.args.keeper.now in
    let now = g.K.Keeper.told c.find_row.new.keeper in
    let columns = columns_at c.args.schema.now.tables c.args.table in
    let ordered = rows_in_order c.args.schema.now c.args.table c.requires.table before c.requires.sound in
    unfound_goes columns c.args.at c.args.table c.args.id c.args.given.now lost before now c.in_ok-row.field-0 c.refuse.result c.in-None.is c.refuse.ensures ordered c.in_ok-row.ensures.found

pub returns-in-Some-judged-clause-done : goal.returns-in-Some-judged-clause-done
returns-in-Some-judged-clause-done g c =
    let lost = SilenceCause (g.K.Keeper.marks c.args.keeper.now) (g.K.Keeper.marks c.find_row.new.keeper) in
    let before = g.K.Keeper.told c.args.keeper.now in
    let now = g.K.Keeper.told c.find_row.new.keeper in
    let columns = columns_at c.args.schema.now.tables c.args.table in
    let ordered = rows_in_order c.args.schema.now c.args.table c.requires.table before c.requires.sound in
    unjudged_goes columns c.args.at c.args.table c.args.id c.args.given.now lost before now c.in_ok-row.field-0 c.in-Some.row c.in-Some-judged.refusal c.in-Some.is
    (ap (λ cs. first_refusal c.args.at cs c.args.given.now) (sym c.columns_of-columns.ensures) ∙ sym c.in_ok-judged.ensures.is ∙ c.in-Some-judged.is) ordered c.in_ok-row.ensures.found

pub cells_with-requires : goal.cells_with-requires
cells_with-requires g c =
    let tables = c.args.schema.now.tables in
    let columns = columns_at tables c.args.table in
    let row_fits : AreCellsOf columns c.in-Some.row.cells = fits_columns tables c.args.table c.in-Some.row.cells
    (row_cells (slice_get tables c.args.table) c.in-Some.row
    (subst (λ (o : Shaped). IsSomeAnd (slice_get (shapes_of o.now) c.args.table) (λ (t : TableShape). IsRowOf t c.in-Some.row)) c.requires.shaped
    (subst (λ o. IfSome o (λ (r : Row). IsSomeAnd (slice_get (shapes_of (g.K.Keeper.shaped c.args.keeper.now).now) c.args.table) (λ (t : TableShape). IsRowOf t r))) c.in-Some.is c.in_ok-row.ensures.fit))) in
    sym (view_length c.as_slice.result.now) ∙ ap length c.as_slice.ensures ∙ same_length columns c.in-Some.row.cells row_fits ∙ ap length (sym c.columns_of-columns.ensures)

pub replace-requires-clause-fit : goal.replace-requires-clause-fit
replace-requires-clause-fit g c =
    let tables = c.args.schema.now.tables in
    let columns = columns_at tables c.args.table in
    let passed : first_refusal c.args.at columns c.args.given.now ≡ None = ap (λ cs. first_refusal c.args.at cs c.args.given.now) (sym c.columns_of-columns.ensures) ∙ sym c.in_ok-judged.ensures.is ∙ c.in-None-judged.is in
    let cells_are : c.in_ok-cells.cells ≡ cells_with c.args.given.now columns c.in-Some.row.cells =
    c.in_ok-cells.ensures ∙ ap (λ cs. cells_with c.args.given.now cs (map view c.as_slice.result.now)) c.columns_of-columns.ensures ∙ ap (cells_with c.args.given.now columns) c.as_slice.ensures in
    let row_fits : AreCellsOf columns c.in-Some.row.cells = fits_columns tables c.args.table c.in-Some.row.cells
    (row_cells (slice_get tables c.args.table) c.in-Some.row
    (subst (λ (o : Shaped). IsSomeAnd (slice_get (shapes_of o.now) c.args.table) (λ (t : TableShape). IsRowOf t c.in-Some.row)) c.requires.shaped
    (subst (λ o. IfSome o (λ (r : Row). IsSomeAnd (slice_get (shapes_of (g.K.Keeper.shaped c.args.keeper.now).now) c.args.table) (λ (t : TableShape). IsRowOf t r))) c.in-Some.is c.in_ok-row.ensures.fit))) in
    let fit : AreCellsOf columns c.in_ok-cells.cells = subst (AreCellsOf columns) (sym cells_are)
    (cells_fit c.args.at columns c.args.given.now c.in-Some.row.cells passed c.in_ok-judged.ensures.scalars (are_apart c.args.schema.now c.args.table c.requires.lawful c.requires.table) row_fits) in
    subst (λ (o : Shaped). IsSomeAnd (slice_get (shapes_of o.now) c.args.table) (λ (t : TableShape). AreCellsOf t.columns c.in_ok-cells.cells)) (sym (c.in_ok-row.ensures.shaped ∙ c.requires.shaped))
    (fits_there tables c.args.table c.in_ok-cells.cells c.requires.table fit)

pub returns-clause-done : goal.returns-clause-done
returns-clause-done g c =
    let before = g.K.Keeper.told c.args.keeper.now in
    let between = g.K.Keeper.told c.find_row.new.keeper in
    let now = g.K.Keeper.told c.replace.new.self in
    let tables = c.args.schema.now.tables in
    let columns = columns_at tables c.args.table in
    let passed : first_refusal c.args.at columns c.args.given.now ≡ None = ap (λ cs. first_refusal c.args.at cs c.args.given.now) (sym c.columns_of-columns.ensures) ∙ sym c.in_ok-judged.ensures.is ∙ c.in-None-judged.is in
    let cells_are : c.in_ok-cells.cells ≡ cells_with c.args.given.now columns c.in-Some.row.cells =
    c.in_ok-cells.ensures ∙ ap (λ cs. cells_with c.args.given.now cs (map view c.as_slice.result.now)) c.columns_of-columns.ensures ∙ ap (cells_with c.args.given.now columns) c.as_slice.ensures in
    replaced_goes columns c.args.at c.args.table c.args.id c.args.given.now (g.K.Keeper.marks c.args.keeper.now) (g.K.Keeper.marks c.find_row.new.keeper) (g.K.Keeper.marks c.replace.new.self) before between now
    c.in_ok-row.field-0 c.in-Some.row c.in_ok-cells.cells c.in_ok-put.put c.in_ok-changed.changed c.in-Some.is passed cells_are
    (c.in_ok-changed.ensures ∙ ap (λ (cs : List Column). came c.args.at cs c.in_ok-put.put) c.columns_of-columns.ensures)
    c.in_ok-row.ensures.cause.later c.in_ok-put.ensures.cause.later (rows_in_order c.args.schema.now c.args.table c.requires.table before c.requires.sound) c.in_ok-row.ensures.found
    (subst (λ (o : Shaped). MayFallSilent (SilenceCause (g.K.Keeper.marks c.find_row.new.keeper) (g.K.Keeper.marks c.replace.new.self)) (Replaces (columns_at (shapes_of o.now) c.args.table) c.args.table c.args.id c.in_ok-cells.cells c.in_ok-put.put) between now) (c.in_ok-row.ensures.shaped ∙ c.requires.shaped) c.in_ok-put.ensures.put)

pub returns-clause-sound : goal.returns-clause-sound
returns-clause-sound g c =
    let between = g.K.Keeper.told c.find_row.new.keeper in
    let tables = c.args.schema.now.tables in
    let columns = columns_at tables c.args.table in
    let passed : first_refusal c.args.at columns c.args.given.now ≡ None = ap (λ cs. first_refusal c.args.at cs c.args.given.now) (sym c.columns_of-columns.ensures) ∙ sym c.in_ok-judged.ensures.is ∙ c.in-None-judged.is in
    let cells_are : c.in_ok-cells.cells ≡ cells_with c.args.given.now columns c.in-Some.row.cells =
    c.in_ok-cells.ensures ∙ ap (λ cs. cells_with c.args.given.now cs (map view c.as_slice.result.now)) c.columns_of-columns.ensures ∙ ap (cells_with c.args.given.now columns) c.as_slice.ensures in
    let row_fits : AreCellsOf columns c.in-Some.row.cells = fits_columns tables c.args.table c.in-Some.row.cells
    (row_cells (slice_get tables c.args.table) c.in-Some.row
    (subst (λ (o : Shaped). IsSomeAnd (slice_get (shapes_of o.now) c.args.table) (λ (t : TableShape). IsRowOf t c.in-Some.row)) c.requires.shaped
    (subst (λ o. IfSome o (λ (r : Row). IsSomeAnd (slice_get (shapes_of (g.K.Keeper.shaped c.args.keeper.now).now) c.args.table) (λ (t : TableShape). IsRowOf t r))) c.in-Some.is c.in_ok-row.ensures.fit))) in
    let fit : AreCellsOf columns c.in_ok-cells.cells = subst (AreCellsOf columns) (sym cells_are)
    (cells_fit c.args.at columns c.args.given.now c.in-Some.row.cells passed c.in_ok-judged.ensures.scalars (are_apart c.args.schema.now c.args.table c.requires.lawful c.requires.table) row_fits) in
    replaces_sound c.args.schema.now (SilenceCause (g.K.Keeper.marks c.find_row.new.keeper) (g.K.Keeper.marks c.replace.new.self)) (columns_at (shapes_of (g.K.Keeper.shaped c.find_row.new.keeper).now) c.args.table) c.args.table c.args.id c.in_ok-cells.cells c.in_ok-put.put c.requires.table fit
    between (g.K.Keeper.told c.replace.new.self)
    (found_sound c.args.schema.now c.args.table c.args.id (SilenceCause (g.K.Keeper.marks c.args.keeper.now) (g.K.Keeper.marks c.find_row.new.keeper)) c.in_ok-row.field-0 (g.K.Keeper.told c.args.keeper.now) between c.requires.sound c.in_ok-row.ensures.found)
    c.in_ok-put.ensures.put

pub returns-in-Some-judged-clause-may : goal.returns-in-Some-judged-clause-may
returns-in-Some-judged-clause-may g c =
    unjudged_replace c.args.at (columns_at c.args.schema.now.tables c.args.table) c.args.id c.args.given.now c.in-Some-judged.refusal
    (ap (λ cs. first_refusal c.args.at cs c.args.given.now) (sym c.columns_of-columns.ensures) ∙ sym c.in_ok-judged.ensures.is ∙ c.in-Some-judged.is)

pub returns-clause-may : goal.returns-clause-may
returns-clause-may g c =
    let columns = columns_at c.args.schema.now.tables c.args.table in
    let passed : first_refusal c.args.at columns c.args.given.now ≡ None = ap (λ cs. first_refusal c.args.at cs c.args.given.now) (sym c.columns_of-columns.ensures) ∙ sym c.in_ok-judged.ensures.is ∙ c.in-None-judged.is in
    replaced_may c.args.at columns c.args.id c.args.given.now c.in_ok-put.put c.in_ok-changed.changed passed
    (subst (λ (o : Shaped). IsReplaced (columns_at (shapes_of o.now) c.args.table) c.args.id c.in_ok-put.put) (c.in_ok-row.ensures.shaped ∙ c.requires.shaped) c.in_ok-put.ensures.sound)
    (c.in_ok-changed.ensures ∙ ap (λ (cs : List Column). came c.args.at cs c.in_ok-put.put) c.columns_of-columns.ensures)
