use Rattle.std.proofs.Common.{◌∙◌, ◌≡◌, List, None, ap, subst, sym}
use Rattle.std.specs.Prelude.{IsSomeAnd, slice_get}
use Rattle.fx_base.specs.Silence.{MayFallSilent, SilenceCause}
use Rattle.fx_core.specs.declared.schema.Column.{Column}
use Rattle.fx_core.specs.declared.schema.TableShape.{TableShape}
use Rattle.row_queries.specs.TableRows.{AreCellsOf}
use Rattle.row_keeper.specs.Changes.{Inserts, IsInserted}
use Rattle.row_keeper.specs.Tables.{columns_at, shapes_of}
use Rattle.row_keeper.specs.Shaped.{Shaped}
use Rattle.row_requests.specs.Changes.{blanks, cells_with, first_refusal}
use Rattle.row_requests.specs.Steps.{came}
use Rattle.row_requests.proofs.AnyKeepers.{added_may, unjudged_add}
use Rattle.row_requests.proofs.Given.{blanks_fit, cells_fit}
use Rattle.row_requests.proofs.Rows.{inserted_goes}
use Rattle.row_requests.proofs.Schemas.{are_apart, fits_there, inserts_sound}
use Rattle.row_requests.proofs.changes.insert_row.Goals as goal

pub insert-requires-clause-fit : goal.insert-requires-clause-fit
insert-requires-clause-fit g c =
    let tables = c.args.schema.now.tables in
    let columns = columns_at tables c.args.table in
    let passed : first_refusal c.args.at columns c.args.given.now ≡ None = ap (λ cs. first_refusal c.args.at cs c.args.given.now) (sym c.columns_of-columns.ensures) ∙ sym c.in_ok-judged.ensures.is ∙ c.in-None.is in
    let cells_are : c.in_ok-cells.cells ≡ cells_with c.args.given.now columns (blanks columns) = c.in_ok-cells.ensures ∙ ap (λ cs. cells_with c.args.given.now cs (blanks cs)) c.columns_of-columns.ensures in
    let fit : AreCellsOf columns c.in_ok-cells.cells = subst (AreCellsOf columns) (sym cells_are)
    (cells_fit c.args.at columns c.args.given.now (blanks columns) passed c.in_ok-judged.ensures.scalars (are_apart c.args.schema.now c.args.table c.requires.lawful c.requires.table) (blanks_fit columns)) in
    subst (λ (o : Shaped). IsSomeAnd (slice_get (shapes_of o.now) c.args.table) (λ (t : TableShape). AreCellsOf t.columns c.in_ok-cells.cells)) (sym c.requires.shaped)
    (fits_there tables c.args.table c.in_ok-cells.cells c.requires.table fit)

pub returns-clause-done : goal.returns-clause-done
returns-clause-done g c =
    let lost = SilenceCause (g.K.Keeper.marks c.args.keeper.now) (g.K.Keeper.marks c.insert.new.self) in
    let before = g.K.Keeper.told c.args.keeper.now in
    let now = g.K.Keeper.told c.insert.new.self in
    let tables = c.args.schema.now.tables in
    let columns = columns_at tables c.args.table in
    let passed : first_refusal c.args.at columns c.args.given.now ≡ None = ap (λ cs. first_refusal c.args.at cs c.args.given.now) (sym c.columns_of-columns.ensures) ∙ sym c.in_ok-judged.ensures.is ∙ c.in-None.is in
    let cells_are : c.in_ok-cells.cells ≡ cells_with c.args.given.now columns (blanks columns) = c.in_ok-cells.ensures ∙ ap (λ cs. cells_with c.args.given.now cs (blanks cs)) c.columns_of-columns.ensures in
    inserted_goes columns c.args.at c.args.table c.args.given.now lost before now c.in_ok-cells.cells c.in_ok-put.put c.in_ok-changed.changed passed cells_are
    (c.in_ok-changed.ensures ∙ ap (λ (cs : List Column). came c.args.at cs c.in_ok-put.put) c.columns_of-columns.ensures)
    (subst (λ (o : Shaped). MayFallSilent lost (Inserts (columns_at (shapes_of o.now) c.args.table) c.args.table c.in_ok-cells.cells c.in_ok-put.put) before now) c.requires.shaped c.in_ok-put.ensures.put)

pub returns-clause-sound : goal.returns-clause-sound
returns-clause-sound g c =
    let tables = c.args.schema.now.tables in
    let columns = columns_at tables c.args.table in
    let passed : first_refusal c.args.at columns c.args.given.now ≡ None = ap (λ cs. first_refusal c.args.at cs c.args.given.now) (sym c.columns_of-columns.ensures) ∙ sym c.in_ok-judged.ensures.is ∙ c.in-None.is in
    let cells_are : c.in_ok-cells.cells ≡ cells_with c.args.given.now columns (blanks columns) = c.in_ok-cells.ensures ∙ ap (λ cs. cells_with c.args.given.now cs (blanks cs)) c.columns_of-columns.ensures in
    let fit : AreCellsOf columns c.in_ok-cells.cells = subst (AreCellsOf columns) (sym cells_are)
    (cells_fit c.args.at columns c.args.given.now (blanks columns) passed c.in_ok-judged.ensures.scalars (are_apart c.args.schema.now c.args.table c.requires.lawful c.requires.table) (blanks_fit columns)) in
    inserts_sound c.args.schema.now (SilenceCause (g.K.Keeper.marks c.args.keeper.now) (g.K.Keeper.marks c.insert.new.self)) (columns_at (shapes_of (g.K.Keeper.shaped c.args.keeper.now).now) c.args.table) c.args.table c.in_ok-cells.cells c.in_ok-put.put c.requires.table fit
    (g.K.Keeper.told c.args.keeper.now) (g.K.Keeper.told c.insert.new.self) c.requires.sound c.in_ok-put.ensures.put

pub returns-in-Some-clause-may : goal.returns-in-Some-clause-may
returns-in-Some-clause-may g c =
    unjudged_add c.args.at (columns_at c.args.schema.now.tables c.args.table) c.args.given.now c.in-Some.refusal
    (ap (λ cs. first_refusal c.args.at cs c.args.given.now) (sym c.columns_of-columns.ensures) ∙ sym c.in_ok-judged.ensures.is ∙ c.in-Some.is)

pub returns-clause-may : goal.returns-clause-may
returns-clause-may g c =
    let columns = columns_at c.args.schema.now.tables c.args.table in
    let passed : first_refusal c.args.at columns c.args.given.now ≡ None = ap (λ cs. first_refusal c.args.at cs c.args.given.now) (sym c.columns_of-columns.ensures) ∙ sym c.in_ok-judged.ensures.is ∙ c.in-None.is in
    added_may c.args.at columns c.args.given.now c.in_ok-put.put c.in_ok-changed.changed passed
    (subst (λ (o : Shaped). IsInserted (columns_at (shapes_of o.now) c.args.table) c.in_ok-put.put) c.requires.shaped c.in_ok-put.ensures.sound)
    (c.in_ok-changed.ensures ∙ ap (λ (cs : List Column). came c.args.at cs c.in_ok-put.put) c.columns_of-columns.ensures)
