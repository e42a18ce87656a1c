use Rattle.std.proofs.Common.{◌≡◌, ◌∙◌, List, ap, subst, sym}
use Rattle.std.specs.Prelude.{slice_get}
use Rattle.fx_base.specs.Silence.{MayFallSilent, SilenceCause}
use Rattle.fx_base.proofs.Silences.{goes_weaker}
use Rattle.fx_core.specs.declared.schema.Column.{Column}
use Rattle.row_queries.specs.TableRows.{AreCellsOf}
use Rattle.row_keeper.specs.Changes.{IsReplaced, Replaces}
use Rattle.row_keeper.specs.Tables.{shapes_of}
use Rattle.row_imports.specs.Imports.{with_given}
use Rattle.row_imports.specs.Lines.{ChangesLine, IsActed, acted}
use Rattle.row_imports.specs.declared.lines.Acted.{Acted}
use Rattle.row_imports.specs.declared.lines.Acted.TheVariants.{Changed}
use Rattle.row_imports.proofs.Acting.{cells_fit, changed, changed_may, columns_are, fits_there}
use Rattle.row_imports.proofs.CellLists.{few_cells}
use Rattle.row_imports.proofs.lines.change_row.Goals as goal

pub with_given-requires : goal.with_given-requires
with_given-requires g c = few_cells c.args.shape.now.columns c.args.row.now.cells c.as_slice.result.now c.requires.heading.narrow c.requires.row c.as_slice.ensures

pub replace-requires-clause-fit : goal.replace-requires-clause-fit
replace-requires-clause-fit g c =
    let columns = c.args.shape.now.columns in
    let heading = c.args.heading.now in
    let line = c.args.line.now in
    let cells_are : c.in_ok-cells.cells ≡ with_given heading.columns line 1 c.args.row.now.cells = c.in_ok-cells.ensures ∙ ap (with_given heading.columns line 1) c.as_slice.ensures in
    fits_there (slice_get (shapes_of (g.K.Keeper.shaped c.args.keeper.now).now) heading.table) c.args.shape.now c.in_ok-cells.cells c.requires.heading.table
    (subst (AreCellsOf columns) (sym cells_are) (cells_fit columns heading line c.args.row.now.cells c.requires.line c.requires.row))

pub returns-clause-done : goal.returns-clause-done
returns-clause-done g c =
    let columns = c.args.shape.now.columns in
    let heading = c.args.heading.now in
    let line = c.args.line.now in
    let row = c.args.row.now in
    let shapes = shapes_of (g.K.Keeper.shaped c.args.keeper.now).now in
    let lost = SilenceCause (g.K.Keeper.marks c.args.keeper.now) (g.K.Keeper.marks c.replace.new.self) in
    let before = g.K.Keeper.told c.args.keeper.now in
    let now = g.K.Keeper.told c.replace.new.self in
    let cells_are : c.in_ok-cells.cells ≡ with_given heading.columns line 1 row.cells = c.in_ok-cells.ensures ∙ ap (with_given heading.columns line 1) c.as_slice.ensures in
    subst (λ (a : Acted). MayFallSilent lost (ChangesLine columns heading line row a) before now) (sym c.outcome_of.ensures)
    (goes_weaker lost (Replaces columns heading.table row.id c.in_ok-cells.cells c.in_ok-put.put) (ChangesLine columns heading line row (acted c.in_ok-put.put Changed))
    (changed columns heading line row c.in_ok-cells.cells c.in_ok-put.put cells_are) before now
    (subst (λ (cs : List Column). MayFallSilent lost (Replaces cs heading.table row.id c.in_ok-cells.cells c.in_ok-put.put) before now) (columns_are shapes heading.table c.args.shape.now c.requires.heading.table) c.in_ok-put.ensures.put))

pub returns-clause-may : goal.returns-clause-may
returns-clause-may g c =
    let columns = c.args.shape.now.columns in
    let shapes = shapes_of (g.K.Keeper.shaped c.args.keeper.now).now in
    subst (IsActed columns) (sym c.outcome_of.ensures) (changed_may columns c.args.row.now.id c.in_ok-put.put
    (subst (λ (cs : List Column). IsReplaced cs c.args.row.now.id c.in_ok-put.put) (columns_are shapes c.args.heading.now.table c.args.shape.now c.requires.heading.table) c.in_ok-put.ensures.sound))
