use Rattle.std.proofs.Common.{◌≡◌, ◌∙◌, List, ap, subst, sym}
use Rattle.std.specs.Prelude.{slice_get}
use Rattle.fx_base.specs.Silence.{MayFallSilent, SilenceCause}
use Rattle.fx_base.proofs.Silences.{goes_weaker}
use Rattle.fx_core.specs.declared.schema.Column.{Column}
use Rattle.row_queries.specs.TableRows.{AreCellsOf}
use Rattle.row_keeper.specs.Changes.{Inserts, IsInserted}
use Rattle.row_keeper.specs.Tables.{shapes_of}
use Rattle.row_imports.specs.Imports.{blanks, with_given}
use Rattle.row_imports.specs.Lines.{AddsLine, IsActed, acted}
use Rattle.row_imports.specs.declared.lines.Acted.{Acted}
use Rattle.row_imports.specs.declared.lines.Acted.TheVariants.{Added}
use Rattle.row_imports.proofs.Acting.{added, added_may, columns_are, fits_there, new_fit}
use Rattle.row_imports.proofs.lines.add_row.Goals as goal

pub insert-requires-clause-fit : goal.insert-requires-clause-fit
insert-requires-clause-fit g c =
    let columns = c.args.shape.now.columns in
    let heading = c.args.heading.now in
    let line = c.args.line.now in
    let cells_are : c.in_ok-cells.cells ≡ with_given heading.columns line 1 (blanks columns) = c.in_ok-cells.ensures ∙ ap (λ (cs : List Column). with_given heading.columns line 1 (blanks cs)) c.as_slice.ensures in
    fits_there (slice_get (shapes_of (g.K.Keeper.shaped c.args.keeper.now).now) heading.table) c.args.shape.now c.in_ok-cells.cells c.requires.heading.table
    (subst (AreCellsOf columns) (sym cells_are) (new_fit columns heading line c.requires.line))

pub returns-clause-done : goal.returns-clause-done
returns-clause-done g c =
    let columns = c.args.shape.now.columns in
    let heading = c.args.heading.now in
    let line = c.args.line.now in
    let shapes = shapes_of (g.K.Keeper.shaped c.args.keeper.now).now in
    let lost = SilenceCause (g.K.Keeper.marks c.args.keeper.now) (g.K.Keeper.marks c.insert.new.self) in
    let before = g.K.Keeper.told c.args.keeper.now in
    let now = g.K.Keeper.told c.insert.new.self in
    let cells_are : c.in_ok-cells.cells ≡ with_given heading.columns line 1 (blanks columns) = c.in_ok-cells.ensures ∙ ap (λ (cs : List Column). with_given heading.columns line 1 (blanks cs)) c.as_slice.ensures in
    subst (λ (a : Acted). MayFallSilent lost (AddsLine columns heading line a) before now) (sym c.outcome_of.ensures)
    (goes_weaker lost (Inserts columns heading.table c.in_ok-cells.cells c.in_ok-put.put) (AddsLine columns heading line (acted c.in_ok-put.put Added))
    (added columns heading line c.in_ok-cells.cells c.in_ok-put.put cells_are) before now
    (subst (λ (cs : List Column). MayFallSilent lost (Inserts cs heading.table c.in_ok-cells.cells c.in_ok-put.put) before now) (columns_are shapes heading.table c.args.shape.now c.requires.heading.table) c.in_ok-put.ensures.put))

pub returns-clause-may : goal.returns-clause-may
returns-clause-may g c =
    let columns = c.args.shape.now.columns in
    let shapes = shapes_of (g.K.Keeper.shaped c.args.keeper.now).now in
    subst (IsActed columns) (sym c.outcome_of.ensures) (added_may columns c.in_ok-put.put
    (subst (λ (cs : List Column). IsInserted cs c.in_ok-put.put) (columns_are shapes c.args.heading.now.table c.args.shape.now c.requires.heading.table) c.in_ok-put.ensures.sound))
