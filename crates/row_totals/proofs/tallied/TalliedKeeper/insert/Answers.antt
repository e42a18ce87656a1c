use Rattle.fx_base.specs.Silence.{SilenceCause}
use Rattle.row_books.specs.Numbers.{tables_now, tables_then}
use Rattle.row_totals.proofs.Keeping.{tallied_in}
use Rattle.std.proofs.Common.{List, subst}
use Rattle.std.specs.Prelude.{IfOk}
use Rattle.fx_core.specs.declared.schema.Column.{Column}
use Rattle.fx_core.specs.declared.schema.TableShape.{TableShape}
use Rattle.row_queries.specs.TableRows.{AreCellsOf}
use Rattle.row_keeper.specs.Changes.{Inserts, IsInserted}
use Rattle.row_keeper.specs.Over.{Becomes}
use Rattle.row_totals.proofs.Shapes.{columns_inside, fit_inside}
use Rattle.row_totals.proofs.tallied.TalliedKeeper.insert.Goals as goal

pub insert_row-requires-clause-fit : goal.insert_row-requires-clause-fit
insert_row-requires-clause-fit g c = fit_inside c.args.self.now.is_filled (g.K.Keeper.shaped c.args.self.now.keeper).now c.args.table (λ (t : TableShape). AreCellsOf t.columns c.args.cells.now) c.requires.fit

pub returns-clause-put : goal.returns-clause-put
returns-clause-put g c =
    let same = columns_inside c.args.self.now.is_filled (g.K.Keeper.shaped c.args.self.now.keeper).now c.args.table (λ (t : TableShape). AreCellsOf t.columns c.args.cells.now) c.requires.fit in
    subst (λ (columns : List Column). IfOk c.insert_row.result (λ put. Becomes g.K.Keeper c.args.self.now.keeper c.insert_row.new.keeper (Inserts columns c.args.table c.args.cells.now put))) same c.insert_row.ensures.called.ok

pub returns-clause-sound : goal.returns-clause-sound
returns-clause-sound g c =
    let same = columns_inside c.args.self.now.is_filled (g.K.Keeper.shaped c.args.self.now.keeper).now c.args.table (λ (t : TableShape). AreCellsOf t.columns c.args.cells.now) c.requires.fit in
    subst (λ (columns : List Column). IfOk c.insert_row.result (λ put. IsInserted columns put)) same c.insert_row.ensures.sound

pub invariant_of-self : goal.invariant_of-self
invariant_of-self g c =
    let k = g.K.Keeper in
    let old = c.args.self.now in
    let new = c.insert_row.new.keeper in
    let books = c.insert_row.new.books in
    let called = c.insert_row.ensures.called in
    record {
      kept = tallied_in (SilenceCause (k.marks old.keeper) (k.marks new)) (tables_now books) (tables_then books) (k.shaped new) (k.in_transaction old.keeper) (k.in_transaction new) (k.told new) (k.began new) old.kept c.requires.begun c.insert_row.ensures.counted c.insert_row.ensures.then called.shaped
          called.passes.mode called.passes.began;
    }
