use Rattle.fx_base.specs.Silence.{SilenceCause}
use Rattle.row_books.specs.Numbers.{tables_now, tables_then}
use Rattle.row_totals.proofs.Keeping.{tallied_in}
use Rattle.row_totals.proofs.Shapes.{some_inside}
use Rattle.row_totals.proofs.tallied.TalliedKeeper.remove.Goals as goal

pub remove_row-requires-clause-table : goal.remove_row-requires-clause-table
remove_row-requires-clause-table g c = some_inside c.args.self.now.is_filled (g.K.Keeper.shaped c.args.self.now.keeper).now c.args.table c.requires.table

pub invariant_of-self : goal.invariant_of-self
invariant_of-self g c =
    let k = g.K.Keeper in
    let old = c.args.self.now in
    let new = c.remove_row.new.keeper in
    let books = c.remove_row.new.books in
    let called = c.remove_row.ensures.called in
    record {
      kept = tallied_in (SilenceCause (k.marks old.keeper) (k.marks new)) (tables_now books) (tables_then books) (k.shaped new) (k.in_transaction old.keeper) (k.in_transaction new) (k.told new) (k.began new) old.kept c.requires.begun c.remove_row.ensures.counted c.remove_row.ensures.then called.shaped
          called.passes.mode called.passes.began;
    }
