use Rattle.row_counts.specs.Looking.{beside}
use Rattle.row_counts.proofs.Looks.{passes_then}
use Rattle.row_totals.proofs.MoveLemmas.{moves_inside}
use Rattle.row_totals.proofs.tallied.TalliedKeeper.reshape.Goals as goal

pub reshape-requires-clause-moves : goal.reshape-requires-clause-moves
reshape-requires-clause-moves g c = moves_inside c.args.self.now.is_filled (g.K.Keeper.shaped c.args.self.now.keeper).now c.args.schema.now.tables c.args.moves.now c.requires.moves

pub returns-in_err-books-in-Ok-Done-clause-passes : goal.returns-in_err-books-in-Ok-Done-clause-passes
returns-in_err-books-in-Ok-Done-clause-passes g c =
    let k = g.K.Keeper in
    passes_then (beside k c.args.self.now.keeper) (beside k c.reshape.new.self) (beside k c.fill.new.keeper) c.reshape.ensures.cause.later c.fill.ensures.looked.later c.reshape.ensures.passes c.fill.ensures.looked.passes

pub returns-in_ok-books-in-Ok-Done-clause-passes : goal.returns-in_ok-books-in-Ok-Done-clause-passes
returns-in_ok-books-in-Ok-Done-clause-passes g c =
    let k = g.K.Keeper in
    passes_then (beside k c.args.self.now.keeper) (beside k c.reshape.new.self) (beside k c.fill.new.keeper) c.reshape.ensures.cause.later c.fill.ensures.looked.later c.reshape.ensures.passes c.fill.ensures.looked.passes
