use Rattle.row_counts.specs.Filling.{AreFilled}
use Rattle.row_counts.specs.Looking.{OnlyLooks}
use Rattle.row_counts.proofs.filling.fill.Given as goal

abbrev pub invariant-loop-place : goal.invariant-loop-place
invariant-loop-place g l = record {
  looked : OnlyLooks g.K.Keeper l.initial.keeper l.keeper;
  filled : AreFilled l.schema.tables (g.K.Keeper.told l.keeper) l.place l.books.items;
}
