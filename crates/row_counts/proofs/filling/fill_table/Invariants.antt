use Rattle.std.proofs.Common.{◌≡◌, suc, length}
use Rattle.std.specs.Prelude.{IfSome, slice_get}
use Rattle.row_keeper.specs.Tables.{state_at}
use Rattle.row_books.specs.Numbers.{now_of}
use Rattle.row_counts.specs.Filling.{IsReading}
use Rattle.row_counts.specs.Looking.{OnlyLooks}
use Rattle.row_counts.specs.Right.{AreRowNumbers}
use Rattle.row_counts.proofs.filling.fill_table.Given as goal

abbrev pub invariant-loop : goal.invariant-loop
invariant-loop g l = record {
  looked : OnlyLooks g.K.Keeper l.initial.keeper l.keeper;
  columns : length (now_of l.book) ≡ suc l.columns;
  numbers : IfSome (slice_get (now_of l.book) 0) AreRowNumbers;
  read : IfSome (g.K.Keeper.told l.keeper) (λ t. IsReading l.after (state_at t.states l.table).rows (now_of l.book));
}
