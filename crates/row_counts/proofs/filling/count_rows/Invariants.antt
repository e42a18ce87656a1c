use Rattle.std.proofs.Common.{take}
use Rattle.row_counts.specs.Filling.{CountsMore}
use Rattle.row_books.specs.Numbers.{now_of}
use Rattle.row_counts.proofs.filling.count_rows.Given as goal

abbrev pub invariant-loop-row : goal.invariant-loop-row
invariant-loop-row l = CountsMore (take l.row-index l.rows) (now_of l.initial.book) (now_of l.book)
