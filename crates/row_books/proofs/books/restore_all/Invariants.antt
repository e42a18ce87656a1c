use Rattle.row_books.specs.Numbers.{now_of, then_of}
use Rattle.row_books.proofs.Places.{AreMoved}
use Rattle.row_books.proofs.books.restore_all.Given as goal

abbrev pub invariant-loop-book : goal.invariant-loop-book
invariant-loop-book l = AreMoved now_of then_of l.initial.books l.book-index l.books
