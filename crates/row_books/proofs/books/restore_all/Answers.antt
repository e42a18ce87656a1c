use Rattle.std.proofs.Common.{ap, map, refl, sym, ◌∙◌}
use Rattle.std.specs.Prelude.{slice_get}
use Rattle.row_books.specs.Numbers.{now_of, then_of}
use Rattle.row_books.proofs.Places.{moved_all, moved_more, upto_none}
use Rattle.row_books.proofs.books.restore_all.Goals as goal

pub loop-book-init : goal.loop-book-init
loop-book-init c = (upto_none now_of (λ k. slice_get (map then_of c.args.books.now) k) c.args.books.now, refl)

pub loop-book-preserved : goal.loop-book-preserved
loop-book-preserved c =
    moved_more now_of then_of c.args.books.now c.loop-book.book-index c.loop-book.books c.restore.new.self c.book-item.result c.loop-book-test.true c.loop-book.invariant c.book-item.is (c.restore.ensures.now ∙ ap then_of (sym c.book-item.is)) (c.restore.ensures.then ∙ ap then_of (sym c.book-item.is))

pub returns-clause-now : goal.returns-clause-now
returns-clause-now c = moved_all now_of then_of c.args.books.now c.loop-book.book-index c.loop-book.books c.loop-book-test.false c.loop-book.invariant
