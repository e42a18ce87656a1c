use Rattle.row_books.specs.Numbers.{IsCarriedBook, IsReadyBook}
use Rattle.row_books.specs.declared.book.Book.{Book}
use Rattle.row_books.proofs.Places.{changes_at, within_some}
use Rattle.row_books.proofs.books.carry_at.Goals as goal

pub returns : goal.returns
returns c =
    let l = within_some (λ (b : Book). IsReadyBook b c.args.out.now) c.args.books.now c.args.table c.requires in
    changes_at (IsCarriedBook c.args.out.now c.args.put.now) c.args.books.now c.args.table c.index-books-table.result c.carry_out.new.self l (c.carry_out.ensures.now, c.carry_out.ensures.then)
