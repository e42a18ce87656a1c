use Rattle.std.proofs.Common.{◌≡◌, List, arith, length, map, subst, sym}
use Rattle.std.specs.Prelude.{option_map}
use Rattle.std.proofs.lemmas.List.{with_items_is}
use Rattle.row_books.specs.Numbers.{ChangesAt, IsCarriedBook, IsChangedAt, books_then, by_columns, now_of, then_of}
use Rattle.row_books.specs.declared.book.Book.{Book}
use Rattle.row_books.proofs.BookLemmas.{changed_there, then_same, unchanged_past}
use Rattle.row_books.proofs.Places.{same_by}
use Rattle.row_books.proofs.books.Books.carry_out.Goals as goal

pub returns-then-place-len-clause-now : goal.returns-then-place-len-clause-now
returns-then-place-len-clause-now c =
    let out = c.args.out.now in
    let put = c.args.put.now in
    let old = c.args.self.now.tables in
    let new = c.carry_at.new.books in
    let len : length new ≡ old.len = omega (arith, c.carry_at.auto.books, c.deref_mut.ensures.len) in
    subst (λ (books : List Book). IsChangedAt c.args.table (by_columns out) (by_columns put) (map now_of old.items) (map now_of books)) (sym (with_items_is old new len))
    (changed_there c.args.table out put old.items new (subst (λ (books : List Book). ChangesAt c.args.table (IsCarriedBook out put) books new) c.deref_mut.ensures.value c.carry_at.ensures))

pub returns-then-place-len-clause-then : goal.returns-then-place-len-clause-then
returns-then-place-len-clause-then c =
    let goes = IsCarriedBook c.args.out.now c.args.put.now in
    let old = c.args.self.now.tables in
    let aside = option_map (λ a. a.items) c.args.self.now.aside in
    let new = c.carry_at.new.books in
    let len : length new ≡ old.len = omega (arith, c.carry_at.auto.books, c.deref_mut.ensures.len) in
    subst (λ (books : List Book). map then_of (books_then books aside) ≡ map then_of (books_then old.items aside)) (sym (with_items_is old new len))
    (then_same aside old.items new (same_by then_of c.args.table goes old.items new (subst (λ (books : List Book). ChangesAt c.args.table goes books new) c.deref_mut.ensures.value c.carry_at.ensures) (λ b d g. g.1)))

pub returns-else-place-len-clause-now : goal.returns-else-place-len-clause-now
returns-else-place-len-clause-now c =
    let books = c.args.self.now.tables in
    unchanged_past c.args.table (by_columns c.args.out.now) (by_columns c.args.put.now) books.items (omega (arith, c.if-place-len.false, c.len.ensures, books.ok.0))
