use Rattle.std.proofs.Common.{◌≡◌, List, Some, arith, length, map, subst, sym}
use Rattle.std.specs.Prelude.{OnErr, OnOk, option_map, slice_get}
use Rattle.std.proofs.lemmas.List.{with_items_is}
use Rattle.std.specs.Vec.{with_items}
use Rattle.row_books.specs.Numbers.{ChangesAt, IsPreparedBook, IsReadyAt, StandsBook, books_then, now_of, then_of}
use Rattle.row_books.specs.declared.book.Book.{Book}
use Rattle.row_books.proofs.BookLemmas.{ready_after, same_ends, then_same}
use Rattle.row_books.proofs.Places.{on_ok}
use Rattle.row_books.proofs.books.Books.prepare.Goals as goal

pub returns-clause-now : goal.returns-clause-now
returns-clause-now c =
    let old = c.args.self.now.tables in
    let new = c.prepare_at.new.books in
    let prepared = IsPreparedBook c.args.out.now in
    let len : length new ≡ old.len = omega (arith, c.prepare_at.auto.books, c.deref_mut.ensures.len) in
    subst (λ (books : List Book). map now_of books ≡ map now_of old.items) (sym (with_items_is old new len))
    (same_ends c.prepare_at.result now_of c.args.table prepared StandsBook old.items new
    (subst (λ (books : List Book). OnOk c.prepare_at.result (ChangesAt c.args.table prepared books new)) c.deref_mut.ensures.value c.prepare_at.ensures.ok)
    (subst (λ (books : List Book). OnErr c.prepare_at.result (ChangesAt c.args.table StandsBook books new)) c.deref_mut.ensures.value c.prepare_at.ensures.err)
    (λ b d g. g.0) (λ b d g. g.0))

pub returns-clause-then : goal.returns-clause-then
returns-clause-then c =
    let old = c.args.self.now.tables in
    let aside = option_map (λ a. a.items) c.args.self.now.aside in
    let new = c.prepare_at.new.books in
    let prepared = IsPreparedBook c.args.out.now in
    let len : length new ≡ old.len = omega (arith, c.prepare_at.auto.books, c.deref_mut.ensures.len) in
    subst (λ (books : List Book). map then_of (books_then books aside) ≡ map then_of (books_then old.items aside)) (sym (with_items_is old new len))
    (then_same aside old.items new
    (same_ends c.prepare_at.result then_of c.args.table prepared StandsBook old.items new
    (subst (λ (books : List Book). OnOk c.prepare_at.result (ChangesAt c.args.table prepared books new)) c.deref_mut.ensures.value c.prepare_at.ensures.ok)
    (subst (λ (books : List Book). OnErr c.prepare_at.result (ChangesAt c.args.table StandsBook books new)) c.deref_mut.ensures.value c.prepare_at.ensures.err)
    (λ b d g. g.1) (λ b d g. g.1)))

pub returns-clause-ready : goal.returns-clause-ready
returns-clause-ready c = on_ok c.prepare_at.result after c.prepare_at.ensures.ok
  where
    len : length c.prepare_at.new.books ≡ c.args.self.now.tables.len
    len = omega (arith, c.prepare_at.auto.books, c.deref_mut.ensures.len)

    after : ChangesAt c.args.table (IsPreparedBook c.args.out.now) c.deref_mut.result.now c.prepare_at.new.books
        → IsReadyAt c.args.table (record { tables = with_items c.args.self.now.tables c.prepare_at.new.books; aside = c.args.self.now.aside }) c.args.out.now
    after h b e = ready_after c.args.table c.args.out.now c.deref_mut.result.now c.prepare_at.new.books h b (subst (λ (l : List Book). slice_get l c.args.table ≡ Some b) (with_items_is c.args.self.now.tables c.prepare_at.new.books len) e)
