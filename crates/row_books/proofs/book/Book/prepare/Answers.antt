use Rattle.std.proofs.Common.{◌≡◌, arith, length, subst, sym}
use Rattle.std.proofs.lemmas.List.{with_items_is}
use Rattle.std.specs.Vec.{with_items}
use Rattle.row_books.specs.Numbers.{AreReady, IsReadyBook}
use Rattle.row_books.proofs.Places.{on_ok}
use Rattle.row_books.proofs.book.Book.prepare.Goals as goal

pub returns-clause-ready : goal.returns-clause-ready
returns-clause-ready c = on_ok c.prepare_all.result both c.prepare_all.ensures.ready
  where
    len : length c.prepare_all.new.bags ≡ c.args.self.now.columns.len
    len = omega (arith, c.prepare_all.auto.bags, c.deref_mut.ensures.len)

    both : AreReady c.deref.result.now c.prepare_all.new.bags → IsReadyBook (record { ids = c.prepare.new.self; columns = with_items c.args.self.now.columns c.prepare_all.new.bags }) c.args.out.now
    both h = record {
      ids = c.in_ok-prepare.ensures.ready;
      columns = subst (AreReady c.args.out.now.cells.items) (sym (with_items_is c.args.self.now.columns c.prepare_all.new.bags len)) (subst (λ numbers. AreReady numbers c.prepare_all.new.bags) c.deref.ensures.value h);
    }
