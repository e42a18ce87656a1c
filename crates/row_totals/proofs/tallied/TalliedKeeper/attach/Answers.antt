use Rattle.row_books.specs.Numbers.{tables_now, tables_then}
use Rattle.row_totals.proofs.Keeping.{tallied_forgotten}
use Rattle.row_totals.proofs.tallied.TalliedKeeper.attach.Goals as goal

pub invariant_of-self : goal.invariant_of-self
invariant_of-self g c =
    record {
      kept = tallied_forgotten (tables_now c.args.self.now.books) (tables_then c.args.self.now.books) (g.K.Keeper.shaped c.attach.new.self) (g.K.Keeper.in_transaction c.attach.new.self) (g.K.Keeper.told c.attach.new.self) (g.K.Keeper.began c.attach.new.self)
          (c.args.self.now.kept.still c.requires.idle);
    }
