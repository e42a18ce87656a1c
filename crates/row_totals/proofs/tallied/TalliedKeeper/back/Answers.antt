use Rattle.fx_base.specs.Silence.{SilenceCause}
use Rattle.row_books.specs.Numbers.{tables_now, tables_then}
use Rattle.row_totals.proofs.Keeping.{tallied_back}
use Rattle.row_totals.proofs.tallied.TalliedKeeper.back.Goals as goal

pub invariant_of-self : goal.invariant_of-self
invariant_of-self g c =
    record {
      kept = tallied_back (SilenceCause (g.K.Keeper.marks c.args.self.now.keeper) (g.K.Keeper.marks c.back.new.self)) (tables_now c.restore.new.self) (tables_then c.restore.new.self) (g.K.Keeper.shaped c.back.new.self) (g.K.Keeper.in_transaction c.back.new.self) (g.K.Keeper.told c.back.new.self) (g.K.Keeper.began c.back.new.self)
          c.args.self.now.kept c.requires.begun c.back.ensures.idle c.back.ensures.tables c.restore.ensures.now c.restore.ensures.then c.back.ensures.shaped;
    }
