use Rattle.fx_base.specs.Silence.{SilenceCause}
use Rattle.row_books.specs.Numbers.{tables_now, tables_then}
use Rattle.row_totals.proofs.Keeping.{tallied_back, tallied_settled}
use Rattle.row_totals.proofs.tallied.TalliedKeeper.commit.Goals as goal

pub invariant_of-self : goal.invariant_of-self
invariant_of-self g c =
    record {
      kept = tallied_settled (SilenceCause (g.K.Keeper.marks c.args.self.now.keeper) (g.K.Keeper.marks c.commit.new.self)) (tables_now c.settle.new.self) (tables_then c.settle.new.self) (g.K.Keeper.shaped c.commit.new.self) (g.K.Keeper.in_transaction c.commit.new.self) (g.K.Keeper.told c.commit.new.self) (g.K.Keeper.began c.commit.new.self)
          c.args.self.now.kept c.commit.ensures.idle c.in-Ok.ensures.ok c.settle.ensures.now c.settle.ensures.then c.in-Ok.ensures.shaped;
    }

pub invariant_of-self-in-Err : goal.invariant_of-self-in-Err
invariant_of-self-in-Err g c =
    record {
      kept = tallied_back (SilenceCause (g.K.Keeper.marks c.args.self.now.keeper) (g.K.Keeper.marks c.commit.new.self)) (tables_now c.restore.new.self) (tables_then c.restore.new.self) (g.K.Keeper.shaped c.commit.new.self) (g.K.Keeper.in_transaction c.commit.new.self) (g.K.Keeper.told c.commit.new.self) (g.K.Keeper.began c.commit.new.self)
          c.args.self.now.kept c.requires.begun c.commit.ensures.idle c.in-Err.ensures.err c.restore.ensures.now c.restore.ensures.then c.in-Err.ensures.err_shaped;
    }
