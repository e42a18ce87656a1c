use Rattle.fx_base.specs.Silence.{SilenceCause}
use Rattle.row_totals.proofs.Keeping.{tallied_begun}
use Rattle.row_totals.proofs.tallied.TalliedKeeper.begin.Goals as goal

pub invariant_of-self : goal.invariant_of-self
invariant_of-self g c =
    record {
      kept = tallied_begun (SilenceCause (g.K.Keeper.marks c.args.self.now.keeper) (g.K.Keeper.marks c.begin.new.self)) c.begin.result (g.K.Keeper.shaped c.begin.new.self) (g.K.Keeper.in_transaction c.begin.new.self) (g.K.Keeper.told c.begin.new.self) (g.K.Keeper.began c.begin.new.self)
          c.args.self.now.kept c.requires.idle c.begin.ensures.tables c.begin.ensures.ok c.begin.ensures.err c.begin.ensures.shaped c.begin.ensures.err_shaped;
    }
