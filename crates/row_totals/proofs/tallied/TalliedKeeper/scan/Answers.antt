use Rattle.std.proofs.Common.{refl}
use Rattle.fx_base.specs.Silence.{SilenceCause}
use Rattle.row_keeper.specs.Changes.{Scans}
use Rattle.row_books.specs.Numbers.{tables_now, tables_then}
use Rattle.row_totals.proofs.Keeping.{tallied_same}
use Rattle.row_counts.proofs.Looks.{told_stays}
use Rattle.row_totals.proofs.tallied.TalliedKeeper.scan.Goals as goal

pub invariant_of-self : goal.invariant_of-self
invariant_of-self g c =
    let lost = SilenceCause (g.K.Keeper.marks c.args.self.now.keeper) (g.K.Keeper.marks c.scan.new.self) in
    record {
      kept = tallied_same lost (tables_now c.args.self.now.books) (tables_then c.args.self.now.books) (g.K.Keeper.shaped c.scan.new.self) (g.K.Keeper.in_transaction c.scan.new.self) (g.K.Keeper.told c.scan.new.self) (g.K.Keeper.began c.scan.new.self)
          c.args.self.now.kept refl refl c.scan.ensures.shaped c.scan.ensures.mode
          (told_stays lost c.scan.result (λ x. Scans c.args.query.now x) (λ x a b h. h.1) (g.K.Keeper.told c.args.self.now.keeper) (g.K.Keeper.told c.scan.new.self) c.scan.ensures.rows c.scan.ensures.err) c.scan.ensures.began;
    }
