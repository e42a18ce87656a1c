use Rattle.row_keeper.specs.declared.keeper.KeeperEnd.TheVariants.{Failed}
use Rattle.sqlite.specs.Held.{state}
use Rattle.store_attaching.proofs.TakenLemmas.{lost}
use Rattle.store_attaching.proofs.attaching.seat_anew.Goals as goal

pub returns-in_default-seated : goal.returns-in_default-seated
returns-in_default-seated g c = rw c.take.ensures.after (lost (state g.S.Store) c.args.seat.now Failed)
