use Rattle.sqlite.specs.Held.{state}
use Rattle.store_keeper.proofs.EndCalls.{leaves_these}
use Rattle.store_keeper.proofs.keeper.StoreKeeper.leaves.Goals as goal

pub returns : goal.returns
returns g c = rw (← c.self.view_is) (leaves_these (state g.S.Store) c.self.inside.seat c.self.inside.knows c.self.inside.schema c.self.inside.tables.items c.self.inside.counts.items c.self.inside.is_begun c.self.inside.visited c.self.inside.faults
    c.self.invariant.kept (λ conn up db left. g.met.S.Store.settled conn.store db up left))
