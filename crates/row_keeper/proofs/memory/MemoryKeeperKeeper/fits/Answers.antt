use Rattle.std.proofs.Common.{List, None, Option, Some, subst}
use Rattle.std.specs.Prelude.{IfSome}
use Rattle.fx_core.specs.declared.schema.Schema.{Schema}
use Rattle.row_keeper.specs.InMemory.{InMemory}
use Rattle.row_keeper.specs.Tables.{AreStatesOf, TableState, shapes_of}
use Rattle.row_keeper.proofs.memory.MemoryKeeperKeeper.fits.Goals as goal

by_schema : (o : Option Schema) (states : List TableState) → AreStatesOf (shapes_of o) states → IfSome o (λ (s : Schema). AreStatesOf s.tables states)
by_schema None states h = tt
by_schema (Some s) states h = h

pub returns : goal.returns
returns c =
    subst (λ (w : InMemory). IfSome w.store.schema (λ (s : Schema). AreStatesOf s.tables w.store.now)) c.self.view_is
    (by_schema c.self.inside.store.schema c.self.inside.store.now c.fits.ensures)
