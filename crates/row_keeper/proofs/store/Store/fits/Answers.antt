use Rattle.std.proofs.Common.{subst}
use Rattle.std.specs.List.{AllByRecursion}
use Rattle.row_keeper.specs.Sound.{IsSoundTable}
use Rattle.row_keeper.specs.StoreView.{StoreView}
use Rattle.row_keeper.specs.Tables.{AreStatesOf, shapes_of}
use Rattle.row_keeper.proofs.StoreLemmas.{states_of}
use Rattle.row_keeper.proofs.store.Store.fits.Goals as goal

pub returns : goal.returns
returns c =
    let sound = subst (AllByRecursion IsSoundTable) c.deref.ensures.value c.are_sound.ensures in
    subst (λ (w : StoreView). AreStatesOf (shapes_of w.schema) w.now) c.self.view_is
    (states_of c.self.inside.tables.items (shapes_of c.self.inside.schema) c.self.invariant.columns sound)
