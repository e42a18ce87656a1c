-- What calls that read rows leave of a keeper, by its ghost members as one argument.
use Rattle.row_keeper.specs.declared.keeper.Keeper.{Ghosts}
use Rattle.recalc.specs.Asking as by_place
use Rattle.recalc.specs.Asking.{Keeping, keeping}

module _ {K : Type 0} (g : Ghosts K) where
  -- a keeper as those see it who read its rows
  abbrev pub seen : K → Keeping
  seen k = keeping (g.told k) (g.began k) (g.shaped k) (g.in_transaction k) (g.marks k)
      (g.visited k) (g.loan k)

  -- nothing changed, but that it may have fallen silent, and counted faults
  abbrev pub HasRead : K → K → Type 0
  HasRead old new = by_place.HasRead (seen old) (seen new)
