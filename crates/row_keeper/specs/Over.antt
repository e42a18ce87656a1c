-- What becomes of a keeper in a call, by its ghost members as one argument.
use Rattle.std.specs.Prelude.{Result}
use Rattle.fx_base.specs.Silence.{MayFallSilent, SilenceCause}
use Rattle.fx_base.specs.Telling.{Stays}
use Rattle.row_keeper.specs.Causes as by_marks
use Rattle.row_keeper.specs.Tables.{Tables}
use Rattle.row_keeper.specs.declared.keeper.Keeper.{Ghosts}
use Rattle.row_keeper.specs.declared.keeper.KeeperEnd.{KeeperEnd}

module _ {K : Type 0} (g : Ghosts K) where
  -- the tables go so, where they are told
  abbrev pub Becomes : K → K → (Tables → Tables → Type 0) → Type 0
  Becomes old new P = MayFallSilent (SilenceCause (g.marks old) (g.marks new)) P (g.told old)
      (g.told new)

  -- the tables as the transaction began stay
  abbrev pub BeganStays : K → K → Type 0
  BeganStays old new = MayFallSilent (SilenceCause (g.marks old) (g.marks new)) Stays (g.began old)
      (g.began new)

  -- the name that is attached stays
  abbrev pub AttachedStays : K → K → Type 0
  AttachedStays old new = MayFallSilent (SilenceCause (g.marks old) (g.marks new)) Stays
      (g.attached old) (g.attached new)

  -- no mark falls, and a call fails only where the count of faults rose in it
  abbrev pub HasCause : {T : Type 0} → K → K → Result T KeeperEnd → Type 0
  HasCause old new result = by_marks.HasCause (g.marks old) (g.marks new) result
