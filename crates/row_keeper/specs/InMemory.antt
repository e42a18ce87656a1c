-- What a keeper in memory is seen as.
use Rattle.std.specs.Prelude.{◌≡◌, ℕ, Bool, true, false, List, Option, Some, None}
use Rattle.fx_base.specs.Faults.{FaultPlan, fails_next, with_call}
use Rattle.fx_base.specs.Silence.{Marks}
use Rattle.row_keeper.specs.StoreView.{StoreView, no_store}
use Rattle.row_keeper.specs.declared.keeper.KeeperEnd.{KeeperEnd}
use Rattle.row_keeper.specs.declared.keeper.KeeperEnd.TheVariants.{Memory as OutOfMemory, Failed}

-- the name that was attached, if any, what is kept, how many rows have been visited, and which
-- calls are to fail
pub record InMemory : Type 0 where
  pub name : Option (List ℕ)
  pub store : StoreView
  pub visited : ℕ
  pub plan : FaultPlan

-- nothing is kept yet
abbrev pub unused : FaultPlan → InMemory
unused plan = record { name = None; store = no_store; visited = 0; plan = plan }

-- no doubt comes up of what memory gives back
abbrev pub memory_marks : InMemory → Marks
memory_marks m = record { faults = m.plan.count; doubt = 0 }

-- how a call ends: it fails exactly where it was to, or else may want memory
abbrev pub EndsAsPlanned : Bool → Option KeeperEnd → Type 0
EndsAsPlanned fails (Some Failed) = fails ≡ true
EndsAsPlanned fails (Some OutOfMemory) = fails ≡ false
EndsAsPlanned fails None = fails ≡ false

-- the same of a call that takes no memory
abbrev pub EndsWithoutMemory : Bool → Option KeeperEnd → Type 0
EndsWithoutMemory fails (Some Failed) = fails ≡ true
EndsWithoutMemory fails (Some OutOfMemory) = ⊥
EndsWithoutMemory fails None = fails ≡ false

-- a call is counted, and ends so
pub record EndsByPlan (Ends : Bool → Option KeeperEnd → Type 0) (old new : FaultPlan)
    (end : Option KeeperEnd) : Type 0 where
  pub counted : new ≡ with_call old
  pub ends : Ends (fails_next old) end
