-- What a call on the database leaves, whatever its statement and its answer.
use Rattle.std.specs.Prelude.{◌≡◌, true}
use Rattle.sqlite.specs.State.{State, HasCleanDisk, KeepsCommit, Survives}
use Rattle.sql_meanings.specs.Forms.{LeavesOrRollsBack}

-- What runs inside a transaction commits nothing, and a crash leaves nothing that it could not
-- leave before.
pub record RunsInside (old new : State) : Type 0 where
  pub kept : HasCleanDisk new → old.in_transaction ≡ true → KeepsCommit old new
  pub survives : Survives old new (λ _. ⊥)

-- What reads changes nothing, or rolls back where it is refused, and a crash leaves nothing that it
-- could not leave before.
pub record RunsReading (old new : State) : Type 0 where
  pub left : HasCleanDisk new → LeavesOrRollsBack old new
  pub survives : Survives old new (λ _. ⊥)
