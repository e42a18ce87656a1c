-- What a call in a transaction leaves of a keeper, as one fact.
use Rattle.std.specs.Prelude.{◌≡◌, List, ℤ, Option, Result, IfOk, OnErr}
use Rattle.fx_base.specs.Telling.{Stays}
use Rattle.fx_core.specs.declared.schema.Schema.{Schema}
use Rattle.row_keeper.specs.Over.{Becomes, HasCause}
use Rattle.row_keeper.specs.Passing.{Passes}
use Rattle.row_keeper.specs.Tables.{Tables}
use Rattle.row_keeper.specs.declared.keeper.Keeper.{Ghosts}
use Rattle.row_keeper.specs.declared.keeper.KeeperEnd.{KeeperEnd}
use Rattle.row_counts.specs.Looking.{beside}
use Rattle.row_counts.specs.Right.{AreCounted}

module _ {K : Type 0} (g : Ghosts K) where
  -- the tables go as the answer says, or stay where there is none, and the rest passes
  pub record Called {T : Type 0} (P : T → Tables → Tables → Type 0) (old new : K)
      (r : Result T KeeperEnd) : Type 0 where
    pub ok : IfOk r (λ x. Becomes g old new (P x))
    pub err : OnErr r (Becomes g old new Stays)
    pub shaped : g.shaped new ≡ g.shaped old
    pub passes : Passes (beside g old) (beside g new)
    pub cause : HasCause g old new r

-- what is counted goes on to be right
abbrev pub StaysCounted : Option Schema → List (List (List ℤ)) → List (List (List ℤ))
    → Option Tables → Option Tables → Type 0
StaysCounted schema old new a b = AreCounted schema old a → AreCounted schema new b
