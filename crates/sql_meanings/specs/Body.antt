-- The body of the schema, as the reading statement shows it.
use Rattle.std.specs.Prelude.{◌≡◌, ℕ, pos, Bool, List, [], ◌∷◌, map, filter, Option, Some}
use Rattle.std.specs.Prelude.{IsPermutation}
use Rattle.std.specs.Option.{option_to_list}
use Rattle.sqlite.specs.declared.types.Value.TheVariants.{Int, Blob}
use Rattle.sqlite.specs.Order.{Row, column}
use Rattle.sqlite.specs.Tree.{Trees}
use Rattle.sqlite.specs.State.{State}
use Rattle.sqlite_sql.specs.declared.ops.CompareOp.TheVariants.{Eq}
use Rattle.sql_meanings.specs.Tests.{compares}
use Rattle.sql_meanings.specs.UnderWay.{IsUnderWay}

abbrev pub body_at : List ℕ → Row
body_at body = Blob body ∷ []

abbrev pub shown_body : Row → Row
shown_body r = column r 2 ∷ []

abbrev pub is_one : Row → Bool
is_one r = compares Eq (column r 0) (Int (pos 1))

-- this body is kept, or none
pub record HasBody (trees : Trees) (body : Option (List ℕ)) : Type 0 where
  pub stored : IsPermutation (map body_at (option_to_list body))
      (map shown_body (filter is_one (trees 0)))

-- the body is kept, and the rows of the other three trees stay
pub record InsertsBody (old new : State) (body : List ℕ) (count : ℕ) : Type 0 where
  pub goes_on : IsUnderWay new
  pub here : HasBody new.now.trees (Some body)
  pub counted : count ≡ 1
  pub tabs : new.now.trees 1 ≡ old.now.trees 1
  pub lines : new.now.trees 2 ≡ old.now.trees 2
  pub marks : new.now.trees 4 ≡ old.now.trees 4
