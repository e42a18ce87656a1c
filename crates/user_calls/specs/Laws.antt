-- A tree in which each call is replaced by its function's body has the values that the tree has.
use Rattle.std.specs.Prelude.{ℕ, true, List, length, Option}
use Rattle.fx_types.specs.declared.faults.Fault.{Fault}
use Rattle.fx_types.specs.Types.{Shape}
use Rattle.fx_types.specs.Values.{Data}
use Rattle.fx_core.specs.declared.sources.Source.{Source}
use Rattle.fx_core.specs.Term.{Term}
use Rattle.fx_semantics.specs.Fresh.{IsValue}
use Rattle.fx_semantics.specs.Unique.{told}
use Rattle.fx_udf.specs.Expanding.{Expands}
use Rattle.user_calls.specs.UserCalls.{AllClosed, IsClosed, IsWorth}

-- THE law: wherever a tree stands, what it becomes there has the values that it has by the values
-- of its calls, and no others
abbrev pub CallsAreWorthTheirBodies : Type 0
CallsAreWorthTheirBodies =
    (A : List (List (List ℕ))) (bodies : List Term) → AllClosed bodies →
    (types : Source → Option Shape) (values : Source → Data) (rows : List Data) (item : Option Data)
    (caught : Option Fault) (t c : Term) → IsClosed true true t
    → Expands A bodies 0 (length rows) t c → (v : Data) →
    (IsWorth A bodies (told types values rows item caught) t v
    → IsValue (told types values rows item caught) c v)
    × (IsValue (told types values rows item caught) c v
    → IsWorth A bodies (told types values rows item caught) t v)
