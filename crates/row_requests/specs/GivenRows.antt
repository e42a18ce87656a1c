-- What is given for rows.
use Rattle.std.specs.Prelude.{ℕ, List, [], ◌∷◌, map, Option, IfSome, option_map}
use Rattle.std.specs.List.{AllByRecursion}
use Rattle.fx_types.specs.ValueView.{view}
use Rattle.fx_types.specs.Values.{Data}
use Rattle.fx_types.specs.declared.values.Value.{Value}
use Rattle.fx_types.specs.Words.{scalars_of}
use Rattle.fx_value.specs.Order.{IsScalar}
use Rattle.serde_json.specs.Data.{Members, no_members, member}
use Rattle.numbered_requests.specs.GivenValues.{value_in}

abbrev pub given_view : List (List ℕ × Option Value) → List (List ℕ × Option Data)
given_view gs = map (λ g. (g.0, option_map view g.1)) gs

-- each value is a scalar
abbrev pub AreScalars : List (List ℕ × Option Data) → Type 0
AreScalars gs = AllByRecursion (λ (g : List ℕ × Option Data). IfSome g.1 IsScalar) gs

-- what is given for a row: names by their order, each with the value that its JSON is, if it is one
abbrev pub given_in : Members → List (List ℕ × Option Data)
given_in no_members = []
given_in (member key d ms) = (scalars_of key, value_in d) ∷ given_in ms
