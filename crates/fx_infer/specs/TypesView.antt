-- What the types of a round are seen as.
use Rattle.std.specs.Prelude.{◌≡◌, length, map}
use Rattle.fx_types.specs.TypeView.{shape}
use Rattle.fx_typing.specs.Rounds as rounds
use Rattle.fx_core.specs.declared.names.Names.{Names}
use Rattle.fx_infer.specs.declared.round_types.Types.{Types}

abbrev pub types_view : Types → rounds.Types
types_view t =
    rounds.round_types (map shape t.variables.items) (map shape t.collections.items)
    (map shape t.formulas.items) (map shape t.items.items)

-- there is a type for each name
pub record AreAsMany (t : Types) (n : Names) : Type 0 where
  pub variables : length t.variables.items ≡ length n.variables
  pub collections : length t.collections.items ≡ length n.collections
  pub formulas : length t.formulas.items ≡ length n.formulas
  pub items : length t.items.items ≡ length n.controls
