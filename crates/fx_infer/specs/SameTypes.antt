-- Whether the types of two rounds are one.
use Rattle.std.specs.Prelude.{List, [], ◌∷◌, Bool, true, false, ◌&&◌}
use Rattle.fx_types.specs.Types.{Shape}
use Rattle.fx_typing.specs.Rounds as rounds
use Rattle.fx_typing.specs.Ways.{same_shape}

-- whether two lists of types are one
abbrev pub same_shapes : List Shape → List Shape → Bool
same_shapes [] [] = true
same_shapes (t ∷ ts) (u ∷ us) = same_shape t u && same_shapes ts us
same_shapes _ _ = false

-- whether all types are the same
abbrev pub same_types : rounds.Types → rounds.Types → Bool
same_types a b =
    same_shapes a.variables b.variables
    && (same_shapes a.collections b.collections
    && (same_shapes a.formulas b.formulas && same_shapes a.items b.items))
