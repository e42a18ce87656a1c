-- What a typed tree with its type, and a part of a node, are seen as.
use Rattle.std.specs.Prelude.{List, map}
use Rattle.fx_types.specs.TypeView.{shape}
use Rattle.fx_types.specs.Types.{Shape}
use Rattle.fx_types.specs.declared.types.Ty.{Ty}
use Rattle.fx_core.specs.Term.{Term, Top, of, all}
use Rattle.fx_typing.specs.Local as local
use Rattle.fx_typing.specs.declared.typed.Piece.{Piece}
use Rattle.fx_typing.specs.declared.typed.Piece.TheVariants.{Value, Label}
use Rattle.fx_typing.specs.declared.typed.Typed.{Typed}

abbrev pub typed : Typed → Term × Shape
typed t = (t.core, shape t.ty)

abbrev pub piece_view : Piece → local.Piece
piece_view (Value a t) = local.value a t.core (shape t.ty)
piece_view (Label x) = local.label x

-- a head over parts that stand, and the type of the whole
abbrev pub built : Top → List Typed → Ty → Term × Shape
built h parts t = (of h (all (local.firsts (map typed parts))), shape t)
