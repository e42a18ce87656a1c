-- Moves of tables that come from none are moves from any.
use Rattle.std.proofs.Common.{ℕ, List, [], ◌∷◌, Bool, true, false, Option, Some, None}
use Rattle.fx_core.specs.declared.schema.Column.{Column}
use Rattle.fx_core.specs.declared.schema.Schema.{Schema}
use Rattle.fx_core.specs.declared.schema.TableShape.{TableShape}
use Rattle.row_keeper.specs.Kept.{columns_shaped}
use Rattle.row_keeper.specs.MovedTables.{AreMoves, AreMovesOf, AreSources, IsFrom, IsMove, columns_from}
use Rattle.row_keeper.specs.Tables.{shapes_of}
use Rattle.row_keeper.specs.declared.moves.TableMove.{TableMove}
use Rattle.row_totals.specs.Kept.{shape_if}

one_from_none : (olds : List (List Column)) (t : TableShape) (m : TableMove) → IsMove [] t m → IsMove olds t m
one_from_none olds t m h = record {
  from = from m.from h.from;
  sources = sources m.from h.from h.sources;
  apart = h.apart;
}
  where
    from : (o : Option ℕ) → IsFrom [] o → IsFrom olds o
    from None f = tt
    from (Some k) f = absurd cc

    sources : (o : Option ℕ) → IsFrom [] o → AreSources (columns_from [] o) t.columns m.columns → AreSources (columns_from olds o) t.columns m.columns
    sources None f s = s
    sources (Some k) f s = absurd cc

each_from_none : (olds : List (List Column)) (news : List TableShape) (moves : List TableMove) → AreMovesOf [] news moves → AreMovesOf olds news moves
each_from_none olds [] [] h = tt
each_from_none olds [] (m ∷ ms) h = absurd h
each_from_none olds (t ∷ ts) [] h = absurd h
each_from_none olds (t ∷ ts) (m ∷ ms) h = (one_from_none olds t m h.0, each_from_none olds ts ms h.1)

pub moves_inside : (is : Bool) (inner : Option Schema) (news : List TableShape) (moves : List TableMove) → AreMoves (shapes_of (shape_if is inner)) news moves → AreMoves (shapes_of inner) news moves
moves_inside true inner news moves h = h
moves_inside false inner news moves h = record { each = each_from_none (columns_shaped (shapes_of inner)) news moves h.each; apart = h.apart }
