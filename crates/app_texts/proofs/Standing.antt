-- What holds of the formulas that an edit leaves.
use Rattle.std.proofs.Common.{ℕ, Bool, true, false, List, [], ◌∷◌, Option, Some, None, IfSome, cond, refl, ap, sym, ◌∙◌, subst, All}
use Rattle.std.specs.Prelude.{filter_map}
use Rattle.std.specs.List.{cons_option}
use Rattle.std.proofs.lemmas.List.Elements.{All-nil, All-cons}
use Rattle.app_cells.specs.declared.app.App.{App}
use Rattle.app_cells.specs.declared.cell.Cell.{Cell}
use Rattle.app_cells.specs.declared.cell.Spot.{Spot}
use Rattle.app_texts.specs.Edits.{edited_cell, with_cell, written_at}
use Rattle.app_texts.specs.Frames.{written_texts}
use Rattle.app_texts.specs.Places.{is_same_spot, spots}
use Rattle.app_texts.proofs.FramePlaces.{found}

stands : (P : Cell → Type 0) (cells : List Cell) (s here : Spot) (given : Option Cell) → All P cells → IfSome given P → IfSome (edited_cell cells s given here) P
stands P cells s here given h k = by (is_same_spot here s)
  where
    by : (b : Bool) → IfSome (cond b given (written_at cells here)) P
    by true = k
    by false = found P (λ (c : Cell). is_same_spot here c.spot) cells h

one_holds : (P : Cell → Type 0) (o : Option Cell) (cs : List Cell) → IfSome o P → All P cs → All P (cons_option o cs)
one_holds P None cs h k = k
one_holds P (Some c) cs h k = All-cons P c cs h k

these_hold : (P : Cell → Type 0) (cells : List Cell) (s : Spot) (given : Option Cell) (ss : List Spot) → All P cells → IfSome given P → All P (filter_map (edited_cell cells s given) ss)
these_hold P cells s given [] h k = All-nil P
these_hold P cells s given (here ∷ ss) h k =
    one_holds P (edited_cell cells s given here) (filter_map (edited_cell cells s given) ss) (stands P cells s here given h k) (these_hold P cells s given ss h k)

-- What holds of the formulas of an app and of what is given holds of all that the edit leaves.
pub all_hold : (P : Cell → Type 0) (a : App) (s : Spot) (given : Option Cell) → All P (written_texts a) → IfSome given P → All P (with_cell a s given)
all_hold P a s given h k = these_hold P (written_texts a) s given (spots a) h k
