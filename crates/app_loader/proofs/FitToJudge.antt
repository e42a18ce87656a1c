-- What an edit leaves is fit to be judged.
use Rattle.std.proofs.Common.{◌≡◌, ℕ, ◌≤◌, List, Option, Some, None, IfSome, Ok, ap, sym, subst, arith}
use Rattle.std.specs.Prelude.{encode_utf8_all}
use Rattle.std.specs.Str.{chars}
use Rattle.fx_infer.specs.Below.{tree_depth}
use Rattle.fx_infer.specs.Depths.{TreesAreNoDeeper}
use Rattle.app_cells.specs.declared.app.App.{App}
use Rattle.app_cells.specs.declared.cell.Cell.{Cell}
use Rattle.app_cells.specs.declared.cell.Spot.{Spot}
use Rattle.app_cells.specs.declared.frame.Frame.{Frame}
use Rattle.app_texts.specs.Edits.{IsEdited}
use Rattle.app_texts.specs.Frames.{app_frame, written_texts}
use Rattle.app_texts.proofs.Counts.{single}
use Rattle.app_texts.proofs.Standing.{all_hold}
use Rattle.app_loader.specs.Accepted.{HaveOneTemplate}
use Rattle.app_loader.specs.Cells.{AreShallow}
use Rattle.app_texts.proofs.GivenTexts.{GivenParts, given_parts}
use Rattle.app_loader.proofs.OneEdit.{edited_parts}

abbrev IsShallow : Cell → Type 0
IsShallow c = tree_depth c.expr ≤ 256

given_shallow : TreesAreNoDeeper → (f : Frame) (s : Spot) (text : List ℕ) (g : Option Cell) → GivenParts f s text (Ok g) → IfSome g IsShallow
given_shallow law f s text None h = tt
given_shallow law f s text (Some c) h =
    let read = h.1 in
    let low : tree_depth read.tree ≤ 64 = law 64 (chars (encode_utf8_all text)) read.tree read.parsed in
    let same : tree_depth c.expr ≡ tree_depth read.tree = ap tree_depth read.cell.expr in
    omega (arith, low, same)

given_there : (f : Frame) (s : Spot) (text : List ℕ) (g : Option Cell) → GivenParts f s text (Ok g) → IfSome g (λ (c : Cell). c.spot ≡ s)
given_there f s text None h = tt
given_there f s text (Some c) h = h.1.cell.spot

pub left_shallow : TreesAreNoDeeper → (a : App) (address text : List ℕ) (cells : List Cell) → AreShallow (written_texts a) → IsEdited a address text (Ok cells) → AreShallow cells
left_shallow law a address text cells all h =
    let p = edited_parts h in
    subst AreShallow (sym p.are) (all_hold IsShallow a p.place p.given all (given_shallow law (app_frame a) p.place text p.given (given_parts p.gives)))

pub left_single : (a : App) (address text : List ℕ) (cells : List Cell) → IsEdited a address text (Ok cells) → HaveOneTemplate cells
left_single a address text cells h =
    let p = edited_parts h in
    subst HaveOneTemplate (sym p.are) (single a p.place p.given (given_there (app_frame a) p.place text p.given (given_parts p.gives)))
