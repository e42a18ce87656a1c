-- From what an edit leaves of the formulas to the edited app.
use Rattle.std.proofs.Common.{◌≡◌, ℕ, List, [], ◌∷◌, All, map, Result, Ok, Err, IfErr, IfOk, ap, sym, subst, ◌∙◌}
use Rattle.fx_infer.specs.Depths.{TreesAreNoDeeper}
use Rattle.fx_core.specs.declared.app_end.AppEnd.{AppEnd}
use Rattle.fx_core.specs.declared.broken.Broken.{Broken}
use Rattle.app_cells.specs.declared.app.App.{App}
use Rattle.app_cells.specs.declared.cell.Cell.{Cell}
use Rattle.app_cells.specs.declared.frame.Frame.{Frame}
use Rattle.app_cells.specs.Spots.{IsFrame, IsPlaced}
use Rattle.app_texts.specs.Edits.{IsEdited}
use Rattle.app_texts.specs.Frames.{app_frame, without_items}
use Rattle.app_loader.specs.Accepted.{HaveOneTemplate}
use Rattle.app_loader.specs.Cells.{AreShallow}
use Rattle.app_loader.specs.JudgedFormulas.{ReportsBreaks}
use Rattle.app_loader.specs.Edits.{IsLoaded, JudgedEdit}
use Rattle.app_loader.specs.Judged.{JudgedFormulas}
use Rattle.app_loader.proofs.FitToJudge.{left_shallow, left_single}
use Rattle.app_loader.proofs.Framed.{framed, judged_parts, loaded, without_again}
use Rattle.app_loader.proofs.Loads.{err_weaker, ok_weaker, tells_this}

-- these formulas are left beside this frame
pub record AreLeft (a : App) (address text : List ℕ) (f : Frame) (cells : List Cell) : Type 0 where
  pub frame : f ≡ app_frame a
  pub edits : IsEdited a address text (Ok cells)
  pub placed : All (IsPlaced (app_frame a)) cells

-- an edit of an address and a text that were copied
pub left_by : (a : App) (address text copied words : List ℕ) (f : Frame) (cells : List Cell) → copied ≡ address → words ≡ text → f ≡ app_frame a
    → IsEdited a copied words (Ok cells) → All (IsPlaced (app_frame a)) cells → AreLeft a address text f cells
left_by a address text copied words f cells e k is h placed = record {
  frame = is;
  edits = subst (λ (x : List ℕ). IsEdited a x text (Ok cells)) e (subst (λ (t : List ℕ). IsEdited a copied t (Ok cells)) k h);
  placed = placed;
}

pub left_frame : (a : App) (f : Frame) → IsLoaded a → f ≡ app_frame a → IsFrame f
left_frame a f h e = subst IsFrame (sym e) h.frame

pub left_placed : (a : App) (f : Frame) (cells : List Cell) → f ≡ app_frame a → All (IsPlaced (app_frame a)) cells → All (IsPlaced f) cells
left_placed a f cells e h = subst (λ (g : Frame). All (IsPlaced g) cells) (sym e) h

module _ (a : App) (address text : List ℕ) (f : Frame) (cells : List Cell) (h : AreLeft a address text f cells) where
  abbrev Judges : App → Type 0
  Judges b = JudgedFormulas f cells (Ok b)

  judged_so : (v : Result App (List Broken)) → JudgedFormulas f cells v → JudgedEdit a address text v
  judged_so v j = JudgedEdit.judged cells v h.edits (subst (λ (g : Frame). JudgedFormulas g cells v) h.frame j)

  blank : map without_items f.controls ≡ f.controls
  blank = ap (λ (g : Frame). map without_items g.controls) h.frame ∙ without_again a.names.controls ∙ sym (ap (λ (g : Frame). g.controls) h.frame)

  same_frame : (b : App) → Judges b → app_frame b ≡ app_frame a
  same_frame b j = framed f cells b blank (judged_parts j) ∙ h.frame

  pub edit_ok : (r : Result App AppEnd) → IfOk r Judges → IfOk r (λ b. JudgedEdit a address text (Ok b))
  edit_ok = ok_weaker Judges (λ b. JudgedEdit a address text (Ok b)) (λ b j. judged_so (Ok b) j)

  pub edit_err : (r : Result App AppEnd) → IfErr r (ReportsBreaks (λ bs. JudgedFormulas f cells (Err bs))) → IfErr r (ReportsBreaks (λ bs. JudgedEdit a address text (Err bs)))
  edit_err = err_weaker (λ bs. JudgedFormulas f cells (Err bs)) (λ bs. JudgedEdit a address text (Err bs)) (λ bs j. judged_so (Err bs) j)

  pub frame_ok : (r : Result App AppEnd) → IfOk r Judges → IfOk r (λ b. app_frame b ≡ app_frame a)
  frame_ok = ok_weaker Judges (λ b. app_frame b ≡ app_frame a) same_frame

  pub fit_to_judge : TreesAreNoDeeper → IsLoaded a → AreShallow cells
  fit_to_judge law old = left_shallow law a address text cells old.shallow h.edits

  pub one_items : HaveOneTemplate cells
  one_items = left_single a address text cells h.edits

  pub loaded_ok : TreesAreNoDeeper → IsLoaded a → (r : Result App AppEnd) → IfOk r Judges → IfOk r IsLoaded
  loaded_ok law old =
      ok_weaker Judges IsLoaded
      (λ b j. loaded f cells b blank (left_frame a f old h.frame) (left_placed a f cells h.frame h.placed) (fit_to_judge law old) (judged_parts j))

-- an edit that is broken before any formula is judged
pub broken_end : (a : App) (address text copied words : List ℕ) (b : Broken) → copied ≡ address → words ≡ text → IsEdited a copied words (Err b)
    → (e : AppEnd) → ReportsBreaks (λ bs. bs ≡ b ∷ []) e → ReportsBreaks (λ bs. JudgedEdit a address text (Err bs)) e
broken_end a address text copied words b e k h =
    tells_this (λ bs. JudgedEdit a address text (Err bs)) b b (λ i. b)
    (JudgedEdit.broken b (subst (λ (x : List ℕ). IsEdited a x text (Err b)) e (subst (λ (t : List ℕ). IsEdited a copied t (Err b)) k h)))
