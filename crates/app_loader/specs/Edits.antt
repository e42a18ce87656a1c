-- Edits of an app, judged: they make this app, or these are the breaks of the first stage that has
-- any.
use Rattle.std.specs.Prelude.{◌≤◌, ℕ, List, [], ◌∷◌, All, length, Result, Ok, Err}
use Rattle.serde_json.specs.Data.{Data}
use Rattle.fx_core.specs.declared.broken.Broken.{Broken}
use Rattle.app_cells.specs.declared.app.App.{App}
use Rattle.app_cells.specs.declared.cell.Cell.{Cell}
use Rattle.app_cells.specs.Spots.{IsFrame, IsPlaced}
use Rattle.app_texts.specs.Edits.{IsEdited}
use Rattle.app_texts.specs.Frames.{app_frame, written_texts}
use Rattle.app_loader.specs.Cells.{AreShallow}
use Rattle.app_loader.specs.Judged.{JudgedApp, JudgedFormulas, JudgedValue}
use Rattle.app_loader.specs.Verdicts.{AreSameBreaks, IsSameApp}

-- What holds of an app that was loaded, and is asked of one that is to be edited: what it has
-- beside its formulas is a frame, and its formulas are few and stand there where they say, no node
-- too deep.
pub record IsLoaded (a : App) : Type 0 where
  pub few : length a.cells ≤ 2000
  pub frame : IsFrame (app_frame a)
  pub placed : All (IsPlaced (app_frame a)) (written_texts a)
  pub shallow : AreShallow (written_texts a)

-- AN EDIT OF AN APP, judged: something is broken before any formula is judged, or the formulas that
-- it makes are judged so.
pub data JudgedEdit (a : App) (address text : List ℕ) : Result App (List Broken) → Type 0 where
  broken : (b : Broken) → IsEdited a address text (Err b) → JudgedEdit a address text (Err (b ∷ []))
  judged : (cells : List Cell) (v : Result App (List Broken)) → IsEdited a address text (Ok cells)
      → JudgedFormulas (app_frame a) cells v
      → JudgedEdit a address text v

-- no edit is both accepted and refused
abbrev pub IsOneEdit : Type 0
IsOneEdit = (a b : App) (address text : List ℕ) (bs : List Broken)
    → JudgedEdit a address text (Ok b) → JudgedEdit a address text (Err bs) → ⊥

-- an edited app is one
abbrev pub IsOneEdited : Type 0
IsOneEdited = (a b c : App) (address text : List ℕ) → JudgedEdit a address text (Ok b)
    → JudgedEdit a address text (Ok c) → IsSameApp b c

-- of a refused edit the same breaks are told
abbrev pub IsOneEditRefusal : Type 0
IsOneEditRefusal =
    (a : App) (address text : List ℕ) (bs cs : List Broken) → JudgedEdit a address text (Err bs)
    → JudgedEdit a address text (Err cs) → AreSameBreaks bs cs

-- an app file that is accepted is loaded
abbrev pub LoadedApp : Type 0
LoadedApp = (file : List ℕ) (a : App) → JudgedApp file (Ok a) → IsLoaded a

-- and so is JSON that is accepted
abbrev pub LoadedValue : Type 0
LoadedValue = (root : Data) (a : App) → JudgedValue root (Ok a) → IsLoaded a
