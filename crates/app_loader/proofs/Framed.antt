-- What an app that formulas are judged as has beside them, and which its formulas are.
use Rattle.std.proofs.Common.{◌≡◌, ℕ, List, [], ◌∷◌, All, length, map, Result, Ok, Err, refl, ap, sym, ◌∙◌, subst, arith}
use Rattle.std.proofs.lemmas.List.{length-map}
use Rattle.fx_types.specs.declared.types.Ty.TheVariants as ty
use Rattle.fx_core.specs.declared.broken.Broken.{Broken}
use Rattle.fx_core.specs.declared.names.ControlName.{ControlName}
use Rattle.fx_core.specs.declared.names.Names.{Names}
use Rattle.fx_typing.specs.Rounds.{AllSame, SameControl, SameNames}
use Rattle.app_cells.specs.declared.app.App.{App}
use Rattle.app_cells.specs.declared.app.CellInfo.{CellInfo}
use Rattle.app_cells.specs.declared.cell.Cell.{Cell}
use Rattle.app_cells.specs.declared.frame.Frame.{Frame}
use Rattle.app_cells.specs.Spots.{IsFrame, IsPlaced}
use Rattle.app_texts.specs.Frames.{app_frame, without_items, written_texts}
use Rattle.app_names.proofs.LawfulNames.{unbroken}
use Rattle.app_loader.specs.Cells.{AreShallow, round_cell}
use Rattle.app_loader.specs.Infos.{AreElaborated}
use Rattle.app_loader.specs.JudgedFormulas.{IsAppOf}
use Rattle.app_loader.proofs.Below.{final_same}
use Rattle.app_loader.proofs.Soundness.{IfApp, app_parts}
use Rattle.app_loader.specs.Edits.{IsLoaded}
use Rattle.app_loader.specs.Judged.{AreNamedFormulas, JudgedFormulas, misnamed, named}

-- formulas that are judged an app, under their names
pub record IsJudged (f : Frame) (cells : List Cell) (a : App) : Type 0 where
  pub first : Names
  pub named : AreNamedFormulas f cells first
  pub app : IsAppOf first f.limit cells a

abbrev IfJudged : Frame → List Cell → Result App (List Broken) → Type 0
IfJudged f cells (Ok a) = IsJudged f cells a
IfJudged f cells (Err bs) = Unit {0}

by_parts : (f : Frame) (cells : List Cell) (n : Names) (v : Result App (List Broken)) → AreNamedFormulas f cells n → IfApp n f.limit cells v → IfJudged f cells v
by_parts f cells n (Ok a) h k = record { first = n; named = h; app = k }
by_parts f cells n (Err bs) h k = tt

pub judged_parts : {f : Frame} {cells : List Cell} {v : Result App (List Broken)} → JudgedFormulas f cells v → IfJudged f cells v
judged_parts (misnamed f cells functions b bs e h) = tt
judged_parts (named f cells n v h j) = by_parts f cells n v h (app_parts j)

-- controls that are the same but for the types of their items
without_same : (c d : ControlName) → SameControl c d → without_items c ≡ without_items d
without_same c d h = λ i. record { name = h.0 i; kind = h.1 i; screen = h.2 i; gallery = h.3 i; items = ty.Blank }

all_without : (cs ds : List ControlName) → AllSame SameControl cs ds → map without_items cs ≡ map without_items ds
all_without [] [] h = refl
all_without [] (d ∷ ds) h = absurd h
all_without (c ∷ cs) [] h = absurd h
all_without (c ∷ cs) (d ∷ ds) h = λ i. without_same c d h.0 i ∷ all_without cs ds h.1 i

pub without_again : (cs : List ControlName) → map without_items (map without_items cs) ≡ map without_items cs
without_again [] = refl
without_again (c ∷ cs) = ap (λ ds. without_items c ∷ ds) (without_again cs)

-- the frame of formulas is that of their app
pub framed : (f : Frame) (cells : List Cell) (a : App) → map without_items f.controls ≡ f.controls → IsJudged f cells a → app_frame a ≡ f
framed f cells a blank h =
    let same : SameNames h.first a.names = final_same (map round_cell cells) h.first a.names h.app.settled.final in
    let named = h.named.named in
    let schema : a.names.schema ≡ f.schema = sym same.schema ∙ named.schema in
    let screens : a.names.screens ≡ f.screens = sym same.screens ∙ named.screens in
    let controls : map without_items a.names.controls ≡ f.controls = sym (all_without h.first.controls a.names.controls same.controls) ∙ ap (map without_items) named.controls ∙ blank in
    λ i. record { schema = schema i; limit = h.app.limit i; screens = screens i; controls = controls i }

these_written : (n : Names) (most : ℕ) (cells : List Cell) (is : List CellInfo) → AreElaborated n most cells is → map (λ (i : CellInfo). i.cell) is ≡ cells
these_written n most [] [] h = refl
these_written n most [] (i ∷ is) h = absurd h
these_written n most (c ∷ cells) [] h = absurd h
these_written n most (c ∷ cells) (i ∷ is) h = λ j. h.0.cell j ∷ these_written n most cells is h.1 j

pub written_are : (f : Frame) (cells : List Cell) (a : App) → IsJudged f cells a → written_texts a ≡ cells
written_are f cells a h = these_written a.names f.limit cells a.cells h.app.settled.elaborated

-- so it is loaded
pub loaded : (f : Frame) (cells : List Cell) (a : App) → map without_items f.controls ≡ f.controls → IsFrame f → All (IsPlaced f) cells → AreShallow cells → IsJudged f cells a → IsLoaded a
loaded f cells a blank frame placed shallow h =
    let is = framed f cells a blank h in
    let are = written_are f cells a h in
    let many = ap length are in
    let long = length-map a.cells (λ (i : CellInfo). i.cell) in
    let few = (unbroken h.first.signatures.now f cells h.named.unbroken).1.0 in
    record {
      few = omega (arith, many, long, few);
      frame = subst IsFrame (sym is) frame;
      placed = subst (λ (g : Frame). All (IsPlaced g) (written_texts a)) (sym is) (subst (All (IsPlaced f)) (sym are) placed);
      shallow = subst AreShallow (sym are) shallow;
    }
