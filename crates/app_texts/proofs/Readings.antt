-- What is read of a file, or of a text of named formulas.
use Rattle.std.proofs.Common.{◌≡◌, ℕ, List, [], ◌∷◌, ◌++◌, Result, Ok, Err, inl, inr, ap, sym, subst, ◌∙◌, All}
use Rattle.std.specs.Prelude.{encode_utf8_all}
use Rattle.std.proofs.lemmas.List.Elements.{All-nil, All-append}
use Rattle.fx_core.specs.declared.app_end.AppEnd.{AppEnd}
use Rattle.fx_core.specs.declared.app_end.AppEnd.TheVariants.{Refused, Memory}
use Rattle.fx_core.specs.declared.broken.Broken.{Broken}
use Rattle.app_file.specs.declared.file.AppFile.{AppFile}
use Rattle.app_cells.specs.declared.cell.Cell.{Cell}
use Rattle.app_cells.specs.declared.frame.Frame.{Frame}
use Rattle.app_cells.specs.Spots.{IsPlaced}
use Rattle.app_texts.specs.declared.file_texts.Text.{Text}
use Rattle.app_texts.specs.Files.{file_frame, formula_texts}
use Rattle.app_texts.specs.Steps.{IsFilled, IsPutBehind}
use Rattle.app_texts.specs.Texts.{AreFormulasOf, AreNamedAt, AreReadAt, IsNamedReading, IsReading, TellsBreaks, bare_frame, broken, formulas, named_broken, named_formulas}
use Rattle.app_texts.proofs.ReadSteps.{named_placed, read_placed}

pub tells_all_weaker : (e : AppEnd) (P Q : List Broken → Type 0) → ((bs : List Broken) → P bs → Q bs) → TellsBreaks P e → TellsBreaks Q e
tells_all_weaker (Refused all) P Q f h = f all.items h
tells_all_weaker Memory P Q f h = tt

pub named_at_placed : (f : Frame) (source : List ℕ) (cs : List Cell) (bs : List Broken) → AreNamedAt f source cs bs → All (IsPlaced f) cs
named_at_placed f source cs bs (inl w) = named_placed f w.0 cs w.2
named_at_placed f source cs bs (inr w) = subst (All (IsPlaced f)) (sym w.2) (All-nil (IsPlaced f))

-- named formulas alone
pub all_named : (f : Frame) (source : List ℕ) (no_cells cells : List Cell) (no_breaks breaks : List Broken) → f ≡ bare_frame → no_cells ≡ [] → no_breaks ≡ []
    → IsPutBehind (AreNamedAt f source) no_cells cells no_breaks breaks → AreNamedAt bare_frame source cells breaks
all_named f source no_cells cells no_breaks breaks e p q h =
    let cs : cells ≡ h.cells = h.cells_behind ∙ ap (λ xs. xs ++ h.cells) p in
    let bs : breaks ≡ h.breaks = h.breaks_behind ∙ ap (λ xs. xs ++ h.breaks) q in
    subst (λ g. AreNamedAt g source cells breaks) e (subst (λ xs. AreNamedAt f source xs breaks) (sym cs) (subst (AreNamedAt f source h.cells) (sym bs) h.holds))

pub named_ok : (source : List ℕ) (f g : Frame) (cells cs : List Cell) (breaks : List Broken) → AreNamedAt bare_frame source cells breaks → f ≡ bare_frame → g ≡ f → cs ≡ cells → breaks ≡ [] → IsNamedReading source (Ok (g, cs))
named_ok source f g cells cs breaks h e p q none =
    subst (λ (x : Frame). IsNamedReading source (Ok (x, cs))) (sym (p ∙ e))
    (subst (λ (xs : List Cell). IsNamedReading source (Ok (bare_frame, xs))) (sym q) (named_formulas cells (subst (AreNamedAt bare_frame source cells) none h)))

pub named_err : (source : List ℕ) (cells : List Cell) (breaks bs : List Broken) → AreNamedAt bare_frame source cells breaks → bs ≡ breaks → IsFilled bs → IsNamedReading source (Err bs)
named_err source cells breaks [] h e filled = absurd filled
named_err source cells breaks (b ∷ bs) h e filled = named_broken cells b bs (subst (AreNamedAt bare_frame source cells) (sym e) h)

pub named_ok_placed : (source : List ℕ) (f g : Frame) (cells cs : List Cell) (breaks : List Broken) → AreNamedAt bare_frame source cells breaks → f ≡ bare_frame → g ≡ f → cs ≡ cells → All (IsPlaced g) cs
named_ok_placed source f g cells cs breaks h e p q =
    subst (λ (x : Frame). All (IsPlaced x) cs) (sym (p ∙ e)) (subst (All (IsPlaced bare_frame)) (sym q) (named_at_placed bare_frame source cells breaks h))

-- a file
pub all_formulas : (a : AppFile) (f : Frame) (ts : List Text) (no_cells some_cells cells : List Cell) (no_breaks some_breaks breaks : List Broken) → f ≡ file_frame a → ts ≡ formula_texts a → no_cells ≡ [] → no_breaks ≡ []
    → IsPutBehind (AreNamedAt f (encode_utf8_all a.formulas)) no_cells some_cells no_breaks some_breaks → IsPutBehind (AreReadAt f ts) some_cells cells some_breaks breaks → AreFormulasOf a (file_frame a) cells breaks
all_formulas a f ts no_cells some_cells cells no_breaks some_breaks breaks e t p q h k = subst (λ g. AreFormulasOf a g cells breaks) e (record {
  named_cells = h.cells;
  named_breaks = h.breaks;
  named = h.holds;
  other_cells = k.cells;
  other_breaks = k.breaks;
  others = subst (λ us. AreReadAt f us k.cells k.breaks) t k.holds;
  cells = k.cells_behind ∙ ap (λ xs. xs ++ k.cells) (h.cells_behind ∙ ap (λ xs. xs ++ h.cells) p);
  breaks = k.breaks_behind ∙ ap (λ xs. xs ++ k.breaks) (h.breaks_behind ∙ ap (λ xs. xs ++ h.breaks) q);
})

pub file_ok : (a : AppFile) (f g : Frame) (cells cs : List Cell) (breaks : List Broken) → AreFormulasOf a (file_frame a) cells breaks → f ≡ file_frame a → g ≡ f → cs ≡ cells → breaks ≡ [] → IsReading a (Ok (g, cs))
file_ok a f g cells cs breaks h e p q none =
    subst (λ (x : Frame). IsReading a (Ok (x, cs))) (sym (p ∙ e))
    (subst (λ (xs : List Cell). IsReading a (Ok (file_frame a, xs))) (sym q) (formulas cells (subst (AreFormulasOf a (file_frame a) cells) none h)))

pub file_err : (a : AppFile) (cells : List Cell) (breaks bs : List Broken) → AreFormulasOf a (file_frame a) cells breaks → bs ≡ breaks → IsFilled bs → IsReading a (Err bs)
file_err a cells breaks [] h e filled = absurd filled
file_err a cells breaks (b ∷ bs) h e filled = broken cells b bs (subst (AreFormulasOf a (file_frame a) cells) (sym e) h)

formulas_placed : (a : AppFile) (f : Frame) (cs : List Cell) (bs : List Broken) → AreFormulasOf a f cs bs → All (IsPlaced f) cs
formulas_placed a f cs bs h =
    subst (All (IsPlaced f)) (sym h.cells) (All-append (IsPlaced f) h.named_cells h.other_cells (named_at_placed f (encode_utf8_all a.formulas) h.named_cells h.named_breaks h.named) (read_placed f (formula_texts a) h.other_cells h.other_breaks h.others))

pub file_placed : (a : AppFile) (f g : Frame) (cells cs : List Cell) (breaks : List Broken) → AreFormulasOf a (file_frame a) cells breaks → f ≡ file_frame a → g ≡ f → cs ≡ cells → All (IsPlaced g) cs
file_placed a f g cells cs breaks h e p q =
    subst (λ (x : Frame). All (IsPlaced x) cs) (sym (p ∙ e)) (subst (All (IsPlaced (file_frame a))) (sym q) (formulas_placed a (file_frame a) cells breaks h))
