-- No edit is both accepted and refused, an edited app is one, and of a refused edit the same breaks are told.
use Rattle.std.specs.Prelude.{encode_utf8_all}
use Rattle.std.proofs.Common.{inl, inr, ◌⊎◌, ◌≡◌, ℕ, ◌<◌, List, [], ◌∷◌, false, Option, Some, None, Result, Ok, Err, refl, ap, sym, subst, ◌∙◌, arith}
use Rattle.fx_core.specs.declared.broken.Broken.{Broken}
use Rattle.app_cells.specs.declared.app.App.{App}
use Rattle.app_cells.specs.declared.cell.Cell.{Cell}
use Rattle.app_cells.specs.declared.cell.Spot.{Spot}
use Rattle.app_cells.specs.declared.cell.Spot.TheVariants as spot
use Rattle.app_cells.specs.declared.frame.Frame.{Frame}
use Rattle.app_cells.specs.Spots.{address}
use Rattle.app_texts.specs.Edits.{IsEdited, IsFormulaAt, TextGives, IsShort, utf8_length, is_named_formula, most_text_bytes, no_place, with_cell}
use Rattle.app_texts.proofs.GivenTexts.{GivenParts, given_parts}
use Rattle.app_texts.specs.Frames.{app_frame}
use Rattle.app_texts.specs.Places.{spot_of}
use Rattle.app_loader.specs.Edits.{IsOneEdit, IsOneEdited, IsOneEditRefusal, JudgedEdit}
use Rattle.app_loader.specs.Judged.{JudgedFormulas}
use Rattle.app_loader.specs.Verdicts.{AreSameBreaks, IsSameBreak}
use Rattle.app_loader.proofs.OneReading.{not_both, read_cell_one}
use Rattle.app_loader.proofs.OneRefusal.{ends_same, formulas_same, from_equal}
use Rattle.app_loader.proofs.OneVerdict.{Agree, formulas_one}

-- ---- what a text gives at a place
is_short : (s : Spot) (text : List ℕ) → is_named_formula s ≡ false → IsFormulaAt s text → IsShort text
is_short (spot.Formula x) text e h = absurd cc
is_short spot.OnStart text e h = h
is_short (spot.OnVisible s) text e h = h
is_short (spot.Property k p) text e h = h

not_empty : (s : Spot) (text : List ℕ) → is_named_formula s ≡ false → utf8_length text ≡ 0 → IsFormulaAt s text → ⊥
not_empty s text e z h = let some = (is_short s text e h).filled in omega (arith, some, z)

not_long : (s : Spot) (text : List ℕ) → is_named_formula s ≡ false → most_text_bytes < utf8_length text → IsFormulaAt s text → ⊥
not_long s text e l h = let few = (is_short s text e h).short in omega (arith, few, l)

empty_short : (text : List ℕ) → utf8_length text ≡ 0 → most_text_bytes < utf8_length text → ⊥
empty_short text z l = omega (arith, z, l)

given_one : (f : Frame) (s : Spot) (text : List ℕ) (g k : Option Cell) → GivenParts f s text (Ok g) → GivenParts f s text (Ok k) → g ≡ k
given_one f s text None None p q = refl
given_one f s text None (Some c) p q = absurd (not_empty s text p.0 p.1 q.0)
given_one f s text (Some c) None p q = absurd (not_empty s text q.0 q.1 p.0)
given_one f s text (Some c) (Some d) p q = ap Some (read_cell_one f s text c d p.1 q.1)

given_not : (f : Frame) (s : Spot) (text : List ℕ) (g : Option Cell) (b : Broken) → GivenParts f s text (Ok g) → GivenParts f s text (Err b) → ⊥
given_not f s text None b p (inl q) = empty_short text p.1 q.1
given_not f s text None b p (inr q) = not_empty s text p.0 p.1 q.0
given_not f s text (Some c) b p (inl q) = not_long s text q.0 q.1 p.0
given_not f s text (Some c) b p (inr q) = not_both f s text c b p.1 q.1

given_same : (f : Frame) (s : Spot) (text : List ℕ) (b c : Broken) → GivenParts f s text (Err b) → GivenParts f s text (Err c) → IsSameBreak b c
given_same f s text b c (inl p) (inl q) = from_equal b c (p.2 ∙ sym q.2)
given_same f s text b c (inl p) (inr q) = absurd (not_long s text p.0 p.1 q.0)
given_same f s text b c (inr p) (inl q) = absurd (not_long s text q.0 q.1 p.0)
given_same f s text b c (inr p) (inr q) = ends_same _ _ (address f s) (encode_utf8_all text) p.1.end q.1.end b c p.1.ends q.1.ends p.1.told q.1.told

-- ---- what an edit makes of the formulas
pub record IsReplaced (a : App) (address text : List ℕ) (cs : List Cell) : Type 0 where
  pub place : Spot
  pub names : spot_of a address ≡ Some place
  pub given : Option Cell
  pub gives : TextGives (app_frame a) place text (Ok given)
  pub are : cs ≡ with_cell a place given

pub record IsBroken (a : App) (address text : List ℕ) (b : Broken) : Type 0 where
  pub place : Spot
  pub names : spot_of a address ≡ Some place
  pub breaks : TextGives (app_frame a) place text (Err b)

abbrev pub EditedParts : App → List ℕ → List ℕ → Result (List Cell) Broken → Type 0
EditedParts a address text (Ok cs) = IsReplaced a address text cs
EditedParts a address text (Err b) = ((spot_of a address ≡ None) × (b ≡ no_place address)) ⊎ IsBroken a address text b

pub edited_parts : {a : App} {address text : List ℕ} {v : Result (List Cell) Broken} → IsEdited a address text v → EditedParts a address text v
edited_parts (IsEdited.nowhere e) = inl (e, refl)
edited_parts (IsEdited.broken s b e h) = inr (record { place = s; names = e; breaks = h })
edited_parts (IsEdited.replaced s g e h) = record { place = s; names = e; given = g; gives = h; are = refl }

one_spot : (o : Option Spot) (s r : Spot) → o ≡ Some s → o ≡ Some r → s ≡ r
one_spot o s r e f = let both : Some s ≡ Some r = sym e ∙ f in cc

no_spot : (o : Option Spot) (s : Spot) → o ≡ Some s → o ≡ None → ⊥
no_spot o s e f = let both : Some s ≡ None = sym e ∙ f in absurd cc

edited_one : (a : App) (address text : List ℕ) (cs ds : List Cell) → IsReplaced a address text cs → IsReplaced a address text ds → cs ≡ ds
edited_one a address text cs ds p q =
    let places = one_spot (spot_of a address) p.place q.place p.names q.names in
    let gives = subst (λ (s : Spot). TextGives (app_frame a) s text (Ok p.given)) places p.gives in
    let given = given_one (app_frame a) q.place text p.given q.given (given_parts gives) (given_parts q.gives) in
    p.are ∙ (λ i. with_cell a (places i) (given i)) ∙ sym q.are

edited_not : (a : App) (address text : List ℕ) (cs : List Cell) (b : Broken) → IsReplaced a address text cs → EditedParts a address text (Err b) → ⊥
edited_not a address text cs b p (inl e) = no_spot (spot_of a address) p.place p.names e.0
edited_not a address text cs b p (inr q) =
    let places = one_spot (spot_of a address) p.place q.place p.names q.names in
    let gives = subst (λ (s : Spot). TextGives (app_frame a) s text (Ok p.given)) places p.gives in
    given_not (app_frame a) q.place text p.given b (given_parts gives) (given_parts q.breaks)

edited_same : (a : App) (address text : List ℕ) (b c : Broken) → EditedParts a address text (Err b) → EditedParts a address text (Err c) → IsSameBreak b c
edited_same a address text b c (inl p) (inl q) = from_equal b c (p.1 ∙ sym q.1)
edited_same a address text b c (inl p) (inr q) = absurd (no_spot (spot_of a address) q.place q.names p.0)
edited_same a address text b c (inr p) (inl q) = absurd (no_spot (spot_of a address) p.place p.names q.0)
edited_same a address text b c (inr p) (inr q) =
    let places = one_spot (spot_of a address) p.place q.place p.names q.names in
    let breaks = subst (λ (s : Spot). TextGives (app_frame a) s text (Err b)) places p.breaks in
    given_same (app_frame a) q.place text b c (given_parts breaks) (given_parts q.breaks)

-- ---- an edit, judged
record IsJudgedSo (a : App) (address text : List ℕ) (v : Result App (List Broken)) : Type 0 where
  cells : List Cell
  replaces : IsReplaced a address text cells
  judges : JudgedFormulas (app_frame a) cells v

record IsBrokenSo (a : App) (address text : List ℕ) (bs : List Broken) : Type 0 where
  break : Broken
  breaks : EditedParts a address text (Err break)
  are : bs ≡ break ∷ []

abbrev JudgedParts : App → List ℕ → List ℕ → Result App (List Broken) → Type 0
JudgedParts a address text (Ok b) = IsJudgedSo a address text (Ok b)
JudgedParts a address text (Err bs) = IsBrokenSo a address text bs ⊎ IsJudgedSo a address text (Err bs)

either : (a : App) (address text : List ℕ) (v : Result App (List Broken)) → IsJudgedSo a address text v → JudgedParts a address text v
either a address text (Ok b) h = h
either a address text (Err bs) h = inr h

judged_parts : {a : App} {address text : List ℕ} {v : Result App (List Broken)} → JudgedEdit a address text v → JudgedParts a address text v
judged_parts (JudgedEdit.broken b h) = inl (record { break = b; breaks = edited_parts h; are = refl })
judged_parts {a = a} {address = x} {text = t} {v = v} (JudgedEdit.judged cells _ h j) = either a x t v (record { cells = cells; replaces = edited_parts h; judges = j })

agree : (a b : App) (address text : List ℕ) (v : Result App (List Broken)) → IsJudgedSo a address text (Ok b) → IsJudgedSo a address text v → Agree b v
agree a b address text v p q =
    let cells = edited_one a address text p.cells q.cells p.replaces q.replaces in
    formulas_one (app_frame a) q.cells b v (subst (λ (cs : List Cell). JudgedFormulas (app_frame a) cs (Ok b)) cells p.judges) q.judges

not_refused : (a b : App) (address text : List ℕ) (bs : List Broken) → IsJudgedSo a address text (Ok b) → IsBrokenSo a address text bs ⊎ IsJudgedSo a address text (Err bs) → ⊥
not_refused a b address text bs p (inl q) = edited_not a address text p.cells q.break p.replaces q.breaks
not_refused a b address text bs p (inr q) = agree a b address text (Err bs) p q

pub one_edit : IsOneEdit
one_edit a b address text bs p q = not_refused a b address text bs (judged_parts p) (judged_parts q)

pub one_edited : IsOneEdited
one_edited a b c address text p q = agree a b address text (Ok c) (judged_parts p) (judged_parts q)

refusals : (a : App) (address text : List ℕ) (bs cs : List Broken) → JudgedParts a address text (Err bs) → JudgedParts a address text (Err cs) → AreSameBreaks bs cs
refusals a address text bs cs (inl p) (inl q) =
    subst (λ (xs : List Broken). AreSameBreaks xs cs) (sym p.are)
    (subst (AreSameBreaks (p.break ∷ [])) (sym q.are) (edited_same a address text p.break q.break p.breaks q.breaks, tt))
refusals a address text bs cs (inl p) (inr q) = absurd (edited_not a address text q.cells p.break q.replaces p.breaks)
refusals a address text bs cs (inr p) (inl q) = absurd (edited_not a address text p.cells q.break p.replaces q.breaks)
refusals a address text bs cs (inr p) (inr q) =
    let cells = edited_one a address text p.cells q.cells p.replaces q.replaces in
    formulas_same (subst (λ (xs : List Cell). JudgedFormulas (app_frame a) xs (Err bs)) cells p.judges) q.judges

pub one_edit_refusal : IsOneEditRefusal
one_edit_refusal a address text bs cs p q = refusals a address text bs cs (judged_parts p) (judged_parts q)
