-- What a text gives at a place, and what an edit makes of it.
use Rattle.std.proofs.Common.{inl, inr, ◌⊎◌, ◌≡◌, ℕ, ◌<◌, List, Bool, false, All, Option, Some, None, IfSome, Result, Ok, Err, map, refl, ap, sym, subst, ◌∙◌, arith}
use Rattle.std.specs.Prelude.{filter_map, find}
use Rattle.fx_base.specs.declared.or_memory.OrMemory.{OrMemory}
use Rattle.fx_base.specs.declared.or_memory.OrMemory.TheVariants as end
use Rattle.fx_core.specs.declared.broken.Broken.{Broken}
use Rattle.app_file.specs.Files.{broken_of}
use Rattle.app_file.specs.declared.breaks.FileBreak.TheVariants as why
use Rattle.app_file.specs.declared.limits.Limit.TheVariants as limit
use Rattle.app_cells.specs.declared.app.App.{App}
use Rattle.app_cells.specs.declared.app.CellInfo.{CellInfo}
use Rattle.app_cells.specs.declared.cell.Cell.{Cell}
use Rattle.app_cells.specs.declared.cell.Spot.{Spot}
use Rattle.app_cells.specs.declared.frame.Frame.{Frame}
use Rattle.app_cells.specs.Spots.{IsPlaced}
use Rattle.app_texts.specs.Texts.{IsReadAt, IsUnreadAt, TellsBreak}
use Rattle.app_texts.specs.Edits.{IsEdited, IsFormulaAt, TextGives, utf8_length, is_named_formula, most_text_bytes, no_place, passes_limit, edited_cell, with_cell}
use Rattle.app_texts.specs.Frames.{app_frame, written_texts}
use Rattle.app_texts.specs.Places.{has_address, spot_of, spots, spots_in}
use Rattle.app_texts.proofs.Standing.{all_hold}

-- ---- a text that is read, or not
pub read_so : (f : Frame) (s r : Spot) (text words : List ℕ) (c : Cell) → r ≡ s → words ≡ text → IsFormulaAt s text → IsReadAt f r words c → TextGives f s text (Ok (Some c))
read_so f s r text words c e k h is = TextGives.read c h (subst (λ (t : Spot). IsReadAt f t text c) e (subst (λ (w : List ℕ). IsReadAt f r w c) k is))

pub unread_so : (f : Frame) (s r : Spot) (text words : List ℕ) (x : OrMemory Broken) → r ≡ s → words ≡ text → IsFormulaAt s text → TellsBreak (IsUnreadAt f r words) x
    → TellsBreak (λ b. TextGives f s text (Err b)) x
unread_so f s r text words (end.Refused b) e k h is = TextGives.unread b h (subst (λ (t : Spot). IsUnreadAt f t text b) e (subst (λ (w : List ℕ). IsUnreadAt f r w b) k is))
unread_so f s r text words end.Memory e k h is = tt

-- ---- a text that is too long, or empty
pub long_so : (f : Frame) (s : Spot) (text : List ℕ) (count : ℕ) (b : Broken) → is_named_formula s ≡ false → count ≡ utf8_length text → most_text_bytes < count
    → b ≡ broken_of (why.Passed limit.Formula count) → TextGives f s text (Err b)
long_so f s text count b e k l is =
    let told : b ≡ passes_limit text = is ∙ ap (λ (n : ℕ). broken_of (why.Passed limit.Formula n)) k in
    subst (λ (x : Broken). TextGives f s text (Err x)) (sym told) (TextGives.long e (omega (arith, k, l)))

pub empty_so : (f : Frame) (s : Spot) (text : List ℕ) (count : ℕ) → is_named_formula s ≡ false → count ≡ utf8_length text → count ≡ 0 → TextGives f s text (Ok None)
empty_so f s text count e k z = TextGives.empty e (sym k ∙ z)

-- ---- the parts of what is given
abbrev pub GivenParts : Frame → Spot → List ℕ → Result (Option Cell) Broken → Type 0
GivenParts f s text (Ok None) = (is_named_formula s ≡ false) × (utf8_length text ≡ 0)
GivenParts f s text (Ok (Some c)) = IsFormulaAt s text × IsReadAt f s text c
GivenParts f s text (Err b) = ((is_named_formula s ≡ false) × (most_text_bytes < utf8_length text) × (b ≡ passes_limit text)) ⊎ (IsFormulaAt s text × IsUnreadAt f s text b)

pub given_parts : {f : Frame} {s : Spot} {text : List ℕ} {v : Result (Option Cell) Broken} → TextGives f s text v → GivenParts f s text v
given_parts (TextGives.long e l) = inl (e, l, refl)
given_parts (TextGives.empty e z) = (e, z)
given_parts (TextGives.unread b h k) = inr (h, k)
given_parts (TextGives.read c h k) = (h, k)

given_placed : (f : Frame) (s : Spot) (text : List ℕ) (g : Option Cell) → GivenParts f s text (Ok g) → IfSome g (IsPlaced f)
given_placed f s text None h = tt
given_placed f s text (Some c) h = h.1.cell.placed

-- ---- an edit, by its steps: the frame, the formulas, the places, and the one of the address
pub record IsFound (a : App) (address : List ℕ) (f : Frame) (is : List CellInfo) (ss : List Spot) (s : Spot) : Type 0 where
  pub frame : f ≡ app_frame a
  pub cells : is ≡ a.cells
  pub spots : ss ≡ spots_in f is
  pub found : Some s ≡ find (has_address f address) ss

all_spots : (a : App) (f : Frame) (is : List CellInfo) (ss : List Spot) → f ≡ app_frame a → is ≡ a.cells → ss ≡ spots_in f is → ss ≡ spots a
all_spots a f is ss e k h = h ∙ (λ i. spots_in (e i) (k i))

is_place : (a : App) (address : List ℕ) (f : Frame) (is : List CellInfo) (ss : List Spot) (o : Option Spot) → f ≡ app_frame a → is ≡ a.cells → ss ≡ spots_in f is
    → o ≡ find (has_address f address) ss → spot_of a address ≡ o
is_place a address f is ss o e k h found = sym (found ∙ (λ i. find (has_address (e i) address) (all_spots a f is ss e k h i)))

found_place : (a : App) (address : List ℕ) (f : Frame) (is : List CellInfo) (ss : List Spot) (s : Spot) → IsFound a address f is ss s → spot_of a address ≡ Some s
found_place a address f is ss s h = is_place a address f is ss (Some s) h.frame h.cells h.spots h.found

these_are : (a : App) (address : List ℕ) (f : Frame) (is : List CellInfo) (ss : List Spot) (s : Spot) (given : Option Cell) (cs : List Cell) → IsFound a address f is ss s
    → cs ≡ filter_map (edited_cell (map (λ (i : CellInfo). i.cell) is) s given) ss → cs ≡ with_cell a s given
these_are a address f is ss s given cs h k =
    k ∙ (λ j. filter_map (edited_cell (map (λ (i : CellInfo). i.cell) (h.cells j)) s given) (all_spots a f is ss h.frame h.cells h.spots j))

pub replaced_so : (a : App) (address text : List ℕ) (f : Frame) (is : List CellInfo) (ss : List Spot) (s : Spot) (given : Option Cell) (cs : List Cell) → IsFound a address f is ss s
    → TextGives f s text (Ok given) → cs ≡ filter_map (edited_cell (map (λ (i : CellInfo). i.cell) is) s given) ss → IsEdited a address text (Ok cs)
replaced_so a address text f is ss s given cs h g k =
    subst (λ (xs : List Cell). IsEdited a address text (Ok xs)) (sym (these_are a address f is ss s given cs h k))
    (IsEdited.replaced s given (found_place a address f is ss s h) (subst (λ (x : Frame). TextGives x s text (Ok given)) h.frame g))

pub placed_so : (a : App) (address text : List ℕ) (f : Frame) (is : List CellInfo) (ss : List Spot) (s : Spot) (given : Option Cell) (cs : List Cell) → IsFound a address f is ss s
    → TextGives f s text (Ok given) → cs ≡ filter_map (edited_cell (map (λ (i : CellInfo). i.cell) is) s given) ss → All (IsPlaced (app_frame a)) (written_texts a) → All (IsPlaced (app_frame a)) cs
placed_so a address text f is ss s given cs h g k all =
    let gives : TextGives (app_frame a) s text (Ok given) = subst (λ (x : Frame). TextGives x s text (Ok given)) h.frame g in
    subst (All (IsPlaced (app_frame a))) (sym (these_are a address f is ss s given cs h k))
    (all_hold (IsPlaced (app_frame a)) a s given all (given_placed (app_frame a) s text given (given_parts gives)))

pub broken_so : (a : App) (address text : List ℕ) (f : Frame) (is : List CellInfo) (ss : List Spot) (s : Spot) (x : OrMemory Broken) → IsFound a address f is ss s
    → TellsBreak (λ b. TextGives f s text (Err b)) x → TellsBreak (λ b. IsEdited a address text (Err b)) x
broken_so a address text f is ss s (end.Refused b) h g = IsEdited.broken s b (found_place a address f is ss s h) (subst (λ (x : Frame). TextGives x s text (Err b)) h.frame g)
broken_so a address text f is ss s end.Memory h g = tt

pub nowhere_so : (a : App) (address text : List ℕ) (f : Frame) (is : List CellInfo) (ss : List Spot) (b : Broken) → f ≡ app_frame a → is ≡ a.cells → ss ≡ spots_in f is
    → None ≡ find (has_address f address) ss → b ≡ no_place address → IsEdited a address text (Err b)
nowhere_so a address text f is ss b e k h none is_b =
    subst (λ (x : Broken). IsEdited a address text (Err x)) (sym is_b) (IsEdited.nowhere (is_place a address f is ss None e k h none))
