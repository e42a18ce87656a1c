-- The formulas of an app in which one is replaced.
use Rattle.std.specs.Prelude.{◌≡◌, ◌≢◌, ◌≤◌, ◌<◌, ℕ, List, [], ◌∷◌, Bool, true, false, Option, Some}
use Rattle.std.specs.Prelude.{None, Result, Ok, Err, find, filter_map, length, encode_utf8_all}
use Rattle.std.specs.Prelude.{if◌then◌else◌}
use Rattle.fx_core.specs.declared.broken.Broken.{Broken}
use Rattle.fx_core.specs.declared.rule.Rule.TheVariants as rule
use Rattle.app_file.specs.declared.breaks.FileBreak.TheVariants as why
use Rattle.app_file.specs.declared.limits.Limit.TheVariants as limit
use Rattle.app_file.specs.Files.{broken_of}
use Rattle.app_file.specs.Limits.{most_allowed}
use Rattle.app_cells.specs.declared.app.App.{App}
use Rattle.app_cells.specs.declared.cell.Cell.{Cell}
use Rattle.app_cells.specs.declared.cell.Spot.{Spot}
use Rattle.app_cells.specs.declared.cell.Spot.TheVariants as spot
use Rattle.app_cells.specs.declared.frame.Frame.{Frame}
use Rattle.app_texts.specs.Texts.{IsReadAt, IsUnreadAt}
use Rattle.app_texts.specs.Frames.{app_frame, written_texts}
use Rattle.app_texts.specs.Places.{is_same_spot, spot_of, spots}

-- an address at which no formula can stand is the cell and what is said of it
abbrev pub no_place : List ℕ → Broken
no_place address = record { cell = address; rule = rule.UnknownName; at = 0; detail = address }

abbrev pub is_named_formula : Spot → Bool
is_named_formula (spot.Formula x) = true
is_named_formula s = false

abbrev pub utf8_length : List ℕ → ℕ
utf8_length text = length (encode_utf8_all text)

abbrev pub most_text_bytes : ℕ
most_text_bytes = most_allowed limit.Formula

-- A text without a name of its own may not be too long, as in a file, and where it is empty it is
-- no formula.
abbrev pub passes_limit : List ℕ → Broken
passes_limit text = broken_of (why.Passed limit.Formula (utf8_length text))

pub record IsShort (text : List ℕ) : Type 0 where
  pub filled : 0 < utf8_length text
  pub short : utf8_length text ≤ most_text_bytes

abbrev pub IsFormulaAt : Spot → List ℕ → Type 0
IsFormulaAt (spot.Formula x) text = Unit {0}
IsFormulaAt s text = IsShort text

-- WHAT A TEXT GIVES AT A PLACE: it is too long; it is empty, and no formula stands there; it is no
-- formula; or it is this one.
pub data TextGives (f : Frame) (s : Spot) (text : List ℕ) : Result (Option Cell) Broken
    → Type 0 where
  long : is_named_formula s ≡ false → most_text_bytes < utf8_length text
      → TextGives f s text (Err (passes_limit text))
  empty : is_named_formula s ≡ false → utf8_length text ≡ 0 → TextGives f s text (Ok None)
  unread : (b : Broken) → IsFormulaAt s text → IsUnreadAt f s text b → TextGives f s text (Err b)
  read : (c : Cell) → IsFormulaAt s text → IsReadAt f s text c → TextGives f s text (Ok (Some c))

-- the formula that is written at a place
abbrev pub written_at : List Cell → Spot → Option Cell
written_at cells s = find (λ (c : Cell). is_same_spot s c.spot) cells

-- what stands at a place: at the edited one what is given, and at each other one what is written
-- there
abbrev pub edited_cell : List Cell → Spot → Option Cell → Spot → Option Cell
edited_cell cells s given here = if is_same_spot here s then given else written_at cells here

-- THE FORMULAS OF AN APP IN WHICH ONE IS REPLACED, in the order of its places
abbrev pub with_cell : App → Spot → Option Cell → List Cell
with_cell a s given = filter_map (edited_cell (written_texts a) s given) (spots a)

-- WHAT AN EDIT MAKES OF THE FORMULAS OF AN APP: no formula can stand there; what is given is
-- broken; or it stands there.
pub data IsEdited (a : App) (address text : List ℕ) : Result (List Cell) Broken → Type 0 where
  nowhere : spot_of a address ≡ None → IsEdited a address text (Err (no_place address))
  broken : (s : Spot) (b : Broken) → spot_of a address ≡ Some s
      → TextGives (app_frame a) s text (Err b) → IsEdited a address text (Err b)
  replaced : (s : Spot) (given : Option Cell) → spot_of a address ≡ Some s
      → TextGives (app_frame a) s text (Ok given)
      → IsEdited a address text (Ok (with_cell a s given))
