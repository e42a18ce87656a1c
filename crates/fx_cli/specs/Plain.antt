-- Values as `view` prints them.
use Rattle.std.specs.Prelude.{◌≡◌, ℕ, List, ◌∷◌, [], ◌++◌, Option, None, codes, encode_utf8_all}
use Rattle.std.specs.Prelude.{flat_map}
use Rattle.app_cells.specs.declared.app.App.{App}
use Rattle.office.specs.app_semantics.Present.{present}
use Rattle.app_wire.specs.Moments.{Ticks}
use Rattle.fx_types.specs.Values.{Data}
use Rattle.session_state.specs.Sessions.{opened}
use Rattle.view_text.specs.PlainText.{plain_text}
use Rattle.office.specs.NamedReply.{IsNamedList}

-- the line of a name with its value
abbrev pub value_line : List ℕ × Data → List ℕ
value_line shown = encode_utf8_all shown.0 ++ (codes " = " ++ (plain_text shown.1 ++ codes "\n"))

-- the text of an app at a moment: a line for each named formula, in order, with its value in a
-- session that was just opened, where no rows are told
abbrev pub IsAppText : ℕ → App → List ℕ → Type 0
IsAppText moment app text =
    (values : List (List ℕ × Data)) × IsNamedList (present app (opened app.names) None moment)
    values × (text ≡ flat_map value_line values)

-- that text at the one moment that a clock gave
abbrev pub IsShownNow : Option (List ℕ) → Option (List ℕ) → App → List ℕ → Type 0
IsShownNow clock clock_now app text =
    (moment : ℕ) × Ticks clock (moment ∷ []) clock_now × IsAppText moment app text
