-- The limits of what an app file itself holds.
use Rattle.std.specs.Prelude.{ℕ, List, [], ◌∷◌, ◌++◌, Option, Some, None, nat_lt, length, map}
use Rattle.std.specs.Prelude.{flat_map, encode_utf8_all}
use Rattle.std.specs.List.{find}
use Rattle.fx_core.specs.declared.schema.Column.{Column}
use Rattle.fx_core.specs.declared.schema.TableShape.{TableShape}
use Rattle.app_file.specs.declared.file.AppFile.{AppFile}
use Rattle.app_file.specs.declared.file.ControlShape.{ControlShape}
use Rattle.app_file.specs.declared.file.PropertyText.{PropertyText}
use Rattle.app_file.specs.declared.file.ScreenShape.{ScreenShape}
use Rattle.app_file.specs.declared.limits.Limit.{Limit}
use Rattle.app_file.specs.declared.limits.Limit.TheVariants as limit

-- the texts of the formulas that stand by themselves, in the order of the app
abbrev pub control_texts : ControlShape → List (List ℕ)
control_texts c = map (λ (p : PropertyText). p.text) c.properties

abbrev pub screen_texts : ScreenShape → List (List ℕ)
screen_texts s = s.on_visible ∷ flat_map control_texts s.controls

abbrev pub texts_of : AppFile → List (List ℕ)
texts_of a = a.on_start ∷ flat_map screen_texts a.screens

-- the names of tables with their columns, and of screens with their controls
abbrev pub names_of_table : TableShape → List (List ℕ)
names_of_table t = t.name ∷ map (λ (c : Column). c.name) t.columns

abbrev pub names_of_controls : ScreenShape → List (List ℕ)
names_of_controls s = map (λ (c : ControlShape). c.name) s.controls

abbrev pub names_of_screen : ScreenShape → List (List ℕ)
names_of_screen s = s.name ∷ names_of_controls s

abbrev pub names_of_app : AppFile → List (List ℕ)
names_of_app a = flat_map names_of_table a.schema.tables ++ flat_map names_of_screen a.screens

-- the controls of all screens
abbrev pub controls_in : AppFile → List ControlShape
controls_in a = flat_map (λ (s : ScreenShape). s.controls) a.screens

abbrev pub utf8_length : List ℕ → ℕ
utf8_length text = length (encode_utf8_all text)

-- what each limit counts, in the order of the app
abbrev pub counts_of : Limit → AppFile → List ℕ
counts_of limit.Formula a = map utf8_length (texts_of a)
counts_of limit.NamedFormulas a = utf8_length a.formulas ∷ []
counts_of limit.Name a = map length (names_of_app a)
counts_of limit.Screens a = length a.screens ∷ []
counts_of limit.Controls a = length (controls_in a) ∷ []
counts_of limit.Tables a = length a.schema.tables ∷ []
counts_of limit.Columns a = map (λ (t : TableShape). length t.columns) a.schema.tables

-- the most of each
abbrev pub most_allowed : Limit → ℕ
most_allowed limit.Formula = 8192
most_allowed limit.NamedFormulas = 262144
most_allowed limit.Name = 64
most_allowed limit.Screens = 64
most_allowed limit.Controls = 500
most_allowed limit.Tables = 32
most_allowed limit.Columns = 63

-- the first count that passes a limit
abbrev pub passed_of : AppFile → Limit → Option ℕ
passed_of a l = find (nat_lt (most_allowed l)) (counts_of l a)

-- the limits in their order
abbrev pub limits : List Limit
limits = limit.Formula ∷ limit.NamedFormulas ∷ limit.Name ∷ limit.Screens ∷ limit.Controls
    ∷ limit.Tables ∷ limit.Columns ∷ []

-- the first of these limits that is passed, and the count that passes it first
abbrev pub first_limit_passed : Limit → Option ℕ → Option (Limit × ℕ) → Option (Limit × ℕ)
first_limit_passed l (Some n) other = Some (l, n)
first_limit_passed l None other = other

abbrev pub first_passed : List Limit → AppFile → Option (Limit × ℕ)
first_passed [] a = None
first_passed (l ∷ ls) a = first_limit_passed l (passed_of a l) (first_passed ls a)
