-- What is broken among the names of an app, before any formula is judged.
use Rattle.std.specs.Prelude.{ℕ, suc, ◌-◌, ◌++◌, List, [], ◌∷◌, Bool, ◌&&◌, ◌||◌, nat_eq, nat_lt}
use Rattle.std.specs.Prelude.{length, codes, map, flat_map, Option, Some, None, option_map, is_some}
use Rattle.std.specs.Prelude.{bytes_eq, encode_utf8_all, if◌then◌else◌}
use Rattle.std.specs.List.{filter, find, list_any}
use Rattle.std.specs.Fmt.{decimal}
use Rattle.fx_core.specs.Lawful.{id_name}
use Rattle.fx_core.specs.Literals.{enumeration_of}
use Rattle.fx_core.specs.declared.broken.Broken.{Broken}
use Rattle.fx_core.specs.declared.names.ControlName.{ControlName}
use Rattle.fx_core.specs.declared.rule.Rule.{Rule}
use Rattle.fx_core.specs.declared.rule.Rule.TheVariants as rule
use Rattle.fx_core.specs.declared.schema.Column.{Column}
use Rattle.fx_core.specs.declared.schema.TableShape.{TableShape}
use Rattle.fx_core.specs.declared.signatures.Signature.{Signature}
use Rattle.fx_typing.specs.Meaning.{or_else}
use Rattle.app_cells.specs.declared.cell.Cell.{Cell}
use Rattle.app_cells.specs.declared.cell.Spot.{Spot}
use Rattle.app_cells.specs.declared.cell.Spot.TheVariants as spot
use Rattle.app_cells.specs.declared.frame.Frame.{Frame}
use Rattle.app_names.specs.declared.declarations.Declared.{Declared}
use Rattle.app_names.specs.Declarations.{declared_of, formula_names, given_names, is_name_among}
use Rattle.app_names.specs.Declarations.{is_global_thing, new_behind, own_names, frame_table_names}
use Rattle.app_names.specs.Declarations.{things_of}

-- a rule that the whole app breaks, and one that a formula breaks at a byte of the text, which is
-- counted from where positions of the formula are told
abbrev pub in_app : Rule → List ℕ → Broken
in_app r detail = record { cell = codes "App"; rule = r; at = 0; detail = detail }

abbrev pub in_cell : Cell → Rule → ℕ → List ℕ → Broken
in_cell c r at detail = record { cell = c.name; rule = r; at = at - c.at; detail = detail }

-- the names that no app declares, given by their bytes: these words, and the enumerations
abbrev pub is_reserved_word : List ℕ → Bool
is_reserved_word t =
    bytes_eq t (codes "App") || (bytes_eq t (codes "ThisRecord")
    || (bytes_eq t (codes "ThisItem") || bytes_eq t (codes "FirstError")))

abbrev pub is_reserved : List ℕ → Bool
is_reserved x = is_reserved_word (encode_utf8_all x) || is_some (enumeration_of (encode_utf8_all x))

-- a name behind these is taken
abbrev pub is_taken : List (List ℕ) → List ℕ → Bool
is_taken before x = is_reserved x || is_name_among before x

-- the first of these names that is taken by those before it
abbrev pub first_twice : List (List ℕ) → List (List ℕ) → Option (List ℕ)
first_twice before [] = None
first_twice before (x ∷ xs) = if is_taken before x then Some x else first_twice (before ++ x ∷ [])
    xs

-- A table's name is taken by the tables before it, and a column's by `ID` and the columns before
-- it.
abbrev pub column_twice : TableShape → Option (List ℕ)
column_twice t = first_twice (id_name ∷ []) (map (λ (c : Column). c.name) t.columns)

abbrev pub table_twice : List (List ℕ) → List TableShape → Option (List ℕ)
table_twice before [] = None
table_twice before (t ∷ ts) =
    if is_taken before t.name then Some t.name else or_else (column_twice t)
    (table_twice (before ++ t.name ∷ []) ts)

-- the screens, each with its controls
abbrev pub names_on : Frame → ℕ → List (List ℕ)
names_on f s = map (λ (c : ControlName). c.name)
    (filter (λ (c : ControlName). nat_eq c.screen s) f.controls)

abbrev pub names_on_screen : Frame → ℕ → List (List ℕ) → List (List ℕ)
names_on_screen f s [] = []
names_on_screen f s (x ∷ xs) = x ∷ (names_on f s ++ names_on_screen f (suc s) xs)

abbrev pub screen_twice : Frame → List Cell → Option (List ℕ)
screen_twice f cells = first_twice (frame_table_names f ++ formula_names cells)
    (names_on_screen f 0 f.screens)

-- THE FIRST NAME OF A TABLE, A COLUMN, A SCREEN OR A CONTROL THAT IS TAKEN: the order is that of
-- tables with their columns, named formulas, and screens with their controls.
abbrev pub frame_twice : Frame → List Cell → Option (List ℕ)
frame_twice f cells = or_else (table_twice [] f.schema.tables) (screen_twice f cells)

-- A new thing is taken where its name is reserved, and a global one where another global thing has
-- it.
abbrev pub has_name : List ℕ → Declared → Bool
has_name x d = is_global_thing d.thing && bytes_eq d.name x

abbrev pub is_taken_thing : List Declared → Declared → Bool
is_taken_thing before d = is_reserved d.name || (is_global_thing d.thing
    && list_any (has_name d.name) before)

abbrev pub first_taken : List Declared → List Declared → Option Declared
first_taken before [] = None
first_taken before (d ∷ ds) = if is_taken_thing before d then Some d else first_taken
    (before ++ d ∷ []) ds

-- the most of each
abbrev pub most_formula_bytes : ℕ
most_formula_bytes = 8192

abbrev pub most_name_length : ℕ
most_name_length = 64

abbrev pub most_cells : ℕ
most_cells = 2000

abbrev pub most_variables : ℕ
most_variables = 1000

-- a word and a number, a space between them
abbrev pub word_with_number : List ℕ → ℕ → List ℕ
word_with_number word n = word ++ (codes " " ++ decimal n)

-- a limit that is passed, with the number that was counted
abbrev pub passed_limit : ℕ → ℕ → List ℕ → Option (List ℕ)
passed_limit most count limit = if nat_lt most count then Some (word_with_number limit count) else
    None

abbrev pub is_long : List ℕ → Bool
is_long x = nat_lt most_name_length (length x)

abbrev pub long_name : List ℕ → List ℕ
long_name x = word_with_number (codes "name") (length x)

-- A cell behind these names, where these things are declared, and these new ones: it is a named
-- formula whose name is taken, or it declares one that is.
abbrev pub own_taken : (List ℕ → Bool) → Cell → Spot → Option Broken
own_taken before c (spot.Formula x) = if is_reserved x
    || before x then Some (in_cell c rule.NameTwice c.at x) else None
own_taken before c s = None

abbrev pub thing_taken : List Declared → List Declared → Cell → Option Broken
thing_taken things new c = option_map (λ (d : Declared). in_cell c rule.NameTwice d.at d.name)
    (first_taken things new)

abbrev pub taken_break : (List ℕ → Bool) → List Declared → List Declared → Cell → Option Broken
taken_break before things new c = or_else (own_taken before c c.spot) (thing_taken things new c)

-- A named formula's text is too long, or else its name; or else a name that a cell declares.
abbrev pub long_text : Cell → Option Broken
long_text c =
    option_map (in_cell c rule.LimitPassed c.at)
    (passed_limit most_formula_bytes (length (encode_utf8_all c.text)) (codes "formula"))

abbrev pub long_own_name : Cell → List ℕ → Option Broken
long_own_name c x = if is_long x then Some (in_cell c rule.LimitPassed c.at (long_name x)) else None

abbrev pub own_limit : Cell → Spot → Option Broken
own_limit c (spot.Formula x) = or_else (long_text c) (long_own_name c x)
own_limit c s = None

abbrev pub long_thing : List Declared → Cell → Option Broken
long_thing new c =
    option_map (λ (d : Declared). in_cell c rule.LimitPassed d.at (long_name d.name))
    (find (λ (d : Declared). is_long d.name) new)

abbrev pub limit_break : List Declared → Cell → Option Broken
limit_break new c = or_else (own_limit c c.spot) (long_thing new c)

-- one break of a cell at most
abbrev pub name_break : (List ℕ → Bool) → List Declared → List Declared → Cell → Option Broken
name_break before things new c = or_else (taken_break before things new c) (limit_break new c)

abbrev pub put_break : Option Broken → List Broken → List Broken
put_break (Some b) bs = b ∷ bs
put_break None bs = bs

-- the breaks of cells behind these names and things
abbrev pub breaks_behind : List Signature → (List ℕ → Bool) → List (List ℕ) → List Declared
    → List Cell → List Broken
breaks_behind functions given before things [] = []
breaks_behind functions given before things (c ∷ cs) =
    let new = new_behind things (declared_of functions given c) in
    put_break (name_break (is_name_among before) things new c)
    (breaks_behind functions given (before ++ own_names c.spot) (things ++ new) cs)

-- the whole app has too many cells, or else too many variables and collections
abbrev pub app_limit : ℕ → ℕ → Option (List ℕ)
app_limit cells things = or_else (passed_limit most_cells cells (codes "cells"))
    (passed_limit most_variables things (codes "variables"))

abbrev pub app_break : Frame → List Cell → ℕ → Option Broken
app_break f cells things =
    or_else (option_map (in_app rule.NameTwice) (frame_twice f cells))
    (option_map (in_app rule.LimitPassed) (app_limit (length cells) things))

-- THE BREAKS AMONG THE NAMES OF AN APP
abbrev pub name_breaks : List Signature → Frame → List Cell → List Broken
name_breaks functions f cells =
    put_break (app_break f cells (length (things_of functions f cells)))
    (breaks_behind functions (is_name_among (given_names f cells)) (frame_table_names f) []
    cells)
