-- Rules that the parts of a call break, of which another rule may be met first.
use Rattle.std.specs.Prelude.{ℕ, List, [], ◌∷◌, ◌++◌, Bool, true, false, ◌&&◌, not, map, length}
use Rattle.std.specs.Prelude.{codes, bytes_eq, Option, Some, None, is_some, option_and_then}
use Rattle.std.specs.Prelude.{if◌then◌else◌}
use Rattle.fx_types.specs.TypeView.{shape}
use Rattle.fx_types.specs.Types.{Shape, blanks, booleans, records, tables, ColumnList, no_columns}
use Rattle.fx_types.specs.Types.{column}
use Rattle.fx_core.specs.declared.functions.Acting.{Acting}
use Rattle.fx_core.specs.declared.functions.Acting.TheVariants as acts
use Rattle.fx_core.specs.declared.functions.Fun.{Fun}
use Rattle.fx_core.specs.declared.functions.Fun.TheVariants as fun
use Rattle.fx_core.specs.declared.rows.Answer.{Answer}
use Rattle.fx_core.specs.declared.rows.Answer.TheVariants as answer
use Rattle.fx_core.specs.Rows.{row_of, takes_count}
use Rattle.fx_core.specs.declared.names.Collection.{Collection}
use Rattle.fx_core.specs.declared.names.Names.{Names}
use Rattle.fx_core.specs.declared.names.Variable.{Variable}
use Rattle.fx_typing.specs.Columns.{is_told_or_missing, shared_by}
use Rattle.fx_core.specs.ColumnLists.{field_in, is_one_of}
use Rattle.fx_typing.specs.Local.{value, label}
use Rattle.fx_typing.specs.Meaning.{or_else}
use Rattle.fx_typing.specs.Ways.{way, is_open}
use Rattle.fx_typing.specs.Builds.{is_bounded}
use Rattle.fx_typing.specs.Parts.{JudgedPart, piece, target, assigned}
use Rattle.fx_typing.specs.Targets.{global_variable, screen_variable, collection_named}

-- ---- rule 5: the first new name of a column, in turn, that is taken
abbrev pub part_name : JudgedPart → Option (List ℕ)
part_name (piece (label x)) = Some x
part_name q = None

-- the names of columns; what is no table has none
abbrev pub names_of_columns : ColumnList → List (List ℕ)
names_of_columns no_columns = []
names_of_columns (column n t cs) = n ∷ names_of_columns cs

abbrev pub names_in : JudgedPart → List (List ℕ)
names_in (piece (value a c (tables cs))) = names_of_columns cs
names_in q = []

abbrev pub name_taken_or : Option (List ℕ) → List (List ℕ) → Option (List ℕ) → Option (List ℕ)
name_taken_or (Some x) ns later = if is_one_of x ns then Some x else later
name_taken_or None ns later = later

-- one name more; one in the place of another, if that is there
abbrev pub with_name : Option (List ℕ) → List (List ℕ) → List (List ℕ)
with_name (Some x) ns = ns ++ x ∷ []
with_name None ns = ns

abbrev pub names_renamed : Option (List ℕ) → Option (List ℕ) → List (List ℕ) → List (List ℕ)
names_renamed (Some x) (Some y) ns = map (λ n. if bytes_eq n x then y else n) ns
names_renamed x y ns = ns

abbrev pub taken_added : List JudgedPart → List (List ℕ) → Option (List ℕ)
taken_added (q ∷ r ∷ qs) ns = name_taken_or (part_name q) ns
    (taken_added qs (with_name (part_name q) ns))
taken_added qs ns = None

abbrev pub taken_renamed : List JudgedPart → List (List ℕ) → Option (List ℕ)
taken_renamed (q ∷ r ∷ qs) ns = name_taken_or (part_name r) ns
    (taken_renamed qs (names_renamed (part_name q) (part_name r) ns))
taken_renamed qs ns = None

-- the columns of a table; what is none has none
abbrev pub columns_in : JudgedPart → ColumnList
columns_in (piece (value a c (tables cs))) = cs
columns_in q = no_columns

-- the name of the column of groups, where a column has it
abbrev pub taken_name : Option (List ℕ) → ColumnList → Option (List ℕ)
taken_name (Some x) cs = if is_some (field_in x cs) then Some x else None
taken_name None cs = None

abbrev pub taken_grouped : List JudgedPart → ColumnList → Option (List ℕ)
taken_grouped [] cs = None
taken_grouped (q ∷ []) cs = taken_name (part_name q) cs
taken_grouped (q ∷ r ∷ qs) cs = taken_grouped (r ∷ qs) cs

-- the first column of groups that another column has the name of, where the column of groups has
-- this name
abbrev pub shared_as : Option (List ℕ) → ColumnList → Option (List ℕ)
shared_as (Some g) cs = shared_by g (field_in g cs) cs
shared_as None cs = None

abbrev pub taken_ungrouped : List JudgedPart → ColumnList → Option (List ℕ)
taken_ungrouped (q ∷ []) cs = shared_as (part_name q) cs
taken_ungrouped qs cs = None

abbrev pub taken_by : Answer → List JudgedPart → Option (List ℕ)
taken_by answer.Added (q ∷ qs) = taken_added qs (names_in q)
taken_by answer.Renamed (q ∷ qs) = taken_renamed qs (names_in q)
taken_by answer.Grouped (q ∷ qs) = taken_grouped qs (columns_in q)
taken_by answer.Ungrouped (q ∷ qs) = taken_ungrouped qs (columns_in q)
taken_by a qs = None

-- of a call that has as many parts as it takes
abbrev pub taken_at : Fun → List JudgedPart → Option (List ℕ)
taken_at f qs = if takes_count (row_of f) (length qs) then taken_by (row_of f).answer qs else None

-- ---- rule 6: an error with a Message that is no text, whatever its Kind
abbrev pub mistells : Fun → List JudgedPart → Bool
mistells fun.Error (piece (value a c (records cs)) ∷ [])
    = not (is_told_or_missing (field_in (codes "Message") cs))
mistells f qs = false

-- ---- rule 6: what is no row, no change or no condition, whatever an acting call changes
abbrev pub could_be_row : JudgedPart → Bool
could_be_row (piece (value a c (records cs))) = true
could_be_row (piece (value a c blanks)) = true
could_be_row q = false

abbrev pub could_be_condition : JudgedPart → Bool
could_be_condition (piece (value a c t)) = is_open (way t booleans)
could_be_condition q = false

abbrev pub all_could : (JudgedPart → Bool) → List JudgedPart → Bool
all_could f [] = true
all_could f (q ∷ qs) = f q && all_could f qs

abbrev pub could_act : Acting → List JudgedPart → Bool
could_act acts.Patch (q ∷ qs) = all_could could_be_row qs
could_act acts.Remove (q ∷ qs) = all_could could_be_row qs
could_act acts.RemoveIf (q ∷ qs) = all_could could_be_condition qs
could_act acts.UpdateIf (q ∷ r ∷ qs) = could_be_condition r && all_could could_be_row qs
could_act a qs = true

-- ---- rule 15: a name that is given a value and is no variable of the formula's screen
abbrev pub all_on_screen : Names → Option ℕ → List (List ℕ) → Bool
all_on_screen n s [] = true
all_on_screen n s (x ∷ xs) = is_some (screen_variable n s x) && all_on_screen n s xs

abbrev pub gives_variables : Names → Option ℕ → Acting → List JudgedPart → Bool
gives_variables n s acts.UpdateContext (assigned xs ys ∷ qs) = all_on_screen n s xs
gives_variables n s a qs = true

-- ---- rule 13: what is given a value is a variable or a collection of a type that passes the limits
abbrev pub too_large : Shape → Option Shape
too_large t = if is_bounded t then None else Some t

abbrev pub large_variable : Option (ℕ × Variable) → Option Shape
large_variable v = option_and_then (λ (v : ℕ × Variable). too_large (shape v.1.ty)) v

abbrev pub large_collection : Option (ℕ × Collection) → Option Shape
large_collection c = option_and_then (λ (c : ℕ × Collection). too_large (shape c.1.ty)) c

abbrev pub large_on_screen : Names → Option ℕ → List (List ℕ) → Option Shape
large_on_screen n s [] = None
large_on_screen n s (x ∷ xs) = or_else (large_variable (screen_variable n s x))
    (large_on_screen n s xs)

-- the first such type
abbrev pub large_given : Names → Option ℕ → Acting → List JudgedPart → Option Shape
large_given n s acts.Set (target a x ∷ qs) = large_variable (global_variable n x)
large_given n s acts.UpdateContext (assigned xs ys ∷ qs) = large_on_screen n s xs
large_given n s acts.Collect (target a x ∷ qs) = large_collection (collection_named n x)
large_given n s acts.ClearCollect (target a x ∷ qs) = large_collection (collection_named n x)
large_given n s a qs = None
