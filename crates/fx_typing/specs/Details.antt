-- What is said besides the rule that a node breaks.
use Rattle.std.specs.Prelude.{◌≡◌, ◌⊎◌, ◌==◌, ℕ, suc, List, [], ◌∷◌, ◌++◌, Bool, true, false}
use Rattle.std.specs.Prelude.{nat_le, max, codes, length, Option, Some, None, is_some, unwrap_or}
use Rattle.std.specs.Prelude.{Result, Ok, Err, if◌then◌else◌}
use Rattle.std.specs.Fmt.{decimal}
use Rattle.fx_types.specs.TypeView.{shape}
use Rattle.fx_types.specs.Types.{Shape, blanks, numbers, texts, booleans, dates, records, tables}
use Rattle.fx_types.specs.Types.{ColumnList, no_columns, column}
use Rattle.fx_core.specs.declared.deeds.Target.{Target}
use Rattle.fx_core.specs.declared.deeds.Target.TheVariants as rows
use Rattle.fx_core.specs.declared.functions.Acting.{Acting}
use Rattle.fx_core.specs.declared.functions.Acting.TheVariants as acts
use Rattle.fx_core.specs.declared.rows.Answer.{Answer}
use Rattle.fx_core.specs.declared.rows.Answer.TheVariants as answer
use Rattle.fx_core.specs.declared.rows.Takes.{Takes}
use Rattle.fx_core.specs.declared.rows.Takes.TheVariants as takes
use Rattle.fx_core.specs.declared.signatures.SigShape.{SigShape}
use Rattle.fx_core.specs.declared.signatures.SigShape.TheVariants as sig
use Rattle.fx_core.specs.Rows.{row_of}
use Rattle.fx_core.specs.declared.names.Collection.{Collection}
use Rattle.fx_core.specs.declared.names.Names.{Names}
use Rattle.fx_core.specs.declared.names.Variable.{Variable}
use Rattle.fx_core.specs.SourceTypes.{item_columns}
use Rattle.fx_core.specs.Tree.{Tree, node, Forest, none, more, Head}
use Rattle.fx_core.specs.Tree as tree
use Rattle.fx_core.specs.Term.{Term}
use Rattle.fx_core.specs.Rules as rules
use Rattle.fx_core.specs.ColumnLists.{field_in, with_renamed, is_one_of, row_columns, before_last}
use Rattle.fx_typing.specs.Local.{Piece, value, label, join_all}
use Rattle.fx_typing.specs.Meaning.{Place, or_else}
use Rattle.fx_typing.specs.Breaks.{taken_at, large_given}
use Rattle.fx_typing.specs.Builds.{type_depth, columns_count, record_by, put_fields}
use Rattle.fx_typing.specs.Calls.{called_by}
use Rattle.fx_typing.specs.Deeds.{joins_to, rows_collected, settable}
use Rattle.fx_typing.specs.Parts.{JudgedPart, piece, meant, target, assigned, Setting, values}
use Rattle.fx_typing.specs.Parts.{part_count}
use Rattle.fx_typing.specs.Plans.{called_as, pick, depth_of, setting_at}
use Rattle.fx_typing.specs.Targets.{global_variable, screen_variable, collection_named, rows_named}
use Rattle.fx_typing.specs.Typing.{judge, judge_parts, admit, is_too_deep, outermost_setting}
use Rattle.fx_typing.specs.Typing.{whole_argument, position}

-- ---- texts
-- a type's name
abbrev pub type_name : Shape → List ℕ
type_name blanks = codes "Blank"
type_name numbers = codes "Number"
type_name texts = codes "Text"
type_name booleans = codes "Boolean"
type_name dates = codes "Date"
type_name (records cs) = codes "Record"
type_name (tables cs) = codes "Table"

-- texts with a comma and a space between each two
abbrev pub comma_separated : List (List ℕ) → List ℕ
comma_separated [] = []
comma_separated (x ∷ []) = x
comma_separated (x ∷ y ∷ ys) = x ++ (codes ", " ++ comma_separated (y ∷ ys))

-- a word and a number, a space between them
abbrev pub word_with_number : List ℕ → ℕ → List ℕ
word_with_number x n = x ++ (codes " " ++ decimal n)

-- what a node is called: by its name or the name of its call, and a chain by its mark
abbrev pub head_name : Head → List ℕ
head_name (tree.name x) = x
head_name (tree.global x) = x
head_name (tree.dot x) = x
head_name (tree.call x) = x
head_name (tree.alias x) = x
head_name tree.chain = codes ";"
head_name tree.all = codes "And"
head_name tree.any = codes "Or"
head_name h = []

-- ---- wrong types: those of all parts that have one
abbrev pub some_name : Option (Target × Shape) → List (List ℕ)
some_name (Some r) = type_name r.1 ∷ []
some_name None = []

-- what is no value counts as a record; what changes has a type where it has rows; a column's name
-- has none
abbrev pub part_names : Names → JudgedPart → List (List ℕ)
part_names n (piece (value a c t)) = type_name t ∷ []
part_names n (piece (label x)) = []
part_names n (meant m) = codes "Record" ∷ []
part_names n (target a x) = some_name (rows_named n x)
part_names n (assigned ns xs) = codes "Record" ∷ []

abbrev pub all_names : Names → List JudgedPart → List (List ℕ)
all_names n [] = []
all_names n (q ∷ qs) = part_names n q ++ all_names n qs

abbrev pub is_table_shape : Shape → Bool
is_table_shape (tables cs) = true
is_table_shape blanks = true
is_table_shape t = false

-- whether a call takes a table first
abbrev pub is_table_place : Takes → Bool
is_table_place takes.Table = true
is_table_place k = false

abbrev pub takes_table : Option SigShape → List JudgedPart → Bool
takes_table (Some (sig.One f)) qs = is_table_place (row_of f).first
takes_table (Some (sig.Either f g)) qs = is_table_place (row_of (pick f g qs)).first
takes_table (Some (sig.Literal f)) qs = is_table_place (row_of f).first
takes_table (Some sig.Defaults) qs = true
takes_table (Some (sig.Act acts.Patch)) qs = true
takes_table (Some (sig.Act acts.Remove)) qs = true
takes_table (Some (sig.Act acts.RemoveIf)) qs = true
takes_table (Some (sig.Act acts.UpdateIf)) qs = true
takes_table s qs = false

-- the first part as the rows that a call takes
abbrev pub is_rows : Option (Target × Shape) → Bool
is_rows (Some (r, t)) = is_table_shape t
is_rows None = true

abbrev pub stands_as_table : Names → JudgedPart → Bool
stands_as_table n (piece (value a c t)) = is_table_shape t
stands_as_table n (target a x) = is_rows (rows_named n x)
stands_as_table n q = false

-- a wrong table is told alone
abbrev pub call_names : Names → Bool → List JudgedPart → List (List ℕ)
call_names n true (q ∷ qs) = if stands_as_table n q then all_names n (q ∷ qs) else part_names n q
call_names n b qs = all_names n qs

-- a name by itself that is no value counts as a record, and so does a name for rows where none
-- belongs
abbrev pub wrong_types : Names → Head → List JudgedPart → List (List ℕ)
wrong_types n (tree.name x) qs = codes "Record" ∷ []
wrong_types n (tree.global x) qs = codes "Record" ∷ []
wrong_types n (tree.alias x) qs = codes "Record" ∷ []
wrong_types n (tree.call x) qs = call_names n (takes_table (called_as n x) qs) qs
wrong_types n h qs = all_names n qs

-- ---- names that stand twice, and columns that aren't there
-- the first name that stood before
abbrev pub twice_after : List (List ℕ) → List (List ℕ) → List ℕ
twice_after seen [] = []
twice_after seen (n ∷ ns) = if is_one_of n seen then n else twice_after (n ∷ seen) ns

abbrev pub or_stuck : Result ColumnList ℕ → List ℕ → (ColumnList → List ℕ) → List ℕ
or_stuck (Ok cs) x go = go cs
or_stuck (Err e) x go = x

-- the first name that is no column's, of those that are left out or shown; and the name at which
-- columns can't be named anew, in turn
abbrev pub unless_there : Option Shape → List ℕ → List ℕ → List ℕ
unless_there (Some t) x later = later
unless_there None x later = x

abbrev pub stuck_sought : List Piece → ColumnList → List ℕ
stuck_sought (label x ∷ ps) cs = unless_there (field_in x cs) x (stuck_sought ps cs)
stuck_sought ps cs = []

abbrev pub stuck_renamed : List Piece → ColumnList → List ℕ
stuck_renamed (label x ∷ label y ∷ ps) cs =
    unless_there (field_in x cs) x (or_stuck (with_renamed x y cs) y (stuck_renamed ps))
stuck_renamed ps cs = []

abbrev pub stuck_by : Answer → List Piece → List ℕ
stuck_by answer.Dropped (value a c (tables cs) ∷ ps) = stuck_sought ps cs
stuck_by answer.Dropped (value a c t ∷ ps) = stuck_sought ps no_columns
stuck_by answer.Shown (value a c (tables cs) ∷ ps) = stuck_sought ps cs
stuck_by answer.Shown (value a c t ∷ ps) = stuck_sought ps no_columns
stuck_by answer.Renamed (value a c (tables cs) ∷ ps) = stuck_renamed ps cs
stuck_by answer.Renamed (value a c t ∷ ps) = stuck_renamed ps no_columns
stuck_by answer.Grouped (value a c (tables cs) ∷ ps) = stuck_sought (before_last ps) cs
stuck_by answer.Grouped (value a c t ∷ ps) = stuck_sought (before_last ps) no_columns
stuck_by answer.Ungrouped (value a c (tables cs) ∷ ps) = stuck_sought ps cs
stuck_by answer.Ungrouped (value a c t ∷ ps) = stuck_sought ps no_columns
stuck_by a ps = codes "Kind"

-- the first field of a record that is none of some columns
abbrev pub first_more : ColumnList → ColumnList → Option (List ℕ)
first_more cs no_columns = None
first_more cs (column n t ds) = if is_some (field_in n cs) then first_more cs ds else Some n

-- the column by which a row isn't named: of a table its ID, which it lacks; of a collection one
-- more
abbrev pub unnamed_at : Target → ColumnList → Shape → Option (List ℕ)
unnamed_at (rows.Table k) cs (records ds) = if is_some (field_in (codes "ID") ds) then None else
    Some (codes "ID")
unnamed_at (rows.Gathered k) cs (records ds) = first_more cs ds
unnamed_at t cs u = None

-- the column that a change can't set: one more, which ID of a table is as well
abbrev pub unsettable_column : Target → ColumnList → Shape → Option (List ℕ)
unsettable_column t cs (records ds) = first_more (settable t cs) ds
unsettable_column t cs u = None

-- of several values the first that has one
abbrev pub first_detail : (Shape → Option (List ℕ)) → List (Term × Shape) → Option (List ℕ)
first_detail f [] = None
first_detail f (x ∷ xs) = or_else (f x.1) (first_detail f xs)

-- the column of an acting call on these rows, of its arguments from the left
abbrev pub acted_at : Acting → Target → ColumnList → List (Term × Shape) → Option (List ℕ)
acted_at acts.Patch t cs (base ∷ changes) = or_else (unnamed_at t cs base.1)
    (first_detail (unsettable_column t cs) changes)
acted_at acts.Remove t cs xs = first_detail (unnamed_at t cs) xs
acted_at a t cs xs = first_detail (unsettable_column t cs) xs

abbrev pub acting_detail : Option (Target × Shape) → Acting → List (Term × Shape) → Option (List ℕ)
acting_detail (Some r) a xs = acted_at a r.0 (item_columns r.1) xs
acting_detail None a xs = None

-- ---- what doesn't join to a variable
abbrev pub variable_detail : List ℕ → Shape → Shape → List ℕ
variable_detail x t u = comma_separated (x ∷ type_name t ∷ type_name u ∷ [])

abbrev pub misgiven : List ℕ → Shape → List (Term × Shape) → List ℕ
misgiven x t [] = []
misgiven x t (y ∷ ys) = if joins_to t y.1 then misgiven x t ys else variable_detail x t y.1

abbrev pub misgiven_rows : List ℕ → Shape → List (Term × Shape) → List ℕ
misgiven_rows x t [] = []
misgiven_rows x t (y ∷ ys) = if joins_to t (rows_collected y).1 then misgiven_rows x t ys else
    variable_detail x t (rows_collected y).1

abbrev pub misgiven_to : List ℕ → Option (ℕ × Variable) → List (Term × Shape) → List ℕ
misgiven_to x (Some v) ys = misgiven x (shape v.1.ty) ys
misgiven_to x None ys = []

abbrev pub misgiven_to_rows : List ℕ → Option (ℕ × Collection) → List (Term × Shape) → List ℕ
misgiven_to_rows x (Some c) ys = misgiven_rows x (shape c.1.ty) ys
misgiven_to_rows x None ys = []

abbrev pub fits_variable : Option (ℕ × Variable) → Shape → Bool
fits_variable (Some v) t = joins_to (shape v.1.ty) t
fits_variable None t = true

abbrev pub misassigned : Names → Option ℕ → List (List ℕ) → List (Term × Shape) → List ℕ
misassigned n s (x ∷ xs) (y ∷ ys) =
    if fits_variable (screen_variable n s x) y.1 then misassigned n s xs ys else misgiven_to x
    (screen_variable n s x) (y ∷ [])
misassigned n s xs ys = []

-- ---- by the rules
abbrev pub or_none : Result (List (Term × Shape)) ℕ → List (Term × Shape)
or_none (Ok xs) = xs
or_none (Err e) = []

abbrev pub all_pieces : List JudgedPart → List Piece
all_pieces [] = []
all_pieces (piece q ∷ qs) = q ∷ all_pieces qs
all_pieces (q ∷ qs) = all_pieces qs

-- rule 5 of a call: the first new name that is taken
abbrev pub taken_in : Option SigShape → List JudgedPart → List ℕ
taken_in (Some (sig.One f)) qs = unwrap_or (taken_at f qs) []
taken_in s qs = []

-- rule 12 of a call of a pure function: the name at which it is stuck
abbrev pub stuck_in : Option SigShape → List JudgedPart → List ℕ
stuck_in (Some (sig.One f)) qs = stuck_by (row_of f).answer (all_pieces qs)
stuck_in s qs = []

abbrev pub named_twice : Names → Head → List JudgedPart → List ℕ
named_twice n (tree.rec ns ps) qs = twice_after [] ns
named_twice n (tree.call x) qs = taken_in (called_as n x) qs
named_twice n h qs = []

-- rule 12: a field, a property or a member behind a dot; a column of a call
abbrev pub column_in : Names → Option SigShape → List JudgedPart → List ℕ
column_in n (Some (sig.Act a)) (target b x ∷ qs)
    = unwrap_or (acting_detail (rows_named n x) a (or_none (values qs))) []
column_in n s qs = stuck_in s qs

abbrev pub unknown_column_detail : Names → Head → List JudgedPart → List ℕ
unknown_column_detail n (tree.dot x) qs = x
unknown_column_detail n (tree.call x) qs = column_in n (called_as n x) qs
unknown_column_detail n h qs = []

-- rule 11
abbrev pub unjoined : Place → Option SigShape → List JudgedPart → List ℕ
unjoined p (Some (sig.Act acts.Set)) (target a x ∷ qs)
    = misgiven_to x (global_variable p.names x) (or_none (values qs))
unjoined p (Some (sig.Act acts.UpdateContext)) (assigned ns xs ∷ qs)
    = misassigned p.names p.screen ns xs
unjoined p (Some (sig.Act a)) (target b x ∷ qs)
    = misgiven_to_rows x (collection_named p.names x) (or_none (values qs))
unjoined p s qs = []

abbrev pub misjoined : Place → Head → List JudgedPart → List ℕ
misjoined p (tree.call x) qs = unjoined p (called_as p.names x) qs
misjoined p h qs = []

-- rule 15: the name that a call can't act on, and else the call's
abbrev pub no_variable : List ℕ → List JudgedPart → List ℕ
no_variable x (target a y ∷ qs) = y
no_variable x qs = x

-- rule 13: scopes of table calls, one more than are around; else how deep the type is, or its most
-- fields
abbrev mutual
  pub most_fields : Shape → ℕ
  most_fields (records cs) = max (columns_count cs) (most_in cs)
  most_fields (tables cs) = max (columns_count cs) (most_in cs)
  most_fields t = 0

  pub most_in : ColumnList → ℕ
  most_in no_columns = 0
  most_in (column n t cs) = max (most_fields t) (most_in cs)

abbrev pub type_limit : Shape → List ℕ
type_limit t = if nat_le (type_depth t) 8 then word_with_number (codes "fields")
    (most_fields t) else word_with_number (codes "type") (type_depth t)

abbrev pub limit_of : Result (Term × Shape) ℕ → List ℕ
limit_of (Ok x) = type_limit x.1
limit_of (Err e) = []

-- of a call the type of what it gives a value to, or its own
abbrev pub limit_or : Option Shape → List ℕ → List ℕ
limit_or (Some t) own = type_limit t
limit_or None own = own

abbrev pub large_in : Place → SigShape → List JudgedPart → Option Shape
large_in p (sig.Act a) qs = large_given p.names p.screen a qs
large_in p f qs = None

abbrev pub call_limit : Place → Setting → Option SigShape → List JudgedPart → List ℕ
call_limit p s (Some f) qs = limit_or (large_in p f qs) (limit_of (called_by p s f qs))
call_limit p s None qs = []

abbrev pub list_limit : Option Shape → List ℕ
list_limit (Some t) = type_limit (tables (row_columns t))
list_limit None = []

abbrev pub limit_detail : Place → Setting → Head → List JudgedPart → List ℕ
limit_detail p s (tree.call x) qs =
    if is_too_deep p s (tree.call x) qs then word_with_number (codes "nested")
    (suc (depth_of s.scopes)) else call_limit p s (called_as p.names x) qs
limit_detail p s (tree.rec ns ps) qs = type_limit
    (record_by (put_fields ns (or_none (values qs)))).1
limit_detail p s h qs = list_limit (join_all (Some blanks) (or_none (values qs)))

-- what is said of a node of these parts that breaks a rule
abbrev pub detail_of : Place → Setting → Head → List JudgedPart → ℕ → List ℕ
detail_of p s h qs rule =
    if rule == rules.name_twice then named_twice p.names h qs
    else (if rule == rules.wrong_type then comma_separated (wrong_types p.names h qs)
    else (if rule == rules.wrong_count then word_with_number (head_name h) (length qs)
    else (if rule == rules.variable_types then misjoined p h qs
    else (if rule == rules.unknown_column then unknown_column_detail p.names h qs
    else (if rule == rules.limit_passed then limit_detail p s h qs
    else (if rule == rules.not_a_variable then no_variable (head_name h) qs
    else head_name h))))))

-- and of a whole formula of a type that isn't what is wanted
abbrev pub wanted_detail : Names → JudgedPart → List ℕ
wanted_detail n q = comma_separated (part_names n q)

abbrev mutual
  -- a node, here or among the parts, whose parts are all admitted and that no rule admits: where it
  -- begins, the rule that it breaks, and what is said besides
  pub IsToldBroken : Place → Setting → Tree → ℕ → ℕ → List ℕ → Type 0
  IsToldBroken p s (node at h ts) w rule said =
      ((w ≡ at) × (qs : List JudgedPart) × (judge_parts p s h (part_count ts) [] ts ≡ Ok qs)
      × (admit p s h qs ≡ Err rule)
      × (said ≡ detail_of p s h qs rule))
      ⊎ HasToldBroken p s h (part_count ts) [] ts w rule said

  pub HasToldBroken : Place → Setting → Head → ℕ → List JudgedPart → Forest → ℕ → ℕ → List ℕ
      → Type 0
  HasToldBroken p s h n done none w rule said = ⊥
  HasToldBroken p s h n done (more k ks) w rule said =
      IsToldBroken p (setting_at p.names s h n done) k w rule said
      ⊎ ((q : JudgedPart) × (judge p (setting_at p.names s h n done) k ≡ Ok q)
      × HasToldBroken p s h n (done ++ q ∷ []) ks w rule said)

-- a whole formula is broken at a node of it, or at its top by what is wanted of it
abbrev pub IsToldBrokenWhole : Place → Bool → Option Shape → Tree → ℕ → ℕ → List ℕ → Type 0
IsToldBrokenWhole p acts wanted e w rule said =
    IsToldBroken p (outermost_setting acts) e w rule said
    ⊎ ((w ≡ position e) × (q : JudgedPart) × (judge p (outermost_setting acts) e ≡ Ok q)
    × (whole_argument wanted q ≡ Err rule)
    × (said ≡ wanted_detail p.names q))
