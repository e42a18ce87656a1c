-- What records, lists and scopes of records are admitted, and the limits of types.
use Rattle.std.specs.Prelude.{ℕ, suc, max, List, [], ◌∷◌, Bool, true, ◌&&◌, not, nat_le, Option}
use Rattle.std.specs.Prelude.{Some, None, Result, Ok, Err, if◌then◌else◌}
use Rattle.std.specs.Ordering.{nat_cmp, match_ordering}
use Rattle.std.specs.Cmp.Lexicographic.{slice_cmp}
use Rattle.fx_types.specs.Types.{Shape, blanks, records, tables, ColumnList, no_columns, column}
use Rattle.fx_types.specs.Values.{blank, rec, FieldList, no_fields, field}
use Rattle.fx_core.specs.declared.functions.Fun.TheVariants as fun
use Rattle.fx_core.specs.Term.{Term, of, nil, cons, all, call, const, within, list}
use Rattle.fx_core.specs.Term as term
use Rattle.fx_core.specs.Rules as rules
use Rattle.fx_core.specs.ColumnLists.{and_then, is_one_of, row_columns}
use Rattle.fx_typing.specs.Local.{coerced, by_way, join_all, firsts, put_first}
use Rattle.fx_typing.specs.WellTyped.{columns_by}
use Rattle.fx_typing.specs.Ways.{way}
use Rattle.fx_typing.specs.Parts.{unless_rule}

-- how deep records and tables nest
abbrev mutual
  pub type_depth : Shape → ℕ
  type_depth (records cs) = suc (columns_depth cs)
  type_depth (tables cs) = suc (columns_depth cs)
  type_depth t = 0

  pub columns_depth : ColumnList → ℕ
  columns_depth no_columns = 0
  columns_depth (column n t cs) = max (type_depth t) (columns_depth cs)

abbrev pub columns_count : ColumnList → ℕ
columns_count no_columns = 0
columns_count (column n t cs) = suc (columns_count cs)

-- no record or table has too many fields
abbrev mutual
  pub is_narrow : Shape → Bool
  is_narrow (records cs) = nat_le (columns_count cs) 64 && are_narrow cs
  is_narrow (tables cs) = nat_le (columns_count cs) 64 && are_narrow cs
  is_narrow t = true

  pub are_narrow : ColumnList → Bool
  are_narrow no_columns = true
  are_narrow (column n t cs) = is_narrow t && are_narrow cs

abbrev pub is_bounded : Shape → Bool
is_bounded t = nat_le (type_depth t) 8 && is_narrow t

-- a tree whose type keeps to the limits
abbrev pub bounded_by : Term × Shape → Result (Term × Shape) ℕ
bounded_by x = unless_rule (not (is_bounded x.1)) rules.limit_passed (Ok x)

abbrev pub bounded : Result (Term × Shape) ℕ → Result (Term × Shape) ℕ
bounded r = and_then r bounded_by

-- a field at its place among rising ones
abbrev pub put_field : List ℕ → Term × Shape → List (List ℕ × (Term × Shape))
    → List (List ℕ × (Term × Shape))
put_field n x [] = (n, x) ∷ []
put_field n x (f ∷ fs) = match_ordering (slice_cmp nat_cmp n f.0) ((n, x) ∷ f ∷ fs) ((n, x) ∷ fs)
    (f ∷ put_field n x fs)

abbrev pub put_fields : List (List ℕ) → List (Term × Shape) → List (List ℕ × (Term × Shape))
put_fields (n ∷ ns) (x ∷ xs) = put_field n x (put_fields ns xs)
put_fields _ _ = []

abbrev pub field_names : List (List ℕ × (Term × Shape)) → List (List ℕ)
field_names [] = []
field_names (f ∷ fs) = f.0 ∷ field_names fs

abbrev pub field_parts : List (List ℕ × (Term × Shape)) → List (Term × Shape)
field_parts [] = []
field_parts (f ∷ fs) = f.1 ∷ field_parts fs

abbrev pub types_of : List (Term × Shape) → List Shape
types_of [] = []
types_of (x ∷ xs) = x.1 ∷ types_of xs

-- whether no name stands twice
abbrev pub are_names_distinct : List (List ℕ) → Bool
are_names_distinct [] = true
are_names_distinct (n ∷ ns) = not (is_one_of n ns) && are_names_distinct ns

-- a record: its fields by rising names, each once
abbrev pub record_by : List (List ℕ × (Term × Shape)) → Term × Shape
record_by fs = (
  of (term.rec (field_names fs)) (all (firsts (field_parts fs))),
  records (columns_by (field_names fs) (types_of (field_parts fs))),
)

abbrev pub typed_record : List (List ℕ) → List (Term × Shape) → Result (Term × Shape) ℕ
typed_record ns xs = if are_names_distinct ns then bounded (Ok (record_by (put_fields ns xs))) else
    Err rules.name_twice

-- all rows come to one type
abbrev pub rows_to : Shape → List (Term × Shape) → Result (List (Term × Shape)) ℕ
rows_to t [] = Ok []
rows_to t (x ∷ xs) = and_then (by_way (way x.1 t) x.0 t) (λ y. put_first y (rows_to t xs))

abbrev pub list_by : Shape → List (Term × Shape) → Term × Shape
list_by t ys = (of (list t) (all (firsts ys)), tables (row_columns t))

-- rows of the join of their types, which is no table
abbrev pub list_as : Option Shape → List (Term × Shape) → Result (Term × Shape) ℕ
list_as None xs = Err rules.wrong_type
list_as (Some (tables cs)) xs = Err rules.wrong_type
list_as (Some t) xs = and_then (rows_to t xs) (λ ys. Ok (list_by t ys))

-- `[..]`: of type Blank alone it has values; without rows it has no columns
abbrev pub typed_list : List (Term × Shape) → Result (Term × Shape) ℕ
typed_list [] = bounded (list_as (Some (records no_columns)) [])
typed_list (x ∷ xs) = bounded (list_as (join_all (Some blanks) (x ∷ xs)) (x ∷ xs))

-- `Table`: records, where one of type Blank is one without columns. Their list stands in a call of
-- its own. As of every call, its limits are its caller's.
abbrev pub as_table_call : Term × Shape → Term × Shape
as_table_call y = (of (call fun.Table) (cons y.0 nil), y.1)

abbrev pub typed_table : List (Term × Shape) → Result (Term × Shape) ℕ
typed_table xs = and_then (list_as (join_all (Some (records no_columns)) xs) xs)
    (λ y. Ok (as_table_call y))

-- `With`: a record, where one of type Blank is one without fields, and a formula in its scope
abbrev pub as_record : Term × Shape → Result Term ℕ
as_record (c, records cs) = Ok c
as_record (c, blanks) = Ok (coerced c (records no_columns))
as_record x = Err rules.wrong_type

abbrev pub with_of : List (Term × Shape) → Result (Term × Shape) ℕ
with_of (r ∷ f ∷ []) = and_then (as_record r) (λ c. Ok (of within (cons c (cons f.0 nil)), f.1))
with_of xs = Err rules.wrong_count

-- `Defaults`: a record of blanks
abbrev pub blank_fields : ColumnList → FieldList
blank_fields no_columns = no_fields
blank_fields (column n t cs) = field n blank (blank_fields cs)

abbrev pub blank_record : ColumnList → Term × Shape
blank_record cs = (of (const (rec (blank_fields cs))) nil, records cs)
