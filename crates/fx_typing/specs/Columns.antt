-- Columns, and what functions of tables make of them.
use Rattle.std.specs.Prelude.{ℕ, List, [], ◌∷◌, Bool, true, false, ◌&&◌, Option, Some, None}
use Rattle.std.specs.Prelude.{is_some, Result, Ok, Err, codes, if◌then◌else◌}
use Rattle.fx_types.specs.Types.{Shape, texts, records, tables, ColumnList, no_columns, column}
use Rattle.fx_types.specs.Values.{text}
use Rattle.fx_core.specs.Term.{Term, of, nil, const}
use Rattle.fx_core.specs.Rules as rules
use Rattle.fx_core.specs.SourceTypes.{put_column}
use Rattle.fx_typing.specs.Ways.{way, is_open, is_scalar}
use Rattle.fx_core.specs.ColumnLists.{field_in, columns_without, without_all, columns_only}
use Rattle.fx_core.specs.ColumnLists.{if_there, if_free, and_then, with_new, with_renamed}
use Rattle.fx_core.specs.ColumnLists.{joined_columns, before_last}

abbrev pub field_shape : List ℕ → Shape → Option Shape
field_shape x (records cs) = field_in x cs
field_shape x t = None

-- a name of a column stands in a typed tree as a text
abbrev pub label_of : Term → Option (List ℕ)
label_of (of (const (text x)) nil) = Some x
label_of t = None

-- goes on with a name; another tree is of the wrong type
abbrev pub by_label : {A : Type 0} → Option (List ℕ) → (List ℕ → Result A ℕ) → Result A ℕ
by_label (Some x) go = go x
by_label None go = Err rules.wrong_type

-- new columns in turn, each of the name that stands before its formula
abbrev pub added : List (Term × Shape) → ColumnList → Result ColumnList ℕ
added (x ∷ f ∷ more) cs = by_label (label_of x.0)
    (λ n. and_then (with_new n f.1 cs) (λ ds. added more ds))
added _ cs = Ok cs

-- the names of columns that are all there
abbrev pub names_there : List (Term × Shape) → ColumnList → Result (List (List ℕ)) ℕ
names_there [] cs = Ok []
names_there (x ∷ more) cs =
    by_label (label_of x.0) (λ n. and_then (if_there (field_in n cs))
    (λ t. and_then (names_there more cs) (λ ns. Ok (n ∷ ns))))

-- columns that are left out, and those that are shown alone. A name that stands twice counts once.
abbrev pub dropped : List (Term × Shape) → ColumnList → Result ColumnList ℕ
dropped xs cs = and_then (names_there xs cs) (λ ns. Ok (without_all ns cs))

abbrev pub columns_shown : List (Term × Shape) → ColumnList → Result ColumnList ℕ
columns_shown xs cs = and_then (names_there xs cs) (λ ns. Ok (columns_only ns cs))

abbrev pub columns_renamed : List (Term × Shape) → ColumnList → Result ColumnList ℕ
columns_renamed (x ∷ y ∷ more) cs =
    by_label (label_of x.0) (λ n. by_label (label_of y.0)
    (λ m. and_then (with_renamed n m cs) (λ ds. columns_renamed more ds)))
columns_renamed _ cs = Ok cs

-- the name that stands last
abbrev pub last_label : List (Term × Shape) → Option (List ℕ)
last_label [] = None
last_label (x ∷ []) = label_of x.0
last_label (x ∷ y ∷ xs) = last_label (y ∷ xs)

-- whether each of these names of columns, if it is there, is that of values without parts
abbrev pub may_be_key : Option Shape → Bool
may_be_key (Some t) = is_scalar t
may_be_key None = true

abbrev pub is_key : Option (List ℕ) → ColumnList → Bool
is_key (Some n) cs = may_be_key (field_in n cs)
is_key None cs = true

abbrev pub are_keys : List (Term × Shape) → ColumnList → Bool
are_keys [] cs = true
are_keys (x ∷ xs) cs = is_key (label_of x.0) cs && are_keys xs cs

-- the columns of groups: the keys, and under a new name a table of the columns that are none
abbrev pub with_group : List ℕ → List (List ℕ) → ColumnList → ColumnList
with_group g ns cs = put_column g (tables (without_all ns cs)) (columns_only ns cs)

abbrev pub grouped_by : List ℕ → List (Term × Shape) → ColumnList → Result ColumnList ℕ
grouped_by g keys cs = if are_keys keys cs then and_then (names_there keys cs)
    (λ ns. Ok (with_group g ns cs)) else Err rules.wrong_type

-- the names of keys, and behind them a new one
abbrev pub grouped : List (Term × Shape) → ColumnList → Result ColumnList ℕ
grouped xs cs = by_label (last_label xs) (λ g. and_then (if_free (field_in g cs) cs)
    (λ ds. grouped_by g (before_last xs) ds))

-- the first column that other columns have too
abbrev pub first_shared : ColumnList → ColumnList → Option (List ℕ)
first_shared no_columns cs = None
first_shared (column n t ds) cs = if is_some (field_in n cs) then Some n else first_shared ds cs

-- the first column of the tables in a column that another column has the name of
abbrev pub shared_by : List ℕ → Option Shape → ColumnList → Option (List ℕ)
shared_by g (Some (tables ds)) cs = first_shared ds (columns_without g cs)
shared_by g t cs = None

-- the columns of groups of this type beside the others
abbrev pub out_of : Shape → ColumnList → Result ColumnList ℕ
out_of (tables ds) cs = if is_some (first_shared ds cs) then Err rules.name_twice else Ok
    (joined_columns ds cs)
out_of t cs = Err rules.wrong_type

-- the name of the column of groups
abbrev pub ungrouped : List (Term × Shape) → ColumnList → Result ColumnList ℕ
ungrouped (x ∷ []) cs = by_label (label_of x.0)
    (λ g. and_then (if_there (field_in g cs)) (λ t. out_of t (columns_without g cs)))
ungrouped xs cs = Err rules.wrong_count

-- an error as a record
abbrev pub fault_type : Shape
fault_type = records (column (codes "Kind") texts (column (codes "Message") texts no_columns))

-- a field that has a coercion to Text
abbrev pub has_text_coercion : Option Shape → Bool
has_text_coercion (Some t) = is_open (way t texts)
has_text_coercion None = false

abbrev pub is_told_or_missing : Option Shape → Bool
is_told_or_missing (Some t) = is_open (way t texts)
is_told_or_missing None = true

-- whether a record tells an error: by its fields Kind and Message, of which Message may be missing
abbrev pub tells_error : ColumnList → Bool
tells_error cs = has_text_coercion (field_in (codes "Kind") cs)
    && is_told_or_missing (field_in (codes "Message") cs)
