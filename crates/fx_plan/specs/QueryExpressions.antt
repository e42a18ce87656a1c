-- Query expressions: the typed trees that a keeper answers with one query. One is a table; the rows
-- of one that meet delegable conditions; or, at most once, those of one in the order of a column.
-- It stands under k scopes, so that the row that its conditions judge is the row of scope k.
use Rattle.std.specs.Prelude.{ℕ, suc, List, [], ◌∷◌, ◌++◌, Bool, true, false, not, ◌&&◌, nat_eq}
use Rattle.std.specs.Prelude.{bytes_eq, length, Option, Some, None, is_some, slice_get, option_map}
use Rattle.std.specs.Prelude.{option_and_then, position, if◌then◌else◌}
use Rattle.fx_types.specs.declared.comparisons.Cmp.{Cmp}
use Rattle.fx_types.specs.declared.comparisons.Cmp.TheVariants.{Eq, Ne, Lt, Le, Gt, Ge}
use Rattle.fx_types.specs.Types.{Shape, numbers, texts, booleans, dates}
use Rattle.fx_core.specs.declared.functions.Form.TheVariants as form
use Rattle.fx_core.specs.declared.functions.Fun.{Fun}
use Rattle.fx_core.specs.declared.functions.Fun.TheVariants as fun
use Rattle.fx_core.specs.declared.literals.SortOrder.{SortOrder}
use Rattle.fx_core.specs.declared.literals.SortOrder.TheVariants.{Ascending, Descending}
use Rattle.fx_core.specs.declared.rows.Scalar.{Scalar}
use Rattle.fx_core.specs.declared.rows.Scalar.TheVariants.{Number, Text, Boolean, Date}
use Rattle.fx_core.specs.declared.schema.Column.{Column}
use Rattle.fx_core.specs.declared.schema.TableShape.{TableShape}
use Rattle.fx_core.specs.declared.sources.Source.TheVariants as source
use Rattle.fx_core.specs.Lawful.{id_name}
use Rattle.fx_core.specs.Term.{Term, Terms, of, nil, cons, Top}
use Rattle.fx_core.specs.Term as top
use Rattle.fx_plan.specs.declared.plans.Sketch.{Sketch}
use Rattle.fx_plan.specs.Outlines.{Outline, always, flag, constant, compares, is_blank, starts}
use Rattle.fx_plan.specs.Outlines.{contains, all_of, any_of, opposite, outline_list}
use Rattle.fx_plan.specs.Ranges.{column_type}

-- ---- constants

-- what no constant has in it: the condition's own row, or a part that acts
abbrev pub is_barred : ℕ → Top → Bool
is_barred k (top.row j) = nat_eq j k
is_barred k top.chain = true
is_barred k (top.act d) = true
is_barred k h = false

-- a constant is any pure part that doesn't read the condition's own row
abbrev mutual
  pub is_constant : ℕ → Term → Bool
  is_constant k (of h cs) = not (is_barred k h) && are_constant k cs

  pub are_constant : ℕ → Terms → Bool
  are_constant k nil = true
  are_constant k (cons c cs) = is_constant k c && are_constant k cs

-- ---- columns

-- the column of a name, by its number: `ID` is column 0
abbrev pub column_number : TableShape → List ℕ → Option ℕ
column_number t n = if bytes_eq n id_name then Some 0 else option_map suc
    (position (λ (c : Column). bytes_eq c.name n) t.columns)

-- the row of scope k
abbrev pub is_row : ℕ → Term → Bool
is_row k (of (top.row j) nil) = nat_eq j k
is_row k c = false

-- a column of that row, on its own
abbrev pub plain_column : TableShape → ℕ → Term → Option ℕ
plain_column t k (of (top.dot n) (cons c nil)) = if is_row k c then column_number t n else None
plain_column t k c = None

-- values of a column are of this type
abbrev pub is_of : Scalar → Option Shape → Bool
is_of Number (Some numbers) = true
is_of Text (Some texts) = true
is_of Boolean (Some booleans) = true
is_of Date (Some dates) = true
is_of s t = false

abbrev pub only_of : TableShape → Scalar → ℕ → Option ℕ
only_of t s i = if is_of s (column_type t i) then Some i else None

-- a column of that row of this type
abbrev pub column_of : TableShape → ℕ → Scalar → Term → Option ℕ
column_of t k s c = option_and_then (only_of t s) (plain_column t k c)

-- ---- conditions

-- the comparison that a function makes, and the type of what it compares
abbrev pub comparison_by : Fun → Option (Cmp × Scalar)
comparison_by fun.EqualNumbers = Some (Eq, Number)
comparison_by fun.EqualTexts = Some (Eq, Text)
comparison_by fun.EqualBooleans = Some (Eq, Boolean)
comparison_by fun.EqualDates = Some (Eq, Date)
comparison_by fun.UnequalNumbers = Some (Ne, Number)
comparison_by fun.UnequalTexts = Some (Ne, Text)
comparison_by fun.UnequalBooleans = Some (Ne, Boolean)
comparison_by fun.UnequalDates = Some (Ne, Date)
comparison_by fun.LessNumbers = Some (Lt, Number)
comparison_by fun.LessDates = Some (Lt, Date)
comparison_by fun.LessEqualNumbers = Some (Le, Number)
comparison_by fun.LessEqualDates = Some (Le, Date)
comparison_by fun.GreaterNumbers = Some (Gt, Number)
comparison_by fun.GreaterDates = Some (Gt, Date)
comparison_by fun.GreaterEqualNumbers = Some (Ge, Number)
comparison_by fun.GreaterEqualDates = Some (Ge, Date)
comparison_by f = None

-- a comparison with its sides changed over
abbrev pub flipped : Cmp → Cmp
flipped Eq = Eq
flipped Ne = Ne
flipped Lt = Gt
flipped Le = Ge
flipped Gt = Lt
flipped Ge = Le

-- a thing along with the constants so far
abbrev pub along : {A : Type 0} → List Term → Option A → Option (A × List Term)
along ds r = option_map (λ a. (a, ds)) r

-- a pattern with a constant, which stands behind the constants so far
abbrev pub with_constant : (ℕ → Outline) → Term → List Term → Outline × List Term
with_constant o c ds = (o (length ds), ds ++ c ∷ [])

-- a column of this type beside a constant
abbrev pub beside : TableShape → ℕ → Scalar → Term → Term → Option ℕ
beside t k s a b = if is_constant k b then column_of t k s a else None

-- a column compared with a constant
abbrev pub compared_with : TableShape → ℕ → Cmp → Scalar → Term → Term → List Term
    → Option (Outline × List Term)
compared_with t k op s a b ds = option_map (λ i. with_constant (compares op i) b ds)
    (beside t k s a b)

-- the same, the constant standing on either side
abbrev pub comparison_pattern : TableShape → ℕ → Option (Cmp × Scalar) → Term → Term → List Term
    → Option (Outline × List Term)
comparison_pattern t k None a b ds = None
comparison_pattern t k (Some c) a b ds = if is_constant k b then compared_with t k c.0 c.1 a b
    ds else compared_with t k (flipped c.0) c.1 b a ds

-- a call of a column, and of a column and a constant
abbrev pub called_with_one : TableShape → ℕ → Fun → Term → List Term → Option (Outline × List Term)
called_with_one t k fun.IsBlank a ds = along ds (option_map is_blank (plain_column t k a))
called_with_one t k f a ds = None

abbrev pub called_with_two : TableShape → ℕ → Fun → Term → Term → List Term
    → Option (Outline × List Term)
called_with_two t k fun.StartsWith a b ds = option_map (λ i. with_constant (starts i) b ds)
    (beside t k Text a b)
called_with_two t k fun.In a b ds = option_map (λ i. with_constant (contains i) a ds)
    (beside t k Text b a)
called_with_two t k f a b ds = comparison_pattern t k (comparison_by f) a b ds

abbrev pub call_pattern : TableShape → ℕ → Fun → Terms → List Term → Option (Outline × List Term)
call_pattern t k f (cons a nil) ds = called_with_one t k f a ds
call_pattern t k f (cons a (cons b nil)) ds = called_with_two t k f a b ds
call_pattern t k f cs ds = None

-- the one part that is negated
abbrev pub negated : List Outline × List Term → Option (Outline × List Term)
negated (o ∷ [], ds) = Some (opposite o, ds)
negated p = None

-- a condition that reads its row, by its head: one of a column, or And, Or and Not of delegable
-- ones
abbrev pub pattern_by : TableShape → ℕ → Top → Terms → List Term → Option (List Outline × List Term)
    → Option (Outline × List Term)
pattern_by t k (top.form form.All) cs ds parts
    = option_map (λ p. (all_of (outline_list p.0), p.1)) parts
pattern_by t k (top.form form.Any) cs ds parts
    = option_map (λ p. (any_of (outline_list p.0), p.1)) parts
pattern_by t k (top.call fun.Not) cs ds parts = option_and_then negated parts
pattern_by t k (top.call f) cs ds parts = call_pattern t k f cs ds
pattern_by t k (top.dot n) cs ds parts = along ds
    (option_map flag (column_of t k Boolean (of (top.dot n) cs)))
pattern_by t k h cs ds parts = None

abbrev mutual
  -- THE pattern of a condition on the rows of a table, with its constants behind those so far, as
  -- they stand in it; none where the condition isn't delegable
  pub pattern_of : TableShape → ℕ → Term → List Term → Option (Outline × List Term)
  pattern_of t k (of h cs) ds =
      if is_constant k (of h cs) then Some (with_constant constant (of h cs) ds) else pattern_by t k
      h cs ds (patterns_of t k cs ds)

  -- those of several conditions in turn
  pub patterns_of : TableShape → ℕ → Terms → List Term → Option (List Outline × List Term)
  patterns_of t k nil ds = Some ([], ds)
  patterns_of t k (cons c cs) ds =
      option_and_then (λ p. option_map (λ q. (p.0 ∷ q.0, q.1)) (patterns_of t k cs p.1))
      (pattern_of t k c ds)

-- patterns behind others
abbrev pub patterns_behind : List Outline → Option (List Outline × List Term)
    → Option (List Outline × List Term)
patterns_behind front r = option_map (λ p. (front ++ p.0, p.1)) r

-- ---- query expressions

abbrev pub is_falling : SortOrder → Bool
is_falling Ascending = false
is_falling Descending = true

-- a table: all of its rows
abbrev pub table_sketch : List TableShape → ℕ → Option Sketch
table_sketch ts n = option_map (λ (t : TableShape).
    record { table = n; test = always; order = None; constants = [] }) (slice_get ts n)

-- `Filter`: the rows that meet all conditions besides
abbrev pub filter_sketch : List TableShape → ℕ → Terms → Sketch → Option Sketch
filter_sketch ts k cs s =
    option_and_then (λ (t : TableShape). option_map
    (λ (p : List Outline × List Term). record s
    { test = all_of (outline_list p.0); constants = p.1 })
    (patterns_behind (s.test ∷ []) (patterns_of t k cs s.constants))) (slice_get ts s.table)

-- `Sort`: rows that have no order yet, in the order of a plain column
abbrev pub sorted_by : List TableShape → ℕ → SortOrder → Term → Sketch → Option Sketch
sorted_by ts k o f s =
    option_and_then (λ (t : TableShape). option_map
    (λ (i : ℕ). record s { order = Some (i, is_falling o) }) (plain_column t k f))
    (slice_get ts s.table)

abbrev pub sorted : List TableShape → ℕ → SortOrder → Terms → Sketch → Option Sketch
sorted ts k o (cons f nil) s = if is_some s.order then None else sorted_by ts k o f s
sorted ts k o cs s = None

-- THE sketch of a query expression over these tables, under so many scopes; none where the tree is
-- no query expression
abbrev pub sketch_of : List TableShape → ℕ → Term → Option Sketch
sketch_of ts k (of (top.read (source.Table n)) nil) = table_sketch ts n
sketch_of ts k (of (top.over fun.Filter) (cons q cs))
    = option_and_then (filter_sketch ts k cs) (sketch_of ts k q)
sketch_of ts k (of (top.over (fun.Sort o)) (cons q cs))
    = option_and_then (sorted ts k o cs) (sketch_of ts k q)
sketch_of ts k c = None
