-- What a formula takes of the rows of a query expression, and what a query answers it.
use Rattle.std.specs.Prelude.{◌≡◌, ◌≤◌, ℕ, ℤ, false, List, length, map, Option, None, Some}
use Rattle.std.specs.Prelude.{slice_get}
use Rattle.std.specs.List.{All, list_any}
use Rattle.fx_primitives.specs.Folds.{IsGreatest, IsLeast, average_of}
use Rattle.fx_types.specs.declared.aggregates.Totals.{Totals}
use Rattle.fx_types.specs.Types.{Shape}
use Rattle.fx_types.specs.Values.{Data, blank, rec}
use Rattle.fx_eval.specs.declared.demands.Demand.{Demand}
use Rattle.fx_eval.specs.declared.demands.Demand.TheVariants as demand
use Rattle.fx_eval.specs.declared.demands.Fold.{Fold}
use Rattle.fx_eval.specs.declared.demands.Fold.TheVariants as fold
use Rattle.fx_eval.specs.Parts.{AreFine, inner}
use Rattle.fx_env.specs.Queries.{AreRead, AreTold, KeepsTables}
use Rattle.fx_env.specs.Scopes.{CanEvaluate, Fixed, ScopeValues, around}
use Rattle.fx_env.specs.Telling.{EnvState}
use Rattle.fx_plan.specs.declared.plans.Sketch.{Sketch}
use Rattle.fx_plan.specs.Plans.{CanPlan, IsPlan, is_fault}
use Rattle.fx_plan.specs.QueryExpressions.{column_of, sketch_of}
use Rattle.fx_semantics.specs.Around.{Around, AreValues}
use Rattle.fx_semantics.specs.Fresh.{IsValue, meaning, meanings}
use Rattle.fx_semantics.specs.Rows.{IsOfFound}
use Rattle.fx_tables.specs.AggregateCalls.{IsNumberOrBlank, IsSumValue, number_or_blank}
use Rattle.fx_value.specs.Aggregates.{SumsUp}
use Rattle.fx_tables.specs.RowCalls.{IsCountValue}
use Rattle.fx_tables.specs.RowCalls.{first_row_record as first_row}
use Rattle.fx_core.specs.declared.functions.Fun.{Fun}
use Rattle.fx_core.specs.declared.functions.Fun.TheVariants as fun
use Rattle.fx_core.specs.declared.rows.Scalar.TheVariants.{Number}
use Rattle.fx_core.specs.declared.schema.TableShape.{TableShape}
use Rattle.fx_core.specs.declared.sources.Source.{Source}
use Rattle.fx_core.specs.Lawful.{IsLawfulTable}
use Rattle.fx_core.specs.Term.{Term, all, nil, cons, term_size}
use Rattle.fx_plan.specs.Consumers.{over_query}
use Rattle.fx_plan.specs.Limited.{first_rows_of}
use Rattle.fx_plan.specs.Settled.{call_settled, query_settled, search_settled}
use Rattle.row_queries.specs.Answers.{IsCountAnswer, IsScanValue, IsTotalAnswer, OfRows}
use Rattle.row_queries.specs.declared.queries.Query.{Query}
use Rattle.row_queries.specs.declared.rows.Row.{Row}
use Rattle.row_queries.specs.declared.rows.RowList.{RowList}
use Rattle.row_queries.specs.Queries.{CanTotal, IsOfNumbers, IsQuery, IsScanned}
use Rattle.row_queries.specs.TableRows.{record_of_row}

-- ---- what is taken

abbrev pub fun_of : Fold → Fun
fun_of fold.Sum = fun.SumRows
fun_of fold.Least = fun.MinRows
fun_of fold.Greatest = fun.MaxRows
fun_of fold.Average = fun.AverageRows

-- a tree names a column of numbers of the sketch's table
abbrev pub IsNumberColumn : List TableShape → ℕ → Sketch → Term → ℕ → Type 0
IsNumberColumn shapes k s x i = (shape : TableShape) × (slice_get shapes s.table ≡ Some shape)
    × (column_of shape k Number x ≡ Some i)

-- `LookUp` with a condition and a formula for the row that is found, and with this formula
abbrev pub IsSearchBy : Term → Term → Type 0
IsSearchBy t f = (q : Term) × (c : Term) × (t ≡ over_query fun.LookUp q (cons c (cons f nil)))

abbrev pub IsSearch : Term → Type 0
IsSearch t = (f : Term) × IsSearchBy t f

-- a tree that takes this of a query expression with this sketch, under so many scopes. `LookUp`
-- takes the first row of its rows with its condition as one more filter.
abbrev pub IsDemand : List TableShape → ℕ → Demand → Sketch → Term → Type 0
IsDemand shapes k demand.Rows s t = sketch_of shapes k t ≡ Some s
IsDemand shapes k (demand.FirstRows n) s t = (q : Term) × (t ≡ first_rows_of n q)
    × (sketch_of shapes k q ≡ Some s)
IsDemand shapes k demand.Count s t = (q : Term) × (t ≡ over_query fun.CountRows q nil)
    × (sketch_of shapes k q ≡ Some s)
IsDemand shapes k demand.First s t = (q : Term) × (t ≡ over_query fun.First q nil)
    × (sketch_of shapes k q ≡ Some s)
IsDemand shapes k demand.Found s t =
    (q : Term) × (c : Term) × (t ≡ over_query fun.LookUp q (cons c nil))
    × (sketch_of shapes k (over_query fun.Filter q (cons c nil)) ≡ Some s)
IsDemand shapes k demand.FoundIn s t =
    (q : Term) × (c : Term) × (f : Term) × (t ≡ over_query fun.LookUp q (cons c (cons f nil)))
    × (sketch_of shapes k (over_query fun.Filter q (cons c nil)) ≡ Some s)
IsDemand shapes k (demand.Total f i) s t =
    (q : Term) × (x : Term) × (t ≡ over_query (fun_of f) q (cons x nil))
    × (sketch_of shapes k q ≡ Some s) × IsNumberColumn shapes k s x i

-- how many rows it takes at most
abbrev pub most_rows_taken : Demand → Option ℕ
most_rows_taken (demand.FirstRows n) = Some n
most_rows_taken demand.First = Some 1
most_rows_taken demand.Found = Some 1
most_rows_taken demand.FoundIn = Some 1
most_rows_taken d = None

-- a column that is added up is one of numbers, of a sketch's table and of a query's
abbrev pub CanAddUp : List TableShape → Demand → Sketch → Type 0
CanAddUp shapes (demand.Total f i) s = (shape : TableShape)
    × (slice_get shapes s.table ≡ Some shape) × IsOfNumbers shape i
CanAddUp shapes d s = Unit {0}

abbrev pub CanMeet : List TableShape → Demand → Query → Type 0
CanMeet shapes (demand.Total f i) q = CanTotal shapes q i
CanMeet shapes d q = Unit {0}

-- the tree with these values in the places of the constants of its query expression
abbrev pub settled_in : Demand → ℕ → List Data → Term → Term
settled_in demand.Rows k ds t = (query_settled k ds t).0
settled_in demand.Found k ds t = search_settled k ds t
settled_in demand.FoundIn k ds t = search_settled k ds t
settled_in d k ds t = call_settled k ds t

-- ---- what is answered

-- what numbers come to
abbrev pub IsFolded : Fold → List ℤ → Data → Type 0
IsFolded fold.Sum zs v = IsSumValue zs v
IsFolded fold.Least zs v = IsNumberOrBlank (IsLeast zs) v
IsFolded fold.Greatest zs v = IsNumberOrBlank (IsGreatest zs) v
IsFolded fold.Average zs v = v ≡ number_or_blank (average_of zs)

-- the first row that a query gives, or blank where it gives none
abbrev pub IsFirstGiven : List TableShape → Option (List (List Row)) → Query → Data → Type 0
IsFirstGiven shapes told q v = OfRows shapes told q
    (λ t rows. (a : RowList) × IsScanned q rows a × (v ≡ first_row (map (record_of_row t) a.rows)))

-- what the answer of a query makes of it
abbrev pub IsMet : List TableShape → Option (List (List Row)) → Demand → Query → Data → Type 0
IsMet shapes told demand.Rows q v = IsScanValue shapes told q v
IsMet shapes told (demand.FirstRows n) q v = IsScanValue shapes told q v
IsMet shapes told demand.Count q v = (n : ℕ) × IsCountAnswer shapes told q n × IsCountValue n v
IsMet shapes told demand.First q v = IsFirstGiven shapes told q v
IsMet shapes told demand.Found q v = IsFirstGiven shapes told q v
IsMet shapes told demand.FoundIn q v = IsFirstGiven shapes told q v
IsMet shapes told (demand.Total f i) q v = (t : Totals) × IsTotalAnswer shapes told q i t
    × ((zs : List ℤ) → SumsUp zs t → IsFolded f zs v)

-- a query of the sketch with these constants answers it
abbrev pub IsAnswered : List TableShape → Option (List (List Row)) → Demand → Sketch → List Data
    → Data → Type 0
IsAnswered shapes told d k ds v = (q : Query) × IsPlan shapes k ds (most_rows_taken d) q
    × IsQuery shapes q × IsMet shapes told d q v

-- a tree that takes this of a query expression where it stands, over tables that are asked
pub record IsAskedFor {B : Type 0} (f : Fixed) (told : Option (EnvState B)) (s : ScopeValues)
    (t : Term) (d : Demand) (k : Sketch) : Type 0 where
  pub keeps : KeepsTables f told
  pub demand : IsDemand f.schema.tables (length s.rows) d k t

-- ---- laws

-- the constants of a query expression of which a tree that is ready takes something are ready in
-- the scope of a blank row, and with their values its sketch can be planned
unfoldable pub ConstantsAreReady : Type 0
ConstantsAreReady =
    (types : Source → Option Shape) (shapes : List TableShape) (s : ScopeValues) (t : Term)
    (d : Demand) (k : Sketch) → All IsLawfulTable shapes → AreRead types shapes →
    CanEvaluate types s t → IsDemand shapes (length s.rows) d k t →
    AreFine types (inner s blank) k.constants
    × ((ds : List Data) → AreValues (meanings (all k.constants)) (around types None (inner s blank))
    ds → CanPlan shapes k ds)

-- a found row makes what its call is worth: its formula's value in its scope
abbrev pub IsFoundFor : Around → Term → Data → Type 0
IsFoundFor a t v = (f : Term) (w : Data) → IsSearchBy t f → IsOfFound v (meaning f) a w
    → IsValue a t w

-- the answer is what the tree is worth, or the row that makes it
abbrev pub IsWorthBy : Demand → Around → Term → Data → Type 0
IsWorthBy demand.FoundIn a t v = IsFoundFor a t v
IsWorthBy d a t v = IsValue a t v

-- the formula is ready in the scope of a found row
abbrev pub CanStand : (Source → Option Shape) → ScopeValues → Term → Data → Type 0
CanStand types s f (rec fs) = CanEvaluate types (inner s (rec fs)) f
CanStand types s f v = Unit {0}

-- what is answered is the value of the tree, or the row that makes it, where no constant is an
-- error
unfoldable pub AnswersAreValues : Type 0
AnswersAreValues =
    (types : Source → Option Shape) (shapes : List TableShape) (told : Option (Source → Data))
    (rows : Option (List (List Row))) (s : ScopeValues) (t : Term) (d : Demand) (k : Sketch)
    (ds : List Data) (v : Data) → All IsLawfulTable shapes → AreRead types shapes
    → AreTold shapes told rows → IsDemand shapes (length s.rows) d k t →
    AreValues (meanings (all k.constants)) (around types told (inner s blank)) ds
    → list_any is_fault ds ≡ false → IsAnswered shapes rows d k ds v →
    IsWorthBy d (around types told s) t v

-- the formula of a tree that is ready is ready in the scope of the row that is answered
unfoldable pub FoundAreReady : Type 0
FoundAreReady =
    (types : Source → Option Shape) (shapes : List TableShape) (rows : Option (List (List Row)))
    (s : ScopeValues) (t : Term) (k : Sketch) (ds : List Data) (v : Data) → All IsLawfulTable shapes
    → AreRead types shapes →
    CanEvaluate types s t → IsDemand shapes (length s.rows) demand.FoundIn k t
    → AreValues (meanings (all k.constants)) (around types None (inner s blank)) ds
    → list_any is_fault ds ≡ false →
    IsAnswered shapes rows demand.FoundIn k ds v → (f : Term) → IsSearchBy t f
    → CanStand types s f v

-- with the values of its constants in their places, errors included, the tree is ready
unfoldable pub SettledAreReady : Type 0
SettledAreReady =
    (types : Source → Option Shape) (shapes : List TableShape) (s : ScopeValues) (t : Term)
    (d : Demand) (k : Sketch) (ds : List Data) → AreRead types shapes →
    CanEvaluate types s t → IsDemand shapes (length s.rows) d k t
    → AreValues (meanings (all k.constants)) (around types None (inner s blank)) ds →
    CanEvaluate types s (settled_in d (length s.rows) ds t)

-- and what it is worth so, the tree is worth
unfoldable pub SettledAreValues : Type 0
SettledAreValues =
    (types : Source → Option Shape) (shapes : List TableShape) (told : Option (Source → Data))
    (s : ScopeValues) (t : Term) (d : Demand) (k : Sketch) (ds : List Data) (v : Data) →
    IsDemand shapes (length s.rows) d k t → AreValues (meanings (all k.constants))
    (around types told (inner s blank)) ds →
    IsValue (around types told s) (settled_in d (length s.rows) ds t) v
    → IsValue (around types told s) t v

-- it is no larger
unfoldable pub SettledAreSmall : Type 0
SettledAreSmall = (d : Demand) (k : ℕ) (ds : List Data) (t : Term)
    → term_size (settled_in d k ds t) ≤ term_size t
