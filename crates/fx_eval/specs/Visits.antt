-- How many rows evaluating a typed tree visits: those in the ranges of the query expressions that
-- are evaluated in it, each of whose constants counts once. What is evaluated goes by what the
-- parts are worth, as the value of the tree does.
use Rattle.std.specs.Prelude.{◌≡◌, ℕ, suc, ◌+◌, ◌≤◌, Bool, true, false, List, [], ◌∷◌, length}
use Rattle.std.specs.Prelude.{Option, Some, None, slice_get}
use Rattle.std.specs.List.{filter, list_any}
use Rattle.fx_types.specs.Values.{Data, blank, rec, fault}
use Rattle.fx_env.specs.Scopes.{Fixed}
use Rattle.fx_env.specs.Telling.{EnvState}
use Rattle.fx_eval.specs.Courses.{Going, all, any, branches, switch, recovers, coalesces, Turning}
use Rattle.fx_eval.specs.Courses.{answers, chooses, catches, goes, passes, turned_by}
use Rattle.fx_plan.specs.declared.plans.Sketch.{Sketch}
use Rattle.fx_plan.specs.declared.ranges.Reach.{Reach}
use Rattle.fx_plan.specs.Consumers.{over_query}
use Rattle.fx_plan.specs.Outlines.{filled}
use Rattle.fx_plan.specs.Plans.{IsReachBy, is_fault}
use Rattle.fx_plan.specs.QueryExpressions.{is_constant, sketch_of}
use Rattle.fx_scalar.specs.LazyForms.{none_left}
use Rattle.fx_semantics.specs.Around.{Around, Meaning, AreValues, catching, record_of}
use Rattle.fx_semantics.specs.Around.{inside as inside_of}
use Rattle.fx_semantics.specs.Fresh.{meaning, meanings}
use Rattle.fx_semantics.specs.Rows.{IsTableCall, rows_in}
use Rattle.fx_core.specs.declared.functions.Form.{Form}
use Rattle.fx_core.specs.declared.functions.Form.TheVariants as form
use Rattle.fx_core.specs.declared.functions.Fun.{Fun}
use Rattle.fx_core.specs.declared.functions.Fun.TheVariants as fun
use Rattle.fx_core.specs.declared.schema.TableShape.{TableShape}
use Rattle.fx_core.specs.declared.sources.Source.TheVariants as source
use Rattle.fx_core.specs.Term.{Term, Terms, of, nil, cons, Top}
use Rattle.fx_core.specs.Term as top
use Rattle.fx_typing.specs.WellTyped.{PartScope, inside, standing_at}
use Rattle.fx_value.specs.Columns.{Row as Fields}
use Rattle.fx_value.specs.Keys.{key_bytes}
use Rattle.row_queries.specs.declared.rows.Row.{Row}
use Rattle.row_queries.specs.Ranges.{in_ranges}
use Rattle.row_queries.specs.TableRows.{rows_at, value_at, values_of}

-- ---- what is asked

-- the tables that are asked: their shapes, and the rows of each by rising `ID`
pub record AskedTables : Type 0 where
  pub shapes : List TableShape
  pub rows : List (List Row)

-- those of an environment
abbrev pub asked_tables : {B : Type 0} → Fixed → EnvState B → AskedTables
asked_tables f w = record { shapes = f.schema.tables; rows = w.tables }

-- a row lies in ranges
abbrev pub lies_in : Reach → Row → Bool
lies_in r row = in_ranges r.ranges (key_bytes (value_at (values_of row) r.column))

-- so many rows lie in the ranges of a query expression whose constants have these values; where one
-- is an error, all rows do
abbrev pub InRanges : AskedTables → Sketch → List Data → ℕ → Type 0
InRanges w s ds n =
    (t : TableShape) × (r : Reach) × (slice_get w.shapes s.table ≡ Some t)
    × IsReachBy (list_any is_fault ds) t (filled ds s.test) r
    × (n ≡ length (filter (lies_in r) (rows_at w.rows s.table)))

-- ---- parts

-- evaluating a formula visits so many rows where it stands
abbrev pub Visiting : Type 1
Visiting = Around → ℕ → Type 0

-- so many rows by one and by another
abbrev pub Both : (ℕ → Type 0) → (ℕ → Type 0) → ℕ → Type 0
Both P Q n = (m : ℕ) × (l : ℕ) × P m × Q l × (n ≡ m + l)

-- a part of a tree: what it is worth, how many rows evaluating it visits, and how many evaluating
-- the constants in it does, where it is a part of a query expression and where it is one of a
-- condition
pub record VisitPart : Type 1 where
  pub worth : Meaning
  pub visits : Visiting
  pub in_query : Visiting
  pub in_condition : Visiting

-- all parts are evaluated where the whole stands
abbrev pub AllVisit : List VisitPart → Visiting
AllVisit [] a n = n ≡ 0
AllVisit (P ∷ Ps) a n = Both (P.visits a) (AllVisit Ps a) n

-- a formula is evaluated for each row, in its scope
abbrev pub EachVisits : Visiting → List Fields → Visiting
EachVisits V [] a n = n ≡ 0
EachVisits V (r ∷ rs) a n = Both (V (inside_of a (record_of r))) (EachVisits V rs a) n

-- an error keeps what follows from being evaluated
abbrev pub UnlessError : Data → (ℕ → Type 0) → ℕ → Type 0
UnlessError (fault k cs) P n = n ≡ 0
UnlessError w P n = P n

-- ---- forms, from part to part

-- what a form evaluates of these parts, of which the first is the next one, where the value of the
-- one before has made this of it
abbrev pub TurnVisits : Turning → List VisitPart → Visiting
TurnVisits (answers d) Ps a n = n ≡ 0
TurnVisits chooses (P ∷ Ps) a n = P.visits a n
TurnVisits (catches k cs) (P ∷ Ps) a n = P.visits (catching a k cs) n
TurnVisits (passes g) (P ∷ Ps) a n = TurnVisits (goes g) Ps a n
TurnVisits (goes g) (P ∷ Ps) a n = (w : Data) × P.worth a w
    × Both (P.visits a) (TurnVisits (turned_by g w) Ps a) n
TurnVisits t [] a n = n ≡ 0

-- a form that stands so before these parts
abbrev pub FormVisits : Going → List VisitPart → Visiting
FormVisits g Ps a n = TurnVisits (goes g) Ps a n

abbrev pub form_begun : Form → Going
form_begun form.All = all
form_begun form.Any = any
form_begun form.If = branches
form_begun form.Switch = switch
form_begun form.IfError = recovers (none_left form.IfError)

-- `With`: the formula in the scope of the record
abbrev pub WithinVisits : List VisitPart → Visiting
WithinVisits (P ∷ F ∷ []) a n = (w : Data) × P.worth a w
    × Both (P.visits a) (UnlessError w (F.visits (inside_of a w))) n
WithinVisits Ps a n = n ≡ 0

-- ---- calls over tables

-- a part for each of these rows, or once
abbrev pub PartVisits : PartScope → List Fields → VisitPart → Visiting
PartVisits inside rows P a n = EachVisits P.visits rows a n
PartVisits s rows P a n = P.visits a n

-- the parts from a place on, of so many
abbrev pub PartsVisit : Fun → ℕ → ℕ → List Fields → List VisitPart → Visiting
PartsVisit f m i rows [] a n = n ≡ 0
PartsVisit f m i rows (P ∷ Ps) a n = Both (PartVisits (standing_at (top.over f) m i) rows P a)
    (PartsVisit f m (suc i) rows Ps a) n

-- the table, and then the other parts
abbrev pub RowsVisit : Fun → List VisitPart → Visiting
RowsVisit f [] a n = n ≡ 0
RowsVisit f (P ∷ Ps) a n = (w : Data) × P.worth a w
    × Both (P.visits a) (UnlessError w (PartsVisit f (suc (length Ps)) 1 (rows_in w) Ps a)) n

-- a formula in the scope of the row that was found, if one was
abbrev pub InFound : Data → Visiting → Visiting
InFound (rec fs) V a n = V (inside_of a (rec fs)) n
InFound d V a n = n ≡ 0

-- the formula of `LookUp`
abbrev pub FoundVisits : VisitPart → VisitPart → VisitPart → Visiting
FoundVisits P C F a n = (v : Data) × IsTableCall fun.LookUp (P.worth ∷ C.worth ∷ []) a v
    × InFound v F.visits a n

abbrev pub OverVisits : Fun → List VisitPart → Visiting
OverVisits fun.LookUp (P ∷ C ∷ F ∷ []) a n = Both (RowsVisit fun.LookUp (P ∷ C ∷ []) a)
    (FoundVisits P C F a) n
OverVisits f Ps a n = RowsVisit f Ps a n

-- ---- trees

-- a tree by its head: a table has all of its rows
abbrev pub HeadVisits : AskedTables → Top → List VisitPart → Visiting
HeadVisits w (top.read (source.Table k)) Ps a n = n ≡ length (rows_at w.rows k)
HeadVisits w (top.form f) Ps a n = FormVisits (form_begun f) Ps a n
HeadVisits w (top.call fun.Coalesce) Ps a n = FormVisits coalesces Ps a n
HeadVisits w (top.over f) Ps a n = OverVisits f Ps a n
HeadVisits w top.within Ps a n = WithinVisits Ps a n
HeadVisits w h Ps a n = AllVisit Ps a n

-- the rows in the ranges of a query expression, by the values of its constants, which don't read
-- the row in whose scope they stand
abbrev pub RangesVisit : AskedTables → Sketch → Visiting
RangesVisit w s a n = (ds : List Data) × AreValues (meanings (top.all s.constants))
    (inside_of a blank) ds × InRanges w s ds n

-- the constants of conditions
abbrev pub ConditionsVisit : List VisitPart → Visiting
ConditionsVisit [] a n = n ≡ 0
ConditionsVisit (P ∷ Ps) a n = Both (P.in_condition a) (ConditionsVisit Ps a) n

-- the constants of a query expression of these parts: those of the one that it is made of, and of
-- its conditions
abbrev pub ConstantsVisit : List VisitPart → Visiting
ConstantsVisit [] a n = n ≡ 0
ConstantsVisit (P ∷ Ps) a n = Both (P.in_query a) (ConditionsVisit Ps a) n

-- `LookUp` whose rows with its condition as one more filter are a query expression
abbrev pub SearchVisits : AskedTables → Sketch → List VisitPart → Visiting
SearchVisits w s (P ∷ C ∷ []) a n = Both (ConstantsVisit (P ∷ C ∷ []) a) (RangesVisit w s a) n
SearchVisits w s (P ∷ C ∷ F ∷ []) a n = Both (Both (ConstantsVisit (P ∷ C ∷ []) a)
    (RangesVisit w s a)) (FoundVisits P C F a) n
SearchVisits w s Ps a n = n ≡ 0

-- the sketch of that query expression
abbrev pub search_of : List TableShape → ℕ → Term → Option Sketch
search_of ts k (of (top.over fun.LookUp) (cons q (cons c nil)))
    = sketch_of ts k (over_query fun.Filter q (cons c nil))
search_of ts k (of (top.over fun.LookUp) (cons q (cons c (cons f nil))))
    = sketch_of ts k (over_query fun.Filter q (cons c nil))
search_of ts k t = None

-- a tree by its sketch if it is a query expression, by that of its search, and else by its head
abbrev pub VisitsBy : AskedTables → Option Sketch → Option Sketch → Top → List VisitPart → Visiting
VisitsBy w (Some s) x h Ps a n = Both (ConstantsVisit Ps a) (RangesVisit w s a) n
VisitsBy w None (Some s) h Ps a n = SearchVisits w s Ps a n
VisitsBy w None None h Ps a n = HeadVisits w h Ps a n

abbrev pub TreeVisits : AskedTables → Top → Terms → List VisitPart → Visiting
TreeVisits w h ts Ps a n = VisitsBy w (sketch_of w.shapes (length a.rows) (of h ts))
    (search_of w.shapes (length a.rows) (of h ts)) h Ps a n

-- a constant once, in the place of what it is a constant of, and else those of the parts
abbrev pub OnceOr : Bool → (ℕ → Type 0) → (ℕ → Type 0) → ℕ → Type 0
OnceOr true P Q n = P n
OnceOr false P Q n = Q n

-- the constants of a condition
abbrev pub ConditionVisits : AskedTables → Top → Terms → List VisitPart → Visiting
ConditionVisits w h ts Ps a n = OnceOr (is_constant (length a.rows) (of h ts))
    (TreeVisits w h ts Ps (inside_of a blank)) (ConditionsVisit Ps a) n

abbrev mutual
  -- EVALUATING A TREE VISITS SO MANY ROWS where it stands
  pub Visits : AskedTables → Term → Visiting
  Visits w (of h ts) = TreeVisits w h ts (parts w ts)

  -- evaluating the constants in a query expression, and in a condition
  pub InQuery : AskedTables → Term → Visiting
  InQuery w (of h ts) = ConstantsVisit (parts w ts)

  pub InCondition : AskedTables → Term → Visiting
  InCondition w (of h ts) = ConditionVisits w h ts (parts w ts)

  pub parts : AskedTables → Terms → List VisitPart
  parts w nil = []
  parts w (cons t ts) = record {
    worth = meaning t;
    visits = Visits w t;
    in_query = InQuery w t;
    in_condition = InCondition w t;
  } ∷ parts w ts

abbrev pub visit_part : AskedTables → Term → VisitPart
visit_part w t = record {
  worth = meaning t;
  visits = Visits w t;
  in_query = InQuery w t;
  in_condition = InCondition w t;
}

-- a tree by its head alone
abbrev pub VisitsByHead : AskedTables → Term → Visiting
VisitsByHead w (of h ts) = HeadVisits w h (parts w ts)

-- neither a query expression nor such a search
abbrev pub IsUnasked : List TableShape → ℕ → Term → Type 0
IsUnasked shapes k t = (sketch_of shapes k t ≡ None) × (search_of shapes k t ≡ None)

-- ---- bounds

-- no more rows were visited than by these
abbrev pub AtMost : (ℕ → Type 0) → ℕ → ℕ → Type 0
AtMost P before now = (n : ℕ) × P n × (now ≤ before + n)
