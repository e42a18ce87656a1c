-- How many rows are visited where something is taken of a query expression.
use Rattle.std.proofs.Common.{◌≡◌, ◌∙◌, ◌≢◌, ◌≤◌, ℕ, suc, pos, ◌+◌, ◌*◌, List, [], ◌∷◌, length, Bool, true, false, Option, Some, None, ap, refl, sym, subst, arith}
use Rattle.std.specs.Prelude.{cond, slice_get}
use Rattle.std.specs.List.{filter, list_any}
use Rattle.fx_types.specs.Types.{Shape}
use Rattle.fx_types.specs.Values.{Data, blank, fault, number, text, boolean, date, rec, tab}
use Rattle.fx_env.specs.Scopes.{Fixed, ScopeValues, around}
use Rattle.fx_env.specs.Telling.{Heard, EnvState, tables_told, values_told}
use Rattle.fx_eval.specs.declared.demands.Demand.{Demand}
use Rattle.fx_eval.specs.declared.demands.Demand.TheVariants as demand
use Rattle.fx_eval.specs.declared.demands.Fold.{Fold}
use Rattle.fx_eval.specs.declared.demands.Fold.TheVariants as fold
use Rattle.fx_eval.specs.Demands.{IsAnswered, IsAskedFor, IsDemand, IsSearchBy, SettledAreValues, fun_of, settled_in}
use Rattle.fx_eval.specs.EvalSteps.{HasVisited, Moment, Went}
use Rattle.fx_eval.specs.Parts.{inner}
use Rattle.fx_eval.specs.Visits.{AllVisit, AskedTables, AtMost, Both, ConstantsVisit, EachVisits, InFound, InRanges, OverVisits, VisitPart, PartVisits, PartsVisit, RangesVisit, RowsVisit, UnlessError, Visiting, Visits, VisitsBy, VisitsByHead, asked_tables, lies_in, visit_part, parts, search_of}
use Rattle.fx_eval.proofs.Passing.{went_on}
use Rattle.fx_eval.proofs.Still.{AllStill, IsStill, column_still, column_visits, filter_is, literal_still, query_is, rows_few, table_there}
use Rattle.fx_eval.proofs.Visiting.{from_before, told_before, told_heard}
use Rattle.fx_plan.specs.declared.plans.Sketch.{Sketch}
use Rattle.fx_plan.specs.declared.ranges.Reach.{Reach}
use Rattle.fx_plan.specs.Consumers.{over_query}
use Rattle.fx_plan.specs.Outlines.{filled}
use Rattle.fx_plan.specs.Plans.{CanPlan, IsPlan, IsReachBy, is_fault, reach_in}
use Rattle.fx_plan.specs.QueryExpressions.{sketch_of}
use Rattle.fx_plan.specs.Ranges.{everything}
use Rattle.fx_plan.specs.Settled.{as_value, call_settled, condition_settled, query_settled, search_settled}
use Rattle.fx_plan.proofs.Placing.{column_typed}
use Rattle.fx_semantics.specs.Around.{Around, AreValues, record_of}
use Rattle.fx_semantics.specs.Around.{inside as inside_of}
use Rattle.fx_semantics.specs.Fresh.{IsValue, meaning, meanings}
use Rattle.fx_semantics.specs.Rows.{IsTableCall, rows_in}
use Rattle.fx_core.specs.declared.functions.Fun.{Fun}
use Rattle.fx_core.specs.declared.functions.Fun.TheVariants as fun
use Rattle.fx_core.specs.declared.rows.Scalar.TheVariants.{Number}
use Rattle.fx_core.specs.declared.schema.TableShape.{TableShape}
use Rattle.fx_core.specs.declared.sources.Source.{Source}
use Rattle.fx_core.specs.Term.{Term, Terms, of, nil, cons, all}
use Rattle.fx_core.specs.Term as top
use Rattle.fx_typing.specs.WellTyped.{PartScope, inside, plain, bound, catching, standing_at}
use Rattle.fx_value.specs.Columns.{Row as Fields}
use Rattle.fx_value.specs.Keys.{key_bytes}
use Rattle.row_queries.specs.declared.queries.Query.{Query}
use Rattle.row_queries.specs.declared.rows.Row.{Row}
use Rattle.row_queries.specs.Queries.{lies}
use Rattle.row_queries.specs.Ranges.{in_ranges}
use Rattle.row_queries.specs.TableRows.{rows_at, value_at, values_of}
use Rattle.row_queries.specs.Visits.{VisitsTold}

-- ---- parts that visit nothing

-- evaluating a part visits nothing, wherever it stands
abbrev pub IsFree : VisitPart → Type 1
IsFree P = (a : Around) → P.visits a 0

abbrev pub AllFree : List VisitPart → Type 1
AllFree [] = Unit {1}
AllFree (P ∷ Ps) = IsFree P × AllFree Ps

each_free : (V : Visiting) → ((a : Around) → V a 0) → (rows : List Fields) (a : Around) → EachVisits V rows a 0
each_free V v [] a = refl
each_free V v (r ∷ rows) a = (0, 0, v (inside_of a (record_of r)), each_free V v rows a, refl)

part_free : (x : PartScope) (rows : List Fields) (P : VisitPart) → IsFree P → (a : Around) → PartVisits x rows P a 0
part_free inside rows P f a = each_free P.visits f rows a
part_free plain rows P f a = f a
part_free bound rows P f a = f a
part_free catching rows P f a = f a

parts_free : (f : Fun) (m i : ℕ) (rows : List Fields) (Ps : List VisitPart) → AllFree Ps → (a : Around) → PartsVisit f m i rows Ps a 0
parts_free f m i rows [] free a = refl
parts_free f m i rows (P ∷ Ps) free a = (0, 0, part_free (standing_at (top.over f) m i) rows P free.0 a, parts_free f m (suc i) rows Ps free.1 a, refl)

unless_free : (d : Data) (P : ℕ → Type 0) → P 0 → UnlessError d P 0
unless_free (fault k cs) P p = refl
unless_free blank P p = p
unless_free (number z) P p = p
unless_free (text cs) P p = p
unless_free (boolean b) P p = p
unless_free (date z) P p = p
unless_free (rec fs) P p = p
unless_free (tab rs) P p = p

-- a call whose other parts are free visits what its table does
rows_visit : (w : AskedTables) (f : Fun) (q : Term) (cs : Terms) (a : Around) (v : Data) (n : ℕ) → AllFree (parts w cs) → IsTableCall f (meaning q ∷ meanings cs) a v → Visits w q a n → RowsVisit f (visit_part w q ∷ parts w cs) a n
rows_visit w f q cs a v n free h k =
    let rest = unless_free h.0 (PartsVisit f (suc (length (parts w cs))) 1 (rows_in h.0) (parts w cs) a) (parts_free f (suc (length (parts w cs))) 1 (rows_in h.0) (parts w cs) free a) in
    (h.0, h.1, (n, 0, k, rest, omega arith))

-- ---- query expressions

-- a query expression whose constants visit m rows, and in whose ranges l rows lie
pub query_visits : (w : AskedTables) (t : Term) (s : Sketch) (a : Around) (ds : List Data) (m l : ℕ) → sketch_of w.shapes (length a.rows) t ≡ Some s → AllVisit (parts w (all s.constants)) (inside_of a blank) m →
    AreValues (meanings (all s.constants)) (inside_of a blank) ds → InRanges w s ds l → Visits w t a (m + l)
query_visits w (of h ts) s a ds m l e constants values ranges =
    subst (λ (o : Option Sketch). VisitsBy w o (search_of w.shapes (length a.rows) (of h ts)) h (parts w ts) a (m + l)) (sym e)
    (m, l, (query_is w (length a.rows) (of h ts) s e).adds a m refl constants, (ds, values, ranges), refl)

-- a search, whose formula visits j rows more
module _ (w : AskedTables) (q c : Term) (s : Sketch) (a : Around) (ds : List Data) (m l : ℕ) (e : sketch_of w.shapes (length a.rows) (over_query fun.Filter q (cons c nil)) ≡ Some s)
    (constants : AllVisit (parts w (all s.constants)) (inside_of a blank) m) (values : AreValues (meanings (all s.constants)) (inside_of a blank) ds) (ranges : InRanges w s ds l) where
  own : Both (ConstantsVisit (visit_part w q ∷ visit_part w c ∷ []) a) (RangesVisit w s a) (m + l)
  own = (m, l, (query_is w (length a.rows) (over_query fun.Filter q (cons c nil)) s e).adds a m refl constants, (ds, values, ranges), refl)

  pub search_visits : Visits w (over_query fun.LookUp q (cons c nil)) a (m + l)
  search_visits = subst (λ (o : Option Sketch). VisitsBy w None o (top.over fun.LookUp) (visit_part w q ∷ visit_part w c ∷ []) a (m + l)) (sym e) own

  pub search_in_visits : (f : Term) (v : Data) (j : ℕ) → IsTableCall fun.LookUp (meaning q ∷ meaning c ∷ []) a v → InFound v (Visits w f) a j → Visits w (over_query fun.LookUp q (cons c (cons f nil))) a (m + l + j)
  search_in_visits f v j h k =
      subst (λ (o : Option Sketch). VisitsBy w None o (top.over fun.LookUp) (visit_part w q ∷ visit_part w c ∷ visit_part w f ∷ []) a (m + l + j)) (sym e) (m + l, j, own, (v, h, k), refl)

-- ---- demands

const_free : (w : AskedTables) (d : Data) → IsFree (visit_part w (as_value d))
const_free w d = λ a. refl

-- what is taken of a query expression, other than the scope of a formula, visits its constants and its ranges
pub demand_visits : (w : AskedTables) (d : Demand) (s : Sketch) (t : Term) (a : Around) (ds : List Data) (v : Data) (m l : ℕ) → d ≢ demand.FoundIn → IsDemand w.shapes (length a.rows) d s t → IsValue a t v →
    AllVisit (parts w (all s.constants)) (inside_of a blank) m → AreValues (meanings (all s.constants)) (inside_of a blank) ds → InRanges w s ds l → Visits w t a (m + l)
demand_visits w demand.FoundIn s t a ds v m l other h worth constants values ranges = absurd (other refl)
demand_visits w demand.Rows s t a ds v m l other h worth constants values ranges = query_visits w t s a ds m l h constants values ranges
demand_visits w (demand.FirstRows n) s t a ds v m l other h worth constants values ranges =
    subst (λ (z : Term). Visits w z a (m + l)) (sym h.1)
    (rows_visit w fun.FirstN h.0 (cons (as_value (number (pos (n * 10000)))) nil) a v (m + l) (const_free w (number (pos (n * 10000))), tt) (subst (λ (z : Term). IsValue a z v) h.1 worth)
    (query_visits w h.0 s a ds m l h.2 constants values ranges))
demand_visits w demand.Count s t a ds v m l other h worth constants values ranges =
    subst (λ (z : Term). Visits w z a (m + l)) (sym h.1)
    (rows_visit w fun.CountRows h.0 nil a v (m + l) tt (subst (λ (z : Term). IsValue a z v) h.1 worth) (query_visits w h.0 s a ds m l h.2 constants values ranges))
demand_visits w demand.First s t a ds v m l other h worth constants values ranges =
    subst (λ (z : Term). Visits w z a (m + l)) (sym h.1)
    (rows_visit w fun.First h.0 nil a v (m + l) tt (subst (λ (z : Term). IsValue a z v) h.1 worth) (query_visits w h.0 s a ds m l h.2 constants values ranges))
demand_visits w demand.Found s t a ds v m l other h worth constants values ranges =
    subst (λ (z : Term). Visits w z a (m + l)) (sym h.2) (search_visits w h.0 h.1 s a ds m l h.3 constants values ranges)
demand_visits w (demand.Total f i) s t a ds v m l other h worth constants values ranges =
    let column = h.4 in
    let free : IsFree (visit_part w h.1) = column_visits w column.0 (length a.rows) h.1 i (column_typed column.0 (length a.rows) Number h.1 i column.2).0 in
    subst (λ (z : Term). Visits w z a (m + l)) (sym h.2) (by f (subst (λ (z : Term). IsValue a z v) h.2 worth) free (query_visits w h.0 s a ds m l h.3 constants values ranges))
  where
    by : (g : Fold) → IsValue a (over_query (fun_of g) h.0 (cons h.1 nil)) v → IsFree (visit_part w h.1) → Visits w h.0 a (m + l) → Visits w (over_query (fun_of g) h.0 (cons h.1 nil)) a (m + l)
    by fold.Sum x free k = rows_visit w fun.SumRows h.0 (cons h.1 nil) a v (m + l) (free, tt) x k
    by fold.Least x free k = rows_visit w fun.MinRows h.0 (cons h.1 nil) a v (m + l) (free, tt) x k
    by fold.Greatest x free k = rows_visit w fun.MaxRows h.0 (cons h.1 nil) a v (m + l) (free, tt) x k
    by fold.Average x free k = rows_visit w fun.AverageRows h.0 (cons h.1 nil) a v (m + l) (free, tt) x k

-- ---- where a constant is an error

every_key : (k : List ℕ) → in_ranges everything k ≡ true
every_key [] = refl
every_key (x ∷ xs) = refl

filter_whole : {A : Type 0} (p : A → Bool) → ((x : A) → p x ≡ true) → (xs : List A) → length (filter p xs) ≡ length xs
filter_whole p all_pass [] = refl
filter_whole {A} p all_pass (x ∷ xs) = by (p x) (all_pass x) (filter_whole p all_pass xs)
  where
    by : (b : Bool) → b ≡ true → length (filter p xs) ≡ length xs → length (cond b (x ∷ filter p xs) (filter p xs)) ≡ suc (length xs)
    by true e l = ap suc l
    by false e l = absurd cc

-- all rows of the table lie in the ranges
pub all_in_ranges : (w : AskedTables) (s : Sketch) (ds : List Data) (t : TableShape) → slice_get w.shapes s.table ≡ Some t → list_any is_fault ds ≡ true → InRanges w s ds (length (rows_at w.rows s.table))
all_in_ranges w s ds t at e =
    let r : Reach = record { column = 0; ranges = everything } in
    (t, r, at, subst (λ (b : Bool). IsReachBy b t (filled ds s.test) r) (sym e) (refl, refl), sym (filter_whole (lies_in r) (λ row. every_key (key_bytes (value_at (values_of row) 0))) (rows_at w.rows s.table)))

-- with values in the places of its constants, a call over a query expression visits no more rows than the table has
call_few : (w : AskedTables) (k : ℕ) (s : Sketch) (f : Fun) (q : Term) (cs : Terms) (vs : List Data) (a : Around) (n : ℕ) → sketch_of w.shapes k q ≡ Some s → AllStill (parts w cs) →
    RowsVisit f (visit_part w ((query_settled k vs q).0) ∷ parts w cs) a n → n ≤ length (rows_at w.rows s.table)
call_few w k s f q cs vs a n e still h = rows_few w f ((query_settled k vs q).0) cs s.table ((query_is w k q s e).scan vs) still a n h

search_few : (w : AskedTables) (k : ℕ) (s : Sketch) (q c : Term) (vs : List Data) (a : Around) (n : ℕ) → sketch_of w.shapes k (over_query fun.Filter q (cons c nil)) ≡ Some s →
    RowsVisit fun.LookUp (visit_part w ((query_settled k vs q).0) ∷ visit_part w ((condition_settled k vs c ((query_settled k vs q).1)).0) ∷ []) a n → n ≤ length (rows_at w.rows s.table)
search_few w k s q c vs a n e h =
    let i = filter_is w k q (cons c nil) s e in
    let l = rows_few w fun.LookUp ((query_settled k vs q).0) (cons ((condition_settled k vs c ((query_settled k vs q).1)).0) nil) i.inner.table ((query_is w k q i.inner i.sketched).scan vs)
    (i.still vs ((query_settled k vs q).1)) a n h in
    let same : length (rows_at w.rows i.inner.table) ≡ length (rows_at w.rows s.table) = ap (λ j. length (rows_at w.rows j)) i.table in
    omega (arith, l, same)

-- what a tree takes then, the formula of a search aside
pub settled_few : (w : AskedTables) (d : Demand) (k : ℕ) (s : Sketch) (t : Term) (vs : List Data) (a : Around) (n : ℕ) → d ≢ demand.FoundIn → IsDemand w.shapes k d s t →
    VisitsByHead w (settled_in d k vs t) a n → n ≤ length (rows_at w.rows s.table)
settled_few w demand.FoundIn k s t vs a n other h v = absurd (other refl)
settled_few w demand.Rows k s t vs a n other h v = ((query_is w k t s h).scan vs).few a n v
settled_few w (demand.FirstRows i) k s t vs a n other h v =
    call_few w k s fun.FirstN h.0 (cons (as_value (number (pos (i * 10000)))) nil) vs a n h.2 (literal_still w (number (pos (i * 10000))), tt) (subst (λ (z : Term). VisitsByHead w (call_settled k vs z) a n) h.1 v)
settled_few w demand.Count k s t vs a n other h v = call_few w k s fun.CountRows h.0 nil vs a n h.2 tt (subst (λ (z : Term). VisitsByHead w (call_settled k vs z) a n) h.1 v)
settled_few w demand.First k s t vs a n other h v = call_few w k s fun.First h.0 nil vs a n h.2 tt (subst (λ (z : Term). VisitsByHead w (call_settled k vs z) a n) h.1 v)
settled_few w demand.Found k s t vs a n other h v = search_few w k s h.0 h.1 vs a n h.3 (subst (λ (z : Term). VisitsByHead w (search_settled k vs z) a n) h.2 v)
settled_few w (demand.Total f i) k s t vs a n other h v =
    let column = h.4 in
    let still : IsStill (visit_part w h.1) = column_still w column.0 k h.1 i (column_typed column.0 k Number h.1 i column.2).0 in
    by f (subst (λ (z : Term). VisitsByHead w (call_settled k vs z) a n) h.2 v) still
  where
    by : (g : Fold) → VisitsByHead w (call_settled k vs (over_query (fun_of g) h.0 (cons h.1 nil))) a n → IsStill (visit_part w h.1) → n ≤ length (rows_at w.rows s.table)
    by fold.Sum x still = call_few w k s fun.SumRows h.0 (cons h.1 nil) vs a n h.3 (still, tt) x
    by fold.Least x still = call_few w k s fun.MinRows h.0 (cons h.1 nil) vs a n h.3 (still, tt) x
    by fold.Greatest x still = call_few w k s fun.MaxRows h.0 (cons h.1 nil) vs a n h.3 (still, tt) x
    by fold.Average x still = call_few w k s fun.AverageRows h.0 (cons h.1 nil) vs a n h.3 (still, tt) x

demand_table : (ts : List TableShape) (k : ℕ) (d : Demand) (s : Sketch) (t : Term) → IsDemand ts k d s t → (x : TableShape) × (slice_get ts s.table ≡ Some x)
demand_table ts k demand.Rows s t h = table_there ts k t s h
demand_table ts k (demand.FirstRows n) s t h = table_there ts k h.0 s h.2
demand_table ts k demand.Count s t h = table_there ts k h.0 s h.2
demand_table ts k demand.First s t h = table_there ts k h.0 s h.2
demand_table ts k demand.Found s t h = table_there ts k (over_query fun.Filter h.0 (cons h.1 nil)) s h.3
demand_table ts k demand.FoundIn s t h = table_there ts k (over_query fun.Filter h.0 (cons h.1 nil)) s h.4
demand_table ts k (demand.Total f i) s t h = table_there ts k h.0 s h.3

-- ---- the query of a plan

pub plan_visits : {B : Type 0} (f : Fixed) (s : Sketch) (ds : List Data) (take : Option ℕ) (q : Query) (x : Option (EnvState B)) (before now : ℕ) → CanPlan f.schema.tables s ds → IsPlan f.schema.tables s ds take q →
    VisitsTold (tables_told x) q before now → (w : EnvState B) → x ≡ Some w → AtMost (InRanges (asked_tables f w) s ds) before now
plan_visits {B} f s ds take q x before now can plan most w e =
    let told : now ≤ before + length (filter (lies q) (rows_at w.tables q.table)) = subst (λ (z : Option (EnvState B)). VisitsTold (tables_told z) q before now) e most in
    let l = length (filter (lies q) (rows_at w.tables s.table)) in (
      l,
      (can.table, reach_in q, can.is_table, plan.ranges can.table can.is_table, refl),
      subst (λ (j : ℕ). now ≤ before + length (filter (lies q) (rows_at w.tables j))) plan.table told,
    )

-- the constants, and what the tree visits by its head with their values in their places, come to what the tree visits at most
module _ (types : Source → Option Shape) (shapes : List TableShape) (rows : List (List Row)) (told : Source → Data) (s : ScopeValues) (t : Term) (k : Sketch) (ds : List Data) (v : Data) (m n : ℕ)
    (worth : IsValue (around types (Some told) s) t v) (constants : AllVisit (parts (record { shapes = shapes; rows = rows }) (all k.constants)) (inside_of (around types (Some told) s) blank) m)
    (values : AreValues (meanings (all k.constants)) (inside_of (around types (Some told) s) blank) ds) (ranges : InRanges (record { shapes = shapes; rows = rows }) k ds (length (rows_at rows k.table))) where
  abbrev at : Around
  at = around types (Some told) s

  abbrev there : AskedTables
  there = record { shapes = shapes; rows = rows }

  plain_sum : (z : Demand) → z ≢ demand.FoundIn → IsDemand shapes (length s.rows) z k t → VisitsByHead there (settled_in z (length s.rows) ds t) at n → (l : ℕ) × Visits there t at l × (m + n ≤ l)
  plain_sum z other g x =
      let few : n ≤ length (rows_at rows k.table) = settled_few there z (length s.rows) k t ds at n other g x in
      (m + length (rows_at rows k.table), demand_visits there z k t at ds v m (length (rows_at rows k.table)) other g worth constants values ranges, omega (arith, few))

  found_sum : SettledAreValues → (q c f : Term) → t ≡ over_query fun.LookUp q (cons c (cons f nil)) → sketch_of shapes (length s.rows) (over_query fun.Filter q (cons c nil)) ≡ Some k →
      VisitsByHead there (search_settled (length s.rows) ds t) at n → (l : ℕ) × Visits there t at l × (m + n ≤ l)
  unfolding SettledAreValues
  found_sum law q c f e sketched x =
      let y : OverVisits fun.LookUp (visit_part there ((query_settled (length s.rows) ds q).0) ∷ visit_part there ((condition_settled (length s.rows) ds c ((query_settled (length s.rows) ds q).1)).0) ∷ visit_part there f ∷ []) at n =
      subst (λ (z : Term). VisitsByHead there (search_settled (length s.rows) ds z) at n) e x in
      let few : y.0 ≤ length (rows_at rows k.table) = search_few there (length s.rows) k q c ds at y.0 sketched y.2 in
      let found = law types shapes (Some told) s (over_query fun.LookUp q (cons c nil)) demand.Found k ds y.3.0 (q, c, refl, sketched) values y.3.1 in
      let sum : n ≡ y.0 + y.1 = y.4 in (
        m + length (rows_at rows k.table) + y.1,
        subst (λ (z : Term). Visits there z at (m + length (rows_at rows k.table) + y.1)) (sym e)
            (search_in_visits there q c k at ds m (length (rows_at rows k.table)) sketched constants values ranges f y.3.0 y.1 found y.3.2),
        omega (arith, few, sum),
      )

  pub settled_sum : SettledAreValues → (d : Demand) → IsDemand shapes (length s.rows) d k t → VisitsByHead there (settled_in d (length s.rows) ds t) at n → (l : ℕ) × Visits there t at l × (m + n ≤ l)
  settled_sum law demand.FoundIn g x = found_sum law g.0 g.1 g.2 g.3 g.4 x
  settled_sum law demand.Rows g x = plain_sum demand.Rows (λ e. absurd cc) g x
  settled_sum law (demand.FirstRows i) g x = plain_sum (demand.FirstRows i) (λ e. absurd cc) g x
  settled_sum law demand.Count g x = plain_sum demand.Count (λ e. absurd cc) g x
  settled_sum law demand.First g x = plain_sum demand.First (λ e. absurd cc) g x
  settled_sum law demand.Found g x = plain_sum demand.Found (λ e. absurd cc) g x
  settled_sum law (demand.Total f i) g x = plain_sum (demand.Total f i) (λ e. absurd cc) g x

-- ---- a tree that takes something of a query expression, from moment to moment

module _ {B : Type 0} (m n : Moment B) (t : Term) (d : Demand) (k : Sketch) (cs : List Term) (ds : List Data) (first : Went m n) (asked : IsAskedFor m.fixed m.told m.scope t d k) (is : cs ≡ k.constants)
    (constants : HasVisited (λ w a. AllVisit (parts w (all cs)) (inside_of a blank)) m n)
    (values : Heard (values_told n.told) (λ told. AreValues (meanings (all cs)) (around m.fixed.types told (inner m.scope blank)) ds)) where
  abbrev here : EnvState B → Around
  here w = around m.fixed.types (Some w.values) m.scope

  -- the constants, by the tables that are told in the end
  constants_visit : (w : EnvState B) → n.told ≡ Some w → AtMost (AllVisit (parts (asked_tables m.fixed w) (all k.constants)) (inside_of (here w) blank)) m.visited n.visited
  constants_visit w e = subst (λ (xs : List Term). AtMost (AllVisit (parts (asked_tables m.fixed w) (all xs)) (inside_of (here w) blank)) m.visited n.visited) is (constants w e)

  constants_are : (w : EnvState B) → n.told ≡ Some w → AreValues (meanings (all k.constants)) (inside_of (here w) blank) ds
  constants_are w e = subst (λ (xs : List Term). AreValues (meanings (all xs)) (inside_of (here w) blank) ds) is (values (Some w.values) (told_heard n.told w e))

  ranges_here : (w : EnvState B) (x y : ℕ) → AtMost (InRanges (asked_tables n.fixed w) k ds) x y → AtMost (InRanges (asked_tables m.fixed w) k ds) x y
  ranges_here w x y h = subst (λ (f : Fixed). AtMost (InRanges (asked_tables f w) k ds) x y) first.fixed h

  -- it was answered by a query
  pub plain_visited : (o : Moment B) (v : Data) → Went n o → d ≢ demand.FoundIn → ((w : EnvState B) → o.told ≡ Some w → AtMost (InRanges (asked_tables n.fixed w) k ds) n.visited o.visited) →
      Heard (values_told o.told) (λ told. IsValue (around m.fixed.types told m.scope) t v) → HasVisited (λ w. Visits w t) m o
  plain_visited o v second other ranges worth w e =
      let there = told_before n o second w e in
      let one = constants_visit w there in
      let two = ranges_here w n.visited o.visited (ranges w e) in
      let i = one.2 in
      let j = two.2 in (
        one.0 + two.0,
        demand_visits (asked_tables m.fixed w) d k t (here w) ds v one.0 two.0 other asked.demand (worth (Some w.values) (told_heard o.told w e)) one.1 (constants_are w there) two.1,
        omega (arith, i, j),
      )

  -- and then a formula was evaluated in the scope of the row that was found
  pub found_visited : (o p : Moment B) (f : Term) (v : Data) → Went n o → Went o p → d ≡ demand.FoundIn → IsSearchBy t f → ((w : EnvState B) → o.told ≡ Some w → AtMost (InRanges (asked_tables n.fixed w) k ds) n.visited o.visited) →
      ((x : Term) → IsAskedFor m.fixed m.told m.scope x demand.Found k → Heard (values_told o.told) (λ told. IsValue (around m.fixed.types told m.scope) x v)) →
      HasVisited (λ w. InFound v (Visits w f)) o p → HasVisited (λ w. Visits w t) m p
  found_visited o p f v second third found by ranges worth formula w e =
      let at = told_before o p third w e in
      let there = told_before n o second w at in
      let one = constants_visit w there in
      let two = ranges_here w n.visited o.visited (ranges w at) in
      let three = from_before (λ z. InFound v (Visits z f)) m o p (went_on m n o first second) formula w e in
      let h : IsDemand m.fixed.schema.tables (length m.scope.rows) demand.FoundIn k t = subst (λ (z : Demand). IsDemand m.fixed.schema.tables (length m.scope.rows) z k t) found asked.demand in
      let same : over_query fun.LookUp h.0 (cons h.1 (cons h.2 nil)) ≡ over_query fun.LookUp by.0 (cons by.1 (cons f nil)) = sym h.3 ∙ by.2 in
      let own : h.2 ≡ f = cc in
      let is_tree : t ≡ over_query fun.LookUp h.0 (cons h.1 (cons f nil)) = h.3 ∙ ap (λ z. over_query fun.LookUp h.0 (cons h.1 (cons z nil))) own in
      let i = one.2 in
      let j = two.2 in
      let l = three.2 in (
        one.0 + two.0 + three.0,
        subst (λ (z : Term). Visits (asked_tables m.fixed w) z (here w) (one.0 + two.0 + three.0)) (sym is_tree)
            (search_in_visits (asked_tables m.fixed w) h.0 h.1 k (here w) ds one.0 two.0 h.4 one.1 (constants_are w there) two.1 f v three.0
            (worth (over_query fun.LookUp h.0 (cons h.1 nil)) (record { keeps = asked.keeps; demand = (h.0, h.1, refl, h.4) }) (Some w.values) (told_heard o.told w at)) three.1),
        omega (arith, i, j, l),
      )

  -- a constant is an error, and it was evaluated by its head with the values of the constants in their places
  pub settled_visited : (o : Moment B) (x : Term) (v : Data) → SettledAreValues → Went n o → list_any is_fault ds ≡ true → x ≡ settled_in d (length n.scope.rows) ds t → HasVisited (λ w. VisitsByHead w x) n o →
      Heard (values_told o.told) (λ told. IsValue (around m.fixed.types told m.scope) t v) → HasVisited (λ w. Visits w t) m o
  settled_visited o x v law second wrong settled head worth w e =
      let there = told_before n o second w e in
      let tables = asked_tables m.fixed w in
      let one = constants_visit w there in
      let two = from_before (λ z. VisitsByHead z x) m n o first head w e in
      let known : VisitsByHead tables (settled_in d (length m.scope.rows) ds t) (here w) two.0 = subst (λ (z : Term). VisitsByHead tables z (here w) two.0) (subst (λ (s : ScopeValues). x ≡ settled_in d (length s.rows) ds t) first.scope settled) two.1 in
      let table = demand_table m.fixed.schema.tables (length m.scope.rows) d k t asked.demand in
      let ranges = all_in_ranges tables k ds table.0 table.1 wrong in
      let sum = settled_sum m.fixed.types m.fixed.schema.tables w.tables w.values m.scope t k ds v one.0 two.0 (worth (Some w.values) (told_heard o.told w e)) one.1 (constants_are w there) ranges law d asked.demand known in
      let i = one.2 in
      let j = two.2 in
      let l = sum.2 in
      (sum.0, sum.1, omega (arith, i, j, l))

-- the row that is the scope of a formula is what `LookUp` without it finds
pub answered_found : (shapes : List TableShape) (told : Option (List (List Row))) (d : Demand) (k : Sketch) (ds : List Data) (v : Data) → d ≡ demand.FoundIn → IsAnswered shapes told d k ds v → IsAnswered shapes told demand.Found k ds v
answered_found shapes told d k ds v e h = let x : IsAnswered shapes told demand.FoundIn k ds v = subst (λ (z : Demand). IsAnswered shapes told z k ds v) e h in x
