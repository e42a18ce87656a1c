-- What functions are worth that are answered over all rows of a query expression.
use Rattle.std.proofs.Common.{◌≡◌, ℕ, suc, List, [], ◌∷◌, length, map, take, Bool, true, false, Option, Some, None, refl, sym, ap, subst, ◌∙◌, cond}
use Rattle.std.specs.Prelude.{MatchOption, option_map, unwrap_or}
use Rattle.std.specs.List.{AllByRecursion, filter, find, list_any, zip}
use Rattle.std.specs.Cmp.{IsTotalOrder}
use Rattle.std.proofs.lemmas.List.Elements.{recursion_from_All}
use Rattle.std.proofs.lemmas.List.{take-map}
use Rattle.std.proofs.lemmas.Option.{same_Some}
use Rattle.fx_primitives.specs.Folds.{average_of}
use Rattle.fx_types.specs.Values.{Data, tab, row_list}
use Rattle.fx_types.specs.declared.faults.Fault.{Fault}
use Rattle.fx_plan.specs.declared.plans.Sketch.{Sketch}
use Rattle.fx_plan.specs.Outlines.{Outline, all_filled, filled, outline_list}
use Rattle.fx_plan.specs.Plans.{is_fault}
use Rattle.fx_plan.specs.QueryExpressions.{filter_sketch, pattern_of, patterns_of, plain_column, sketch_of}
use Rattle.fx_semantics.specs.Around.{Around, AreEach, inside}
use Rattle.fx_semantics.specs.Fresh.{IsValue, meaning, meanings}
use Rattle.fx_semantics.specs.Rows.{IsMade, IsOfFound}
use Rattle.fx_tables.specs.AggregateCalls.{IsNumberOrBlank, IsSumValue, number_or_blank}
use Rattle.fx_value.specs.Aggregates.{IsGreatest, IsLeast, SumsUp, numbers_in}
use Rattle.fx_value.specs.Columns.{Row as Fields}
use Rattle.fx_tables.specs.RowCalls.{IsCountValue, holds, kept_rows, looked_up}
use Rattle.fx_tables.specs.RowCalls.{first_row_record as first_row}
use Rattle.fx_tables.specs.Unions.{is_fault as is_error}
use Rattle.fx_core.specs.declared.functions.Fun.{Fun}
use Rattle.fx_core.specs.declared.functions.Fun.TheVariants as fun
use Rattle.fx_core.specs.declared.rows.Scalar.TheVariants.{Number}
use Rattle.fx_core.specs.declared.schema.TableShape.{TableShape}
use Rattle.fx_core.specs.Lawful.{IsLawfulTable}
use Rattle.fx_core.specs.Term.{Term, Terms, nil, cons}
use Rattle.fx_value.specs.Order.{order}
use Rattle.fx_plan.proofs.Firsts.{first_of_table}
use Rattle.fx_plan.proofs.Placing.{column_typed, in_front, some_then}
use Rattle.fx_plan.proofs.Sound.{filled_sound, sound_holds}
use Rattle.fx_plan.proofs.Testing.{patterns_test, values_worth}
use Rattle.fx_plan.proofs.Wholes.{HasConstants, IsFiltered, IsReady, cell, each_key, filter_ready, filtered_so, fit_rows, given_whole, no_key_error, none_fails, plans_are_whole, query_worth, rows_back, whole, whole_filtered, whole_fits, whole_of}
use Rattle.fx_plan.specs.Consumers.{AreTotalsOf, CountsAreValues, FirstsAreValues, FoundAreValues, ScansAreFirstRows, ScansAreValues, TotalsAreValues, over_query}
use Rattle.fx_plan.specs.Limited.{first_rows_of}
use Rattle.fx_plan.specs.Settings.{setting_around}
use Rattle.row_queries.specs.Answers.{table_or_fault}
use Rattle.row_queries.specs.declared.rows.Row.{Row}
use Rattle.row_queries.specs.declared.rows.RowList.{RowList}
use Rattle.row_queries.specs.Queries.{given_of, rows_or_fault}
use Rattle.row_queries.specs.RowTests.{Outcome, met, unmet, failed, all_outcome, and_outcome, is_met, outcome}
use Rattle.row_queries.specs.TableRows.{AreInIdOrder, IsRowOf, record_of_row, rows_table, values_of}

-- ---- scans

-- a scan answers the rows that are given
given_rows : (given : List Row) (f : Option Fault) (answer : RowList) → answer ≡ rows_or_fault given f → f ≡ None → (answer.rows ≡ given) × (answer.fault ≡ None)
given_rows given f answer e n =
    let is : answer ≡ rows_or_fault given None = e ∙ ap (rows_or_fault given) n in
    (ap (λ (x : RowList). x.rows) is, ap (λ (x : RowList). x.fault) is)

as_value : (t : TableShape) (answer : RowList) (rows : List Row) → answer.rows ≡ rows → answer.fault ≡ None → table_or_fault t answer.rows answer.fault ≡ rows_table t rows
as_value t answer rows e n = ap (table_or_fault t answer.rows) n ∙ ap (rows_table t) e

pub scans_are_values : IsTotalOrder order → ScansAreValues
scans_are_values total a ts t q s query rows answer p h =
    let g = plans_are_whole total a ts t q s None query rows h.0 p h.1 in
    let r = given_rows (given_of query h.0) _ answer h.2 g.sound in
    subst (IsValue (setting_around a) q) (sym (as_value t answer g.whole (r.0 ∙ g.given) r.1)) g.is_whole

pub scans_are_first_rows : IsTotalOrder order → ScansAreFirstRows
scans_are_first_rows total a ts t q s n query rows answer p h =
    let g = plans_are_whole total a ts t q s (Some n) query rows h.0 p h.1 in
    let r = given_rows (given_of query h.0) _ answer h.2 g.sound in
    let is : table_or_fault t answer.rows answer.fault ≡ tab (row_list (take n (map (record_of_row t) g.whole))) =
    as_value t answer (take n g.whole) (r.0 ∙ g.given) r.1 ∙ ap (λ rs. tab (row_list rs)) (sym (take-map (record_of_row t) n g.whole)) in
    subst (IsValue (setting_around a) (first_rows_of n q)) (sym is) (first_of_table (setting_around a) n q (map (record_of_row t) g.whole) g.is_whole)

-- ---- a function of the rows

-- what a function makes of the rows of a table is the call's value
made_over : (a : Around) (f : Fun) (q : Term) (cs : Terms) (rs : List Fields) (v : Data) → IsValue a q (tab (row_list rs)) → IsMade f rs (meanings cs) a v → IsValue a (over_query f q cs) v
made_over a f q cs rs v h m = (tab (row_list rs), h, subst (λ xs. IsMade f xs (meanings cs) a v) (sym (rows_back rs)) m)

mapped_long : {X Y : Type 0} (f : X → Y) (xs : List X) → length (map f xs) ≡ length xs
mapped_long f [] = refl
mapped_long f (x ∷ xs) = ap suc (mapped_long f xs)

pub counts_are_values : IsTotalOrder order → CountsAreValues
counts_are_values total a ts t q s query rows n v p h c =
    let g = plans_are_whole total a ts t q s None query rows h.0 p h.1 in
    let many : n ≡ length (map (record_of_row t) g.whole) = h.2 ∙ ap length g.given ∙ sym (mapped_long (record_of_row t) g.whole) in
    made_over (setting_around a) fun.CountRows q nil (map (record_of_row t) g.whole) v g.is_whole (subst (λ m. IsCountValue m v) many c)

first_alike : (t : TableShape) (xs : List Row) → first_row (map (record_of_row t) (take 1 xs)) ≡ first_row (map (record_of_row t) xs)
first_alike t [] = refl
first_alike t (x ∷ xs) = refl

pub firsts_are_values : IsTotalOrder order → FirstsAreValues
firsts_are_values total a ts t q s query rows answer p h =
    let g = plans_are_whole total a ts t q s (Some 1) query rows h.0 p h.1 in
    let r = given_rows (given_of query h.0) _ answer h.2 g.sound in
    let is : first_row (map (record_of_row t) answer.rows) ≡ first_row (map (record_of_row t) g.whole) = ap (λ xs. first_row (map (record_of_row t) xs)) (r.0 ∙ g.given) ∙ first_alike t g.whole in
    made_over (setting_around a) fun.First q nil (map (record_of_row t) g.whole) (first_row (map (record_of_row t) answer.rows)) g.is_whole is

-- ---- totals

abbrev Found : Option Data → (Data → Type 0) → Data → Type 0
Found o P v = MatchOption o (P v) (λ e. v ≡ e)

unless_found : (o : Option Data) (P : Data → Type 0) (v : Data) → o ≡ None → P v → Found o P v
unless_found o P v e h = subst (λ x. Found x P v) (sym e) h

-- what a function makes of the values of one formula for the rows
totalled : (t : TableShape) (a : Around) (q f : Term) (i : ℕ) (xs : List Row) → IsLawfulTable t → plain_column t (length a.rows) f ≡ Some i → AllByRecursion (IsRowOf t) xs → IsValue a q (rows_table t xs) →
    AreTotalsOf a q f (numbers_in (map (cell i) xs))
totalled t a q f i xs lawful e fit h = record {
  sum = λ v k. made_over a fun.SumRows q (cons f nil) rs v h (keys, each, unless_found (find is_error keys) (IsSumValue (numbers_in keys)) v none k);
  least = λ v k. made_over a fun.MinRows q (cons f nil) rs v h (keys, each, unless_found (find is_error keys) (IsNumberOrBlank (IsLeast (numbers_in keys))) v none k);
  greatest = λ v k. made_over a fun.MaxRows q (cons f nil) rs v h (keys, each, unless_found (find is_error keys) (IsNumberOrBlank (IsGreatest (numbers_in keys))) v none k);
  average = made_over a fun.AverageRows q (cons f nil) rs (number_or_blank (average_of (numbers_in keys))) h
      (keys, each, sym (ap (λ (o : Option Data). unwrap_or o (number_or_blank (average_of (numbers_in keys)))) none));
}
  where
    keys : List Data
    keys = map (cell i) xs

    rs : List Fields
    rs = map (record_of_row t) xs

    each : AreEach (meaning f) a (map (record_of_row t) xs) (map (cell i) xs)
    each = each_key t a f i lawful e xs fit

    none : find is_error (map (cell i) xs) ≡ None
    none = no_key_error t i xs fit

pub totals_are_values : IsTotalOrder order → TotalsAreValues
totals_are_values total a ts t q f s query rows column totals p e h =
    let g = plans_are_whole total a ts t q s None query rows h.0 p h.1 in (
      numbers_in (map (cell column) g.whole),
      subst (λ (xs : List Row). SumsUp (numbers_in (map (cell column) xs)) totals) g.given h.2,
      totalled t (setting_around a) q f column g.whole p.lawful (column_typed t (length a.rows) Number f column e).0 (recursion_from_All (IsRowOf t) g.whole g.fit) g.is_whole,
    )

-- ---- LookUp

one_met : (o : Outcome) → is_met (and_outcome o met) ≡ is_met o
one_met met = refl
one_met unmet = refl
one_met (failed k cs) = refl

-- what one condition gives for rows
record Raw (t : TableShape) (a : Around) (c : Term) (m : Row → Bool) (xs : List Row) : Type 0 where
  pub values : List Data
  pub each : AreEach (meaning c) a (map (record_of_row t) xs) values
  pub none : find is_error values ≡ None
  pub kept : kept_rows (map (record_of_row t) xs) values ≡ map (record_of_row t) (filter m xs)

kept_step : (t : TableShape) (r : Row) (v : Data) (xs : List Row) (vs : List Data) (m : Row → Bool) → holds v ≡ m r → kept_rows (map (record_of_row t) xs) vs ≡ map (record_of_row t) (filter m xs) →
    kept_rows (map (record_of_row t) (r ∷ xs)) (v ∷ vs) ≡ map (record_of_row t) (filter m (r ∷ xs))
kept_step t r v xs vs m e h =
    ap (λ (b : Bool). map (λ (p : Fields × Data). p.0) (cond b ((record_of_row t r, v) ∷ filter (λ (p : Fields × Data). holds p.1) (zip (map (record_of_row t) xs) vs)) (filter (λ (p : Fields × Data). holds p.1) (zip (map (record_of_row t) xs) vs)))) e
    ∙ by (m r) h
  where
    by : (b : Bool) → kept_rows (map (record_of_row t) xs) vs ≡ map (record_of_row t) (filter m xs) →
        map (λ (p : Fields × Data). p.0) (cond b ((record_of_row t r, v) ∷ filter (λ (p : Fields × Data). holds p.1) (zip (map (record_of_row t) xs) vs)) (filter (λ (p : Fields × Data). holds p.1) (zip (map (record_of_row t) xs) vs)))
        ≡ map (record_of_row t) (cond b (r ∷ filter m xs) (filter m xs))
    by true k = ap (λ ys. record_of_row t r ∷ ys) k
    by false k = k

module _ (total : IsTotalOrder order) (t : TableShape) (lawful : IsLawfulTable t) (a : Around) (d : Data) (vs : List Data) (rows : List Row)
    (ordered : AreInIdOrder rows) (fit : AllByRecursion (IsRowOf t) rows) (faultless : list_any is_fault vs ≡ false) where
  raw : (c : Term) (ds es : List Term) (o : Outline) → patterns_of t (length a.rows) (cons c nil) ds ≡ Some (o ∷ [], es) → HasConstants total t lawful a d vs rows ordered fit faultless es →
      (xs : List Row) → AllByRecursion (IsRowOf t) xs → Raw t a c (λ r. is_met (all_outcome (values_of r) (all_filled vs (outline_list (o ∷ []))))) xs
  raw c ds es o e w [] h = record { values = []; each = tt; none = refl; kept = refl }
  raw c ds es o e w (r ∷ xs) h =
      let rest = raw c ds es o e w xs h.1 in
      let one = ((patterns_test total t lawful a d vs r h.0 (cons c nil) ds (o ∷ []) es e).test w).0 in
      let came = outcome (values_of r) (filled vs o) in
      let q = sound_holds one.0 came (filled_sound t vs r faultless h.0 o) one.2 in
      record {
        values = one.0 ∷ rest.values;
        each = (one.1, rest.each);
        none = ap (λ (b : Bool). cond b (Some one.0) (find is_error rest.values)) q.0 ∙ rest.none;
        kept = kept_step t r one.0 xs rest.values (λ y. is_met (all_outcome (values_of y) (all_filled vs (outline_list (o ∷ []))))) (q.1 ∙ sym (one_met came)) rest.kept;
      }

-- the one pattern of one condition
one_pattern : (t : TableShape) (k : ℕ) (c : Term) (ds es : List Term) (os : List Outline) → patterns_of t k (cons c nil) ds ≡ Some (os, es) → (o : Outline) × (os ≡ o ∷ [])
one_pattern t k c ds es os e =
    let m = some_then (λ (p : Outline × List Term). option_map (in_front p.0) (patterns_of t k nil p.1)) (pattern_of t k c ds) (os, es) e in
    (m.0.0, sym (ap (λ (p : List Outline × List Term). p.0) (same_Some (in_front m.0.0 ([], m.0.1)) (os, es) m.2)))

pub found_are_values : IsTotalOrder order → FoundAreValues
found_are_values total a ts t q c s query rows answer p h = (
  made_over (setting_around a) fun.LookUp q (cons c nil) rs (first_row (map (record_of_row t) answer.rows)) inner (values.values, values.each, same),
  λ f v k. made_over (setting_around a) fun.LookUp q (cons c (cons f nil)) rs v inner (values.values, values.each, subst (λ (x : Data). IsOfFound x (meaning f) (setting_around a) v) same k),
)
  where
    k : ℕ
    k = length a.rows

    fits : AllByRecursion (IsRowOf t) rows
    fits = fit_rows t rows p.held

    m : (z : Sketch) × (sketch_of ts k q ≡ Some z) × (filter_sketch ts k (cons c nil) z ≡ Some s)
    m = some_then (filter_sketch ts k (cons c nil)) (sketch_of ts k q) s p.sketched

    f : IsFiltered total t p.lawful (setting_around a) p.place p.constants rows p.held.0 fits p.faultless (cons c nil) m.0 s
    f = filtered_so total t p.lawful (setting_around a) p.place p.constants rows p.held.0 fits p.faultless ts (cons c nil) m.0 s p.is_table m.2

    ready : IsReady total t p.lawful (setting_around a) p.place p.constants rows p.held.0 fits p.faultless ts (cons c nil) m.0 s f
    ready = filter_ready total t p.lawful (setting_around a) p.place p.constants rows p.held.0 fits p.faultless ts (cons c nil) m.0 s f p.is_table p.gives (values_worth (inside (setting_around a) p.place) s.constants p.constants p.values)

    xs : List Row
    xs = whole total t p.lawful (setting_around a) p.place p.constants rows p.held.0 fits p.faultless m.0

    rs : List Fields
    rs = map (record_of_row t) xs

    inner : IsValue (setting_around a) q (rows_table t xs)
    inner = query_worth total t p.lawful (setting_around a) p.place p.constants rows p.held.0 fits p.faultless ts q m.0 m.1 ready.there ready.gives ready.constants

    one : (o : Outline) × (f.outlines ≡ o ∷ [])
    one = one_pattern t k c m.0.constants f.extended f.outlines f.pattern

    values : Raw t (setting_around a) c (λ r. is_met (all_outcome (values_of r) (all_filled p.constants (outline_list (one.0 ∷ []))))) xs
    values =
        raw total t p.lawful (setting_around a) p.place p.constants rows p.held.0 fits p.faultless c m.0.constants f.extended one.0
        (subst (λ (os : List Outline). patterns_of t k (cons c nil) m.0.constants ≡ Some (os, f.extended)) one.1 f.pattern) ready.kept xs
        (whole_fits total t p.lawful (setting_around a) p.place p.constants rows p.held.0 fits p.faultless m.0)

    kept : filter (λ r. is_met (all_outcome (values_of r) (all_filled p.constants (outline_list (one.0 ∷ []))))) xs ≡ whole_of total a ts t (over_query fun.Filter q (cons c nil)) s (Some 1) query rows p
    kept =
        ap (λ (os : List Outline). filter (λ r. is_met (all_outcome (values_of r) (all_filled p.constants (outline_list os)))) xs) (sym one.1)
        ∙ whole_filtered total t p.lawful (setting_around a) p.place p.constants rows p.held.0 fits p.faultless (cons c nil) m.0 s f

    same : first_row (map (record_of_row t) answer.rows) ≡ looked_up rs values.values
    same =
        let r = given_rows (given_of query h.0) _ answer h.2 (none_fails total a ts t (over_query fun.Filter q (cons c nil)) s (Some 1) query rows h.0 p h.1) in
        ap (λ ys. first_row (map (record_of_row t) ys)) (r.0 ∙ given_whole total a ts t (over_query fun.Filter q (cons c nil)) s (Some 1) query rows h.0 p h.1)
        ∙ first_alike t (whole_of total a ts t (over_query fun.Filter q (cons c nil)) s (Some 1) query rows p) ∙ ap (λ ys. first_row (map (record_of_row t) ys)) (sym kept) ∙ ap first_row (sym values.kept)
        ∙ ap (λ (o : Option Data). unwrap_or o (first_row (kept_rows rs values.values))) (sym values.none)
