-- Calls over tables give values that fit.
use Rattle.std.proofs.Common.{◌≡◌, ℕ, suc, List, [], ◌∷◌, ◌++◌, length, map, flat_map, Bool, true, false, bytes_eq, if◌then◌else◌, Option, Some, None, Result, Ok, Err, refl, ap, sym, subst, ◌∙◌, arith}
use Rattle.std.specs.Prelude.{nat_eq, ◌%◌}
use Rattle.std.specs.List.{filter}
use Rattle.std.proofs.lemmas.Bool.{eq-eqb}
use Rattle.fx_types.specs.declared.faults.Fault.{Fault}
use Rattle.fx_types.specs.Types.{Shape, blanks, numbers, texts, booleans, dates, records, tables, ColumnList, no_columns, column}
use Rattle.fx_types.specs.Values.{Data}
use Rattle.fx_core.specs.Rows.{row_of}
use Rattle.fx_core.specs.declared.functions.Fun.{Fun}
use Rattle.fx_core.specs.declared.functions.Fun.TheVariants as fun
use Rattle.fx_core.specs.declared.rows.Takes.TheVariants as takes
use Rattle.fx_core.specs.SourceTypes.{put_column}
use Rattle.fx_tables.specs.AggregateCalls.{IsNumberOrBlank, IsSumValue, averaged, concatenated, concatenated_by}
use Rattle.fx_tables.specs.ColumnCalls.{renamed_columns, with_columns, without_columns}
use Rattle.fx_tables.specs.Ends.{emptiness_of, first_rows, last_of, last_rows}
use Rattle.fx_tables.specs.RowCalls.{CanBeRowType, holds, IsCountValue, distinct_or, filtered, first_row_record, for_all_of, looked_up}
use Rattle.fx_primitives.specs.Folds.{IsGreatest, IsLeast}
use Rattle.fx_value.specs.Aggregates.{numbers_in}
use Rattle.fx_value.specs.Columns.{Row, fields_only, rows_with_column}
use Rattle.fx_core.specs.Term.{Term, Terms, nil, cons, Top, over}
use Rattle.fx_typing.specs.Columns.{added, dropped, columns_shown, columns_renamed, grouped, ungrouped, label_of}
use Rattle.fx_core.specs.ColumnLists.{before_last, field_in, row_columns, value_column, with_new}
use Rattle.fx_typing.specs.WellTyped.{Context, PartScope, inside, standing_at, context_for, Stands, AllStand, typed_pairs, answered_type, as_table}
use Rattle.fx_typing.proofs.Operators.{then_ok}
use Rattle.fx_typing.specs.LawfulTypes.{AreLawfulColumns, IsLawfulType}
use Rattle.fx_tables.specs.Groups.{grouped_by, key_of, last_name, ungrouped_by, value_of}
use Rattle.fx_value.specs.Fits.{fits_in}
use Rattle.fx_scalar.specs.LazyForms.{ErrorOr}
use Rattle.fx_semantics.specs.Around.{Around, Meaning}
use Rattle.fx_semantics.specs.Fresh.{meaning, meanings}
use Rattle.fx_semantics.specs.Rows.{AreNew, IsConcat, IsMade, IsTableCall, TakesRows, OfEach, is_falling, rows_in, table_of}
use Rattle.fx_semantics.proofs.Branches.{differs}
use Rattle.fx_semantics.proofs.Columns.{SoMany, dropped_rows, fine, free_ok, label_ok, name_is, ok_is, renamed_rows, rises_of, shown_rows, with_column_fit}
use Rattle.fx_semantics.proofs.Fields.{fault_or_fits}
use Rattle.fx_semantics.proofs.Groups.{grouped_rows, ungrouped_rows}
use Rattle.fx_semantics.proofs.Forms.{error_or, given_fits}
use Rattle.fx_semantics.proofs.Parts.{Giving, stands, Suits, Holds, AllHold}
use Rattle.fx_semantics.proofs.Tables.{RowsFit, averaged_fits, concatenated_fits, count_fits, distinct_fits, each_fits, filtered_fits, first_error_fits, first_fits, first_some_fit, for_all_fits, found_fits, joined_by_fits, last_fits, last_some_fit, looked_up_fits, number_or_blank_fits, rows_in_fit, sort_fits, sum_fits, table_fits}

pub along : (u t : Shape) (v : Data) → fine u ≡ fine t → fits_in v u ≡ true → fits_in v t ≡ true
along u t v e f = let P : Shape → Type 0 = λ z. fits_in v z ≡ true in subst P (ok_is u t e) f

-- the table comes first
by_rows : (g : Giving) (c : Context) (rows : List Data) (item : Option Data) (caught : Option Fault) → Suits g c rows item →
    (P : Meaning) (cs : ColumnList) → Holds g c P (tables cs) → (M : List Row → Type 0) (v : Data) (t : Shape) →
    ((tr : List Row) → RowsFit cs tr → M tr → fits_in v t ≡ true) →
    (w : Data) × P (stands g rows item caught) w × ErrorOr w (M (rows_in w)) v → fits_in v t ≡ true
by_rows g c rows item caught s P cs k M v t go h =
    error_or h.0 (M (rows_in h.0)) v t (go (rows_in h.0) (rows_in_fit h.0 cs (k rows item caught h.0 s h.1))) h.2

of_each : (tr : List Row) (Ps : List Meaning) (a : Around) (R : List Data → Type 0) (X : Type 0) → ((ds : List Data) → R ds → X) → OfEach tr Ps a R → X
of_each tr [] a R X go h = absurd h
of_each tr (F ∷ []) a R X go h = go h.0 h.2
of_each tr (F ∷ G ∷ Ps) a R X go h = absurd h

some_taken : (cs : ColumnList) (taken : Option Data → Data) → ((count : Option Data) → fits_in (taken count) (tables cs) ≡ true) → (Ps : List Meaning) (a : Around) (v : Data) →
    TakesRows taken Ps a v → fits_in v (tables cs) ≡ true
some_taken cs taken k [] a v h = given_fits v (taken None) (tables cs) (k None) h
some_taken cs taken k (N ∷ []) a v h = given_fits v (taken (Some h.0)) (tables cs) (k (Some h.0)) h.2
some_taken cs taken k (N ∷ M ∷ Ps) a v h = absurd h

concat_fits : (tr : List Row) (Ps : List Meaning) (a : Around) (v : Data) → IsConcat tr Ps a v → fits_in v texts ≡ true
concat_fits tr [] a v h = absurd h
concat_fits tr (F ∷ []) a v h = given_fits v (concatenated [] h.0) texts (concatenated_fits [] h.0) h.2
concat_fits tr (F ∷ S ∷ []) a v h = given_fits v (concatenated_by h.1 h.0) texts (joined_by_fits h.1 h.0) h.4
concat_fits tr (F ∷ S ∷ P ∷ Ps) a v h = absurd h

no_table : (first common u : Shape) → Stands takes.RowFormula first common u → CanBeRowType u
no_table first common (tables cs) h = absurd h
no_table first common blanks h = tt
no_table first common numbers h = tt
no_table first common texts h = tt
no_table first common booleans h = tt
no_table first common dates h = tt
no_table first common (records cs) h = tt

so_many : (g : Giving) (c : Context) (h : Top) (n : ℕ) (done : List Shape) (ts : Terms) (us : List Shape) → AllHold g c h n done (meanings ts) us → SoMany ts us
so_many g c h n done nil [] k = tt
so_many g c h n done (cons t ts) (u ∷ us) k = so_many g c h n (done ++ u ∷ []) ts us k.1
so_many g c h n done nil (u ∷ us) k = absurd k
so_many g c h n done (cons t ts) [] k = absurd k

pub table_ok : (r : Result ColumnList ℕ) (t : Shape) → as_table r ≡ Ok t → (es : ColumnList) × (r ≡ Ok es) × (fine (tables es) ≡ fine t)
table_ok (Ok es) t e = (es, refl, e)
table_ok (Err n) t e = absurd cc

-- ---- AddColumns: each formula stands in the scope of a row of the table
length_more : (xs : List Shape) (x : Shape) → length (xs ++ x ∷ []) ≡ suc (length xs)
length_more [] x = refl
length_more (y ∷ xs) x = ap suc (length_more xs x)

formula_at : (n i : ℕ) → i % 2 ≡ 1 → standing_at (over fun.AddColumns) n (suc i) ≡ inside
formula_at n i e =
    let even : nat_eq (suc i % 2) 0 ≡ true = eq-eqb (suc i % 2) 0 (omega (arith, e)) in
    let first : nat_eq (suc i) 0 ≡ false = differs (suc i) 0 (λ q. omega (arith, q)) in
    let second : nat_eq (suc i) 1 ≡ false = differs (suc i) 1 (λ q. let z : i ≡ 0 = omega (arith, q) in let w : 0 % 2 ≡ 1 = subst (λ k. k % 2 ≡ 1) z e in omega (arith, w)) in
    rw (even, first, second) refl

added_rows : (g : Giving) (c : Context) (rows : List Data) (item : Option Data) (caught : Option Fault) → Suits g c rows item →
    (bs : ColumnList) (given : List Row) → RowsFit bs given → (n : ℕ) (more : List Shape) (ts : Terms) (us : List Shape) (cs es : ColumnList) (tr : List Row) (news : List (List ℕ × List Data)) →
    length (tables bs ∷ more) % 2 ≡ 1 → AllHold g c (over fun.AddColumns) n (tables bs ∷ more) (meanings ts) us →
    added (typed_pairs ts us) cs ≡ Ok es → RowsFit cs tr → AreNew given (meanings ts) (stands g rows item caught) news → RowsFit es (with_columns news tr)
added_rows g c rows item caught s bs given b n more nil [] cs es tr [] o k e h q = let P : ColumnList → Type 0 = λ z. RowsFit z tr in subst P (ok_is cs es e) h
added_rows g c rows item caught s bs given b n more (cons t (cons f ts)) (u ∷ w ∷ us) cs es tr (d ∷ news) o k e h q =
    let x = label_ok (label_of t) _ es e in
    let y = then_ok (with_new x.0 w cs) _ es x.2 in
    let z = free_ok (field_in x.0 cs) (put_column x.0 w cs) y.0 y.1 in
    let same : d.0 ≡ x.0 = name_is t (stands g rows item caught) x.0 d.0 x.1 q.0 in
    let place : standing_at (over fun.AddColumns) n (length ((tables bs ∷ more) ++ u ∷ [])) ≡ inside =
    ap (standing_at (over fun.AddColumns) n) (length_more (tables bs ∷ more) u) ∙ formula_at n (length (tables bs ∷ more)) o in
    let H : PartScope → Type 0 = λ st. Holds g (context_for st c ((tables bs ∷ more) ++ u ∷ [])) (meaning f) w in
    let fit = each_fits g c rows item caught s bs (meaning f) w (subst H place k.1.0) given d.1 b q.1 in
    let P : List ℕ → Type 0 = λ m. RowsFit (put_column x.0 w cs) (rows_with_column m tr d.1) in
    let R : ColumnList → Type 0 = λ m. RowsFit m (rows_with_column d.0 tr d.1) in
    added_rows g c rows item caught s bs given b n ((more ++ u ∷ []) ++ w ∷ []) ts us y.0 es (rows_with_column d.0 tr d.1) news
    (two_more (tables bs ∷ more) u w o) k.1.1 y.2
    (subst R z.1 (subst P (sym same) (with_column_fit x.0 w cs z.0 tr d.1 h fit))) q.2
  where
    two_more : (xs : List Shape) (x y : Shape) → length xs % 2 ≡ 1 → length ((xs ++ x ∷ []) ++ y ∷ []) % 2 ≡ 1
    two_more xs x y p =
        let l : length ((xs ++ x ∷ []) ++ y ∷ []) ≡ suc (suc (length xs)) = length_more (xs ++ x ∷ []) y ∙ ap suc (length_more xs x) in
        omega (arith, l, p)
added_rows g c rows item caught s bs given b n more nil [] cs es tr (d ∷ news) o k e h q = absurd q
added_rows g c rows item caught s bs given b n more (cons t nil) (u ∷ us) cs es tr [] o k e h q = absurd q
added_rows g c rows item caught s bs given b n more (cons t nil) (u ∷ us) cs es tr (d ∷ news) o k e h q = absurd q
added_rows g c rows item caught s bs given b n more (cons t (cons f ts)) (u ∷ w ∷ us) cs es tr [] o k e h q = absurd q
added_rows g c rows item caught s bs given b n more nil (u ∷ us) cs es tr news o k e h q = absurd k
added_rows g c rows item caught s bs given b n more (cons t ts) [] cs es tr news o k e h q = absurd k
added_rows g c rows item caught s bs given b n more (cons t (cons f ts)) (u ∷ []) cs es tr news o k e h q = absurd k.1

-- ---- each function, over a table of these columns
abbrev pub OverFits : Giving → Context → List Data → Option Data → Option Fault → Fun → Shape → Type 0
OverFits g c rows item caught f u =
    (n m : ℕ) (t0 : Term) (ts : Terms) (us : List Shape) (common t : Shape) →
    AllHold g c (over f) n [] (meaning t0 ∷ meanings ts) (u ∷ us) → AllStand (row_of f) m 1 u common us →
    answered_type (row_of f).answer common (typed_pairs (cons t0 ts) (u ∷ us)) ≡ Ok t →
    (v : Data) → IsTableCall f (meaning t0 ∷ meanings ts) (stands g rows item caught) v → fits_in v t ≡ true

look_fits : (g : Giving) (c : Context) (rows : List Data) (item : Option Data) (caught : Option Fault) → Suits g c rows item →
    (cs : ColumnList) → OverFits g c rows item caught fun.LookUp (tables cs)
look_fits g c rows item caught s cs n m t0 (cons t1 nil) (u ∷ []) common t k w e v h =
    by_rows g c rows item caught s (meaning t0) cs k.0 (λ tr. IsMade fun.LookUp tr (meaning t1 ∷ []) (stands g rows item caught) v) v t
    (λ tr rf q. along (records cs) t v e (given_fits v (looked_up tr q.0) (records cs) (looked_up_fits cs tr q.0 rf) q.2)) h
look_fits g c rows item caught s cs n m t0 (cons t1 (cons t2 nil)) (u ∷ u2 ∷ []) common t k w e v h =
    by_rows g c rows item caught s (meaning t0) cs k.0 (λ tr. IsMade fun.LookUp tr (meaning t1 ∷ meaning t2 ∷ []) (stands g rows item caught) v) v t
    (λ tr rf q. along u2 t v e (found_fits g c rows item caught s cs (meaning t2) u2 k.1.1.0 (looked_up tr q.0) v (looked_up_fits cs tr q.0 rf) q.2)) h
look_fits g c rows item caught s cs n m t0 nil us common t k w e v h =
    by_rows g c rows item caught s (meaning t0) cs k.0 (λ tr. IsMade fun.LookUp tr [] (stands g rows item caught) v) v t (λ tr rf q. absurd q) h
look_fits g c rows item caught s cs n m t0 (cons t1 (cons t2 (cons t3 ts))) us common t k w e v h =
    by_rows g c rows item caught s (meaning t0) cs k.0 (λ tr. IsMade fun.LookUp tr (meaning t1 ∷ meaning t2 ∷ meaning t3 ∷ meanings ts) (stands g rows item caught) v) v t (λ tr rf q. absurd q) h
look_fits g c rows item caught s cs n m t0 (cons t1 nil) [] common t k w e v h = absurd k.1
look_fits g c rows item caught s cs n m t0 (cons t1 nil) (u ∷ u2 ∷ us) common t k w e v h = absurd k.1.1
look_fits g c rows item caught s cs n m t0 (cons t1 (cons t2 nil)) [] common t k w e v h = absurd k.1
look_fits g c rows item caught s cs n m t0 (cons t1 (cons t2 nil)) (u ∷ []) common t k w e v h = absurd k.1.1
look_fits g c rows item caught s cs n m t0 (cons t1 (cons t2 nil)) (u ∷ u2 ∷ u3 ∷ us) common t k w e v h = absurd k.1.1.1

each_distinct : (g : Giving) (c : Context) (rows : List Data) (item : Option Data) (caught : Option Fault) → Suits g c rows item →
    (cs : ColumnList) → OverFits g c rows item caught fun.Distinct (tables cs)
each_distinct g c rows item caught s cs n m t0 (cons t1 nil) (u ∷ []) common t k w e v h =
    by_rows g c rows item caught s (meaning t0) cs k.0 (λ tr. IsMade fun.Distinct tr (meaning t1 ∷ []) (stands g rows item caught) v) v t
    (λ tr rf q. along (tables (value_column u)) t v e (given_fits v (distinct_or q.0) (tables (value_column u))
    (distinct_fits u q.0 (each_fits g c rows item caught s cs (meaning t1) u k.1.0 tr q.0 rf q.1)) q.2)) h
each_distinct g c rows item caught s cs n m t0 nil us common t k w e v h =
    by_rows g c rows item caught s (meaning t0) cs k.0 (λ tr. IsMade fun.Distinct tr [] (stands g rows item caught) v) v t (λ tr rf q. absurd q) h
each_distinct g c rows item caught s cs n m t0 (cons t1 (cons t2 ts)) us common t k w e v h =
    by_rows g c rows item caught s (meaning t0) cs k.0 (λ tr. IsMade fun.Distinct tr (meaning t1 ∷ meaning t2 ∷ meanings ts) (stands g rows item caught) v) v t (λ tr rf q. absurd q) h
each_distinct g c rows item caught s cs n m t0 (cons t1 nil) [] common t k w e v h = absurd k.1
each_distinct g c rows item caught s cs n m t0 (cons t1 nil) (u ∷ u2 ∷ us) common t k w e v h = absurd k.1.1

each_made : (g : Giving) (c : Context) (rows : List Data) (item : Option Data) (caught : Option Fault) → Suits g c rows item →
    (cs : ColumnList) → OverFits g c rows item caught fun.ForAll (tables cs)
each_made g c rows item caught s cs n m t0 (cons t1 nil) (u ∷ []) common t k w e v h =
    by_rows g c rows item caught s (meaning t0) cs k.0 (λ tr. IsMade fun.ForAll tr (meaning t1 ∷ []) (stands g rows item caught) v) v t
    (λ tr rf q. along (tables (row_columns u)) t v e (given_fits v (for_all_of q.0) (tables (row_columns u))
    (for_all_fits u q.0 (no_table (tables cs) common u w.0) (each_fits g c rows item caught s cs (meaning t1) u k.1.0 tr q.0 rf q.1)) q.2)) h
each_made g c rows item caught s cs n m t0 nil us common t k w e v h =
    by_rows g c rows item caught s (meaning t0) cs k.0 (λ tr. IsMade fun.ForAll tr [] (stands g rows item caught) v) v t (λ tr rf q. absurd q) h
each_made g c rows item caught s cs n m t0 (cons t1 (cons t2 ts)) us common t k w e v h =
    by_rows g c rows item caught s (meaning t0) cs k.0 (λ tr. IsMade fun.ForAll tr (meaning t1 ∷ meaning t2 ∷ meanings ts) (stands g rows item caught) v) v t (λ tr rf q. absurd q) h
each_made g c rows item caught s cs n m t0 (cons t1 nil) [] common t k w e v h = absurd k.1
each_made g c rows item caught s cs n m t0 (cons t1 nil) (u ∷ u2 ∷ us) common t k w e v h = absurd k.1.1

-- the columns of a column of tables are lawful
inner_lawful : (n : List ℕ) (cs ds : ColumnList) → AreLawfulColumns cs → field_in n cs ≡ Some (tables ds) → AreLawfulColumns ds
inner_lawful n no_columns ds l e = absurd cc
inner_lawful n (column m u cs) ds l e = by (bytes_eq m n) (λ q. inner_lawful n cs ds l.2 q) e
  where
    by : (b : Bool) → (field_in n cs ≡ Some (tables ds) → AreLawfulColumns ds) → (if b then Some u else field_in n cs) ≡ Some (tables ds) → AreLawfulColumns ds
    by true k q = let same : u ≡ tables ds = cc in subst IsLawfulType same l.1
    by false k q = k q

pub over_table : (g : Giving) (c : Context) (rows : List Data) (item : Option Data) (caught : Option Fault) → Suits g c rows item →
    (cs : ColumnList) → AreLawfulColumns cs → (f : Fun) → OverFits g c rows item caught f (tables cs)
over_table g c rows item caught s cs lawful fun.Filter n m t0 ts us common t k w e v h =
    by_rows g c rows item caught s (meaning t0) cs k.0 (λ tr. IsMade fun.Filter tr (meanings ts) (stands g rows item caught) v) v t
    (λ tr rf q. along (tables cs) t v e (given_fits v (filtered tr q.0) (tables cs) (filtered_fits cs tr q.0 rf) q.2)) h
over_table g c rows item caught s cs lawful fun.LookUp n m t0 ts us common t k w e v h = look_fits g c rows item caught s cs n m t0 ts us common t k w e v h
over_table g c rows item caught s cs lawful (fun.Sort o) n m t0 ts us common t k w e v h =
    by_rows g c rows item caught s (meaning t0) cs k.0 (λ tr. IsMade (fun.Sort o) tr (meanings ts) (stands g rows item caught) v) v t
    (λ tr rf q. along (tables cs) t v e (of_each tr (meanings ts) (stands g rows item caught) _ _ (λ ds z. sort_fits (is_falling o) cs tr ds v rf z) q)) h
over_table g c rows item caught s cs lawful fun.First n m t0 ts us common t k w e v h =
    by_rows g c rows item caught s (meaning t0) cs k.0 (λ tr. IsMade fun.First tr (meanings ts) (stands g rows item caught) v) v t
    (λ tr rf q. along (records cs) t v e (given_fits v (first_row_record tr) (records cs) (first_fits cs tr rf) q)) h
over_table g c rows item caught s cs lawful fun.Last n m t0 ts us common t k w e v h =
    by_rows g c rows item caught s (meaning t0) cs k.0 (λ tr. IsMade fun.Last tr (meanings ts) (stands g rows item caught) v) v t
    (λ tr rf q. along (records cs) t v e (given_fits v (last_of tr) (records cs) (last_fits cs tr rf) q)) h
over_table g c rows item caught s cs lawful fun.FirstN n m t0 ts us common t k w e v h =
    by_rows g c rows item caught s (meaning t0) cs k.0 (λ tr. IsMade fun.FirstN tr (meanings ts) (stands g rows item caught) v) v t
    (λ tr rf q. along (tables cs) t v e (some_taken cs (first_rows tr) (first_some_fit cs tr rf) (meanings ts) (stands g rows item caught) v q)) h
over_table g c rows item caught s cs lawful fun.LastN n m t0 ts us common t k w e v h =
    by_rows g c rows item caught s (meaning t0) cs k.0 (λ tr. IsMade fun.LastN tr (meanings ts) (stands g rows item caught) v) v t
    (λ tr rf q. along (tables cs) t v e (some_taken cs (last_rows tr) (last_some_fit cs tr rf) (meanings ts) (stands g rows item caught) v q)) h
over_table g c rows item caught s cs lawful fun.CountRows n m t0 ts us common t k w e v h =
    by_rows g c rows item caught s (meaning t0) cs k.0 (λ tr. IsMade fun.CountRows tr (meanings ts) (stands g rows item caught) v) v t
    (λ tr rf q. along numbers t v e (count_fits (length tr) v q)) h
over_table g c rows item caught s cs lawful fun.CountIf n m t0 ts us common t k w e v h =
    by_rows g c rows item caught s (meaning t0) cs k.0 (λ tr. IsMade fun.CountIf tr (meanings ts) (stands g rows item caught) v) v t
    (λ tr rf q. along numbers t v e (first_error_fits q.0 (IsCountValue (length (filter holds q.0))) v numbers (count_fits (length (filter holds q.0)) v) q.2)) h
over_table g c rows item caught s cs lawful fun.IsEmpty n m t0 ts us common t k w e v h =
    by_rows g c rows item caught s (meaning t0) cs k.0 (λ tr. IsMade fun.IsEmpty tr (meanings ts) (stands g rows item caught) v) v t
    (λ tr rf q. along booleans t v e (given_fits v (emptiness_of tr) booleans refl q)) h
over_table g c rows item caught s cs lawful fun.SumRows n m t0 ts us common t k w e v h =
    by_rows g c rows item caught s (meaning t0) cs k.0 (λ tr. IsMade fun.SumRows tr (meanings ts) (stands g rows item caught) v) v t
    (λ tr rf q. along numbers t v e (of_each tr (meanings ts) (stands g rows item caught) _ _ (λ ds z. first_error_fits ds (IsSumValue (numbers_in ds)) v numbers (sum_fits (numbers_in ds) v) z) q)) h
over_table g c rows item caught s cs lawful fun.MinRows n m t0 ts us common t k w e v h =
    by_rows g c rows item caught s (meaning t0) cs k.0 (λ tr. IsMade fun.MinRows tr (meanings ts) (stands g rows item caught) v) v t
    (λ tr rf q. along numbers t v e (of_each tr (meanings ts) (stands g rows item caught) _ _ (λ ds z. first_error_fits ds (IsNumberOrBlank (IsLeast (numbers_in ds))) v numbers (number_or_blank_fits (IsLeast (numbers_in ds)) v) z) q)) h
over_table g c rows item caught s cs lawful fun.MaxRows n m t0 ts us common t k w e v h =
    by_rows g c rows item caught s (meaning t0) cs k.0 (λ tr. IsMade fun.MaxRows tr (meanings ts) (stands g rows item caught) v) v t
    (λ tr rf q. along numbers t v e (of_each tr (meanings ts) (stands g rows item caught) _ _ (λ ds z. first_error_fits ds (IsNumberOrBlank (IsGreatest (numbers_in ds))) v numbers (number_or_blank_fits (IsGreatest (numbers_in ds)) v) z) q)) h
over_table g c rows item caught s cs lawful fun.AverageRows n m t0 ts us common t k w e v h =
    by_rows g c rows item caught s (meaning t0) cs k.0 (λ tr. IsMade fun.AverageRows tr (meanings ts) (stands g rows item caught) v) v t
    (λ tr rf q. along numbers t v e (of_each tr (meanings ts) (stands g rows item caught) _ _ (λ ds z. given_fits v (averaged ds) numbers (averaged_fits ds) z) q)) h
over_table g c rows item caught s cs lawful fun.AddColumns n m t0 ts us common t k w e v h =
    let r = table_ok (added (typed_pairs ts us) cs) t e in
    by_rows g c rows item caught s (meaning t0) cs k.0 (λ tr. IsMade fun.AddColumns tr (meanings ts) (stands g rows item caught) v) v t
    (λ tr rf q. along (tables r.0) t v r.2 (given_fits v (table_of (with_columns q.0 tr)) (tables r.0) (table_fits r.0 (with_columns q.0 tr)
    (added_rows g c rows item caught s cs tr rf n [] ts us cs r.0 tr q.0 refl k.1 r.1 rf q.1)) q.2)) h
over_table g c rows item caught s cs lawful fun.DropColumns n m t0 ts us common t k w e v h =
    let r = table_ok (dropped (typed_pairs ts us) cs) t e in
    by_rows g c rows item caught s (meaning t0) cs k.0 (λ tr. IsMade fun.DropColumns tr (meanings ts) (stands g rows item caught) v) v t
    (λ tr rf q. along (tables r.0) t v r.2 (given_fits v (table_of (without_columns q.0 tr)) (tables r.0)
    (dropped_rows (stands g rows item caught) ts us cs r.0 q.0 tr (so_many g c (over fun.DropColumns) n (tables cs ∷ []) ts us k.1) (rises_of cs lawful) r.1 q.1 (table_fits cs tr rf)) q.2)) h
over_table g c rows item caught s cs lawful fun.ShowColumns n m t0 ts us common t k w e v h =
    let r = table_ok (columns_shown (typed_pairs ts us) cs) t e in
    by_rows g c rows item caught s (meaning t0) cs k.0 (λ tr. IsMade fun.ShowColumns tr (meanings ts) (stands g rows item caught) v) v t
    (λ tr rf q. along (tables r.0) t v r.2 (given_fits v (table_of (map (fields_only q.0) tr)) (tables r.0)
    (shown_rows (stands g rows item caught) ts us cs r.0 q.0 tr (so_many g c (over fun.ShowColumns) n (tables cs ∷ []) ts us k.1) r.1 q.1 (table_fits cs tr rf)) q.2)) h
over_table g c rows item caught s cs lawful fun.RenameColumns n m t0 ts us common t k w e v h =
    let r = table_ok (columns_renamed (typed_pairs ts us) cs) t e in
    by_rows g c rows item caught s (meaning t0) cs k.0 (λ tr. IsMade fun.RenameColumns tr (meanings ts) (stands g rows item caught) v) v t
    (λ tr rf q. along (tables r.0) t v r.2 (given_fits v (table_of (renamed_columns q.0 tr)) (tables r.0) (table_fits r.0 (renamed_columns q.0 tr)
    (renamed_rows (stands g rows item caught) ts us cs r.0 q.0 tr (so_many g c (over fun.RenameColumns) n (tables cs ∷ []) ts us k.1) (rises_of cs lawful) r.1 q.1 rf)) q.2)) h
over_table g c rows item caught s cs lawful fun.GroupBy n m t0 ts us common t k w e v h =
    let r = table_ok (grouped (typed_pairs ts us) cs) t e in
    by_rows g c rows item caught s (meaning t0) cs k.0 (λ tr. IsMade fun.GroupBy tr (meanings ts) (stands g rows item caught) v) v t
    (λ tr rf q. along (tables r.0) t v r.2 (given_fits v (grouped_by q.0 tr) (tables r.0) (fault_or_fits (flat_map (key_of (before_last q.0)) tr) _ (tables r.0) (λ none.
    table_fits r.0 _ (grouped_rows (stands g rows item caught) ts us cs r.0 q.0 tr (so_many g c (over fun.GroupBy) n (tables cs ∷ []) ts us k.1) (rises_of cs lawful) r.1 q.1 rf))) q.2)) h
over_table g c rows item caught s cs lawful fun.Ungroup n m t0 ts us common t k w e v h =
    let r = table_ok (ungrouped (typed_pairs ts us) cs) t e in
    by_rows g c rows item caught s (meaning t0) cs k.0 (λ tr. IsMade fun.Ungroup tr (meanings ts) (stands g rows item caught) v) v t
    (λ tr rf q. along (tables r.0) t v r.2 (given_fits v (ungrouped_by q.0 tr) (tables r.0) (fault_or_fits (map (value_of (last_name q.0)) tr) _ (tables r.0) (λ none.
    table_fits r.0 _ (ungrouped_rows (stands g rows item caught) ts us cs r.0 q.0 tr (so_many g c (over fun.Ungroup) n (tables cs ∷ []) ts us k.1) (rises_of cs lawful)
    (λ x ds i. rises_of ds (inner_lawful x cs ds lawful i)) r.1 q.1 rf))) q.2)) h
over_table g c rows item caught s cs lawful fun.Distinct n m t0 ts us common t k w e v h = each_distinct g c rows item caught s cs n m t0 ts us common t k w e v h
over_table g c rows item caught s cs lawful fun.ForAll n m t0 ts us common t k w e v h = each_made g c rows item caught s cs n m t0 ts us common t k w e v h
over_table g c rows item caught s cs lawful fun.Concat n m t0 ts us common t k w e v h =
    by_rows g c rows item caught s (meaning t0) cs k.0 (λ tr. IsMade fun.Concat tr (meanings ts) (stands g rows item caught) v) v t
    (λ tr rf q. along texts t v e (concat_fits tr (meanings ts) (stands g rows item caught) v q)) h
over_table g c rows item caught s cs lawful f n m t0 ts us common t k w e v h = other_fits h
  where
    other_fits : (d : Data) × meaning t0 (stands g rows item caught) d × ErrorOr d ⊥ v → fits_in v t ≡ true
    other_fits q = error_or q.0 ⊥ v t (λ z. absurd z) q.2
