-- What a planned query gives are the rows of its query expression, layer by layer from the inside.
use Rattle.std.proofs.Common.{◌≡◌, ℕ, zero, suc, ◌≤◌, ◌+◌, List, [], ◌∷◌, length, map, get_or, Bool, true, false, Option, Some, None, refl, sym, ap, subst, ◌∙◌, cond, arith}
use Rattle.std.specs.Prelude.{◌&&◌, MatchOption, slice_get, option_map, unwrap_or, is_some, if◌then◌else◌}
use Rattle.std.specs.List.{AllByRecursion, filter, find, list_all, list_any, zip}
use Rattle.std.specs.List.Sorted.{IsPermutation, IsSortedBy, ties}
use Rattle.std.specs.Cmp.{IsTotalOrder}
use Rattle.std.specs.Ordering.{is_lt, nat_cmp, ordering_then}
use Rattle.std.specs.declared.cmp.Ordering.{Ordering}
use Rattle.std.specs.declared.cmp.Ordering.TheVariants.{Less, Equal, Greater}
use Rattle.std.proofs.lemmas.List.Elements.{All-from_recursion, filter_agree, recursion_from_All}
use Rattle.std.proofs.lemmas.List.Sorted.{All-permutation, IsPermutation-map}
use Rattle.std.proofs.lemmas.Option.{same_Some}
use Rattle.fx_types.specs.TypeView.{shape}
use Rattle.fx_types.specs.Types.{Shape, numbers}
use Rattle.fx_types.specs.Values.{Data, blank, boolean, tab, fault, field_list, row_list}
use Rattle.fx_plan.specs.declared.plans.Sketch.{Sketch}
use Rattle.fx_plan.specs.Outlines.{Outline, all_filled, filled, always, all_of, outline_list}
use Rattle.fx_plan.specs.Plans.{IsReachBy, is_fault, reach_in}
use Rattle.fx_plan.specs.QueryExpressions.{patterns_behind, filter_sketch, is_falling, patterns_of, plain_column, sketch_of, sorted, sorted_by}
use Rattle.fx_plan.specs.Ranges.{AreSought, IsReach, IsReachOn, column_type, comparisons, everything, is_sought, reached_column}
use Rattle.fx_plan.proofs.Missed.{no_row_is_missed}
use Rattle.fx_semantics.specs.Around.{Around, AreEach, AreValues, inside}
use Rattle.fx_semantics.specs.Fresh.{IsValue, meaning, meanings}
use Rattle.fx_semantics.specs.Rows.{IsConjunction, fields_of, rows_of}
use Rattle.fx_semantics.specs.Rows.{is_falling as falls}
use Rattle.fx_value.proofs.RowOrders.{directed_total, filter_seen, sorted_seen}
use Rattle.fx_value.specs.Columns.{Row as Fields}
use Rattle.fx_value.specs.Ordered.{IsOrderedBy, directed}
use Rattle.fx_tables.specs.RowCalls.{IsTableBy, holds, kept_rows}
use Rattle.fx_tables.specs.RowCalls.{filtered as filtered_rows}
use Rattle.fx_tables.specs.Unions.{is_fault as is_error}
use Rattle.fx_core.specs.declared.functions.Fun.TheVariants as fun
use Rattle.fx_core.specs.declared.literals.SortOrder.{SortOrder}
use Rattle.fx_core.specs.declared.literals.SortOrder.TheVariants.{Ascending, Descending}
use Rattle.fx_core.specs.declared.schema.Column.{Column}
use Rattle.fx_core.specs.declared.schema.TableShape.{TableShape}
use Rattle.fx_core.specs.declared.sources.Source.TheVariants as source
use Rattle.fx_core.specs.Lawful.{IsLawfulTable}
use Rattle.fx_core.specs.Term.{Term, Terms, of, nil, cons, all}
use Rattle.fx_core.specs.Term as top
use Rattle.fx_value.specs.Fits.{fits_in}
use Rattle.fx_value.specs.Keys.{IsProper, key_bytes}
use Rattle.fx_value.specs.Order.{IsScalar, order}
use Rattle.fx_plan.proofs.Arranged.{Holds, Rises, also_all, arranged_same, before, filter_twice, filter_whole, holds_agree, holds_all, holds_filter, holds_moved, in_order, in_order_holds, in_order_sorted, in_own_order, kept_sorted, rises_of, same_rows, sorted_of}
use Rattle.fx_plan.proofs.Placing.{any_type, in_front, some_map, some_then}
use Rattle.fx_plan.proofs.Sound.{IsSound, filled_sound, none_failed, sound_holds}
use Rattle.fx_plan.proofs.Testing.{AllWorth, Worth, column_value, patterns_test, value_scalar, values_worth}
use Rattle.fx_plan.specs.Settings.{EvalSetting, setting_around}
use Rattle.fx_plan.specs.TestValues.{in_scope}
use Rattle.fx_plan.specs.Wholes.{IsPlanned, PlansAreWhole}
use Rattle.row_queries.specs.Conditions.{Condition}
use Rattle.row_queries.specs.declared.queries.Query.{Query}
use Rattle.row_queries.specs.declared.ranges.KeyRange.{KeyRange}
use Rattle.row_queries.specs.declared.rows.Row.{Row}
use Rattle.row_queries.specs.Queries.{AreAsked, first_outcome_fault, first_of, given_of, lies, outcome_on}
use Rattle.row_queries.specs.Ranges.{in_ranges}
use Rattle.row_queries.specs.RowTests.{Outcome, met, unmet, failed, all_outcome, and_outcome, is_met, outcome}
use Rattle.row_queries.specs.TableRows.{AreCellsOf, AreHeldRows, AreInIdOrder, IsHeldRow, IsRowOf, record_of_row, rows_table, values_of}
use Rattle.row_queries.specs.TableRows.{value_at as value_in_row}
use Rattle.row_queries.proofs.Asked.{is_tie, passed, passing}

-- ---- tables and their rows

fields_back : (fs : Fields) → fields_of (field_list fs) ≡ fs
fields_back [] = refl
fields_back (f ∷ fs) = ap (λ xs. f ∷ xs) (fields_back fs)

pub rows_back : (rs : List Fields) → rows_of (row_list rs) ≡ rs
rows_back [] = refl
rows_back (r ∷ rs) = λ i. fields_back r i ∷ rows_back rs i

-- a row of blanks
blanks : List Column → List Data
blanks [] = []
blanks (c ∷ cs) = blank ∷ blanks cs

blanks_fit : (cs : List Column) → AreCellsOf cs (blanks cs)
unfolding blanks
blanks_fit [] = tt
blanks_fit (c ∷ cs) = (tt, refl, blanks_fit cs)

pub blank_row : TableShape → Row
blank_row t = record { id = 1; cells = blanks t.columns }

pub blank_row_fits : (t : TableShape) → IsRowOf t (blank_row t)
unfolding blank_row
blank_row_fits t = (omega arith, blanks_fit t.columns)

-- ---- Booleans of conditions

and_met : (o p : Outcome) → is_met (and_outcome o p) ≡ (is_met o && is_met p)
and_met met p = refl
and_met unmet p = refl
and_met (failed k cs) p = refl

module _ {X : Type 0} (m : X → Bool) where
  no_error_found : (xs : List X) → find is_error (map (λ x. boolean (m x)) xs) ≡ None
  no_error_found [] = refl
  no_error_found (x ∷ xs) = no_error_found xs

  kept_by : (f : X → Fields) (xs : List X) → kept_rows (map f xs) (map (λ x. boolean (m x)) xs) ≡ map f (filter m xs)
  kept_by f [] = refl
  kept_by f (x ∷ xs) = by (m x) (kept_by f xs)
    where
      by : (b : Bool) → kept_rows (map f xs) (map (λ y. boolean (m y)) xs) ≡ map f (filter m xs) →
          map (λ (p : Fields × Data). p.0) (cond b ((f x, boolean (m x)) ∷ filter (λ (p : Fields × Data). holds p.1) (zip (map f xs) (map (λ y. boolean (m y)) xs)))
          (filter (λ (p : Fields × Data). holds p.1) (zip (map f xs) (map (λ y. boolean (m y)) xs)))) ≡ map f (cond b (x ∷ filter m xs) (filter m xs))
      by true h = ap (λ ys. f x ∷ ys) h
      by false h = h

  filtered_by : (f : X → Fields) (xs : List X) → filtered_rows (map f xs) (map (λ x. boolean (m x)) xs) ≡ tab (row_list (map f (filter m xs)))
  filtered_by f xs =
      ap (λ (o : Option Data). unwrap_or o (tab (row_list (kept_rows (map f xs) (map (λ x. boolean (m x)) xs))))) (no_error_found xs)
      ∙ ap (λ rs. tab (row_list rs)) (kept_by f xs)

module _ {X Y Z : Type 0} (f : X → Y) (g : X → Z) where
  zip_pairs : (xs : List X) → zip (map f xs) (map g xs) ≡ map (λ x. (f x, g x)) xs
  zip_pairs [] = refl
  zip_pairs (x ∷ xs) = ap (λ ps. (f x, g x) ∷ ps) (zip_pairs xs)

  seconds : (xs : List X) → map g xs ≡ map (λ (p : Y × Z). p.1) (map (λ x. (f x, g x)) xs)
  seconds [] = refl
  seconds (x ∷ xs) = ap (λ zs. g x ∷ zs) (seconds xs)

first_less : (o p : Ordering) → is_lt (ordering_then o p) ≡ false → is_lt o ≡ false
first_less Less p e = e
first_less Equal p e = refl
first_less Greater p e = refl

same_falls : (o : SortOrder) → is_falling o ≡ falls o
same_falls Ascending = refl
same_falls Descending = refl

-- ---- a cell by its column's number

cell_fits : (cs : List Column) (ds : List Data) (k : ℕ) (u : Shape) → AreCellsOf cs ds → option_map (λ (c : Column). shape c.ty) (slice_get cs k) ≡ Some u → fits_in (unwrap_or (slice_get ds k) blank) u ≡ true
cell_fits [] ds k u h e = absurd cc
cell_fits (c ∷ cs) [] k u h e = absurd h
cell_fits (c ∷ cs) (d ∷ ds) zero u h e = subst (λ s. fits_in d s ≡ true) (same_Some (shape c.ty) u e) h.1
cell_fits (c ∷ cs) (d ∷ ds) (suc k) u h e = cell_fits cs ds k u h.2 e

value_fits : (t : TableShape) (r : Row) (k : ℕ) (u : Shape) → IsRowOf t r → column_type t k ≡ Some u → fits_in (value_in_row (values_of r) k) u ≡ true
value_fits t r zero u h e = let q : numbers ≡ u = same_Some numbers u e in subst (λ s. fits_in (value_in_row (values_of r) zero) s ≡ true) q refl
value_fits t r (suc k) u h e = cell_fits t.columns r.cells k u h.1 e

proper_at : (ds : List Data) (k : ℕ) → AllByRecursion IsProper ds → IsProper (unwrap_or (slice_get ds k) blank)
proper_at [] k h = tt
proper_at (d ∷ ds) zero h = h.0
proper_at (d ∷ ds) (suc k) h = proper_at ds k h.1

-- ---- ranges

holds_key : (key : List ℕ) → in_ranges everything key ≡ true
holds_key [] = refl
holds_key (c ∷ cs) = refl

met_lies : (t : TableShape) (test : Condition) (query : Query) (r : Row) → query.column ≤ length t.columns → IsReach t test (reach_in query) → IsRowOf t r → AllByRecursion IsProper (values_of r) →
    outcome (values_of r) test ≡ met → lies query r ≡ true
met_lies t test query r within reach own proper e = by (reached_column t test) reach
  where
    value : Data
    value = value_in_row (values_of r) query.column

    by : (o : Option ℕ) → IsReachOn o t test (reach_in query) → in_ranges query.ranges (key_bytes value) ≡ true
    by None h = ap (λ (rs : List KeyRange). in_ranges rs (key_bytes value)) h.1 ∙ holds_key (key_bytes value)
    by (Some k) h =
        let there = any_type t query.column within in
        let sought : AreSought there.0 (comparisons k test) query.ranges = h.1 there.0 (subst (λ (n : ℕ). column_type t n ≡ Some there.0) h.0 there.1) in
        sought value (value_scalar t r query.column own) (proper_at (values_of r) query.column proper) (value_fits t r query.column there.0 own there.1)
        ∙ ap (λ (n : ℕ). is_sought there.0 (comparisons n test) value) (sym h.0)
        ∙ no_row_is_missed there.0 query.column test (values_of r) e

-- ---- keys

abbrev pub cell : ℕ → Row → Data
cell i r = value_in_row (values_of r) i

pub each_key : (t : TableShape) (a : Around) (f : Term) (i : ℕ) → IsLawfulTable t → plain_column t (length a.rows) f ≡ Some i → (xs : List Row) → AllByRecursion (IsRowOf t) xs →
    AreEach (meaning f) a (map (record_of_row t) xs) (map (cell i) xs)
each_key t a f i l e [] h = tt
each_key t a f i l e (r ∷ xs) h = (column_value t a r f i l h.0 e, each_key t a f i l e xs h.1)

scalar_no_error : (v : Data) → IsScalar v → is_error v ≡ false
scalar_no_error (fault j cs) s = absurd s
scalar_no_error v s = refl

pub no_key_error : (t : TableShape) (i : ℕ) (xs : List Row) → AllByRecursion (IsRowOf t) xs → find is_error (map (cell i) xs) ≡ None
no_key_error t i [] h = refl
no_key_error t i (r ∷ xs) h = ap (λ (b : Bool). cond b (Some (cell i r)) (find is_error (map (cell i) xs))) (scalar_no_error (cell i r) (value_scalar t r i h.0)) ∙ no_key_error t i xs h.1

-- ---- the layers
module _ (total : IsTotalOrder order) (t : TableShape) (lawful : IsLawfulTable t) (a : Around) (d : Data) (vs : List Data) (rows : List Row)
    (ordered : AreInIdOrder rows) (fit : AllByRecursion (IsRowOf t) rows) (faultless : list_any is_fault vs ≡ false) where
  abbrev k : ℕ
  k = length a.rows

  abbrev pub passes : Outline → Row → Bool
  passes o r = is_met (outcome (values_of r) (filled vs o))

  abbrev pub all_pass : List Outline → Row → Bool
  all_pass os r = is_met (all_outcome (values_of r) (all_filled vs (outline_list os)))

  -- the rows of a sketch
  abbrev pub whole : Sketch → List Row
  whole s = filter (passes s.test) (in_order s.order rows)

  ordered_fit : (o : Option (ℕ × Bool)) → AllByRecursion (IsRowOf t) (in_order o rows)
  ordered_fit o = recursion_from_All (IsRowOf t) (in_order o rows) (All-permutation (IsRowOf t) rows (in_order o rows) (arranged_same (before o) rows) (All-from_recursion (IsRowOf t) rows fit))

  pub whole_fits : (s : Sketch) → AllByRecursion (IsRowOf t) (whole s)
  whole_fits s = passing (IsRowOf t) (passes s.test) (in_order s.order rows) (ordered_fit s.order)

  whole_holds : (s : Sketch) → Holds rows (passes s.test) (whole s)
  whole_holds s = holds_filter rows (in_order s.order rows) (λ r. true) (passes s.test) (in_order_holds s.order rows rows (λ r. true) (holds_all rows ordered))

  whole_sorted : (s : Sketch) → IsSortedBy (before s.order) (whole s)
  whole_sorted s = kept_sorted total s.order (passes s.test) (in_order s.order rows) (in_order_sorted total s.order rows)

  -- ---- Filter

  record Verdict (cs : Terms) (os : List Outline) (r : Row) : Type 0 where
    pub values : List Data
    pub are : AreValues (meanings cs) (in_scope a t r) values
    pub none : find is_error values ≡ None
    pub all : list_all holds values ≡ all_pass os r

  verdict : (r : Row) (own : IsRowOf t r) (cs : Terms) (os : List Outline) → AllWorth total t lawful a d vs r own cs os → Verdict cs os r
  verdict r own nil [] h = record { values = []; are = tt; none = refl; all = refl }
  verdict r own (cons c cs) (o ∷ os) h =
      let rest = verdict r own cs os h.1 in
      let v = h.0.0 in
      let came = outcome (values_of r) (filled vs o) in
      let q = sound_holds v came (filled_sound t vs r faultless own o) h.0.2 in
      record {
        values = v ∷ rest.values;
        are = (h.0.1, rest.are);
        none = ap (λ (b : Bool). cond b (Some v) (find is_error rest.values)) q.0 ∙ rest.none;
        all = ap (λ (b : Bool). b && list_all holds rest.values) q.1 ∙ ap (λ (b : Bool). is_met came && b) rest.all
            ∙ sym (and_met came (all_outcome (values_of r) (all_filled vs (outline_list os))));
      }
  verdict r own nil (o ∷ os) h = absurd h
  verdict r own (cons c cs) [] h = absurd h

  verdict_is : (r : Row) (cs : Terms) (os : List Outline) → Verdict cs os r → IsConjunction (meanings cs) (in_scope a t r) (boolean (all_pass os r))
  verdict_is r cs os v = (
    v.values,
    v.are,
    sym (ap (λ (o : Option Data). unwrap_or o (boolean (list_all holds v.values))) v.none ∙ ap boolean v.all),
  )

  each_verdict : (cs : Terms) (ds es : List Term) (os : List Outline) → patterns_of t k cs ds ≡ Some (os, es) → Worth total t lawful a d vs (blank_row t) (blank_row_fits t) es →
      (xs : List Row) → AllByRecursion (IsRowOf t) xs → AreEach (IsConjunction (meanings cs)) a (map (record_of_row t) xs) (map (λ r. boolean (all_pass os r)) xs)
  each_verdict cs ds es os e w [] h = tt
  each_verdict cs ds es os e w (r ∷ xs) h =
      (verdict_is r cs os (verdict r h.0 cs os ((patterns_test total t lawful a d vs r h.0 cs ds os es e).test w)), each_verdict cs ds es os e w xs h.1)

  filter_worth : (q : Term) (cs : Terms) (ds es : List Term) (os : List Outline) (xs : List Row) → patterns_of t k cs ds ≡ Some (os, es) → Worth total t lawful a d vs (blank_row t) (blank_row_fits t) es →
      AllByRecursion (IsRowOf t) xs → IsValue a q (rows_table t xs) → IsValue a (of (top.over fun.Filter) (cons q cs)) (rows_table t (filter (all_pass os) xs))
  filter_worth q cs ds es os xs e w h v =
      let Made : List Fields → Type 0 = λ rs. (us : List Data) × AreEach (IsConjunction (meanings cs)) a rs us × (rows_table t (filter (all_pass os) xs) ≡ filtered_rows rs us) in
      let made : Made (map (record_of_row t) xs) = (map (λ r. boolean (all_pass os r)) xs, each_verdict cs ds es os e w xs h, sym (filtered_by (all_pass os) (record_of_row t) xs)) in
      (rows_table t xs, v, subst Made (sym (rows_back (map (record_of_row t) xs))) made)

  -- ---- Sort

  abbrev keyed : ℕ → Row → Data × Fields
  keyed i r = (cell i r, record_of_row t r)

  abbrev key_before : Bool → Data × Fields → Data × Fields → Bool
  key_before down p q = is_lt (directed down p.0 q.0)

  -- among rows whose keys tie the order is that of their numbers
  tied_keys : (down : Bool) (x y z : Data) → ties (λ (p q : Data). is_lt (directed down p q)) x y ≡ true → ties (λ (p q : Data). is_lt (directed down p q)) x z ≡ true → directed down y z ≡ Equal
  tied_keys down x y z e g =
      let T = directed_total total down in
      sym (T.congr x y z (is_tie T x y e)) ∙ is_tie T x z g

  number_rises : (i : ℕ) (down : Bool) (x : Data) (zs : List Row) → AllByRecursion (λ r. ties (λ (p q : Data). is_lt (directed down p q)) x (cell i r) ≡ true) zs →
      Rises (before (Some (i, down))) zs → Rises (before None) zs
  number_rises i down x [] h r = tt
  number_rises i down x (y ∷ []) h r = tt
  number_rises i down x (y ∷ z ∷ zs) h r = (
    sym (ap (λ (o : Ordering). is_lt (ordering_then o (nat_cmp z.id y.id))) (tied_keys down x (cell i z) (cell i y) h.1.0 h.0)) ∙ r.0,
    number_rises i down x (z ∷ zs) h.1 r.1,
  )

  all_pass_it : (p : Row → Bool) (xs : List Row) → AllByRecursion (λ r. p r ≡ true) (filter p xs)
  all_pass_it p xs = passed (λ r. Unit {0}) (λ r. p r ≡ true) p (λ r e u. e) xs (units xs)
    where
      units : (ys : List Row) → AllByRecursion (λ r. Unit {0}) ys
      units [] = tt
      units (y ∷ ys) = (tt, units ys)

  module _ (s : Sketch) (none : s.order ≡ None) (i : ℕ) (down : Bool) where
    abbrev sort : Sketch
    sort = record s { order = Some (i, down) }

    plain_sorted : IsSortedBy (before None) (whole s)
    plain_sorted = subst (λ (o : Option (ℕ × Bool)). IsSortedBy (before o) (whole s)) none (whole_sorted s)

    moved : IsPermutation (whole s) (whole sort)
    moved =
        let same : in_order (Some (i, down)) (whole s) ≡ whole sort =
        same_rows total (Some (i, down)) rows (in_order (Some (i, down)) (whole s)) (whole sort) (passes s.test) (in_order_holds (Some (i, down)) rows (whole s) (passes s.test) (whole_holds s)) (whole_holds sort)
        (in_order_sorted total (Some (i, down)) (whole s)) (whole_sorted sort) in
        subst (IsPermutation (whole s)) same (arranged_same (before (Some (i, down))) (whole s))

    ties_stay : (x : Data) → filter (λ r. ties (λ (p q : Data). is_lt (directed down p q)) x (cell i r)) (whole sort) ≡ filter (λ r. ties (λ (p q : Data). is_lt (directed down p q)) x (cell i r)) (whole s)
    ties_stay x =
        let h : Row → Bool = λ r. ties (λ (p q : Data). is_lt (directed down p q)) x (cell i r) in
        same_rows total None rows (filter h (whole sort)) (filter h (whole s)) (λ r. passes s.test r && h r) (holds_filter rows (whole sort) (passes s.test) h (whole_holds sort)) (holds_filter rows (whole s) (passes s.test) h (whole_holds s))
        (sorted_of (before None) (filter h (whole sort))
        (number_rises i down x (filter h (whole sort)) (all_pass_it h (whole sort)) (rises_of (before (Some (i, down))) (filter h (whole sort)) (kept_sorted total (Some (i, down)) h (whole sort) (whole_sorted sort)))))
        (kept_sorted total None h (whole s) plain_sorted)

    sort_ordered : IsOrderedBy down (map (cell i) (whole s)) (map (record_of_row t) (whole s)) (map (record_of_row t) (whole sort))
    sort_ordered =
        let zipped = zip_pairs (cell i) (record_of_row t) (whole s) in
        record {
          pairs = map (keyed i) (whole sort);
          rearranged = subst (λ (ps : List (Data × Fields)). IsPermutation ps (map (keyed i) (whole sort))) (sym zipped) (IsPermutation-map (keyed i) (whole s) (whole sort) moved);
          sorted = sorted_seen (keyed i) (key_before down) (whole sort)
              (λ n e low high. first_less (directed down (cell i (get_or (whole sort) (n + 1) e)) (cell i (get_or (whole sort) n e))) (nat_cmp (get_or (whole sort) (n + 1) e).id (get_or (whole sort) n e).id) (whole_sorted sort n e low high));
          stable = λ p.
              filter_seen (keyed i) (ties (key_before down) p) (whole sort) ∙ ap (map (keyed i)) (ties_stay p.0) ∙ sym (filter_seen (keyed i) (ties (key_before down) p) (whole s))
              ∙ ap (filter (ties (key_before down) p)) (sym zipped);
          result = seconds (cell i) (record_of_row t) (whole sort);
        }

    sort_worth : (q f : Term) (o : SortOrder) → falls o ≡ down → plain_column t k f ≡ Some i → IsValue a q (rows_table t (whole s)) →
        IsValue a (of (top.over (fun.Sort o)) (cons q (cons f nil))) (rows_table t (whole sort))
    sort_worth q f o g e v =
        let Found : Bool → List Fields → List Data → Option Data → Type 0 = λ b rs keys found. MatchOption found (IsTableBy b keys rs (rows_table t (whole sort))) (λ (x : Data). rows_table t (whole sort) ≡ x) in
        let Made : List Fields → Type 0 = λ rs. (keys : List Data) × AreEach (meaning f) a rs keys × Found (falls o) rs keys (find is_error keys) in
        let keys = map (cell i) (whole s) in
        let by_keys : Found (falls o) (map (record_of_row t) (whole s)) keys None =
        subst (λ (b : Bool). Found b (map (record_of_row t) (whole s)) keys None) (sym g) (map (record_of_row t) (whole sort), refl, sort_ordered) in
        let made : Made (map (record_of_row t) (whole s)) = (
          keys,
          each_key t a f i lawful e (whole s) (whole_fits s),
          subst (Found (falls o) (map (record_of_row t) (whole s)) keys) (sym (no_key_error t i (whole s) (whole_fits s))) by_keys,
        ) in
        (rows_table t (whole s), v, subst Made (sym (rows_back (map (record_of_row t) (whole s)))) made)

  -- ---- query expressions

  abbrev pub HasConstants : List Term → Type 0
  HasConstants cs = Worth total t lawful a d vs (blank_row t) (blank_row_fits t) cs

  -- all rows of the table
  table_worth : (s : Sketch) → s.test ≡ always → s.order ≡ None → whole s ≡ rows
  table_worth s e o =
      ap (λ (p : Outline). filter (passes p) (in_order s.order rows)) e ∙ ap (λ (x : Option (ℕ × Bool)). filter (passes always) (in_order x rows)) o
      ∙ filter_whole (passes always) (in_order None rows) (λ r. refl) ∙ in_own_order total rows ordered

  pub more_passes : (s : Sketch) (os : List Outline) (es : List Term) → filter (all_pass os) (whole s) ≡ whole (record s { test = all_of (outline_list (s.test ∷ os)); constants = es })
  more_passes s os es =
      filter_twice (passes s.test) (all_pass os) (in_order s.order rows)
      ∙ filter_agree (λ r. passes s.test r && all_pass os r) (λ r. is_met (and_outcome (outcome (values_of r) (filled vs s.test)) (all_outcome (values_of r) (all_filled vs (outline_list os)))))
      (λ r. sym (and_met (outcome (values_of r) (filled vs s.test)) (all_outcome (values_of r) (all_filled vs (outline_list os))))) (in_order s.order rows)

  -- what is known of the query expression inside
  abbrev Inside : List TableShape → Term → Sketch → Type 0
  Inside ts q s = slice_get ts s.table ≡ Some t → a.gives (source.Table s.table) (rows_table t rows) → HasConstants s.constants → IsValue a q (rows_table t (whole s))

  -- a filter's sketch, from that of its rows
  pub record IsFiltered (cs : Terms) (s z : Sketch) : Type 0 where
    pub outlines : List Outline
    pub extended : List Term
    pub pattern : patterns_of t k cs s.constants ≡ Some (outlines, extended)
    pub is : record s { test = all_of (outline_list (s.test ∷ outlines)); constants = extended } ≡ z

  pub filtered_so : (ts : List TableShape) (cs : Terms) (s z : Sketch) → slice_get ts z.table ≡ Some t → filter_sketch ts k cs s ≡ Some z → IsFiltered cs s z
  filtered_so ts cs s z there e =
      let With : List Outline × List Term → Sketch = λ p. record s { test = all_of (outline_list p.0); constants = p.1 } in
      let m = some_then (λ (u : TableShape). option_map With (patterns_behind (s.test ∷ []) (patterns_of u k cs s.constants))) (slice_get ts s.table) z e in
      let n = some_map With (patterns_behind (s.test ∷ []) (patterns_of m.0 k cs s.constants)) z m.2 in
      let b = some_map (in_front s.test) (patterns_of m.0 k cs s.constants) n.0 n.1 in
      let is : With (s.test ∷ b.0.0, b.0.1) ≡ z = ap With b.2 ∙ n.2 in
      let own : slice_get ts s.table ≡ Some t = ap (λ (x : Sketch). slice_get ts x.table) is ∙ there in
      let same : m.0 ≡ t = same_Some m.0 t (sym m.1 ∙ own) in
      record { outlines = b.0.0; extended = b.0.1; pattern = subst (λ (u : TableShape). patterns_of u k cs s.constants ≡ Some b.0) same b.1; is = is }

  -- what is known of the rows that are filtered
  pub record IsReady (ts : List TableShape) (cs : Terms) (s z : Sketch) (f : IsFiltered cs s z) : Type 0 where
    pub there : slice_get ts s.table ≡ Some t
    pub gives : a.gives (source.Table s.table) (rows_table t rows)
    pub constants : HasConstants s.constants
    pub kept : HasConstants f.extended

  pub filter_ready : (ts : List TableShape) (cs : Terms) (s z : Sketch) (f : IsFiltered cs s z) → slice_get ts z.table ≡ Some t → a.gives (source.Table z.table) (rows_table t rows) → HasConstants z.constants →
      IsReady ts cs s z f
  filter_ready ts cs s z f there gives w =
      let table : s.table ≡ z.table = ap (λ (x : Sketch). x.table) f.is in
      let kept : HasConstants f.extended = subst HasConstants (sym (ap (λ (x : Sketch). x.constants) f.is)) w in
      let tests = patterns_test total t lawful a d vs (blank_row t) (blank_row_fits t) cs s.constants f.outlines f.extended f.pattern in
      record {
        there = ap (slice_get ts) table ∙ there;
        gives = subst (λ (x : ℕ). a.gives (source.Table x) (rows_table t rows)) (sym table) gives;
        constants = λ i c g. kept i c (tests.grows i c g);
        kept = kept;
      }

  pub whole_filtered : (cs : Terms) (s z : Sketch) (f : IsFiltered cs s z) → filter (all_pass f.outlines) (whole s) ≡ whole z
  whole_filtered cs s z f = more_passes s f.outlines f.extended ∙ ap whole f.is

  filter_step : (ts : List TableShape) (q : Term) (cs : Terms) (s z : Sketch) → Inside ts q s → filter_sketch ts k cs s ≡ Some z → Inside ts (of (top.over fun.Filter) (cons q cs)) z
  filter_step ts q cs s z inner e there gives w =
      let f = filtered_so ts cs s z there e in
      let r = filter_ready ts cs s z f there gives w in
      subst (λ (xs : List Row). IsValue a (of (top.over fun.Filter) (cons q cs)) (rows_table t xs)) (whole_filtered cs s z f)
      (filter_worth q cs s.constants f.extended f.outlines (whole s) f.pattern r.kept (whole_fits s) (inner r.there r.gives r.constants))

  no_order : (o : Option (ℕ × Bool)) → is_some o ≡ false → o ≡ None
  no_order None e = refl
  no_order (Some x) e = absurd cc

  sort_step : (ts : List TableShape) (q : Term) (o : SortOrder) (cs : Terms) (s z : Sketch) → Inside ts q s → sorted ts k o cs s ≡ Some z → Inside ts (of (top.over (fun.Sort o)) (cons q cs)) z
  sort_step ts q o nil s z inner e there gives w = absurd cc
  sort_step ts q o (cons f (cons g gs)) s z inner e there gives w = absurd cc
  sort_step ts q o (cons f nil) s z inner e there gives w = by (is_some s.order) refl e
    where
      With : ℕ → Sketch
      With i = record s { order = Some (i, is_falling o) }

      by : (b : Bool) → is_some s.order ≡ b → (if b then None else sorted_by ts k o f s) ≡ Some z → IsValue a (of (top.over (fun.Sort o)) (cons q (cons f nil))) (rows_table t (whole z))
      by true x r = absurd cc
      by false x r =
          let m = some_then (λ (u : TableShape). option_map With (plain_column u k f)) (slice_get ts s.table) z r in
          let n = some_map With (plain_column m.0 k f) z m.2 in
          let table : s.table ≡ z.table = ap (λ (y : Sketch). y.table) n.2 in
          let own : slice_get ts s.table ≡ Some t = ap (slice_get ts) table ∙ there in
          let same : m.0 ≡ t = same_Some m.0 t (sym m.1 ∙ own) in
          let column : plain_column t k f ≡ Some n.0 = subst (λ (u : TableShape). plain_column u k f ≡ Some n.0) same n.1 in
          let kept : HasConstants s.constants = subst HasConstants (sym (ap (λ (y : Sketch). y.constants) n.2)) w in
          let before_it = inner own (subst (λ (y : ℕ). a.gives (source.Table y) (rows_table t rows)) (sym table) gives) kept in
          subst (λ (y : Sketch). IsValue a (of (top.over (fun.Sort o)) (cons q (cons f nil))) (rows_table t (whole y))) n.2
          (sort_worth s (no_order s.order x) n.0 (is_falling o) q f o (sym (same_falls o)) column before_it)

  pub query_worth : (ts : List TableShape) (q : Term) (s : Sketch) → sketch_of ts k q ≡ Some s → Inside ts q s
  query_worth ts (of (top.read (source.Table n)) nil) s e there gives w =
      let m = some_map (λ (u : TableShape). record { table = n; test = always; order = None; constants = [] }) (slice_get ts n) s e in
      let is : n ≡ s.table = ap (λ (x : Sketch). x.table) m.2 in
      subst (λ (xs : List Row). a.gives (source.Table n) (rows_table t xs)) (sym (table_worth s (sym (ap (λ (x : Sketch). x.test) m.2)) (sym (ap (λ (x : Sketch). x.order) m.2))))
      (subst (λ (x : ℕ). a.gives (source.Table x) (rows_table t rows)) (sym is) gives)
  query_worth ts (of (top.over fun.Filter) (cons q cs)) s e there gives w =
      let m = some_then (filter_sketch ts k cs) (sketch_of ts k q) s e in
      filter_step ts q cs m.0 s (query_worth ts q m.0 m.1) m.2 there gives w
  query_worth ts (of (top.over (fun.Sort o)) (cons q cs)) s e there gives w =
      let m = some_then (sorted ts k o cs) (sketch_of ts k q) s e in
      sort_step ts q o cs m.0 s (query_worth ts q m.0 m.1) m.2 there gives w
  query_worth ts q s e there gives w = absurd cc

-- ---- the query of a plan

implied : (p q : Bool) → (q ≡ true → p ≡ true) → (p && q) ≡ q
implied true q f = refl
implied false true f = absurd (let e = f refl in cc)
implied false false f = refl

met_is : (o : Outcome) → is_met o ≡ true → o ≡ met
met_is met e = refl
met_is unmet e = absurd cc
met_is (failed k cs) e = absurd cc

pub fit_rows : (t : TableShape) (rows : List Row) → AreHeldRows t rows → AllByRecursion (IsRowOf t) rows
fit_rows t rows held = also_all (IsHeldRow t) (IsRowOf t) (λ r h. h.0) rows (recursion_from_All (IsHeldRow t) rows held.1)

-- the rows of a planned query's expression
abbrev pub whole_of : IsTotalOrder order → (a : EvalSetting) (ts : List TableShape) (t : TableShape) (q : Term) (s : Sketch) (take : Option ℕ) (query : Query) (rows : List Row) → IsPlanned a ts t q s take query rows → List Row
whole_of total a ts t q s take query rows p = whole total t p.lawful (setting_around a) p.place p.constants rows p.held.0 (fit_rows t rows p.held) p.faultless s

pub whole_worth : (total : IsTotalOrder order) (a : EvalSetting) (ts : List TableShape) (t : TableShape) (q : Term) (s : Sketch) (take : Option ℕ) (query : Query) (rows : List Row) → (p : IsPlanned a ts t q s take query rows) →
    IsValue (setting_around a) q (rows_table t (whole_of total a ts t q s take query rows p))
whole_worth total a ts t q s take query rows p =
    query_worth total t p.lawful (setting_around a) p.place p.constants rows p.held.0 (fit_rows t rows p.held) p.faultless ts q s p.sketched p.is_table p.gives (values_worth (inside (setting_around a) p.place) s.constants p.constants p.values)

module _ (total : IsTotalOrder order) (a : EvalSetting) (ts : List TableShape) (t : TableShape) (q : Term) (s : Sketch) (take : Option ℕ) (query : Query) (rows asked : List Row) (p : IsPlanned a ts t q s take query rows) (asks : AreAsked query rows asked) where
  abbrev passing_test : Row → Bool
  passing_test r = is_met (outcome (values_of r) (filled p.constants s.test))

  within : query.column ≤ length t.columns
  within =
      let same : p.can.table ≡ t = same_Some p.can.table t (sym p.can.is_table ∙ ap (slice_get ts) p.plan.table ∙ p.is_table) in
      subst (λ (u : TableShape). query.column ≤ length u.columns) same p.can.has_column

  reach : IsReach t (filled p.constants s.test) (reach_in query)
  reach = subst (λ (b : Bool). IsReachBy b t (filled p.constants s.test) (reach_in query)) p.faultless (p.plan.ranges t p.is_table)

  agree : AllByRecursion (λ r. (lies query r && passing_test r) ≡ passing_test r) rows
  agree = also_all (IsHeldRow t) (λ r. (lies query r && passing_test r) ≡ passing_test r)
      (λ r h. implied (lies query r) (passing_test r)
      (λ e. met_lies t (filled p.constants s.test) query r within reach h.0 (recursion_from_All IsProper (values_of r) h.1) (met_is (outcome (values_of r) (filled p.constants s.test)) e))) rows
      (recursion_from_All (IsHeldRow t) rows p.held.1)

  asked_holds : Holds rows passing_test (filter passing_test asked)
  asked_holds =
      holds_agree rows (filter passing_test asked) (λ r. lies query r && passing_test r) passing_test agree
      (holds_filter rows asked (lies query) passing_test (holds_moved rows (filter (lies query) rows) asked (lies query) asks.rearranged (holds_filter rows rows (λ r. true) (lies query) (holds_all rows p.held.0))))

  asked_sorted : IsSortedBy (before s.order) asked
  asked_sorted = subst (λ (o : Option (ℕ × Bool)). IsSortedBy (before o) asked) p.plan.order asks.sorted

  same_list : filter passing_test asked ≡ whole_of total a ts t q s take query rows p
  same_list =
      same_rows total s.order rows (filter passing_test asked) (whole_of total a ts t q s take query rows p) passing_test asked_holds
      (whole_holds total t p.lawful (setting_around a) p.place p.constants rows p.held.0 (fit_rows t rows p.held) p.faultless s) (kept_sorted total s.order passing_test asked asked_sorted)
      (whole_sorted total t p.lawful (setting_around a) p.place p.constants rows p.held.0 (fit_rows t rows p.held) p.faultless s)

  pub given_whole : given_of query asked ≡ first_of take (whole_of total a ts t q s take query rows p)
  given_whole =
      ap (λ (c : Condition). first_of query.take (filter (λ r. is_met (outcome (values_of r) c)) asked)) p.plan.test
      ∙ ap (λ (xs : List Row). first_of query.take xs) same_list ∙ ap (λ (o : Option ℕ). first_of o (whole_of total a ts t q s take query rows p)) p.plan.takes

  asked_fit : AllByRecursion (IsRowOf t) asked
  asked_fit =
      recursion_from_All (IsRowOf t) asked
      (All-permutation (IsRowOf t) (filter (lies query) rows) asked asks.rearranged (All-from_recursion (IsRowOf t) (filter (lies query) rows) (passing (IsRowOf t) (lies query) rows (fit_rows t rows p.held))))

  all_outcomes : (xs : List Row) → AllByRecursion (IsRowOf t) xs → AllByRecursion IsSound (map (outcome_on query) xs)
  all_outcomes [] h = tt
  all_outcomes (r ∷ xs) h = (subst (λ (c : Condition). IsSound (outcome (values_of r) c)) (sym p.plan.test) (filled_sound t p.constants r p.faultless h.0 s.test), all_outcomes xs h.1)

  pub none_fails : first_outcome_fault (map (outcome_on query) asked) ≡ None
  none_fails = none_failed (map (outcome_on query) asked) (all_outcomes asked asked_fit)

pub plans_are_whole : IsTotalOrder order → PlansAreWhole
plans_are_whole total a ts t q s take query rows asked p asks = record {
  whole = whole_of total a ts t q s take query rows p;
  is_whole = whole_worth total a ts t q s take query rows p;
  fit = All-from_recursion (IsRowOf t) (whole_of total a ts t q s take query rows p) (whole_fits total t p.lawful (setting_around a) p.place p.constants rows p.held.0 (fit_rows t rows p.held) p.faultless s);
  given = given_whole total a ts t q s take query rows asked p asks;
  sound = none_fails total a ts t q s take query rows asked p asks;
}
