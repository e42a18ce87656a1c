-- What is taken of query expressions that are ready is answered by queries.
use Rattle.std.proofs.Common.{◌≡◌, ◌≢◌, ◌<◌, ◌≤◌, ◌+◌, ◌*◌, ℕ, zero, suc, pos, ℤ, List, [], ◌∷◌, ◌++◌, length, map, Bool, true, false, Option, Some, None, refl, ap, sym, subst, ◌∙◌, arith}
use Rattle.std.specs.Prelude.{IfSome, IsSomeAnd, ◌||◌, option_map, slice_get}
use Rattle.std.specs.List.{All, AllByRecursion, list_any}
use Rattle.std.proofs.lemmas.List.Elements.{recursion_from_All, All-from_recursion}
use Rattle.std.proofs.lemmas.Option.{same_Some}
use Rattle.fx_base.specs.Silence.{MayFallSilent, IsLater, SilenceCause, Marks}
use Rattle.fx_base.specs.Telling.{Stays}
use Rattle.fx_types.specs.declared.faults.Fault.{Fault}
use Rattle.fx_types.specs.Types.{ColumnList, Shape, blanks, booleans, numbers, records, tables}
use Rattle.fx_types.specs.declared.values.Value.{Value}
use Rattle.fx_types.specs.TypeView.{shape}
use Rattle.fx_types.specs.ValueView.{view}
use Rattle.fx_types.specs.Values.{Data, blank, number, rec, fault}
use Rattle.fx_eval.specs.declared.demands.Demand.{Demand}
use Rattle.fx_eval.specs.declared.demands.Demand.TheVariants as demand
use Rattle.fx_eval.specs.declared.demands.Fold.{Fold}
use Rattle.fx_eval.specs.declared.demands.Fold.TheVariants as fold
use Rattle.fx_eval.proofs.Passing.{heard_back}
use Rattle.fx_eval.proofs.Ready.{Lawfully, calm_parts, calm_rest, part_ready, ready_fits, suits_inside}
use Rattle.fx_eval.proofs.Rows.{table_can}
use Rattle.fx_eval.proofs.SketchSizes.{constants_fall}
use Rattle.fx_eval.specs.Demands.{AnswersAreValues, CanStand, CanAddUp, ConstantsAreReady, FoundAreReady, IsAnswered, IsAskedFor, IsDemand, IsFirstGiven, IsFolded, IsSearch, IsSearchBy, IsWorthBy, fun_of}
use Rattle.fx_eval.specs.EvalSteps.{Went, moment}
use Rattle.fx_eval.specs.Parts.{AreFine, inner}
use Rattle.fx_env.specs.Queries.{AreRead, AreTold, AreValuesOf, KeepsTables}
use Rattle.fx_env.specs.Scopes.{CanEvaluate, Fixed, ScopeValues, IsTypedHere, Suits, around}
use Rattle.fx_env.specs.Telling.{Heard, IsHeard, EnvState, tables_told, values_told}
use Rattle.fx_plan.specs.declared.plans.Sketch.{Sketch}
use Rattle.fx_plan.specs.Outlines.{Outline, OutlineList, all_filled, filled, constant_at, constant, compares, starts, contains, all_of, any_of, opposite, no_outlines, with}
use Rattle.fx_plan.specs.Plans.{CanPlan, IsPlan, is_fault}
use Rattle.fx_plan.specs.QueryExpressions.{column_of, sketch_of}
use Rattle.fx_plan.specs.Ranges.{column_type}
use Rattle.fx_semantics.specs.Around.{Around, AreValues}
use Rattle.fx_semantics.specs.Fresh.{IsValue, meaning, meanings}
use Rattle.fx_semantics.specs.Rows.{IsOfFound, rows_in}
use Rattle.fx_semantics.specs.Sound.{AreFit, AreLawfulTypings, IsLawfulType, ValuesFit}
use Rattle.fx_semantics.specs.Sources.{FitsIn, Gives, IsTold}
use Rattle.fx_tables.specs.RowCalls.{first_row_record as first_row}
use Rattle.fx_core.specs.declared.functions.Fun.{Fun}
use Rattle.fx_core.specs.declared.functions.Fun.TheVariants as fun
use Rattle.fx_core.specs.declared.rows.Scalar.TheVariants.{Number}
use Rattle.fx_core.specs.declared.schema.Column.{Column}
use Rattle.fx_core.specs.declared.schema.TableShape.{TableShape}
use Rattle.fx_core.specs.declared.sources.Source.{Source}
use Rattle.fx_core.specs.declared.sources.Source.TheVariants as source
use Rattle.fx_core.specs.Lawful.{IsLawfulTable}
use Rattle.fx_core.specs.Rows.{row_of}
use Rattle.fx_core.specs.SourceTypes.{columns_of}
use Rattle.fx_core.specs.Term.{Term, Terms, of, nil, cons, all, term_size, terms_size}
use Rattle.fx_core.specs.Term as top
use Rattle.fx_typing.specs.Acts.{acts, any_acts}
use Rattle.fx_typing.specs.WellTyped.{AllStand, AreTyped, Context, first_type, parts_count, row_type}
use Rattle.fx_value.specs.Fits.{fits_in}
use Rattle.fx_plan.proofs.Placing.{column_typed, fit_many, lawful_at}
use Rattle.fx_plan.proofs.Wholes.{fit_rows, rows_back}
use Rattle.fx_plan.specs.Constants.{HaveTypes, ReadsTables, SketchesCanPlan, in_row, row_shape}
use Rattle.fx_plan.specs.Consumers.{AreTotalsOf, CountsAreValues, FirstsAreValues, FoundAreValues, ScansAreFirstRows, ScansAreValues, TotalsAreValues, over_query}
use Rattle.fx_plan.specs.Limited.{first_rows_of}
use Rattle.fx_plan.specs.Settings.{EvalSetting}
use Rattle.fx_plan.specs.Wholes.{IsPlanned}
use Rattle.row_queries.specs.Answers.{AreRowsFor, IsScanValue, table_or_fault}
use Rattle.row_queries.specs.declared.queries.Query.{Query}
use Rattle.row_queries.specs.declared.rows.Row.{Row}
use Rattle.row_queries.specs.declared.rows.RowList.{RowList}
use Rattle.row_queries.specs.Laws.{RowsFit}
use Rattle.row_queries.specs.Queries.{CanTotal, IsOfNumbers, IsQuery, first_outcome_fault, given_of, outcome_on, rows_or_fault}
use Rattle.row_queries.specs.RowTests.{HasNoFaults, HaveNoFaults, IsNoFault}
use Rattle.row_queries.specs.TableRows.{IsRowOf, record_of_row, rows_at, rows_table}
use Rattle.fx_plan.proofs.Sound.{no_fault_at}

-- ---- constants

abbrev Types : Type 0
Types = Source → Option Shape

-- trees of these types are ready
abbrev AreAllReady : Types → ScopeValues → List Term → List Shape → Type 0
AreAllReady types s [] [] = Unit {0}
AreAllReady types s (t ∷ ts) (u ∷ us) = IsTypedHere types s t u × AreAllReady types s ts us
AreAllReady types s ts us = ⊥

all_ready : (types : Types) (s : ScopeValues) (c : Context) → Suits types s c → (ts : List Term) (us : List Shape) → HaveTypes c ts us → AreAllReady types s ts us
all_ready types s c f [] [] h = tt
all_ready types s c f (t ∷ ts) (u ∷ us) h = (record { context = c; suits = f; typed = h.0.0; lawful = h.0.1; quiet = h.1 }, all_ready types s c f ts us h.2)
all_ready types s c f [] (u ∷ us) h = absurd h
all_ready types s c f (t ∷ ts) [] h = absurd h

all_fine : (types : Types) (s : ScopeValues) (ts : List Term) (us : List Shape) → AreAllReady types s ts us → AreFine types s ts
all_fine types s [] [] h = tt
all_fine types s (t ∷ ts) (u ∷ us) h = ((u, h.0), all_fine types s ts us h.1)
all_fine types s [] (u ∷ us) h = absurd h
all_fine types s (t ∷ ts) [] h = absurd h

all_fit : ValuesFit → (types : Types) (told : Option (Source → Data)) (s : ScopeValues) (ts : List Term) (us : List Shape) → AreAllReady types s ts us →
    (ds : List Data) → AreValues (meanings (all ts)) (around types told s) ds → AreFit ds us
all_fit law types told s [] [] h [] k = tt
all_fit law types told s [] [] h (d ∷ ds) k = absurd k
all_fit law types told s (t ∷ ts) (u ∷ us) h [] k = absurd k
all_fit law types told s (t ∷ ts) (u ∷ us) h (d ∷ ds) k = (ready_fits law types told s t u h.0 d k.0, all_fit law types told s ts us h.1 ds k.1)
all_fit law types told s [] (u ∷ us) h ds k = absurd h
all_fit law types told s (t ∷ ts) [] h ds k = absurd h

lawful_in : (c : Context) (t : Term) (u : Shape) → Lawfully c t u → IsLawfulType u
lawful_in c (of h ts) u l = l.1.0

-- the constants of a query expression that is ready
query_ready : ValuesFit → SketchesCanPlan → (types : Types) (shapes : List TableShape) (s : ScopeValues) (q : Term) (k : Sketch) → All IsLawfulTable shapes → AreRead types shapes → CanEvaluate types s q →
    sketch_of shapes (length s.rows) q ≡ Some k → AreFine types (inner s blank) k.constants
    × ((ds : List Data) → AreValues (meanings (all k.constants)) (around types None (inner s blank)) ds → CanPlan shapes k ds)
query_ready fit plans types shapes s q k lawful reads ready sketched =
    let r = ready.1 in
    let c = r.context in
    let here : ReadsTables shapes c = λ n t e. ap (λ (f : Types). f (source.Table n)) r.suits.sources ∙ reads n t e in
    let depth : sketch_of shapes (length c.rows) q ≡ Some k = subst (λ (n : ℕ). sketch_of shapes n q ≡ Some k) (fit_many s.rows c.rows r.suits.rows) sketched in
    let h = plans c shapes q ready.0 k lawful here (r.typed, r.lawful) depth in
    let there : Suits types (inner s blank) (in_row c h.table) = suits_inside types s c blank (row_shape h.table) r.suits refl in
    let every : AreAllReady types (inner s blank) k.constants h.types = all_ready types (inner s blank) (in_row c h.table) there k.constants h.types h.constants in (
      all_fine types (inner s blank) k.constants h.types every,
      λ ds v. h.plans ds (all_fit fit types None (inner s blank) k.constants h.types every ds v),
    )

-- the table of a call
table_of_call : (types : Types) (s : ScopeValues) (t : Term) (f : Fun) (q : Term) (cs : List Term) → t ≡ of (top.over f) (cons q (all cs)) → CanEvaluate types s t → CanEvaluate types s q
table_of_call types s t f q cs e r = table_can types s f q cs (subst (CanEvaluate types s) e r)

-- what `LookUp` is made of
record IsSearched (types : Types) (s : ScopeValues) (q c : Term) (fs : Terms) : Type 0 where
  pub context : Context
  pub suits : Suits types s context
  pub columns : ColumnList
  pub table : Lawfully context q (tables columns)
  pub condition : Lawfully (record context { rows = context.rows ++ records columns ∷ [] }) c booleans
  pub types_behind : List Shape
  pub behind : AreTyped context (top.over fun.LookUp) (parts_count (cons q (cons c fs))) (tables columns ∷ booleans ∷ []) fs types_behind
  pub lawful_behind : AreLawfulTypings context (top.over fun.LookUp) (parts_count (cons q (cons c fs))) (tables columns ∷ booleans ∷ []) fs types_behind behind

searched : (types : Types) (s : ScopeValues) (q c : Term) (fs : Terms) → CanEvaluate types s (over_query fun.LookUp q (cons c fs)) → IsSearched types s q c fs
searched types s q c fs r =
    let i = r.1 in
    let w = i.typed.1 in
    let rule = i.typed.2.1 in
    let at : AllStand (row_of fun.LookUp) (length i.typed.0) 0 (first_type i.typed.0) rule.1 (w.0 ∷ w.1) = subst (AllStand (row_of fun.LookUp) (length i.typed.0) 0 (first_type i.typed.0) rule.1) w.2 rule.2 in
    let v = w.4 in
    let next : AllStand (row_of fun.LookUp) (length i.typed.0) 1 (first_type i.typed.0) rule.1 (v.0 ∷ v.1) = subst (AllStand (row_of fun.LookUp) (length i.typed.0) 1 (first_type i.typed.0) rule.1) v.2 at.1 in
    made i.context w.0 v.0 v.1 at.0.0 at.0.1 next.0 i.suits (w.3, i.lawful.1.0) (v.3, i.lawful.1.1.0) (v.4, i.lawful.1.1.1)
  where
    n : ℕ
    n = parts_count (cons q (cons c fs))

    made : (x : Context) (u b : Shape) (us : List Shape) (ks : ColumnList) → u ≡ tables ks → b ≡ booleans → Suits types s x → Lawfully x q u → Lawfully (record x { rows = x.rows ++ row_type u ∷ [] }) c b →
        ((k : AreTyped x (top.over fun.LookUp) n (u ∷ b ∷ []) fs us) × AreLawfulTypings x (top.over fun.LookUp) n (u ∷ b ∷ []) fs us k) → IsSearched types s q c fs
    made x u b us ks e f suits first second rest =
        let Rest : Shape → Shape → Type 0 = λ y z. (k : AreTyped x (top.over fun.LookUp) n (y ∷ z ∷ []) fs us) × AreLawfulTypings x (top.over fun.LookUp) n (y ∷ z ∷ []) fs us k in
        let more : Rest (tables ks) booleans = subst (Rest (tables ks)) f (subst (λ (y : Shape). Rest y b) e rest) in
        record {
          context = x;
          suits = suits;
          columns = ks;
          table = subst (Lawfully x q) e first;
          condition = subst (Lawfully (record x { rows = x.rows ++ records ks ∷ [] }) c) f (subst (λ (y : Shape). Lawfully (record x { rows = x.rows ++ row_type y ∷ [] }) c b) e second);
          types_behind = us;
          behind = more.0;
          lawful_behind = more.1;
        }

calm_two : (a b d : Bool) → (a || (b || d)) ≡ false → (a || (b || false)) ≡ false
calm_two true b d e = absurd cc
calm_two false true d e = absurd cc
calm_two false false d e = refl

-- the rows of `LookUp` with its condition as one more filter
filter_can : (types : Types) (s : ScopeValues) (q c : Term) (fs : Terms) → CanEvaluate types s (over_query fun.LookUp q (cons c fs)) → CanEvaluate types s (over_query fun.Filter q (cons c nil))
filter_can types s q c fs r =
    let i = searched types s q c fs r in
    let ks = i.columns in (
      tables ks,
      record {
        context = i.context;
        suits = i.suits;
        typed = (tables ks ∷ booleans ∷ [], (tables ks, booleans ∷ [], refl, i.table.0, (booleans, [], refl, i.condition.0, refl)), (refl, (refl, blanks, ((ks, refl), (refl, tt)), refl)));
        lawful = (lawful_in i.context q (tables ks) i.table, (i.table.1, (i.condition.1, tt)));
        quiet = calm_two (acts q) (acts c) (any_acts fs) r.1.quiet;
      },
    )

-- the row that it finds
found_can : (types : Types) (s : ScopeValues) (q c : Term) (fs : Terms) → (r : CanEvaluate types s (over_query fun.LookUp q (cons c fs))) → IsTypedHere types s (over_query fun.LookUp q (cons c nil)) (records (searched types s q c fs r).columns)
found_can types s q c fs r =
    let i = searched types s q c fs r in
    let ks = i.columns in
    record {
      context = i.context;
      suits = i.suits;
      typed = (tables ks ∷ booleans ∷ [], (tables ks, booleans ∷ [], refl, i.table.0, (booleans, [], refl, i.condition.0, refl)), (refl, (refl, blanks, ((ks, refl), (refl, tt)), refl)));
      lawful = (lawful_in i.context q (tables ks) i.table, (i.table.1, (i.condition.1, tt)));
      quiet = calm_two (acts q) (acts c) (any_acts fs) r.1.quiet;
    }

-- its formula in the scope of a row that fits
search_formula : (types : Types) (s : ScopeValues) (q c f : Term) → (r : CanEvaluate types s (over_query fun.LookUp q (cons c (cons f nil)))) → (d : Data) → fits_in d (records (searched types s q c (cons f nil) r).columns) ≡ true →
    CanEvaluate types (inner s d) f
search_formula types s q c f r d fits =
    let i = searched types s q c (cons f nil) r in
    let quiet : any_acts (cons f nil) ≡ false = calm_rest c (cons f nil) (calm_rest q (cons c (cons f nil)) (calm_parts types s (top.over fun.LookUp) (cons q (cons c (cons f nil))) r.0 r.1)) in (
      i.behind.0,
      part_ready types (inner s d) (record (i.context) { rows = i.context.rows ++ records i.columns ∷ [] }) f nil i.behind.0 (suits_inside types s i.context d (records i.columns) i.suits fits)
          (i.behind.3, i.lawful_behind.0) quiet,
    )

-- what a formula stands in the scope of
stands_in : (types : Types) (s : ScopeValues) (g : Term) (d : Data) → ((z : Data) → d ≡ z → CanEvaluate types (inner s z) g) → CanStand types s g d
stands_in types s g (rec fs) k = k (rec fs) refl
stands_in types s g d k = tt

-- `LookUp` without its formula is ready, and the formula where it finds a row
pub search_can : (types : Types) (s : ScopeValues) (f : Fun) (q c x : Term) (ps : List Term) → f ≡ fun.LookUp → ps ≡ c ∷ x ∷ [] → CanEvaluate types s (of (top.over f) (cons q (all ps))) → CanEvaluate types s (of (top.over f) (cons q (all (c ∷ []))))
search_can types s f q c x ps e p r =
    let call : CanEvaluate types s (over_query fun.LookUp q (cons c (cons x nil))) =
    subst (λ (zs : List Term). CanEvaluate types s (of (top.over fun.LookUp) (cons q (all zs)))) p (subst (λ (g : Fun). CanEvaluate types s (of (top.over g) (cons q (all ps)))) e r) in
    subst (λ (g : Fun). CanEvaluate types s (of (top.over g) (cons q (cons c nil)))) (sym e) (records (searched types s q c (cons x nil) call).columns, found_can types s q c (cons x nil) call)

pub search_stands : ValuesFit → (types : Types) (s : ScopeValues) (f : Fun) (q c x : Term) (ps : List Term) (v : Data) → f ≡ fun.LookUp → ps ≡ c ∷ x ∷ [] → CanEvaluate types s (of (top.over f) (cons q (all ps))) →
    IsValue (around types None s) (of (top.over f) (cons q (all (c ∷ [])))) v → CanStand types s x v
search_stands law types s f q c x ps v e p r h =
    let call : CanEvaluate types s (over_query fun.LookUp q (cons c (cons x nil))) =
    subst (λ (zs : List Term). CanEvaluate types s (of (top.over fun.LookUp) (cons q (all zs)))) p (subst (λ (g : Fun). CanEvaluate types s (of (top.over g) (cons q (all ps)))) e r) in
    let worth : IsValue (around types None s) (over_query fun.LookUp q (cons c nil)) v = subst (λ (g : Fun). IsValue (around types None s) (of (top.over g) (cons q (cons c nil))) v) e h in
    let fits = ready_fits law types None s (over_query fun.LookUp q (cons c nil)) (records (searched types s q c (cons x nil) call).columns) (found_can types s q c (cons x nil) call) v worth in
    stands_in types s x v (λ d z. search_formula types s q c x call d (subst (λ (y : Data). fits_in y (records (searched types s q c (cons x nil) call).columns) ≡ true) z fits))

pub constants_ready : ValuesFit → SketchesCanPlan → ConstantsAreReady
unfolding ConstantsAreReady
constants_ready fit plans types shapes s t demand.Rows k lawful reads ready h = query_ready fit plans types shapes s t k lawful reads ready h
constants_ready fit plans types shapes s t (demand.FirstRows n) k lawful reads ready h =
    query_ready fit plans types shapes s h.0 k lawful reads (table_of_call types s t fun.FirstN h.0 (of (top.const (number (pos (n * 10000)))) nil ∷ []) h.1 ready) h.2
constants_ready fit plans types shapes s t demand.Count k lawful reads ready h = query_ready fit plans types shapes s h.0 k lawful reads (table_of_call types s t fun.CountRows h.0 [] h.1 ready) h.2
constants_ready fit plans types shapes s t demand.First k lawful reads ready h = query_ready fit plans types shapes s h.0 k lawful reads (table_of_call types s t fun.First h.0 [] h.1 ready) h.2
constants_ready fit plans types shapes s t demand.Found k lawful reads ready h =
    query_ready fit plans types shapes s (over_query fun.Filter h.0 (cons h.1 nil)) k lawful reads (filter_can types s h.0 h.1 nil (subst (CanEvaluate types s) h.2 ready)) h.3
constants_ready fit plans types shapes s t demand.FoundIn k lawful reads ready h =
    query_ready fit plans types shapes s (over_query fun.Filter h.0 (cons h.1 nil)) k lawful reads (filter_can types s h.0 h.1 (cons h.2 nil) (subst (CanEvaluate types s) h.3 ready)) h.4
constants_ready fit plans types shapes s t (demand.Total f i) k lawful reads ready h =
    query_ready fit plans types shapes s h.0 k lawful reads (table_of_call types s t (fun_of f) h.0 (h.1 ∷ []) h.2 ready) h.3

-- ---- answers

abbrev pub setting_of : Types → Option (Source → Data) → ScopeValues → EvalSetting
setting_of types told s = record { types = types; told = told; rows = s.rows; item = s.item; caught = s.caught }

told_there : (shapes : List TableShape) (told : Option (Source → Data)) (all_rows : Option (List (List Row))) (n : ℕ) (t : TableShape) (rows : List Row) →
    slice_get shapes n ≡ Some t → AreTold shapes told all_rows → IfSome all_rows (λ rs. rows ≡ rows_at rs n) → IsTold told (source.Table n) (rows_table t rows)
told_there shapes None all_rows n t rows e link h = tt
told_there shapes (Some values) all_rows n t rows e link h =
    let x = link values refl in
    let same : rows ≡ rows_at x.0 n = subst (λ (o : Option (List (List Row))). IfSome o (λ rs. rows ≡ rows_at rs n)) x.1 h in
    ap (rows_table t) same ∙ sym (x.2 n t e)

-- a query of the sketch with these constants is planned, over such rows
planned_so : RowsFit → (types : Types) (shapes : List TableShape) (told : Option (Source → Data)) (all_rows : Option (List (List Row))) (s : ScopeValues) (q : Term) (k : Sketch) (ds : List Data) (take : Option ℕ)
    (query : Query) (t : TableShape) (rows : List Row) → All IsLawfulTable shapes → AreRead types shapes → AreTold shapes told all_rows → sketch_of shapes (length s.rows) q ≡ Some k →
    AreValues (meanings (all k.constants)) (around types told (inner s blank)) ds → list_any is_fault ds ≡ false → IsPlan shapes k ds take query → IsQuery shapes query → AreRowsFor shapes all_rows query t rows →
    IsPlanned (setting_of types told s) shapes t q k take query rows
planned_so fit types shapes told all_rows s q k ds take query t rows lawful reads link sketched values faultless plan can there = record {
  lawful = here;
  is_table = at;
  held = there.held;
  gives = (subst (λ (o : Option Shape). FitsIn o (rows_table t rows)) (sym (reads k.table t at)) fits, told_there shapes told all_rows k.table t rows at link same);
  sketched = sketched;
  place = blank;
  constants = ds;
  values = values;
  faultless = faultless;
  plan = plan;
  can = can;
}
  where
    at : slice_get shapes k.table ≡ Some t
    at = subst (λ (n : ℕ). slice_get shapes n ≡ Some t) plan.table there.is_table

    same : IfSome all_rows (λ rs. rows ≡ rows_at rs k.table)
    same = subst (λ (n : ℕ). IfSome all_rows (λ rs. rows ≡ rows_at rs n)) plan.table there.told_rows

    here : IsLawfulTable t
    here = lawful_at shapes k.table t (recursion_from_All IsLawfulTable shapes lawful) at

    fits : fits_in (rows_table t rows) (tables (columns_of t)) ≡ true
    fits = fit t rows here (All-from_recursion (IsRowOf t) rows (fit_rows t rows there.held))

-- what is taken of a query expression that gives rows, blank where it gives none
none_in : (f : Option Fault) (rows : List Row) (a : RowList) → a ≡ rows_or_fault rows f → (t : TableShape) → first_row (rows_in (table_or_fault t a.rows a.fault)) ≡ first_row (map (record_of_row t) a.rows)
none_in None rows a e t =
    subst (λ (x : RowList). first_row (rows_in (table_or_fault t x.rows x.fault)) ≡ first_row (map (record_of_row t) x.rows)) (sym e) (ap first_row (rows_back (map (record_of_row t) rows)))
none_in (Some f) rows a e t = subst (λ (x : RowList). first_row (rows_in (table_or_fault t x.rows x.fault)) ≡ first_row (map (record_of_row t) x.rows)) (sym e) refl

-- the first row of what a scan answers
pub first_of_scan : (shapes : List TableShape) (told : Option (List (List Row))) (q : Query) (d v : Data) → IsScanValue shapes told q d → v ≡ first_row (rows_in d) → IsFirstGiven shapes told q v
first_of_scan shapes told q d v h e =
    let a = h.3 in
    (h.0, h.1, h.2, (a.0, a.1, e ∙ ap (λ (x : Data). first_row (rows_in x)) a.2 ∙ none_in (first_outcome_fault (map (outcome_on q) a.1.0)) (given_of q a.1.0) a.0 a.1.2 h.0))

module _ (scans : ScansAreValues) (firsts : ScansAreFirstRows) (counts : CountsAreValues) (one : FirstsAreValues) (found : FoundAreValues) (totals : TotalsAreValues) (fit : RowsFit)
    (types : Types) (shapes : List TableShape) (told : Option (Source → Data)) (all_rows : Option (List (List Row))) (s : ScopeValues) (t : Term) (k : Sketch) (ds : List Data) (v : Data)
    (lawful : All IsLawfulTable shapes) (reads : AreRead types shapes) (link : AreTold shapes told all_rows) (values : AreValues (meanings (all k.constants)) (around types told (inner s blank)) ds)
    (faultless : list_any is_fault ds ≡ false) where
  abbrev here : EvalSetting
  here = setting_of types told s

  -- the call that the tree is
  called : (x : Term) → t ≡ x → IsValue (around types told s) x v → IsValue (around types told s) t v
  called x e h = subst (λ (z : Term). IsValue (around types told s) z v) (sym e) h

  planned : (q : Term) (take : Option ℕ) (query : Query) (shape : TableShape) (rows : List Row) → sketch_of shapes (length s.rows) q ≡ Some k → IsPlan shapes k ds take query → IsQuery shapes query →
      AreRowsFor shapes all_rows query shape rows → IsPlanned (setting_of types told s) shapes shape q k take query rows
  planned q take query shape rows sketched plan can there = planned_so fit types shapes told all_rows s q k ds take query shape rows lawful reads link sketched values faultless plan can there

  folded : (f : Fold) (q x : Term) (zs : List ℤ) → IsFolded f zs v → AreTotalsOf (around types told s) q x zs → IsValue (around types told s) (over_query (fun_of f) q (cons x nil)) v
  folded fold.Sum q x zs h a = a.sum v h
  folded fold.Least q x zs h a = a.least v h
  folded fold.Greatest q x zs h a = a.greatest v h
  folded fold.Average q x zs h a = subst (IsValue (around types told s) (over_query fun.AverageRows q (cons x nil))) (sym h) a.average

  -- the row that `LookUp` finds
  found_row : (q c : Term) → sketch_of shapes (length s.rows) (over_query fun.Filter q (cons c nil)) ≡ Some k → IsAnswered shapes all_rows demand.Found k ds v →
      IsValue (around types told s) (over_query fun.LookUp q (cons c nil)) v × ((f : Term) (w : Data) → IsOfFound v (meaning f) (around types told s) w → IsValue (around types told s) (over_query fun.LookUp q (cons c (cons f nil))) w)
  found_row q c h a =
      let m = a.3 in
      let p = planned (over_query fun.Filter q (cons c nil)) (Some 1) a.0 m.0 m.1 h a.1 a.2 m.2 in
      let r = found here shapes m.0 q c k a.0 m.1 m.3.0 p m.3.1 in (
        subst (IsValue (around types told s) (over_query fun.LookUp q (cons c nil))) (sym m.3.2) r.0,
        λ f w o. r.1 f w (subst (λ (x : Data). IsOfFound x (meaning f) (around types told s) w) m.3.2 o),
      )

  worth : (d : Demand) → IsDemand shapes (length s.rows) d k t → IsAnswered shapes all_rows d k ds v → IsWorthBy d (around types told s) t v
  worth demand.Rows h a =
      let m = a.3 in
      let p = planned t None a.0 m.0 m.1 h a.1 a.2 m.2 in
      subst (IsValue (around types told s) t) (sym m.3.2) (scans here shapes m.0 t k a.0 m.1 m.3.0 p m.3.1)
  worth (demand.FirstRows n) h a =
      let m = a.3 in
      let p = planned h.0 (Some n) a.0 m.0 m.1 h.2 a.1 a.2 m.2 in
      called (first_rows_of n h.0) h.1 (subst (IsValue (around types told s) (first_rows_of n h.0)) (sym m.3.2) (firsts here shapes m.0 h.0 k n a.0 m.1 m.3.0 p m.3.1))
  worth demand.Count h a =
      let m = a.3.1 in
      let p = planned h.0 None a.0 m.0 m.1 h.2 a.1 a.2 m.2 in
      called (over_query fun.CountRows h.0 nil) h.1 (counts here shapes m.0 h.0 k a.0 m.1 a.3.0 v p m.3 a.3.2)
  worth demand.First h a =
      let m = a.3 in
      let p = planned h.0 (Some 1) a.0 m.0 m.1 h.2 a.1 a.2 m.2 in
      called (over_query fun.First h.0 nil) h.1 (subst (IsValue (around types told s) (over_query fun.First h.0 nil)) (sym m.3.2) (one here shapes m.0 h.0 k a.0 m.1 m.3.0 p m.3.1))
  worth demand.Found h a = called (over_query fun.LookUp h.0 (cons h.1 nil)) h.2 (found_row h.0 h.1 h.3 a).0
  worth demand.FoundIn h a = λ f w e o.
      let same : over_query fun.LookUp h.0 (cons h.1 (cons h.2 nil)) ≡ over_query fun.LookUp e.0 (cons e.1 (cons f nil)) = sym h.3 ∙ e.2 in
      let own : h.2 ≡ f = cc in
      let r = (found_row h.0 h.1 h.4 a).1 h.2 w (subst (λ (x : Term). IsOfFound v (meaning x) (around types told s) w) (sym own) o) in
      subst (λ (z : Term). IsValue (around types told s) z w) (sym h.3) r
  worth (demand.Total f i) h a =
      let m = a.3.1 in
      let p = planned h.0 None a.0 m.0 m.1 h.3 a.1 a.2 m.2 in
      let column = h.4 in
      let same : column.0 ≡ m.0 = same_Some column.0 m.0 (sym column.1 ∙ p.is_table) in
      let named : column_of m.0 (length s.rows) Number h.1 ≡ Some i = subst (λ (x : TableShape). column_of x (length s.rows) Number h.1 ≡ Some i) same column.2 in
      let z = totals here shapes m.0 h.0 h.1 k a.0 m.1 i a.3.0 p named m.3 in
      called (over_query (fun_of f) h.0 (cons h.1 nil)) h.2 (folded f h.0 h.1 z.0 (a.3.2 z.0 z.1) z.2)

pub answers_are_worth : ScansAreValues → ScansAreFirstRows → CountsAreValues → FirstsAreValues → FoundAreValues → TotalsAreValues → RowsFit → AnswersAreValues
unfolding AnswersAreValues
answers_are_worth scans firsts counts one found totals fit types shapes told all_rows s t d k ds v lawful reads link h values faultless a =
    worth scans firsts counts one found totals fit types shapes told all_rows s t k ds v lawful reads link values faultless d h a

-- the formula in the scope of the row that is found
pub found_are_ready : ValuesFit → FoundAreValues → RowsFit → FoundAreReady
unfolding FoundAreReady
found_are_ready law found fit types shapes rows s t k ds v lawful reads ready h values faultless a f e =
    let call = over_query fun.LookUp h.0 (cons h.1 (cons h.2 nil)) in
    let r : CanEvaluate types s call = subst (CanEvaluate types s) h.3 ready in
    let m = a.3 in
    let link : AreTold shapes None rows = λ z q. absurd cc in
    let p = planned_so fit types shapes None rows s (over_query fun.Filter h.0 (cons h.1 nil)) k ds (Some 1) a.0 m.0 m.1 lawful reads link h.4 values faultless a.1 a.2 m.2 in
    let one = (found (setting_of types None s) shapes m.0 h.0 h.1 k a.0 m.1 m.3.0 p m.3.1).0 in
    let worth : IsValue (around types None s) (over_query fun.LookUp h.0 (cons h.1 nil)) v = subst (IsValue (around types None s) (over_query fun.LookUp h.0 (cons h.1 nil))) (sym m.3.2) one in
    let fits = ready_fits law types None s (over_query fun.LookUp h.0 (cons h.1 nil)) (records (searched types s h.0 h.1 (cons h.2 nil) r).columns) (found_can types s h.0 h.1 (cons h.2 nil) r) v worth in
    let same : over_query fun.LookUp h.0 (cons h.1 (cons h.2 nil)) ≡ over_query fun.LookUp e.0 (cons e.1 (cons f nil)) = sym h.3 ∙ e.2 in
    let own : h.2 ≡ f = cc in
    subst (λ (x : Term). CanStand types s x v) own (stands_in types s h.2 v (λ d q. search_formula types s h.0 h.1 h.2 r d (subst (λ (z : Data). fits_in z (records (searched types s h.0 h.1 (cons h.2 nil) r).columns) ≡ true) q fits)))

-- ---- what is told, from one moment to the next

told_back : {B : Type 0} (lost : Type 0) (x y : Option (EnvState B)) (w : EnvState B) → MayFallSilent lost Stays x y → y ≡ Some w → x ≡ Some w
told_back lost None y w g e = absurd cc
told_back lost (Some a) None w g e = absurd cc
told_back lost (Some a) (Some b) w g e = ap Some (sym g) ∙ e

keeps_after : {B : Type 0} (f : Fixed) (lost : Type 0) (x y : Option (EnvState B)) → MayFallSilent lost Stays x y → KeepsTables f x → KeepsTables f y
keeps_after f lost x y g k = record { lawful = k.lawful; read = k.read; values = λ w e. k.values w (told_back lost x y w g e) }

keeps_told : {B : Type 0} (f : Fixed) (x : Option (EnvState B)) (told : Option (Source → Data)) → KeepsTables f x → IsHeard (values_told x) told → AreTold f.schema.tables told (tables_told x)
keeps_told f x None k h values e = absurd cc
keeps_told f None (Some g) k h values e = absurd cc
keeps_told f (Some w) (Some g) k h values e =
    let same : w.values ≡ values = cc in
    (w.tables, refl, subst (λ (z : Source → Data). AreValuesOf f.schema.tables z w.tables) same (k.values w refl))

-- the same values, read again
pub heard_same : {B : Type 0} (x : Option (EnvState B)) (types : Types) (s : ScopeValues) (cs : List Term) (xs ys : List Value) → ys ≡ xs →
    Heard (values_told x) (λ told. AreValues (meanings (all cs)) (around types told (inner s blank)) (map view xs)) →
    Heard (values_told x) (λ told. AreValues (meanings (all cs)) (around types told (inner s blank)) (map view ys))
heard_same x types s cs xs ys e h =
    subst (λ (zs : List Value). Heard (values_told x) (λ told. AreValues (meanings (all cs)) (around types told (inner s blank)) (map view zs))) (sym e) h

-- what is answered is the value, where the constants were evaluated between x and y, and the query asked between y and z
pub asked_worth : {B : Type 0} → AnswersAreValues → (f g : Fixed) (x y z : Option (EnvState B)) (lost gone : Type 0) (s : ScopeValues) (t : Term) (d : Demand) (k : Sketch) (cs : List Term) (ds : List Data) (v : Data) →
    g ≡ f → MayFallSilent lost Stays x y → MayFallSilent gone Stays y z → IsAskedFor f x s t d k → cs ≡ k.constants →
    Heard (values_told y) (λ told. AreValues (meanings (all cs)) (around f.types told (inner s blank)) ds) → false ≡ list_any is_fault ds →
    IsAnswered g.schema.tables (tables_told z) d k ds v → Heard (values_told z) (λ told. IsWorthBy d (around f.types told s) t v)
unfolding AnswersAreValues
asked_worth law f g x y z lost gone s t d k cs ds v same first second asked is values faultless answered told h =
    let after = keeps_after f gone y z second (keeps_after f lost x y first asked.keeps) in
    law f.types f.schema.tables told (tables_told z) s t d k ds v asked.keeps.lawful.2 asked.keeps.read (keeps_told f z told after h) asked.demand
    (subst (λ (xs : List Term). AreValues (meanings (all xs)) (around f.types told (inner s blank)) ds) is (values told (heard_back gone y z told second h)))
    (sym faultless)
    (subst (λ (e : Fixed). IsAnswered e.schema.tables (tables_told z) d k ds v) same answered)

-- the moment after an answer, from the one before it
pub answered_went : {B : Type 0} (f g : Fixed) (x y : Option (EnvState B)) (m n : Marks) (k l v w : ℕ) (s : ScopeValues) (steps : ℕ) → g ≡ f → MayFallSilent (SilenceCause m n) Stays x y → IsLater m n → l ≡ k → v ≤ w →
    Went (moment f x m k v s steps) (moment g y n l w s steps)
answered_went f g x y m n k l v w s steps fixed told later ticked visited = record {
  fixed = fixed;
  scope = refl;
  told = told;
  later = later;
  ticks = ap (λ (z : ℕ). steps + z) (sym ticked);
  visited = visited;
}

-- what isn't the row of a formula is the value
pub plain_worth : (d : Demand) (a : Around) (t : Term) (v : Data) → d ≢ demand.FoundIn → IsWorthBy d a t v → IsValue a t v
plain_worth demand.FoundIn a t v n h = absurd (n refl)
plain_worth demand.Rows a t v n h = h
plain_worth (demand.FirstRows k) a t v n h = h
plain_worth demand.Count a t v n h = h
plain_worth demand.First a t v n h = h
plain_worth demand.Found a t v n h = h
plain_worth (demand.Total f i) a t v n h = h

-- the row of a formula makes the value of the formula the value
pub found_worth : (d : Demand) (a : Around) (t f : Term) (v w : Data) → d ≡ demand.FoundIn → IsSearchBy t f → IsWorthBy d a t v → IsOfFound v (meaning f) a w → IsValue a t w
found_worth d a t f v w e by h o = (subst (λ (x : Demand). IsWorthBy x a t v) e h) f w by o

-- a formula for the row that is found
pub search_there : {B : Type 0} (f : Fixed) (x : Option (EnvState B)) (s : ScopeValues) (t : Term) (d : Demand) (k : Sketch) → IsAskedFor f x s t d k → d ≡ demand.FoundIn → IsSearch t
search_there f x s t d k a e =
    let h : IsDemand f.schema.tables (length s.rows) demand.FoundIn k t = subst (λ (z : Demand). IsDemand f.schema.tables (length s.rows) z k t) e a.demand in
    (h.2, (h.0, h.1, h.3))

-- it is ready in the scope of that row
pub stands_there : {B : Type 0} → FoundAreReady → (f g : Fixed) (x y : Option (EnvState B)) (rows : Option (List (List Row))) (s : ScopeValues) (t : Term) (d : Demand) (k : Sketch) (cs : List Term) (ds : List Data) (v : Data) (formula : Term) → g ≡ f → CanEvaluate f.types s t →
    IsAskedFor f x s t d k → cs ≡ k.constants → Heard (values_told y) (λ told. AreValues (meanings (all cs)) (around f.types told (inner s blank)) ds) → false ≡ list_any is_fault ds →
    IsAnswered g.schema.tables rows d k ds v → d ≡ demand.FoundIn → IsSearchBy t formula → CanStand f.types s formula v
unfolding FoundAreReady
stands_there law f g x y rows s t d k cs ds v formula same r a is values faultless answered e by =
    law f.types f.schema.tables rows s t k ds v a.keeps.lawful.2 a.keeps.read r (subst (λ (z : Demand). IsDemand f.schema.tables (length s.rows) z k t) e a.demand)
    (subst (λ (xs : List Term). AreValues (meanings (all xs)) (around f.types None (inner s blank)) ds) is (values None tt)) (sym faultless)
    (subst (λ (z : Demand). IsAnswered f.schema.tables rows z k ds v) e (subst (λ (h : Fixed). IsAnswered h.schema.tables rows d k ds v) same answered)) formula by

-- the formula is smaller
pub search_smaller : (t f : Term) → IsSearchBy t f → term_size f + 4 ≤ term_size t
search_smaller t f by = rw by.2 (omega arith)

-- ---- where a query expression is asked

-- its constants are ready
pub constants_there : {B : Type 0} → ConstantsAreReady → (f : Fixed) (x : Option (EnvState B)) (s : ScopeValues) (t : Term) (d : Demand) (k : Sketch) (cs : List Term) → CanEvaluate f.types s t → IsAskedFor f x s t d k →
    cs ≡ k.constants → AreFine f.types (inner s blank) cs
unfolding ConstantsAreReady
constants_there law f x s t d k cs r a e =
    subst (AreFine f.types (inner s blank)) (sym e) (law f.types f.schema.tables s t d k a.keeps.lawful.2 a.keeps.read r a.demand).0

-- with their values it can be planned
pub plan_there : {B : Type 0} → ConstantsAreReady → (f g : Fixed) (x y : Option (EnvState B)) (s : ScopeValues) (t : Term) (d : Demand) (k : Sketch) (cs : List Term) (ds : List Data) → g ≡ f → CanEvaluate f.types s t →
    IsAskedFor f x s t d k → cs ≡ k.constants → Heard (values_told y) (λ told. AreValues (meanings (all cs)) (around f.types told (inner s blank)) ds) → CanPlan g.schema.tables k ds
unfolding ConstantsAreReady
plan_there law f g x y s t d k cs ds same r a e values =
    subst (λ (h : Fixed). CanPlan h.schema.tables k ds) (sym same)
    ((law f.types f.schema.tables s t d k a.keeps.lawful.2 a.keeps.read r a.demand).1 ds
    (subst (λ (xs : List Term). AreValues (meanings (all xs)) (around f.types None (inner s blank)) ds) e (values None tt)))

-- a column that is added up is one of numbers
numbers_at : (t : TableShape) (i : ℕ) → column_type t i ≡ Some numbers → IsOfNumbers t i
numbers_at t zero e = tt
numbers_at t (suc i) e = by (slice_get t.columns i) e
  where
    by : (o : Option Column) → option_map (λ (c : Column). shape c.ty) o ≡ Some numbers → IsSomeAnd o (λ (c : Column). shape c.ty ≡ numbers)
    by None q = absurd cc
    by (Some c) q = cc

takes_so : (shapes : List TableShape) (k : ℕ) (d : Demand) (s : Sketch) (t : Term) → IsDemand shapes k d s t → CanAddUp shapes d s
takes_so shapes k (demand.Total f i) s t h = let column = h.4 in (column.0, column.1, numbers_at column.0 i (column_typed column.0 k Number h.1 i column.2).1)
takes_so shapes k demand.Rows s t h = tt
takes_so shapes k (demand.FirstRows n) s t h = tt
takes_so shapes k demand.Count s t h = tt
takes_so shapes k demand.First s t h = tt
takes_so shapes k demand.Found s t h = tt
takes_so shapes k demand.FoundIn s t h = tt

pub take_there : {B : Type 0} (f g : Fixed) (x : Option (EnvState B)) (s : ScopeValues) (t : Term) (d : Demand) (k : Sketch) → g ≡ f → IsAskedFor f x s t d k → CanAddUp g.schema.tables d k
take_there f g x s t d k same a = subst (λ (h : Fixed). CanAddUp h.schema.tables d k) (sym same) (takes_so f.schema.tables (length s.rows) d k t a.demand)

-- ---- constants are smaller

query_smaller : (n : ℕ) (shapes : List TableShape) (t q : Term) (k : Sketch) → sketch_of shapes n q ≡ Some k → term_size q ≤ term_size t → terms_size (all k.constants) < term_size t
query_smaller n shapes t q k e l = let h = constants_fall n shapes q k e in omega (arith, h, l)

within : (t : Term) (f : Fun) (q : Term) (cs : Terms) → t ≡ over_query f q cs → term_size q ≤ term_size t
within t f q cs e = rw e (omega arith)

demand_smaller : (n : ℕ) (shapes : List TableShape) (d : Demand) (k : Sketch) (t : Term) → IsDemand shapes n d k t → terms_size (all k.constants) < term_size t
demand_smaller n shapes demand.Rows k t h = constants_fall n shapes t k h
demand_smaller n shapes (demand.FirstRows m) k t h = query_smaller n shapes t h.0 k h.2 (within t fun.FirstN h.0 (cons (of (top.const (number (pos (m * 10000)))) nil) nil) h.1)
demand_smaller n shapes demand.Count k t h = query_smaller n shapes t h.0 k h.2 (within t fun.CountRows h.0 nil h.1)
demand_smaller n shapes demand.First k t h = query_smaller n shapes t h.0 k h.2 (within t fun.First h.0 nil h.1)
demand_smaller n shapes demand.Found k t h =
    query_smaller n shapes t (over_query fun.Filter h.0 (cons h.1 nil)) k h.3 (rw h.2 (omega arith))
demand_smaller n shapes demand.FoundIn k t h =
    query_smaller n shapes t (over_query fun.Filter h.0 (cons h.1 nil)) k h.4 (rw h.3 (omega arith))
demand_smaller n shapes (demand.Total f i) k t h = query_smaller n shapes t h.0 k h.3 (within t (fun_of f) h.0 (cons h.1 nil) h.2)

pub constants_smaller : {B : Type 0} (f : Fixed) (x : Option (EnvState B)) (s : ScopeValues) (t : Term) (d : Demand) (k : Sketch) (cs : List Term) → IsAskedFor f x s t d k → cs ≡ k.constants →
    terms_size (all cs) < term_size t
constants_smaller f x s t d k cs a e =
    subst (λ (xs : List Term). terms_size (all xs) < term_size t) (sym e) (demand_smaller (length s.rows) f.schema.tables d k t a.demand)

-- ---- tests without errors

no_error : (d : Data) → is_fault d ≡ false → IsNoFault d
no_error (fault k cs) e = absurd cc
no_error d e = tt

mutual
  filled_faultless : (ds : List Data) → list_any is_fault ds ≡ false → (o : Outline) → HasNoFaults (filled ds o)
  filled_faultless ds e (constant i) = no_error (constant_at ds i) (no_fault_at ds i e)
  filled_faultless ds e (compares op k i) = no_error (constant_at ds i) (no_fault_at ds i e)
  filled_faultless ds e (starts k i) = no_error (constant_at ds i) (no_fault_at ds i e)
  filled_faultless ds e (contains k i) = no_error (constant_at ds i) (no_fault_at ds i e)
  filled_faultless ds e (all_of os) = all_faultless ds e os
  filled_faultless ds e (any_of os) = all_faultless ds e os
  filled_faultless ds e (opposite o) = filled_faultless ds e o
  filled_faultless ds e o = tt

  all_faultless : (ds : List Data) → list_any is_fault ds ≡ false → (os : OutlineList) → HaveNoFaults (all_filled ds os)
  all_faultless ds e no_outlines = tt
  all_faultless ds e (with o os) = (filled_faultless ds e o, all_faultless ds e os)

pub plan_faultless : (shapes : List TableShape) (k : Sketch) (ds : List Data) (take : Option ℕ) (q : Query) → IsPlan shapes k ds take q → list_any is_fault ds ≡ false → HasNoFaults q.test
plan_faultless shapes k ds take q p e = subst HasNoFaults (sym p.test) (filled_faultless ds e k.test)

pub plan_totals : (shapes : List TableShape) (k : Sketch) (ds : List Data) (take : Option ℕ) (q : Query) (f : Fold) (i : ℕ) → IsPlan shapes k ds take q → CanAddUp shapes (demand.Total f i) k → CanTotal shapes q i
plan_totals shapes k ds take q f i p h =
    let P : ℕ → Type 0 = λ n. IsSomeAnd (slice_get shapes n) (λ (t : TableShape). IsOfNumbers t i) in
    subst P (sym p.table) (subst (λ (o : Option TableShape). IsSomeAnd o (λ (t : TableShape). IsOfNumbers t i)) (sym h.1) h.2)
