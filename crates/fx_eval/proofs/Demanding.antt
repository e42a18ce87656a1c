-- What trees take of query expressions, and what the answers of queries make of it.
use Rattle.std.proofs.Common.{◌≡◌, ◌∙◌, ◌⊎◌, inl, inr, ℕ, ◌<◌, ◌≤◌, List, [], ◌∷◌, length, get_or, Option, Some, None, ap, refl, subst, sym, arith}
use Rattle.std.specs.Prelude.{IfOk, MatchOption, Result, Ok, Err, slice_get}
use Rattle.fx_types.specs.Values.{Data}
use Rattle.fx_eval.specs.declared.demands.Asked.{Asked}
use Rattle.fx_eval.specs.declared.demands.Demand.{Demand}
use Rattle.fx_eval.specs.declared.demands.Demand.TheVariants as demand
use Rattle.fx_eval.proofs.Queried.{plan_totals}
use Rattle.fx_eval.specs.Visits.{IsUnasked}
use Rattle.fx_env.specs.Queries.{KeepsTables}
use Rattle.fx_env.specs.Scopes.{Fixed, ScopeValues}
use Rattle.fx_env.specs.Telling.{EnvState}
use Rattle.fx_core.specs.declared.schema.Schema.{Schema}
use Rattle.fx_eval.specs.Demands.{CanMeet, IsAskedFor, CanAddUp, IsDemand, IsFirstGiven, IsMet, IsSearch, IsSearchBy}
use Rattle.fx_plan.specs.declared.plans.Sketch.{Sketch}
use Rattle.fx_plan.specs.Plans.{IsPlan}
use Rattle.fx_plan.specs.QueryExpressions.{sketch_of}
use Rattle.fx_core.specs.declared.functions.Fun.{Fun}
use Rattle.fx_core.specs.declared.functions.Fun.TheVariants as fun
use Rattle.fx_core.specs.declared.schema.TableShape.{TableShape}
use Rattle.fx_core.specs.Term.{Term, all, cons, nil}
use Rattle.fx_plan.specs.Consumers.{over_query}
use Rattle.row_queries.specs.declared.queries.Query.{Query}
use Rattle.row_queries.specs.declared.rows.Row.{Row}

-- the demand on a sketch, where there is one
pub asked_so : (shapes : List TableShape) (n : ℕ) (d : Demand) (o : Option Asked) (s : Option Sketch) (t : Term) → MatchOption o (s ≡ None) (λ a. (a.demand ≡ d) × (s ≡ Some a.sketch)) →
    ((z : Sketch) → s ≡ Some z → IsDemand shapes n d z t) → (s ≡ None → IsUnasked shapes n t) → MatchOption o (IsUnasked shapes n t) (λ a. IsDemand shapes n a.demand a.sketch t)
asked_so shapes n d None s t h f none = none h
asked_so shapes n d (Some a) s t h f none = subst (λ (x : Demand). IsDemand shapes n x a.sketch t) (sym h.0) (f a.sketch h.1)

-- all rows of a query expression, and nothing where there is none
pub rows_so : (shapes : List TableShape) (n : ℕ) (o : Option Asked) (s : Option Sketch) (t : Term) → s ≡ sketch_of shapes n t → MatchOption o (s ≡ None) (λ a. (a.demand ≡ demand.Rows) × (s ≡ Some a.sketch)) →
    MatchOption o (sketch_of shapes n t ≡ None) (λ a. IsDemand shapes n a.demand a.sketch t)
rows_so shapes n None s t e h = sym e ∙ h
rows_so shapes n (Some a) s t e h = subst (λ (x : Demand). IsDemand shapes n x a.sketch t) (sym h.0) (sym e ∙ h.1)

-- `LookUp` with more than a formula
pub unsearched : (shapes : List TableShape) (n : ℕ) (q : Term) (ps : List Term) → 3 ≤ length ps → IsUnasked shapes n (over_query fun.LookUp q (all ps))
unsearched shapes n q [] l = absurd (omega arith)
unsearched shapes n q (x ∷ []) l = absurd (omega arith)
unsearched shapes n q (x ∷ y ∷ []) l = absurd (omega arith)
unsearched shapes n q (x ∷ y ∷ z ∷ zs) l = (refl, refl)

two_parts : (ps : List Term) (c : Term) → 2 ≤ length ps → length ps < 3 → c ≡ get_or ps 0 c → (f : Term) × (ps ≡ c ∷ f ∷ [])
two_parts [] c l b e = absurd (omega arith)
two_parts (x ∷ []) c l b e = absurd (omega arith)
two_parts (x ∷ y ∷ []) c l b e = (y, ap (λ z. z ∷ y ∷ []) (sym e))
two_parts (x ∷ y ∷ z ∷ zs) c l b e = absurd (omega arith)

-- the demand of `LookUp` with a formula, whose condition is the first of two parts
pub found_so : (shapes : List TableShape) (n : ℕ) (q c : Term) (ps : List Term) (o : Option Asked) (s : Option Sketch) → 2 ≤ length ps → length ps < 3 → c ≡ get_or ps 0 c →
    s ≡ sketch_of shapes n (over_query fun.Filter q (cons c nil)) → MatchOption o (s ≡ None) (λ a. (a.demand ≡ demand.FoundIn) × (s ≡ Some a.sketch)) →
    MatchOption o (IsUnasked shapes n (over_query fun.LookUp q (all ps))) (λ a. IsDemand shapes n a.demand a.sketch (over_query fun.LookUp q (all ps)))
found_so shapes n q c ps o s l b e k h =
    let p = two_parts ps c l b e in
    asked_so shapes n demand.FoundIn o s (over_query fun.LookUp q (all ps)) h (λ z i. (q, c, p.0, ap (λ xs. over_query fun.LookUp q (all xs)) p.1, sym k ∙ i))
    (λ i. subst (λ (xs : List Term). IsUnasked shapes n (over_query fun.LookUp q (all xs))) (sym p.1) (refl, sym k ∙ i))

-- `LookUp` with a formula has two parts behind its table
all_two : (ps : List Term) (c f : Term) → all ps ≡ cons c (cons f nil) → length ps ≡ 2
all_two [] c f e = absurd cc
all_two (x ∷ []) c f e = absurd cc
all_two (x ∷ y ∷ []) c f e = refl
all_two (x ∷ y ∷ z ∷ zs) c f e = absurd cc

pub search_parts : (g : Fun) (t q : Term) (ps xs : List Term) → over_query g q (all ps) ≡ t → xs ≡ ps → IsSearch t → length xs ≡ 2
search_parts g t q ps xs e i h =
    let same : over_query g q (all ps) ≡ over_query fun.LookUp h.1.0 (cons h.1.1 (cons h.0 nil)) = e ∙ h.1.2 in
    let parts : all ps ≡ cons h.1.1 (cons h.0 nil) = cc in
    ap length i ∙ all_two ps h.1.1 h.0 parts

-- the second of them is the formula
at_second : (ps : List Term) (c f x : Term) → all ps ≡ cons c (cons f nil) → slice_get ps 1 ≡ Some x → f ≡ x
at_second [] c f x e h = absurd cc
at_second (y ∷ []) c f x e h = absurd cc
at_second (y ∷ z ∷ []) c f x e h = let same : Some z ≡ Some x = h in cc
at_second (y ∷ z ∷ w ∷ ws) c f x e h = absurd cc

pub search_formula_is : (g : Fun) (t q : Term) (ps xs : List Term) (x : Term) → over_query g q (all ps) ≡ t → xs ≡ ps → IsSearch t → slice_get xs 1 ≡ Some x → IsSearchBy t x
search_formula_is g t q ps xs x e i h at =
    let same : over_query g q (all ps) ≡ over_query fun.LookUp h.1.0 (cons h.1.1 (cons h.0 nil)) = e ∙ h.1.2 in
    let parts : all ps ≡ cons h.1.1 (cons h.0 nil) = cc in
    let own : h.0 ≡ x = at_second ps h.1.1 h.0 x parts (ap (λ ys. slice_get ys 1) (sym i) ∙ at) in
    (h.1.0, h.1.1, h.1.2 ∙ ap (λ z. over_query fun.LookUp h.1.0 (cons h.1.1 (cons z nil))) own)

-- a column that is added up is one of the planned query's table
pub meets_so : (shapes : List TableShape) (d : Demand) (k : Sketch) (ds : List Data) (take : Option ℕ) (q : Query) → IsPlan shapes k ds take q → CanAddUp shapes d k → CanMeet shapes d q
meets_so shapes (demand.Total f i) k ds take q p h = plan_totals shapes k ds take q f i p h
meets_so shapes demand.Rows k ds take q p h = tt
meets_so shapes (demand.FirstRows n) k ds take q p h = tt
meets_so shapes demand.Count k ds take q p h = tt
meets_so shapes demand.First k ds take q p h = tt
meets_so shapes demand.Found k ds take q p h = tt
meets_so shapes demand.FoundIn k ds take q p h = tt

-- the first row that a query gives is what these take
pub first_met : (shapes : List TableShape) (told : Option (List (List Row))) (d : Demand) (q : Query) (v : Data) → (d ≡ demand.First) ⊎ (d ≡ demand.Found) ⊎ (d ≡ demand.FoundIn) → IsFirstGiven shapes told q v →
    IsMet shapes told d q v
first_met shapes told d q v e h = elim e [
  | inl i ↦ subst (λ (x : Demand). IsMet shapes told x q v) (sym i) h
  | inr f ↦ elim f [
    | inl i ↦ subst (λ (x : Demand). IsMet shapes told x q v) (sym i) h
    | inr i ↦ subst (λ (x : Demand). IsMet shapes told x q v) (sym i) h
  ]
]

-- ---- where a tree stands

-- what is taken of the tables that an environment has
pub asked_at : {B E : Type 0} (f : Fixed) (told : Option (EnvState B)) (s : ScopeValues) (t : Term) (x : Schema) (n : ℕ) (r : Result (Option Asked) E) → x ≡ f.schema → n ≡ length s.rows → KeepsTables f told →
    IfOk r (λ o. MatchOption o (IsUnasked x.tables n t) (λ a. IsDemand x.tables n a.demand a.sketch t)) →
    IfOk r (λ o. MatchOption o (IsUnasked f.schema.tables (length s.rows) t) (λ a. IsAskedFor f told s t a.demand a.sketch))
asked_at {B} f told s t x n (Err e) same deep keeps h = tt
asked_at {B} f told s t x n (Ok None) same deep keeps h = subst (λ (k : ℕ). IsUnasked f.schema.tables k t) deep (subst (λ (y : Schema). IsUnasked y.tables n t) same h)
asked_at {B} f told s t x n (Ok (Some a)) same deep keeps h =
    record { keeps = keeps; demand = subst (λ (k : ℕ). IsDemand f.schema.tables k a.demand a.sketch t) deep (subst (λ (y : Schema). IsDemand y.tables n a.demand a.sketch t) same h) }
