-- Trees with values in the places of the constants of their query expressions.
use Rattle.std.proofs.Common.{◌≡◌, ◌≤◌, ◌*◌, ◌∙◌, ℕ, pos, List, [], ◌∷◌, ◌++◌, length, Option, Some, None, false, refl, ap, sym, subst, arith}
use Rattle.std.specs.Prelude.{slice_get}
use Rattle.fx_types.specs.Types.{Shape}
use Rattle.fx_types.specs.Values.{Data, blank, number}
use Rattle.fx_eval.specs.declared.demands.Demand.{Demand}
use Rattle.fx_eval.specs.declared.demands.Demand.TheVariants as demand
use Rattle.fx_eval.specs.declared.demands.Fold.{Fold}
use Rattle.fx_eval.specs.declared.demands.Fold.TheVariants as fold
use Rattle.fx_eval.proofs.Queried.{setting_of}
use Rattle.fx_eval.proofs.Ready.{suits_inside}
use Rattle.fx_eval.specs.Demands.{IsAskedFor, IsDemand, SettledAreReady, SettledAreSmall, SettledAreValues, fun_of, settled_in}
use Rattle.fx_eval.specs.Parts.{inner}
use Rattle.fx_env.specs.Queries.{AreRead}
use Rattle.fx_env.specs.Scopes.{CanEvaluate, Fixed, ScopeValues, IsTypedHere, Suits, around}
use Rattle.fx_env.specs.Telling.{Heard, IsHeard, EnvState, values_told}
use Rattle.fx_plan.specs.declared.plans.Sketch.{Sketch}
use Rattle.fx_plan.specs.Constants.{HasType, ReadsTables, in_row, row_shape}
use Rattle.fx_plan.specs.Consumers.{over_query}
use Rattle.fx_plan.specs.Outlines.{constant_at}
use Rattle.fx_plan.specs.QueryExpressions.{sketch_of}
use Rattle.fx_plan.proofs.Testing.{values_worth}
use Rattle.fx_semantics.specs.Around.{AreValues}
use Rattle.fx_semantics.specs.Fresh.{IsValue, meanings}
use Rattle.fx_semantics.specs.Sound.{ValuesFit}
use Rattle.fx_core.specs.declared.functions.Fun.{Fun}
use Rattle.fx_core.specs.declared.functions.Fun.TheVariants as fun
use Rattle.fx_core.specs.declared.schema.TableShape.{TableShape}
use Rattle.fx_core.specs.declared.sources.Source.{Source}
use Rattle.fx_core.specs.declared.sources.Source.TheVariants as source
use Rattle.fx_core.specs.Term.{Term, Terms, of, nil, cons, all, term_size}
use Rattle.fx_core.specs.Term as top
use Rattle.fx_typing.specs.Acts.{acts}
use Rattle.fx_typing.specs.WellTyped.{Context, plain, standing_at}
use Rattle.fx_plan.proofs.Retyping.{table_replaced}
use Rattle.fx_plan.specs.Settled.{AreFittingFor, SearchesAreWorth, SearchesHaveTypes, SettledAreNoMore, SettledAreWorth, SettledHaveTypes, call_settled, query_settled, search_settled}
use Rattle.fx_plan.proofs.Placing.{fit_many}

abbrev Types : Type 0
Types = Source → Option Shape

-- ---- what it is worth

module _ (queries : SettledAreWorth) (searches : SearchesAreWorth) (types : Types) (shapes : List TableShape) (told : Option (Source → Data)) (s : ScopeValues) (k : Sketch) (ds : List Data) (v : Data)
    (values : AreValues (meanings (all k.constants)) (around types told (inner s blank)) ds) where
  abbrev n : ℕ
  n = length s.rows

  abbrev Worth : Term → Term → Type 0
  Worth x t = IsValue (around types told s) x v → IsValue (around types told s) t v

  call_worth : (t : Term) (f : Fun) (q : Term) (cs : Terms) → t ≡ over_query f q cs → sketch_of shapes n q ≡ Some k → Worth (call_settled n ds t) t
  call_worth t f q cs e h =
      subst (λ (z : Term). Worth (call_settled n ds z) z) (sym e) (λ m. (m.0, queries (setting_of types told s) shapes q k ds m.0 h (blank, values) m.1, m.2))

  search_worth : (t q c : Term) (cs : Terms) → t ≡ over_query fun.LookUp q (cons c cs) → sketch_of shapes n (over_query fun.Filter q (cons c nil)) ≡ Some k → Worth (search_settled n ds t) t
  search_worth t q c cs e h =
      subst (λ (z : Term). Worth (search_settled n ds z) z) (sym e) (λ m. searches (setting_of types told s) shapes q c cs k ds v h (blank, values) m)

  worth : (t : Term) (d : Demand) → IsDemand shapes n d k t → Worth (settled_in d n ds t) t
  worth t demand.Rows h = λ m. queries (setting_of types told s) shapes t k ds v h (blank, values) m
  worth t (demand.FirstRows i) h = call_worth t fun.FirstN h.0 (cons (of (top.const (number (pos (i * 10000)))) nil) nil) h.1 h.2
  worth t demand.Count h = call_worth t fun.CountRows h.0 nil h.1 h.2
  worth t demand.First h = call_worth t fun.First h.0 nil h.1 h.2
  worth t demand.Found h = search_worth t h.0 h.1 nil h.2 h.3
  worth t demand.FoundIn h = search_worth t h.0 h.1 (cons h.2 nil) h.3 h.4
  worth t (demand.Total f i) h = call_worth t (fun_of f) h.0 (cons h.1 nil) h.2 h.3

pub settled_values : SettledAreWorth → SearchesAreWorth → SettledAreValues
unfolding SettledAreValues
settled_values queries searches types shapes told s t d k ds v h values m = worth queries searches types shapes told s k ds v values t d h m

-- ---- where it is ready

module _ (fit : ValuesFit) (queries : SettledHaveTypes) (searches : SearchesHaveTypes) (less : SettledAreNoMore) (types : Types) (shapes : List TableShape) (s : ScopeValues) (k : Sketch) (ds : List Data)
    (read : AreRead types shapes) (values : AreValues (meanings (all k.constants)) (around types None (inner s blank)) ds) where
  abbrev depth : ℕ
  depth = length s.rows

  reads : (c : Context) → Suits types s c → ReadsTables shapes c
  reads c f i t e = ap (λ (x : Types). x (source.Table i)) f.sources ∙ read i t e

  -- the values of the constants fit
  fitting : (c : Context) → Suits types s c → AreFittingFor shapes c k ds
  fitting c f t is i x u at typed =
      let there : Suits types (inner s blank) (in_row c t) = suits_inside types s c blank (row_shape t) f refl in
      let worth : IsValue (around types None (inner s blank)) x (constant_at ds i) = values_worth (around types None (inner s blank)) k.constants ds values i x at in
      fit (in_row c t) None (inner s blank).rows s.item s.caught x u typed.0 (constant_at ds i) there.rows there.item typed.1
      (subst (λ (z : Types). IsValue (around z None (inner s blank)) x (constant_at ds i)) (sym there.sources) worth)

  same_depth : (c : Context) → Suits types s c → length c.rows ≡ depth
  same_depth c f = sym (fit_many s.rows c.rows f.rows)

  query_typed : (c : Context) → Suits types s c → (q : Term) (u : Shape) → HasType c q u → sketch_of shapes depth q ≡ Some k → HasType c ((query_settled depth ds q).0) u
  query_typed c f q u h e =
      subst (λ (i : ℕ). HasType c ((query_settled i ds q).0) u) (same_depth c f)
      (queries c shapes q u k ds (reads c f) h (subst (λ (i : ℕ). sketch_of shapes i q ≡ Some k) (sym (same_depth c f)) e) (fitting c f))

  -- a tree of the type in its place, which doesn't act
  ready_so : (t x : Term) (u : Shape) (r : IsTypedHere types s t u) → HasType r.context x u → (acts t ≡ false → acts x ≡ false) → CanEvaluate types s x
  ready_so t x u r h q = (u, record { context = r.context; suits = r.suits; typed = h.0; lawful = h.1; quiet = q r.quiet })

  query_ready : (t : Term) → CanEvaluate types s t → sketch_of shapes depth t ≡ Some k → CanEvaluate types s ((query_settled depth ds t).0)
  query_ready t r e = ready_so t ((query_settled depth ds t).0) r.0 r.1 (query_typed r.1.context r.1.suits t r.0 (r.1.typed, r.1.lawful) e) (less depth ds t).0.1

  call_ready : (t : Term) (f : Fun) (q : Term) (cs : Terms) → t ≡ over_query f q cs → ((i : ℕ) → standing_at (top.over f) i 0 ≡ plain) → CanEvaluate types s t → sketch_of shapes depth q ≡ Some k →
      CanEvaluate types s (call_settled depth ds t)
  call_ready t f q cs e stands r h =
      subst (λ (z : Term). CanEvaluate types s (call_settled depth ds z)) (sym e) (there (subst (CanEvaluate types s) e r))
    where
      there : CanEvaluate types s (over_query f q cs) → CanEvaluate types s (call_settled depth ds (over_query f q cs))
      there y =
          let c = y.1.context in
          ready_so (over_query f q cs) (call_settled depth ds (over_query f q cs)) y.0 y.1
          (table_replaced c f q ((query_settled depth ds q).0) cs y.0 stands (λ w x. query_typed c y.1.suits q w x h) (y.1.typed, y.1.lawful)) (less depth ds (over_query f q cs)).1.1

  search_ready : (t q x : Term) (cs : Terms) → t ≡ over_query fun.LookUp q (cons x cs) → CanEvaluate types s t → sketch_of shapes depth (over_query fun.Filter q (cons x nil)) ≡ Some k →
      CanEvaluate types s (search_settled depth ds t)
  search_ready t q x cs e r h =
      subst (λ (z : Term). CanEvaluate types s (search_settled depth ds z)) (sym e) (there (subst (CanEvaluate types s) e r))
    where
      there : CanEvaluate types s (over_query fun.LookUp q (cons x cs)) → CanEvaluate types s (search_settled depth ds (over_query fun.LookUp q (cons x cs)))
      there y =
          let c = y.1.context in
          let f = y.1.suits in
          ready_so (over_query fun.LookUp q (cons x cs)) (search_settled depth ds (over_query fun.LookUp q (cons x cs))) y.0 y.1
          (subst (λ (i : ℕ). HasType c (search_settled i ds (over_query fun.LookUp q (cons x cs))) y.0) (same_depth c f)
          (searches c shapes q x cs y.0 k ds (reads c f) (y.1.typed, y.1.lawful) (subst (λ (i : ℕ). sketch_of shapes i (over_query fun.Filter q (cons x nil)) ≡ Some k) (sym (same_depth c f)) h) (fitting c f)))
          (less depth ds (over_query fun.LookUp q (cons x cs))).2.1

  folds : (f : Fold) (i : ℕ) → standing_at (top.over (fun_of f)) i 0 ≡ plain
  folds fold.Sum i = refl
  folds fold.Least i = refl
  folds fold.Greatest i = refl
  folds fold.Average i = refl

  ready : (t : Term) (d : Demand) → CanEvaluate types s t → IsDemand shapes depth d k t → CanEvaluate types s (settled_in d depth ds t)
  ready t demand.Rows r h = query_ready t r h
  ready t (demand.FirstRows i) r h = call_ready t fun.FirstN h.0 (cons (of (top.const (number (pos (i * 10000)))) nil) nil) h.1 (λ j. refl) r h.2
  ready t demand.Count r h = call_ready t fun.CountRows h.0 nil h.1 (λ j. refl) r h.2
  ready t demand.First r h = call_ready t fun.First h.0 nil h.1 (λ j. refl) r h.2
  ready t demand.Found r h = search_ready t h.0 h.1 nil h.2 r h.3
  ready t demand.FoundIn r h = search_ready t h.0 h.1 (cons h.2 nil) h.3 r h.4
  ready t (demand.Total f i) r h = call_ready t (fun_of f) h.0 (cons h.1 nil) h.2 (folds f) r h.3

pub settled_ready : ValuesFit → SettledHaveTypes → SearchesHaveTypes → SettledAreNoMore → SettledAreReady
unfolding SettledAreReady
settled_ready fit queries searches less types shapes s t d k ds read r h values = ready fit queries searches less types shapes s k ds read values t d r h

pub settled_small : SettledAreNoMore → SettledAreSmall
unfolding SettledAreSmall
settled_small less demand.Rows k ds t = (less k ds t).0.0
settled_small less demand.Found k ds t = (less k ds t).2.0
settled_small less demand.FoundIn k ds t = (less k ds t).2.0
settled_small less (demand.FirstRows i) k ds t = (less k ds t).1.0
settled_small less demand.Count k ds t = (less k ds t).1.0
settled_small less demand.First k ds t = (less k ds t).1.0
settled_small less (demand.Total f i) k ds t = (less k ds t).1.0

-- ---- where it is evaluated

-- after the constants were evaluated, between x and y
pub settled_there : {B : Type 0} → SettledAreReady → (f : Fixed) (x y : Option (EnvState B)) (s r : ScopeValues) (t z : Term) (d : Demand) (k : Sketch) (cs : List Term) (ds : List Data) → r ≡ s → CanEvaluate f.types s t →
    IsAskedFor f x s t d k → cs ≡ k.constants → Heard (values_told y) (λ told. AreValues (meanings (all cs)) (around f.types told (inner s blank)) ds) → z ≡ settled_in d (length r.rows) ds t → CanEvaluate f.types s z
unfolding SettledAreReady
settled_there law f x y s r t z d k cs ds same can a is values e =
    subst (CanEvaluate f.types s) (sym (e ∙ ap (λ (h : ScopeValues). settled_in d (length h.rows) ds t) same))
    (law f.types f.schema.tables s t d k ds a.keeps.read can a.demand (subst (λ (xs : List Term). AreValues (meanings (all xs)) (around f.types None (inner s blank)) ds) is (values None tt)))

pub settled_worth : {B : Type 0} → SettledAreValues → (f : Fixed) (x y : Option (EnvState B)) (s r : ScopeValues) (t z : Term) (d : Demand) (k : Sketch) (cs : List Term) (ds : List Data) (v : Data) (told : Option (Source → Data)) → r ≡ s →
    IsAskedFor f x s t d k → cs ≡ k.constants → Heard (values_told y) (λ told. AreValues (meanings (all cs)) (around f.types told (inner s blank)) ds) → z ≡ settled_in d (length r.rows) ds t →
    IsHeard (values_told y) told → IsValue (around f.types told s) z v → IsValue (around f.types told s) t v
unfolding SettledAreValues
settled_worth law f x y s r t z d k cs ds v told same a is values e h m =
    law f.types f.schema.tables told s t d k ds v a.demand (subst (λ (xs : List Term). AreValues (meanings (all xs)) (around f.types told (inner s blank)) ds) is (values told h))
    (subst (λ (w : Term). IsValue (around f.types told s) w v) (e ∙ ap (λ (h : ScopeValues). settled_in d (length h.rows) ds t) same) m)

pub settled_smaller : SettledAreSmall → (d : Demand) (k : ℕ) (ds : List Data) (t z : Term) → z ≡ settled_in d k ds t → term_size z ≤ term_size t
unfolding SettledAreSmall
settled_smaller law d k ds t z e = subst (λ (w : Term). term_size w ≤ term_size t) (sym e) (law d k ds t)
