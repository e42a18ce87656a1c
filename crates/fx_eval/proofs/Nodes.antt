-- What is ready, and what is worth what, at a node, by its head and its parts as they are found.
use Rattle.std.proofs.Common.{◌≡◌, ◌≢◌, ℕ, List, [], map, Option, Some, true, refl, sym, subst}
use Rattle.std.specs.Prelude.{IsSome, slice_get}
use Rattle.fx_types.specs.Rising.{AreNamesRising}
use Rattle.fx_types.specs.Types.{Shape, blanks, numbers, texts, booleans, dates, records, tables}
use Rattle.fx_types.specs.declared.values.Value.{Value}
use Rattle.fx_types.specs.Values.{Data, field_list, rec}
use Rattle.fx_types.specs.ValueView.{view}
use Rattle.fx_eval.proofs.CallPlaces.{call_can, called_by_values, parts_ready, values_fit_types}
use Rattle.fx_eval.proofs.Fields.{filled_made, filled_rise}
use Rattle.fx_eval.proofs.Leaves.{can_coerce, row_there}
use Rattle.fx_eval.proofs.Ready.{calm_parts, only_part}
use Rattle.fx_eval.proofs.Standings.{parts_fine}
use Rattle.fx_eval.specs.Parts.{AreFilled, AreFine}
use Rattle.fx_env.specs.Scopes.{ScopeValues, IsTypedHere, CanEvaluate, around}
use Rattle.fx_semantics.specs.Around.{Around, AreValues}
use Rattle.fx_semantics.specs.Fresh.{IsValue, meanings}
use Rattle.fx_semantics.specs.Sound.{ValuesFit}
use Rattle.fx_core.specs.declared.functions.Fun.{Fun}
use Rattle.fx_core.specs.declared.functions.Fun.TheVariants as fun
use Rattle.fx_core.specs.declared.sources.Source.{Source}
use Rattle.fx_tables.specs.RowCalls.{CanBeRowType}
use Rattle.fx_scalar.specs.Fitting.{FittingCanApply}
use Rattle.fx_scalar.specs.ScalarFunctions.{CanApply, IsAnswer}
use Rattle.fx_eval.proofs.ListRows.{can_list}
use Rattle.fx_eval.specs.Lists.{CanList}
use Rattle.fx_core.specs.Term.{Term, Terms, of, nil, cons, Top, all, term_field_names, field_terms, call, coerce, row, user}
use Rattle.fx_core.specs.Term as top
use Rattle.fx_typing.specs.WellTyped.{AreAllOfShape, Context, IsRuled, NamesRise, parts_count, plain, standing_at}
use Rattle.fx_value.specs.Coercion.{CanCoerce}
use Rattle.fx_value.specs.Fits.{fits_in}

abbrev Types : Type 0
Types = Source → Option Shape

-- what follows from a node of this head and these parts
pub there : (P : List Term → Type 0) (types : Types) (s : ScopeValues) (h : Top) (ts xs : List Term) (w : Term) → (CanEvaluate types s (of h (all ts)) → P ts) →
    of h (all ts) ≡ w → xs ≡ ts → CanEvaluate types s w → P xs
there P types s h ts xs w f e g r = subst P (sym g) (f (subst (CanEvaluate types s) (sym e) r))

pub fields_there : (P : List (List ℕ × Term) → Type 0) (types : Types) (s : ScopeValues) (fs gs : List (List ℕ × Term)) (w : Term) →
    (CanEvaluate types s (of (top.rec (term_field_names fs)) (field_terms fs)) → P fs) → of (top.rec (term_field_names fs)) (field_terms fs) ≡ w → gs ≡ fs → CanEvaluate types s w → P gs
fields_there P types s fs gs w f e g r = subst P (sym g) (f (subst (CanEvaluate types s) (sym e) r))

pub row_is : (types : Types) (s : ScopeValues) (k : ℕ) (w : Term) → of (row k) nil ≡ w → CanEvaluate types s w → IsSome (slice_get s.rows k)
row_is types s k w e r = row_there types s k (subst (CanEvaluate types s) (sym e) r)

pub only_is : (types : Types) (s : ScopeValues) (h : Top) (u t w : Term) → standing_at h 1 0 ≡ plain → of h (cons u nil) ≡ w → t ≡ u → CanEvaluate types s w → CanEvaluate types s t
only_is types s h u t w p e f r = subst (CanEvaluate types s) (sym f) (only_part types s h u p (subst (CanEvaluate types s) (sym e) r))

pub coerce_is : (types : Types) (s : ScopeValues) (to : Shape) (u t w : Term) (d : Data) → of (coerce to) (cons u nil) ≡ w → t ≡ u → CanEvaluate types s w →
    ((k : Shape) → IsTypedHere types s t k → fits_in d k ≡ true) → CanCoerce d to
coerce_is types s to u t w d e f r fits =
    can_coerce types s to u d (subst (CanEvaluate types s) (sym e) r) (subst (λ (z : Term). (k : Shape) → IsTypedHere types s z k → fits_in d k ≡ true) f fits)

-- no function is found among none
none_there : (f : ℕ) (x : List Shape × Shape) → slice_get [] f ≡ Some x → ⊥
none_there f x e = cc

-- where something is evaluated, no call of a function of an app's own is left
pub no_user : (types : Types) (s : ScopeValues) (f : ℕ) (ts : Terms) (w : Term) → of (user f) ts ≡ w → CanEvaluate types s w → ⊥
no_user types s f ts w e r =
    let q = subst (CanEvaluate types s) (sym e) r in
    let P : List (List Shape × Shape) → Type 0 = λ z. slice_get z f ≡ Some (q.1.typed.0, q.0) in
    none_there f (q.1.typed.0, q.0) (subst P q.1.suits.functions q.1.typed.2)

-- records
names_rise : (types : Types) (s : ScopeValues) (ns : List (List ℕ)) (ts : Terms) → CanEvaluate types s (of (top.rec ns) ts) → NamesRise ns
names_rise types s ns ts r = r.1.typed.2.1

pub fields_rise : (types : Types) (s : ScopeValues) (fs gs : List (List ℕ × Term)) (w : Term) (a : Around) (xs : List (List ℕ × Data)) →
    of (top.rec (term_field_names fs)) (field_terms fs) ≡ w → gs ≡ fs → CanEvaluate types s w → AreFilled gs a xs → AreNamesRising xs
fields_rise types s fs gs w a xs e g r h =
    filled_rise a fs xs (names_rise types s (term_field_names fs) (field_terms fs) (subst (CanEvaluate types s) (sym e) r)) (subst (λ (z : List (List ℕ × Term)). AreFilled z a xs) g h)

pub record_is : (fs gs : List (List ℕ × Term)) (w : Term) (a : Around) (xs ys : List (List ℕ × Data)) →
    of (top.rec (term_field_names fs)) (field_terms fs) ≡ w → gs ≡ fs → AreFilled gs a xs → ys ≡ xs → IsValue a w (rec (field_list ys))
record_is fs gs w a xs ys e g h f =
    subst (λ (z : Term). IsValue a z (rec (field_list ys))) e
    (filled_made a fs ys (subst (AreFilled fs a) (sym f) (subst (λ (z : List (List ℕ × Term)). AreFilled z a xs) g h)))

-- calls of values
pub apply_is : ValuesFit → FittingCanApply → (types : Types) (told : Option (Source → Data)) (s : ScopeValues) (f : Fun) (ts xs : List Term) (w : Term) (vs us : List Value) →
    of (call f) (all ts) ≡ w → xs ≡ ts → CanEvaluate types s w → AreValues (meanings (all xs)) (around types told s) (map view vs) → us ≡ vs → CanApply f (map view us)
apply_is law apply types told s f ts xs w vs us e g r h q =
    subst (λ (z : List Value). CanApply f (map view z)) (sym q)
    (call_can law apply types told s f ts (map view vs) (subst (CanEvaluate types s) (sym e) r)
    (subst (λ (z : List Term). AreValues (meanings (all z)) (around types told s) (map view vs)) g h))

pub called_is : (f : Fun) (ts xs : List Term) (w : Term) (a : Around) (vs us : List Value) (v : Data) → f ≢ fun.Coalesce → of (call f) (all ts) ≡ w → xs ≡ ts →
    AreValues (meanings (all xs)) a (map view vs) → us ≡ vs → IsAnswer f (map view us) v → IsValue a w v
called_is f ts xs w a vs us v n e g h q k =
    subst (λ (z : Term). IsValue a z v) e
    (called_by_values f (meanings (all ts)) a v n
    (map view vs, subst (λ (z : List Term). AreValues (meanings (all z)) a (map view vs)) g h, subst (λ (z : List Value). IsAnswer f (map view z) v) q k))

-- lists
list_ruled : (c : Context) (q : Shape) (ts : Terms) (us : List Shape) (u : Shape) → IsRuled c (top.list q) ts us u → CanBeRowType q × AreAllOfShape q us
list_ruled c (tables cs) ts us u r = absurd r
list_ruled c blanks ts us u r = (tt, r.0)
list_ruled c numbers ts us u r = (tt, r.0)
list_ruled c texts ts us u r = (tt, r.0)
list_ruled c booleans ts us u r = (tt, r.0)
list_ruled c dates ts us u r = (tt, r.0)
list_ruled c (records cs) ts us u r = (tt, r.0)

pub list_fine : (types : Types) (s : ScopeValues) (q : Shape) (ts : List Term) → CanEvaluate types s (of (top.list q) (all ts)) → AreFine types s ts
list_fine types s q ts r = parts_fine types s (top.list q) ts (λ m i. refl) r

pub list_is : ValuesFit → (types : Types) (told : Option (Source → Data)) (s : ScopeValues) (q : Shape) (ts xs : List Term) (w : Term) (vs : List Value) →
    of (top.list q) (all ts) ≡ w → xs ≡ ts → CanEvaluate types s w → AreValues (meanings (all xs)) (around types told s) (map view vs) → CanList q (map view vs)
list_is law types told s q ts xs w vs e g r h =
    let ready = subst (CanEvaluate types s) (sym e) r in
    let t = ready.1.typed in
    let rule = list_ruled ready.1.context q (all ts) t.0 ready.0 t.2 in
    let parts = parts_ready types s ready.1.context (top.list q) (parts_count (all ts)) (λ m i. refl) ready.1.suits ts [] t.0 t.1 ready.1.lawful.1
    (calm_parts types s (top.list q) (all ts) ready.0 ready.1) in
    can_list q (map view vs) t.0 rule.0 rule.1
    (values_fit_types law types told s ts t.0 (map view vs) parts (subst (λ (z : List Term). AreValues (meanings (all z)) (around types told s) (map view vs)) g h))

-- a call over a table as it is found
pub over_is : (types : Types) (s : ScopeValues) (f : Fun) (u t : Term) (ts xs : List Term) (w : Term) → of (top.over f) (cons u (all ts)) ≡ w → t ≡ u → xs ≡ ts → CanEvaluate types s w →
    CanEvaluate types s (of (top.over f) (cons t (all xs)))
over_is types s f u t ts xs w e k g r =
    subst (λ (z : Term). CanEvaluate types s (of (top.over f) (cons z (all xs)))) (sym k)
    (subst (λ (z : List Term). CanEvaluate types s (of (top.over f) (cons u (all z)))) (sym g) (subst (CanEvaluate types s) (sym e) r))
