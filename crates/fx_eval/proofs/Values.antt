-- Values of formulas, one after another.
use Rattle.std.proofs.Common.{◌≡◌, ℕ, zero, suc, ◌+◌, ◌<◌, List, [], ◌∷◌, ◌++◌, map, take, length, get_or, Option, ap, sym, subst, ◌∙◌, arith}
use Rattle.std.proofs.lemmas.List.{take_more, map-append}
use Rattle.fx_types.specs.declared.values.Value.{Value}
use Rattle.fx_types.specs.Types.{Shape}
use Rattle.fx_types.specs.Values.{Data}
use Rattle.fx_types.specs.ValueView.{fields_view, view}
use Rattle.fx_eval.proofs.Fields.{filled_more}
use Rattle.fx_eval.specs.Parts.{AreFilled, AreFine, terms_of}
use Rattle.fx_env.specs.Scopes.{CanEvaluate, ScopeValues}
use Rattle.fx_core.specs.declared.sources.Source.{Source}
use Rattle.fx_semantics.specs.Around.{Around, AreValues}
use Rattle.fx_semantics.specs.Fresh.{IsValue, meanings}
use Rattle.fx_core.specs.Term.{Term, all}

pub values_more : (a : Around) (ts : List Term) (t : Term) (ds : List Data) (d : Data) → AreValues (meanings (all ts)) a ds → IsValue a t d →
    AreValues (meanings (all (ts ++ t ∷ []))) a (ds ++ d ∷ [])
values_more a [] t [] d h k = (k, tt)
values_more a [] t (e ∷ ds) d h k = absurd h
values_more a (u ∷ ts) t [] d h k = absurd h
values_more a (u ∷ ts) t (e ∷ ds) d h k = (h.0, values_more a ts t ds d h.1 k)

-- one part more
pub values_step : (a : Around) (ts : List Term) (i : ℕ) (t : Term) (xs ys : List Value) (v : Value) → i < length ts → t ≡ get_or ts i t →
    AreValues (meanings (all (take i ts))) a (map view xs) → ys ≡ xs ++ v ∷ [] → IsValue a t (view v) →
    AreValues (meanings (all (take (i + 1) ts))) a (map view ys)
values_step a ts i t xs ys v l e h f k =
    let more : take (i + 1) ts ≡ take i ts ++ t ∷ [] = take_more ts i t l ∙ ap (λ z. take i ts ++ z ∷ []) (sym e) in
    let all_of : map view ys ≡ map view xs ++ view v ∷ [] = ap (map view) f ∙ map-append view xs (v ∷ []) in
    subst (λ zs. AreValues (meanings (all zs)) a (map view ys)) (sym more)
    (subst (λ ds. AreValues (meanings (all (take i ts ++ t ∷ []))) a ds) (sym all_of) (values_more a (take i ts) t (map view xs) (view v) h k))

pub filled_step : (a : Around) (fs : List (List ℕ × Term)) (i : ℕ) (f : List ℕ × Term) (xs ys : List (List ℕ × Value)) (n : List ℕ) (v : Value) → i < length fs → f ≡ get_or fs i f →
    AreFilled (take i fs) a (fields_view xs) → ys ≡ xs ++ (n, v) ∷ [] → n ≡ f.0 → IsValue a f.1 (view v) →
    AreFilled (take (i + 1) fs) a (fields_view ys)
filled_step a fs i f xs ys n v l e h g m k =
    let more : take (i + 1) fs ≡ take i fs ++ f ∷ [] = take_more fs i f l ∙ ap (λ z. take i fs ++ z ∷ []) (sym e) in
    let all_of : fields_view ys ≡ fields_view xs ++ (n, view v) ∷ [] = ap fields_view g ∙ map-append (λ (x : List ℕ × Value). (x.0, view x.1)) xs ((n, v) ∷ []) in
    subst (λ zs. AreFilled zs a (fields_view ys)) (sym more)
    (subst (λ ds. AreFilled (take i fs ++ f ∷ []) a ds) (sym all_of) (filled_more a (take i fs) f (fields_view xs) (n, view v) h m k))

-- each part is ready
pub part_fine : (types : Source → Option Shape) (s : ScopeValues) (ts : List Term) (i : ℕ) (t : Term) → AreFine types s ts → i < length ts → t ≡ get_or ts i t → CanEvaluate types s t
part_fine types s [] i t h l e = absurd (omega arith)
part_fine types s (u ∷ ts) zero t h l e = subst (CanEvaluate types s) (sym e) h.0
part_fine types s (u ∷ ts) (suc i) t h l e = part_fine types s ts i t h.1 (omega arith) e

pub field_fine : (types : Source → Option Shape) (s : ScopeValues) (fs : List (List ℕ × Term)) (i : ℕ) (f : List ℕ × Term) → AreFine types s (terms_of fs) → i < length fs → f ≡ get_or fs i f →
    CanEvaluate types s f.1
field_fine types s [] i f h l e = absurd (omega arith)
field_fine types s (g ∷ fs) zero f h l e = subst (λ (z : List ℕ × Term). CanEvaluate types s z.1) (sym e) h.0
field_fine types s (g ∷ fs) (suc i) f h l e = field_fine types s fs i f h.1 (omega arith) e
