-- What a tree without parts gives is there, and a value of another type can be coerced.
use Rattle.std.proofs.Common.{◌≡◌, ℕ, zero, suc, List, [], ◌∷◌, true, Option, Some, refl, ap, subst, ◌∙◌}
use Rattle.std.specs.Prelude.{IsSome, slice_get}
use Rattle.fx_types.specs.Types.{Shape, blanks, numbers, texts, booleans, dates, records, tables}
use Rattle.fx_types.specs.Values.{Data}
use Rattle.fx_eval.proofs.Ready.{one_part}
use Rattle.fx_eval.proofs.Ways.{changed_coerces}
use Rattle.fx_env.specs.Scopes.{ScopeValues, IsTypedHere, CanEvaluate}
use Rattle.fx_semantics.specs.Sound.{AreFit}
use Rattle.fx_core.specs.declared.sources.Source.{Source}
use Rattle.fx_core.specs.Term.{Term, Terms, of, nil, cons, row, coerce}
use Rattle.fx_typing.specs.WellTyped.{IsRuled, Context}
use Rattle.fx_value.specs.Coercion.{CanCoerce, HasCoercion}
use Rattle.fx_value.specs.Fits.{fits_in}

abbrev Types : Type 0
Types = Source → Option Shape

scope_there : (ds : List Data) (ts : List Shape) (k : ℕ) (t : Shape) → AreFit ds ts → slice_get ts k ≡ Some t → IsSome (slice_get ds k)
scope_there [] [] k t f e = absurd cc
scope_there [] (u ∷ ts) k t f e = absurd f
scope_there (d ∷ ds) [] k t f e = absurd f
scope_there (d ∷ ds) (u ∷ ts) zero t f e = refl
scope_there (d ∷ ds) (u ∷ ts) (suc k) t f e = scope_there ds ts k t f.1 e

pub row_there : (types : Types) (s : ScopeValues) (k : ℕ) → CanEvaluate types s (of (row k) nil) → IsSome (slice_get s.rows k)
row_there types s k r = scope_there s.rows r.1.context.rows k r.0 r.1.suits.rows r.1.typed.2

coerces : (c : Context) (to : Shape) (ts : Terms) (u t : Shape) → IsRuled c (coerce to) ts (u ∷ []) t → HasCoercion u to
coerces c numbers ts u t h = changed_coerces u numbers h.0
coerces c texts ts u t h = changed_coerces u texts h.0
coerces c booleans ts u t h = changed_coerces u booleans h.0
coerces c dates ts u t h = changed_coerces u dates h.0
coerces c (records cs) ts u t h = changed_coerces u (records cs) h.0
coerces c (tables cs) ts u t h = changed_coerces u (tables cs) h.0
coerces c blanks ts blanks t h = tt
coerces c blanks ts numbers t h = tt
coerces c blanks ts texts t h = tt
coerces c blanks ts booleans t h = tt
coerces c blanks ts dates t h = tt
coerces c blanks ts (records cs) t h = tt
coerces c blanks ts (tables cs) t h = tt

-- the value of the part can be coerced
pub can_coerce : (types : Types) (s : ScopeValues) (to : Shape) (t : Term) (d : Data) → CanEvaluate types s (of (coerce to) (cons t nil)) →
    ((u : Shape) → IsTypedHere types s t u → fits_in d u ≡ true) → CanCoerce d to
can_coerce types s to t d r f =
    let h = r.1.typed in
    let part = h.1 in
    let one : h.0 ≡ part.0 ∷ [] = part.2 ∙ ap (λ us. part.0 ∷ us) part.4 in
    record {
      from = part.0;
      fitting = f part.0 (one_part types s (coerce to) t r.0 refl r.1);
      coercion = coerces r.1.context to (cons t nil) part.0 r.0 (subst (λ (us : List Shape). IsRuled r.1.context (coerce to) (cons t nil) us r.0) one h.2);
    }
