-- Calls of functions of values give values that fit.
use Rattle.std.proofs.Common.{◌≡◌, ℕ, zero, suc, ◌+◌, ◌<◌, List, [], ◌∷◌, length, true, Option, Ok, refl, ap, subst, arith}
use Rattle.fx_types.specs.declared.faults.Fault.{Fault}
use Rattle.fx_types.specs.Types.{Shape}
use Rattle.fx_types.specs.Values.{Data}
use Rattle.fx_core.specs.Rows.{shape_of, row_of, takes_at}
use Rattle.fx_core.specs.declared.functions.Fun.{Fun}
use Rattle.fx_core.specs.declared.functions.Fun.TheVariants as fun
use Rattle.fx_core.specs.declared.rows.Answer.{Answer}
use Rattle.fx_core.specs.declared.rows.Answer.TheVariants as answer
use Rattle.fx_core.specs.declared.rows.Scalar.{Scalar}
use Rattle.fx_core.specs.declared.rows.Takes.{Takes}
use Rattle.fx_core.specs.declared.rows.Takes.TheVariants as takes
use Rattle.fx_core.specs.declared.rows.Row.{Row}
use Rattle.fx_scalar.proofs.AnswerFits.{answers_fit}
use Rattle.fx_scalar.specs.Arguments.{argument_at}
use Rattle.fx_scalar.specs.Fitting.{FitPlaces, FitsAnswer, fits_place}
use Rattle.fx_scalar.specs.ScalarFunctions.{IsAnswer}
use Rattle.fx_core.specs.Term.{Terms, nil, cons, call}
use Rattle.fx_typing.specs.WellTyped.{Context, Stands, AllStand, AreAllOfShape, head_of, standing_at, answered_type, first_type, typed_pairs}
use Rattle.fx_value.specs.Fits.{fits_in}
use Rattle.fx_semantics.specs.Around.{Meaning}
use Rattle.fx_semantics.specs.Fresh.{IsCalled, OfAll}
use Rattle.fx_semantics.specs.Sound.{AreFit}
use Rattle.fx_semantics.proofs.Columns.{fine}
use Rattle.fx_semantics.proofs.Forms.{IsQuiet, IsQuietTake, each_take, coalesced_fits}
use Rattle.fx_semantics.proofs.Over.{along}
use Rattle.fx_semantics.proofs.Parts.{Giving, stands, Suits, AllPlain, values_fit}

-- arguments stand where the whole stands
pub call_quiet : (f : Fun) → head_of f ≡ call f → (n i : ℕ) → IsQuiet (standing_at (call f) n i)
call_quiet fun.Filter e n i = absurd cc
call_quiet fun.LookUp e n i = absurd cc
call_quiet (fun.Sort o) e n i = absurd cc
call_quiet fun.First e n i = absurd cc
call_quiet fun.Last e n i = absurd cc
call_quiet fun.FirstN e n i = absurd cc
call_quiet fun.LastN e n i = absurd cc
call_quiet fun.CountRows e n i = absurd cc
call_quiet fun.CountIf e n i = absurd cc
call_quiet fun.IsEmpty e n i = absurd cc
call_quiet fun.SumRows e n i = absurd cc
call_quiet fun.MinRows e n i = absurd cc
call_quiet fun.MaxRows e n i = absurd cc
call_quiet fun.AverageRows e n i = absurd cc
call_quiet fun.AddColumns e n i = absurd cc
call_quiet fun.DropColumns e n i = absurd cc
call_quiet fun.ShowColumns e n i = absurd cc
call_quiet fun.RenameColumns e n i = absurd cc
call_quiet fun.GroupBy e n i = absurd cc
call_quiet fun.Ungroup e n i = absurd cc
call_quiet fun.Distinct e n i = absurd cc
call_quiet fun.ForAll e n i = absurd cc
call_quiet fun.Concat e n i = absurd cc
call_quiet f e n i = each_take IsQuietTake (row_of f) n i tt tt tt tt tt

-- Coalesce
choice_take : (first common u : Shape) (n i : ℕ) → Stands (takes_at (row_of fun.Coalesce) n i) first common u → u ≡ common
choice_take first common u n i =
    each_take (λ k. Stands k first common u → u ≡ common) (row_of fun.Coalesce) n i (λ h. h) (λ h. h) (λ h. h) (λ h. h) (λ h. h)

choice_types : (first common : Shape) (n i : ℕ) (us : List Shape) → AllStand (row_of fun.Coalesce) n i first common us → AreAllOfShape common us
choice_types first common n i [] h = tt
choice_types first common n i (u ∷ us) h = (choice_take first common u n i h.0, choice_types first common n (suc i) us h.1)

-- arguments that fit the types at their places fit the places
place_fits : (k : Takes) (first common t : Shape) (d : Data) → Stands k first common t → fits_in d t ≡ true → fits_place k d ≡ true
place_fits (takes.Scalar s) first common t d e f = let P : Shape → Type 0 = λ z. fits_in d z ≡ true in subst P e f
place_fits (takes.Exact s) first common t d e f = let P : Shape → Type 0 = λ z. fits_in d z ≡ true in subst P e f
place_fits k first common t d e f = refl

places_fit : (r : Row) (n : ℕ) (first common : Shape) (j : ℕ) (us : List Shape) (ds : List Data) → AllStand r n j first common us → AreFit ds us →
    (i : ℕ) → i < length ds → fits_place (takes_at r n (j + i)) (argument_at ds i) ≡ true
places_fit r n first common j [] [] a f i l = absurd (omega (arith, l))
places_fit r n first common j (u ∷ us) (d ∷ ds) a f zero l =
    let P : ℕ → Type 0 = λ k. fits_place (takes_at r n k) d ≡ true in
    let e : j ≡ j + 0 = omega arith in
    subst P e (place_fits (takes_at r n j) first common u d a.0 f.0)
places_fit r n first common j (u ∷ us) (d ∷ ds) a f (suc i) l =
    let P : ℕ → Type 0 = λ k. fits_place (takes_at r n k) (argument_at ds i) ≡ true in
    let e : suc j + i ≡ j + suc i = omega arith in
    subst P e (places_fit r n first common (suc j) us ds a.1 f.1 i (omega (arith, l)))
places_fit r n first common j [] (d ∷ ds) a f i l = absurd f
places_fit r n first common j (u ∷ us) [] a f i l = absurd f

same_length : (ds : List Data) (us : List Shape) → AreFit ds us → length us ≡ length ds
same_length [] [] f = refl
same_length (d ∷ ds) (u ∷ us) f = ap suc (same_length ds us f.1)
same_length [] (u ∷ us) f = absurd f
same_length (d ∷ ds) [] f = absurd f

fit_places : (f : Fun) (first common : Shape) (us : List Shape) (ds : List Data) → AllStand (row_of f) (length us) 0 first common us → AreFit ds us → FitPlaces f ds
fit_places f first common us ds a h = λ i l.
    let P : ℕ → Type 0 = λ n. fits_place (takes_at (row_of f) n i) (argument_at ds i) ≡ true in
    let Q : ℕ → Type 0 = λ k. fits_place (takes_at (row_of f) (length us) k) (argument_at ds i) ≡ true in
    let e : 0 + i ≡ i = omega arith in
    subst P (same_length ds us h) (subst Q e (places_fit (row_of f) (length us) first common 0 us ds a h i l))

-- the others
strict_fits : (g : Giving) (c : Context) (rows : List Data) (item : Option Data) (caught : Option Fault) → Suits g c rows item →
    (f : Fun) (s : Scalar) (Ps : List Meaning) (us : List Shape) (first common t : Shape) (v : Data) → (row_of f).answer ≡ answer.Scalar s →
    AllPlain g c Ps us → AllStand (row_of f) (length us) 0 first common us → fine (shape_of s) ≡ fine t →
    OfAll Ps (stands g rows item caught) (λ ds. IsAnswer f ds v) → fits_in v t ≡ true
strict_fits g c rows item caught s f r Ps us first common t v a k w e h =
    let P : Answer → Type 0 = λ q. FitsAnswer q h.0 v in
    along (shape_of r) t v e (subst P a (answers_fit f h.0 v (fit_places f first common us h.0 w (values_fit g c Ps us k rows item caught s h.0 h.1)) h.2))

-- `Table`: the value of its one argument
first_value_fits : (ts : Terms) (us : List Shape) (ds : List Data) (common t : Shape) (v : Data) → answered_type answer.Same common (typed_pairs ts us) ≡ Ok t → AreFit ds us →
    ((w : Shape) → fits_in (argument_at ds 0) w ≡ true → fits_in v w ≡ true) → fits_in v t ≡ true
first_value_fits (cons x ts) (u ∷ us) (d ∷ ds) common t v e f k = along u t v e (k u f.0)
first_value_fits (cons x ts) (u ∷ us) [] common t v e f k = absurd f
first_value_fits nil us ds common t v e f k = absurd cc
first_value_fits (cons x ts) [] ds common t v e f k = absurd cc

pub call_fits : (g : Giving) (c : Context) (rows : List Data) (item : Option Data) (caught : Option Fault) → Suits g c rows item →
    (f : Fun) → head_of f ≡ call f → (ts : Terms) (Ps : List Meaning) (us : List Shape) (common t : Shape) → AllPlain g c Ps us →
    AllStand (row_of f) (length us) 0 (first_type us) common us → answered_type (row_of f).answer common (typed_pairs ts us) ≡ Ok t →
    (v : Data) → IsCalled f Ps (stands g rows item caught) v → fits_in v t ≡ true
call_fits g c rows item caught s fun.Coalesce q ts Ps us common t k w e v h =
    along common t v e (coalesced_fits g c rows item caught s Ps us common k (choice_types (first_type us) common (length us) 0 us w) v h)
call_fits g c rows item caught s fun.Table q ts Ps us common t k w e v h =
    let f = values_fit g c Ps us k rows item caught s h.0 h.1 in
    first_value_fits ts us h.0 common t v e f (answers_fit fun.Table h.0 v (fit_places fun.Table (first_type us) common us h.0 w f) h.2)
call_fits g c rows item caught s fun.Filter q ts Ps us common t k w e v h = absurd cc
call_fits g c rows item caught s fun.LookUp q ts Ps us common t k w e v h = absurd cc
call_fits g c rows item caught s (fun.Sort o) q ts Ps us common t k w e v h = absurd cc
call_fits g c rows item caught s fun.First q ts Ps us common t k w e v h = absurd cc
call_fits g c rows item caught s fun.Last q ts Ps us common t k w e v h = absurd cc
call_fits g c rows item caught s fun.FirstN q ts Ps us common t k w e v h = absurd cc
call_fits g c rows item caught s fun.LastN q ts Ps us common t k w e v h = absurd cc
call_fits g c rows item caught s fun.CountRows q ts Ps us common t k w e v h = absurd cc
call_fits g c rows item caught s fun.CountIf q ts Ps us common t k w e v h = absurd cc
call_fits g c rows item caught s fun.IsEmpty q ts Ps us common t k w e v h = absurd cc
call_fits g c rows item caught s fun.SumRows q ts Ps us common t k w e v h = absurd cc
call_fits g c rows item caught s fun.MinRows q ts Ps us common t k w e v h = absurd cc
call_fits g c rows item caught s fun.MaxRows q ts Ps us common t k w e v h = absurd cc
call_fits g c rows item caught s fun.AverageRows q ts Ps us common t k w e v h = absurd cc
call_fits g c rows item caught s fun.AddColumns q ts Ps us common t k w e v h = absurd cc
call_fits g c rows item caught s fun.DropColumns q ts Ps us common t k w e v h = absurd cc
call_fits g c rows item caught s fun.ShowColumns q ts Ps us common t k w e v h = absurd cc
call_fits g c rows item caught s fun.RenameColumns q ts Ps us common t k w e v h = absurd cc
call_fits g c rows item caught s fun.GroupBy q ts Ps us common t k w e v h = absurd cc
call_fits g c rows item caught s fun.Ungroup q ts Ps us common t k w e v h = absurd cc
call_fits g c rows item caught s fun.Distinct q ts Ps us common t k w e v h = absurd cc
call_fits g c rows item caught s fun.ForAll q ts Ps us common t k w e v h = absurd cc
call_fits g c rows item caught s fun.Concat q ts Ps us common t k w e v h = absurd cc
call_fits g c rows item caught s f q ts Ps us common t k w e v h =
    strict_fits g c rows item caught s f _ Ps us (first_type us) common t v refl k w e h
