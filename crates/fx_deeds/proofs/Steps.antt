-- One step of a deed after another.
use Rattle.std.proofs.Common.{◌≡◌, ℕ, List, [], ◌∷◌, Bool, true, false, map, Option, Some, None, Result, Ok, Err, refl, ap, sym, subst}
use Rattle.fx_base.proofs.Silences.{goes_two, goes_weaker}
use Rattle.fx_base.specs.Silence.{MayFallSilent, IsLater, SilenceCause, Marks}
use Rattle.fx_types.specs.declared.values.Value.{Value}
use Rattle.fx_types.specs.Values.{Data, boolean}
use Rattle.fx_types.specs.ValueView.{view}
use Rattle.fx_core.specs.declared.sources.Source.{Source}
use Rattle.fx_core.specs.declared.sources.Source.TheVariants as source
use Rattle.session_state.specs.declared.change.Change.TheVariants as change
use Rattle.std.specs.Prelude.{MatchResult}
use Rattle.fx_deeds.specs.Changed.{IsChanged, IsRowRemoved}
use Rattle.fx_deeds.specs.Deeds.{AnswersOnly, AreRemoved, UpdatesContext, ByDone, RemovesThen, row_id_value, named_id}
use Rattle.fx_deeds.specs.Found.{IsTakenOut}
use Rattle.fx_deeds.specs.Fitting.{CanTakeAll, SourceTypes}
use Rattle.fx_deeds.specs.RemainingRows.{RestDecides}
use Rattle.fx_deeds.specs.RowValues.{not_found, too_much}
use Rattle.fx_deeds.specs.State.{WorldState}

abbrev pub Whole : Type 0 → Type 1
Whole A = WorldState A → Data → WorldState A → Type 0

abbrev pub setting : {A : Type 0} → List Source → List Value → Whole A
setting ks vs = UpdatesContext ks (map view vs)

set_first : {A : Type 0} (n : ℕ) (ks names : List Source) (d v : Value) (ds vs : List Value) (done : Bool) (s m t : WorldState A) (x : Data) → names ≡ source.Context n ∷ ks → vs ≡ d ∷ ds → v ≡ d →
    IsChanged (change.Context n v) done s m → ByDone done (setting ks ds m x t) m x t → setting names vs s x t
set_first n ks names d v ds vs done s m t x e f c h k =
    subst (λ z. UpdatesContext z (map view vs) s x t) (sym e) (subst (λ z. UpdatesContext (source.Context n ∷ ks) (map view z) s x t) (sym f) (done, m, (v, ap view c, h), k))

pub set_refused : {A : Type 0} (k l m : Marks) (x y z : Option (WorldState A)) (W : Whole A) (n : ℕ) (ks names : List Source) (d v : Value) (ds vs : List Value) (done : Bool) (e : Data) →
    IsLater k l → IsLater l m → names ≡ source.Context n ∷ ks → vs ≡ d ∷ ds → v ≡ d → done ≡ false → e ≡ too_much →
    MayFallSilent (SilenceCause k l) (RestDecides (setting names vs) W) x y → MayFallSilent (SilenceCause l m) (IsChanged (change.Context n v) done) y z → MayFallSilent (SilenceCause k m) (λ s t. W s e t) x z
set_refused k l m x y z W n ks names d v ds vs done e before later p q c f i =
    goes_two (RestDecides (setting names vs) W) (IsChanged (change.Context n v) done) (λ s t. W s e t)
    (λ s b t h j. h e t (set_first n ks names d v ds vs done b t t e p q c j (subst (λ w. ByDone w (setting ks ds t e t) t e t) (sym f) (i, refl))))
    k l m before later x y z

pub set_goes : {A : Type 0} (k l m : Marks) (x y z : Option (WorldState A)) (W : Whole A) (n : ℕ) (ks names : List Source) (d v : Value) (ds vs : List Value) (done : Bool) →
    IsLater k l → IsLater l m → names ≡ source.Context n ∷ ks → vs ≡ d ∷ ds → v ≡ d → done ≡ true →
    MayFallSilent (SilenceCause k l) (RestDecides (setting names vs) W) x y → MayFallSilent (SilenceCause l m) (IsChanged (change.Context n v) done) y z → MayFallSilent (SilenceCause k m) (RestDecides (setting ks ds) W) x z
set_goes k l m x y z W n ks names d v ds vs done before later p q c f =
    goes_two (RestDecides (setting names vs) W) (IsChanged (change.Context n v) done) (RestDecides (setting ks ds) W)
    (λ s b t h j w u r. h w u (set_first n ks names d v ds vs done b t u w p q c j (subst (λ o. ByDone o (setting ks ds t w u) t w u) (sym f) r)))
    k l m before later x y z

no_names : {A : Type 0} (types : SourceTypes) (names : List Source) (vs : List Value) (s : WorldState A) → vs ≡ [] → CanTakeAll types names (map view vs) → setting names vs s (boolean true) s
no_names types [] vs s e h = subst (λ z. setting [] z s (boolean true) s) (sym e) (refl, refl)
no_names types (k ∷ ks) vs s e h = absurd (wrong k ks (subst (λ z. CanTakeAll types (k ∷ ks) (map view z)) e h))
  where
    wrong : (k : Source) (ks : List Source) → CanTakeAll types (k ∷ ks) [] → ⊥
    wrong (source.Cell n) ks h = h
    wrong (source.Global n) ks h = h
    wrong (source.Context n) ks h = h
    wrong (source.Gathered n) ks h = h
    wrong (source.Input n) ks h = h
    wrong (source.Chosen n) ks h = h
    wrong (source.Table n) ks h = h
    wrong source.Today ks h = h

pub set_ends : {A : Type 0} (lost : Type 0) (types : SourceTypes) (x y : Option (WorldState A)) (W : Whole A) (names : List Source) (vs : List Value) → vs ≡ [] → CanTakeAll types names (map view vs) →
    MayFallSilent lost (RestDecides (setting names vs) W) x y → MayFallSilent lost (λ s t. W s (boolean true) t) x y
set_ends lost types x y W names vs e h = goes_weaker lost (RestDecides (setting names vs) W) (λ s t. W s (boolean true) t) (λ s t f. f (boolean true) t (no_names types names vs t e h)) x y

pub can_rest : (types : SourceTypes) (n : ℕ) (ks names : List Source) (d : Value) (ds vs : List Value) → names ≡ source.Context n ∷ ks → vs ≡ d ∷ ds →
    CanTakeAll types names (map view vs) → CanTakeAll types ks (map view ds)
can_rest types n ks names d ds vs p q h =
    let k = subst (λ z. CanTakeAll types (source.Context n ∷ ks) (map view z)) q (subst (λ z. CanTakeAll types z (map view vs)) p h) in k.1

-- ---- rows that are taken out

abbrev pub removing : {A : Type 0} → ℕ → List Value → Whole A
removing k vs = AreRemoved k (map view vs)

removed_first : {A : Type 0} (k : ℕ) (v : Value) (vs rest : List Value) (s m t : WorldState A) (x : Data) → rest ≡ v ∷ vs → IsTakenOut k (view v) None s m → removing k vs m x t → removing k rest s x t
removed_first {A} k v vs rest s m t x e h r =
    let after : WorldState A → Type 0 = λ n. removing k vs n x t in
    subst (λ z. AreRemoved k (map view z) s x t) (sym e)
    (subst (λ o. MatchResult o (λ id. RemovesThen k id s after x t) (λ f. AnswersOnly f s x t)) (sym h.1) (true, m, h.2, r))

removed_stops : {A : Type 0} (k : ℕ) (v e : Value) (vs rest : List Value) (s t : WorldState A) → rest ≡ v ∷ vs → IsTakenOut k (view v) (Some e) s t → removing k rest s (view e) t
removed_stops {A} k v e vs rest s t q h = subst (λ z. AreRemoved k (map view z) s (view e) t) (sym q) (by (named_id (row_id_value (view v))) h)
  where
    by : (o : Result ℕ Data) → MatchResult o (λ id. IsRowRemoved k id false s t × (view e ≡ not_found)) (λ f. AnswersOnly f s (view e) t) →
        MatchResult o (λ id. RemovesThen k id s (λ n. removing k vs n (view e) t) (view e) t) (λ f. AnswersOnly f s (view e) t)
    by (Ok id) r = (false, t, r.0, (r.1, refl))
    by (Err f) r = r

pub remove_stops : {A : Type 0} (k l m : Marks) (x y z : Option (WorldState A)) (W : Whole A) (n : ℕ) (v e : Value) (o : Option Value) (vs rest : List Value) → IsLater k l → IsLater l m → rest ≡ v ∷ vs →
    o ≡ Some e → MayFallSilent (SilenceCause k l) (RestDecides (removing n rest) W) x y → MayFallSilent (SilenceCause l m) (IsTakenOut n (view v) o) y z → MayFallSilent (SilenceCause k m) (λ s t. W s (view e) t) x z
remove_stops k l m x y z W n v e o vs rest before later q is =
    goes_two (RestDecides (removing n rest) W) (IsTakenOut n (view v) o) (λ s t. W s (view e) t)
    (λ s b t h j. h (view e) t (removed_stops n v e vs rest b t q (subst (λ r. IsTakenOut n (view v) r b t) is j))) k l m before later x y z

pub none_is : (o : Option Value) → ((e : Value) → o ≡ Some e → ⊥) → o ≡ None
none_is None f = refl
none_is (Some e) f = absurd (f e refl)

pub remove_goes : {A : Type 0} (k l m : Marks) (x y z : Option (WorldState A)) (W : Whole A) (n : ℕ) (v : Value) (o : Option Value) (vs rest : List Value) → IsLater k l → IsLater l m → rest ≡ v ∷ vs →
    ((e : Value) → o ≡ Some e → ⊥) → MayFallSilent (SilenceCause k l) (RestDecides (removing n rest) W) x y → MayFallSilent (SilenceCause l m) (IsTakenOut n (view v) o) y z → MayFallSilent (SilenceCause k m) (RestDecides (removing n vs) W) x z
remove_goes k l m x y z W n v o vs rest before later q none =
    goes_two (RestDecides (removing n rest) W) (IsTakenOut n (view v) o) (RestDecides (removing n vs) W)
    (λ s b t h j w u r. h w u (removed_first n v vs rest b t u w q (subst (λ p. IsTakenOut n (view v) p b t) (none_is o none) j) r)) k l m before later x y z
