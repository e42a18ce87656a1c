-- What a world tells of its state, by what it tells as an environment.
use Rattle.std.proofs.Common.{◌≡◌, ℕ, ◌++◌, List, [], Option, Some, None, true, refl, ap, sym, subst, ◌∙◌}
use Rattle.fx_base.specs.Silence.{MayFallSilent}
use Rattle.fx_base.specs.Telling.{Stays}
use Rattle.fx_types.specs.Types.{Shape, ColumnList, tables}
use Rattle.fx_types.specs.Values.{Data}
use Rattle.fx_env.specs.Telling.{EnvState, values_told}
use Rattle.fx_semantics.specs.Rows.{rows_in, table_of}
use Rattle.fx_semantics.specs.Sources.{FitsIn, Gives}
use Rattle.fx_semantics.proofs.Tables.{rows_in_fit, table_fits}
use Rattle.fx_value.specs.Columns.{Row}
use Rattle.fx_core.specs.declared.sources.Source.{Source}
use Rattle.fx_core.specs.declared.sources.Source.TheVariants as source
use Rattle.fx_value.specs.Fits.{fits_in}
use Rattle.fx_deeds.specs.Fitting.{SourceTypes}
use Rattle.fx_deeds.specs.State.{WorldState}
use Rattle.session_state.specs.Sessions.{stored_value}

stays_same : {A : Type 0} (lost : Type 0) (x : Option A) → MayFallSilent lost Stays x x
stays_same lost None = refl
stays_same lost (Some a) = refl

-- where what is told stays, the state does
pub state_stays : {B A : Type 0} (lost : Type 0) (a b : Option B) (x y : Option A) → (a ≡ b → x ≡ y) → (a ≡ None → x ≡ None) → (b ≡ None → y ≡ None) →
    MayFallSilent lost Stays a b → MayFallSilent lost Stays x y
state_stays lost None b x y keeps before after h = subst (λ z. MayFallSilent lost Stays z y) (sym (before refl)) (after h)
state_stays lost (Some a) None None y keeps before after h = after refl
state_stays lost (Some a) None (Some s) y keeps before after h = subst (λ z. MayFallSilent lost Stays (Some s) z) (sym (after refl)) h
state_stays lost (Some a) (Some b) x y keeps before after h = subst (λ z. MayFallSilent lost Stays x z) (keeps (ap Some (sym h))) (stays_same lost x)

-- and what holds of it then
pub state_holds : {A : Type 0} (lost : Type 0) (x y : Option A) (Q : A → Type 0) → MayFallSilent lost Stays x y → ((s : A) → y ≡ Some s → Q s) → MayFallSilent lost (λ s t. (t ≡ s) × Q s) x y
state_holds lost None y Q h f = h
state_holds lost (Some s) None Q h f = h
state_holds lost (Some s) (Some t) Q h f = (h, subst Q h (f t refl))

-- what is told of a collection the session holds
abbrev CollectionsTold : {A B : Type 0} → Option (WorldState A) → Option (EnvState B) → ℕ → Type 0
CollectionsTold {A} {B} state told k =
    (s : WorldState A) (e : EnvState B) → state ≡ Some s → told ≡ Some e → e.values (source.Gathered k) ≡ stored_value s.session (source.Gathered k)

-- so what a collection gives by what is told is what the session holds
pub held_there : {A B : Type 0} (types : SourceTypes) (state : Option (WorldState A)) (told : Option (EnvState B)) (k : ℕ) (d : Data) →
    (told ≡ None → state ≡ None) → CollectionsTold state told k → Gives types (values_told told) (source.Gathered k) d →
    (s : WorldState A) → state ≡ Some s → d ≡ stored_value s.session (source.Gathered k)
held_there types state None k d lost values h s e = let wrong : Some s ≡ None = sym e ∙ lost refl in absurd cc
held_there types state (Some e) k d lost values h s q = h.1 ∙ values s e q refl

-- rows that were read fit
pub rows_read_fit : (types : SourceTypes) (x : Source) (d : Data) (cs : ColumnList) (start rows : List Row) → FitsIn (types x) d → start ≡ [] → rows ≡ start ++ rows_in d →
    types x ≡ Some (tables cs) → fits_in (table_of rows) (tables cs) ≡ true
rows_read_fit types x d cs start rows f e r h =
    let fits : fits_in d (tables cs) ≡ true = subst (λ o. FitsIn o d) h f in
    subst (λ z. fits_in (table_of z) (tables cs) ≡ true) (sym (r ∙ ap (λ z. z ++ rows_in d) e)) (table_fits cs (rows_in d) (rows_in_fit d cs fits))
