-- Deeds, behind the parts that they take.
use Rattle.std.proofs.Common.{◌≡◌, ℕ, List, [], ◌∷◌, Option, Result, refl, sym, subst, ◌∙◌}
use Rattle.fx_base.proofs.Silences.{goes_two, goes_weaker, later_then}
use Rattle.fx_base.specs.Silence.{MayFallSilent, IsLater, SilenceCause, Marks}
use Rattle.std.specs.Prelude.{IfOk}
use Rattle.fx_types.specs.declared.faults.Kind.{Kind}
use Rattle.fx_types.specs.declared.values.Value.{Value}
use Rattle.fx_types.specs.ValueView.{view}
use Rattle.fx_env.specs.declared.environment.Stop.{Stop}
use Rattle.fx_types.specs.Types.{Shape}
use Rattle.fx_types.specs.Values.{Data, fault}
use Rattle.fx_env.specs.Scopes.{ScopeValues}
use Rattle.fx_scalar.specs.LazyForms.{IsNoError}
use Rattle.fx_semantics.specs.Rows.{rows_in}
use Rattle.fx_value.specs.Columns.{Row}
use Rattle.fx_core.specs.declared.deeds.Deed.{Deed}
use Rattle.fx_core.specs.declared.deeds.Deed.TheVariants as deed
use Rattle.fx_core.specs.declared.deeds.Target.{Target}
use Rattle.fx_core.specs.Term.{Term, of, all, act}
use Rattle.fx_typing.specs.WellTyped.{parts_count, plain, standing_at}
use Rattle.fx_semantics.proofs.Whole.{lawful_here, parts_lawful}
use Rattle.fx_semantics.specs.Sound.{AreFit}
use Rattle.fx_behave.proofs.Sequences.{or_value}
use Rattle.fx_behave.proofs.Actables.{all_actable}
use Rattle.fx_behave.proofs.DeedParts.{IsUpdating, answers_as, can_do}
use Rattle.fx_behave.specs.Actable.{AreActable, IsActable}
use Rattle.fx_deeds.specs.Doable.{AnswersAs, CanDo}
use Rattle.fx_deeds.specs.Fitting.{SourceTypes}
use Rattle.fx_behave.specs.Perform.{PerformsEach, ArePerformed, Doing, IsAct, IsUpdateIf, Performs, performing, performings}
use Rattle.fx_deeds.specs.Deeds.{OrError}
use Rattle.fx_deeds.specs.Done.{IsDeed, IsUpdate}
use Rattle.fx_deeds.specs.State.{Ground, WorldState}

-- ---- what is done

deed_by : {A : Type 0} (g : Ground A) (d : Deed) (Ps : List (Doing A)) (h : ScopeValues) (s n : WorldState A) (ds : List Data) (v : Data) (u : WorldState A) → (IsUpdating d → ⊥) → ArePerformed Ps h s ds n → IsDeed g.frame d ds n v u → IsAct g d Ps h s v u
deed_by g (deed.Set k) Ps h s n ds v u o p q = (ds, n, p, q)
deed_by g (deed.UpdateContext ks) Ps h s n ds v u o p q = (ds, n, p, q)
deed_by g (deed.Collect k) Ps h s n ds v u o p q = (ds, n, p, q)
deed_by g (deed.Clear k) Ps h s n ds v u o p q = (ds, n, p, q)
deed_by g (deed.ClearCollect k) Ps h s n ds v u o p q = (ds, n, p, q)
deed_by g (deed.Patch t) Ps h s n ds v u o p q = (ds, n, p, q)
deed_by g (deed.Remove t) Ps h s n ds v u o p q = (ds, n, p, q)
deed_by g (deed.RemoveIf t) Ps h s n ds v u o p q = (ds, n, p, q)
deed_by g (deed.UpdateIf t) Ps h s n ds v u o p q = absurd (o tt)
deed_by g (deed.Navigate k) Ps h s n ds v u o p q = (ds, n, p, q)
deed_by g deed.Notify Ps h s n ds v u o p q = (ds, n, p, q)
deed_by g (deed.Reset k) Ps h s n ds v u o p q = (ds, n, p, q)

-- all but `UpdateIf`: the values of the parts, and then the deed
pub deed_goes : {A : Type 0} (g : Ground A) (h : ScopeValues) (k l m : Marks) (x y z : Option (WorldState A)) (d : Deed) → (IsUpdating d → ⊥) → (ts : List Term) (ds : List Data) (v : Data) → IsLater k l → IsLater l m →
    MayFallSilent (SilenceCause k l) (λ s u. ArePerformed (performings g (all ts)) h s ds u) x y → MayFallSilent (SilenceCause l m) (λ s u. IsDeed g.frame d ds s v u) y z → MayFallSilent (SilenceCause k m) (λ s u. IsAct g d (performings g (all ts)) h s v u) x z
deed_goes g h k l m x y z d o ts ds v before later =
    goes_two (λ s u. ArePerformed (performings g (all ts)) h s ds u) (λ s u. IsDeed g.frame d ds s v u) (λ s u. IsAct g d (performings g (all ts)) h s v u)
    (λ s n u p q. deed_by g d (performings g (all ts)) h s n ds v u o p q) k l m before later x y z

abbrev updating : {A : Type 0} → Ground A → ScopeValues → Target → Term → Term → WorldState A → Data → WorldState A → Type 0
updating g h p t f = IsUpdateIf g p (performing g t ∷ performing g f ∷ []) h

-- `UpdateIf`: its filter, the change of each row, and then the update
pub update_goes : {A : Type 0} (g : Ground A) (h : ScopeValues) (k l m o : Marks) (w x y z : Option (WorldState A)) (p : Target) (t f : Term) (d : Data) (rows taken : List Row) (es : List Data) (v : Data) →
    IsLater k l → IsLater l m → IsLater m o → IsNoError d → rows ≡ rows_in d → taken ≡ rows → MayFallSilent (SilenceCause k l) (λ s u. Performs g t h d s u) w x →
    MayFallSilent (SilenceCause l m) (λ s u. PerformsEach (performing g f) h taken s es u) x y → MayFallSilent (SilenceCause m o) (λ s u. IsUpdate g.frame p taken es s v u) y z →
    MayFallSilent (SilenceCause k o) (λ s u. updating g h p t f s v u) w z
update_goes {A} g h k l m o w x y z p t f d rows taken es v first second third fine are is a b c =
    let follows : WorldState A → WorldState A → Type 0 = λ s u. (i : WorldState A) × PerformsEach (performing g f) h taken s es i × IsUpdate g.frame p taken es i v u in
    let same : taken ≡ rows_in d = is ∙ are in
    goes_two (λ s u. Performs g t h d s u) follows (λ s u. updating g h p t f s v u)
    (λ s n u q r. (
      d,
      n,
      q,
      or_value d ((vs : List Data) × (i : WorldState A) × PerformsEach (performing g f) h (rows_in d) n vs i × IsUpdate g.frame p (rows_in d) vs i v u) n v u fine
          (es, r.0, subst (λ (rs : List Row). PerformsEach (performing g f) h rs n es r.0) same r.1, subst (λ (rs : List Row). IsUpdate g.frame p rs es r.0 v u) same r.2),
    )) k l o first (later_then l m o second third) w x z a
    (goes_two (λ s u. PerformsEach (performing g f) h taken s es u) (λ s u. IsUpdate g.frame p taken es s v u) follows (λ s i u q r. (i, q, r)) l m o second third x y z b c)

-- an error of the filter is the answer
pub update_fails : {A : Type 0} (g : Ground A) (h : ScopeValues) (lost : Type 0) (x y : Option (WorldState A)) (p : Target) (t f : Term) (d : Data) (kind : Kind) (cs : List ℕ) → d ≡ fault kind cs →
    MayFallSilent lost (λ s u. Performs g t h d s u) x y → MayFallSilent lost (λ s u. updating g h p t f s (fault kind cs) u) x y
update_fails {A} g h lost x y p t f d kind cs e =
    goes_weaker lost (λ s u. Performs g t h d s u) (λ s u. updating g h p t f s (fault kind cs) u)
    (λ s i q. (d, i, q, subst (λ z. OrError z ((es : List Data) × (o : WorldState A) × PerformsEach (performing g f) h (rows_in d) i es o × IsUpdate g.frame p (rows_in d) es o (fault kind cs) i) i (fault kind cs) i) (sym e) (refl, refl))) x y

-- ---- by the values of its parts

-- all but `UpdateIf`
pub not_updating : (d : Deed) → ((p : Target) → d ≡ deed.UpdateIf p → ⊥) → IsUpdating d → ⊥
not_updating (deed.UpdateIf p) o = λ i. o p refl
not_updating d o = λ i. i

-- its parts stand where it stands
deed_plain : (d : Deed) → (IsUpdating d → ⊥) → (n i : ℕ) → standing_at (act d) n i ≡ plain
deed_plain (deed.UpdateIf p) o n i = absurd (o tt)
deed_plain d o n i = refl

module _ (types : SourceTypes) (s : ScopeValues) (d : Deed) (ts : List Term) (u : Shape) (o : IsUpdating d → ⊥) (r : IsActable types s (of (act d) (all ts)) u) where
  pub parts_of_deed : AreActable types s r.typed.0 ts
  parts_of_deed = all_actable types s (act d) ts u (λ n i. deed_plain d o n i) r

  pub deed_can : (ds : List Data) → ((us : List Shape) → AreActable types s us ts → AreFit ds us) → CanDo types d ds
  deed_can ds fits =
      can_do r.context types r.suits.sources d r.typed.0 ds ts (parts_count (all ts)) u o (r.placed.0 refl) (lawful_here r.context (of (act d) (all ts)) u r.typed r.lawful)
      (parts_lawful r.context (act d) (parts_count (all ts)) [] (all ts) r.typed.0 r.typed.1 r.lawful.1) r.typed.1 r.typed.2 (fits r.typed.0 parts_of_deed)

  pub deed_answers : AnswersAs types d u
  deed_answers = answers_as r.context types r.suits.sources d r.typed.0 (all ts) u o r.typed.2

-- what is done by a deed as it is found
pub deed_as : {A : Type 0} (g : Ground A) (h : ScopeValues) (Ps : List (Doing A)) (lost : Type 0) (a b : Option (WorldState A)) (d e : Deed) (result : Result Value Stop) → d ≡ e →
    IfOk result (λ v. MayFallSilent lost (λ s u. IsAct g e Ps h s (view v) u) a b) → IfOk result (λ v. MayFallSilent lost (λ s u. IsAct g d Ps h s (view v) u) a b)
deed_as g h Ps lost a b d e result q k = subst (λ (z : Deed). IfOk result (λ v. MayFallSilent lost (λ s u. IsAct g z Ps h s (view v) u) a b)) (sym q) k
