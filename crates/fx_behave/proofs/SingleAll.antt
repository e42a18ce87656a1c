-- A tree has one performing at most.
use Rattle.std.proofs.Common.{◌≡◌, ℕ, List, [], ◌∷◌, Bool, true, false, length, ap, sym, subst, ◌∙◌}
use Rattle.fx_types.specs.declared.faults.Kind.{Kind}
use Rattle.fx_types.specs.Types.{Shape, tables}
use Rattle.fx_types.specs.Values.{Data, blank, number, text, boolean, date, rec, tab, fault}
use Rattle.fx_eval.specs.Parts.{caught_in, inner}
use Rattle.fx_env.specs.Scopes.{ScopeValues}
use Rattle.fx_scalar.proofs.Single.{AtMostOne}
use Rattle.fx_scalar.specs.LazyForms.{CaughtOr, decision_of, none_left}
use Rattle.fx_scalar.specs.declared.lazy_forms.Decision.{Decision}
use Rattle.fx_scalar.specs.declared.lazy_forms.Decision.TheVariants.{Met, Unmet, Error}
use Rattle.fx_semantics.proofs.Single.{equal_one}
use Rattle.fx_semantics.proofs.SingleRows.{Once}
use Rattle.fx_semantics.specs.Around.{record_of}
use Rattle.fx_semantics.specs.Fresh.{field_of}
use Rattle.fx_semantics.specs.Rows.{rows_in}
use Rattle.fx_value.specs.Coercion.{IsCoerced}
use Rattle.fx_value.specs.Columns.{Row}
use Rattle.fx_tables.specs.RowCalls.{for_all_of}
use Rattle.fx_tables.specs.Unions.{union_of}
use Rattle.fx_core.specs.declared.deeds.Deed.{Deed}
use Rattle.fx_core.specs.declared.deeds.Deed.TheVariants as deed
use Rattle.fx_core.specs.declared.deeds.Target.{Target}
use Rattle.fx_core.specs.declared.functions.Form.TheVariants as form
use Rattle.fx_core.specs.Term.{Term, Terms, of, nil, cons, Top}
use Rattle.fx_core.specs.Term as top
use Rattle.fx_typing.specs.Acts.{acts}
use Rattle.fx_core.specs.ColumnLists.{row_columns}
use Rattle.fx_plan.specs.Limited.{limited}
use Rattle.fx_semantics.specs.Places.{is_for_all}
use Rattle.fx_deeds.proofs.Single.{Outcome, Same, answers_one, deed_once, or_error_one, two_one, update_one}
use Rattle.fx_deeds.specs.Deeds.{OrError}
use Rattle.fx_deeds.specs.Done.{IsDeed, IsUpdate}
use Rattle.fx_deeds.specs.State.{Ground, WorldState}
use Rattle.fx_behave.specs.Perform.{PerformsEach, ArePerformed, Decides, Doing, IsAct, PerformsNode, IsBranched, IsChain, NodeComesTo, IsForAll, IsListed, IsOverAll, PerformsIfError, PerformsSwitch, IsUpdateIf, PerformsWith, OfOnePart, switch_decision, performing, performings, taken}
use Rattle.fx_behave.specs.Unique.{GivesOne}
use Rattle.fx_semantics.proofs.SingleWhole.{coerced_one, single}

-- what a formula does is one thing at most
abbrev pub DoesOne : {A : Type 0} → Doing A → Type 0
DoesOne {A} P = (h : ScopeValues) (s : WorldState A) → AtMostOne (λ (o : Outcome A). P h s o.0 o.1)

abbrev pub AllDoOne : {A : Type 0} → List (Doing A) → Type 0
AllDoOne [] = Unit {0}
AllDoOne (P ∷ Ps) = DoesOne P × AllDoOne Ps

-- ---- parts in order

pub performed_one : {A : Type 0} (Ps : List (Doing A)) → AllDoOne Ps → (h : ScopeValues) (s : WorldState A) (xs ys : List Data) (t u : WorldState A) → ArePerformed Ps h s xs t → ArePerformed Ps h s ys u → Same xs t ys u
performed_one [] all h s [] [] t u g k = λ i. ([], (g ∙ sym k) i)
performed_one [] all h s (x ∷ xs) ys t u g k = absurd g
performed_one [] all h s [] (y ∷ ys) t u g k = absurd k
performed_one (P ∷ Ps) all h s [] ys t u g k = absurd g
performed_one (P ∷ Ps) all h s (x ∷ xs) [] t u g k = absurd k
performed_one (P ∷ Ps) all h s (x ∷ xs) (y ∷ ys) t u g k =
    let e : Same x g.0 y k.0 = all.0 h s (x, g.0) (y, k.0) g.1 k.1 in
    let more : Same xs t ys u = performed_one Ps all.1 h k.0 xs ys t u (subst (λ o. ArePerformed Ps h o.1 xs t) e g.2) k.2 in
    λ i. ((e i).0 ∷ (more i).0, (more i).1)

chain_one : {A : Type 0} (Ps : List (Doing A)) → AllDoOne Ps → DoesOne (IsChain Ps)
chain_one [] all h s = λ v w g k. absurd g
chain_one (P ∷ []) all h s = all.0 h s
chain_one (P ∷ Q ∷ Ps) all h s = two_one (λ y m. P h s y m) (λ y m o. IsChain (Q ∷ Ps) h m o.0 o.1) (all.0 h s) (λ y m. chain_one (Q ∷ Ps) all.1 h m)

-- ---- branches

decides_one : {A : Type 0} (d : Decision) (P Q : Outcome A → Type 0) (s : WorldState A) → AtMostOne P → AtMostOne Q → AtMostOne (λ (o : Outcome A). Decides d (P o) (Q o) s o.0 o.1)
decides_one Met P Q s p q = p
decides_one Unmet P Q s p q = q
decides_one (Error f) P Q s p q = answers_one _ s

branched_one : {A : Type 0} (D : Data → Decision) (Ps : List (Doing A)) → AllDoOne Ps → DoesOne (IsBranched D Ps)
branched_one D [] all h s = answers_one blank s
branched_one D (P ∷ []) all h s = all.0 h s
branched_one D (C ∷ P ∷ Ps) all h s =
    two_one (λ w m. C h s w m) (λ w m o. Decides (D w) (P h m o.0 o.1) (IsBranched D Ps h m o.0 o.1) m o.0 o.1) (all.0 h s)
    (λ w m. decides_one (D w) (λ o. P h m o.0 o.1) (λ o. IsBranched D Ps h m o.0 o.1) m (all.1.0 h m) (branched_one D Ps all.1.1 h m))

switched_one : {A : Type 0} (Ps : List (Doing A)) → AllDoOne Ps → DoesOne (PerformsSwitch Ps)
switched_one [] all h s = λ v w g k. absurd g
switched_one (P ∷ Ps) all h s =
    two_one (λ w m. P h s w m) (λ w m o. OrError w (IsBranched (switch_decision w) Ps h m o.0 o.1) m o.0 o.1) (all.0 h s)
    (λ w m. or_error_one w (λ o. IsBranched (switch_decision w) Ps h m o.0 o.1) m (branched_one (switch_decision w) Ps all.1 h m))

caught_or_one : {A : Type 0} (w : Data) (C : Kind → List ℕ → Outcome A → Type 0) (P : Outcome A → Type 0) → ((k : Kind) (cs : List ℕ) → AtMostOne (C k cs)) → AtMostOne P →
    AtMostOne (λ (o : Outcome A). CaughtOr w (λ k cs. C k cs o) (P o))
caught_or_one (fault k cs) C P c p = c k cs
caught_or_one blank C P c p = p
caught_or_one (number z) C P c p = p
caught_or_one (text z) C P c p = p
caught_or_one (boolean z) C P c p = p
caught_or_one (date z) C P c p = p
caught_or_one (rec z) C P c p = p
caught_or_one (tab z) C P c p = p

recovered_one : {A : Type 0} (d : Data) (Ps : List (Doing A)) → AllDoOne Ps → DoesOne (PerformsIfError d Ps)
recovered_one d [] all h s = answers_one d s
recovered_one d (P ∷ []) all h s = all.0 h s
recovered_one d (P ∷ F ∷ Ps) all h s =
    two_one (λ w m. P h s w m) (λ w m o. CaughtOr w (λ k cs. F (caught_in h k cs) m o.0 o.1) (PerformsIfError w Ps h m o.0 o.1)) (all.0 h s)
    (λ w m. caught_or_one w (λ k cs o. F (caught_in h k cs) m o.0 o.1) (λ o. PerformsIfError w Ps h m o.0 o.1) (λ k cs. all.1.0 (caught_in h k cs) m) (recovered_one w Ps all.1.1 h m))

-- ---- scopes

within_one : {A : Type 0} (Ps : List (Doing A)) → AllDoOne Ps → DoesOne (PerformsWith Ps)
within_one [] all h s = λ v w g k. absurd g
within_one (P ∷ []) all h s = λ v w g k. absurd g
within_one (P ∷ F ∷ []) all h s =
    two_one (λ w m. P h s w m) (λ w m o. OrError w (F (inner h w) m o.0 o.1) m o.0 o.1) (all.0 h s)
    (λ w m. or_error_one w (λ o. F (inner h w) m o.0 o.1) m (all.1.0 (inner h w) m))
within_one (P ∷ F ∷ Q ∷ Ps) all h s = λ v w g k. absurd g

pub each_one : {A : Type 0} (P : Doing A) → DoesOne P → (h : ScopeValues) (rs : List Row) (s : WorldState A) (xs ys : List Data) (t u : WorldState A) → PerformsEach P h rs s xs t → PerformsEach P h rs s ys u → Same xs t ys u
each_one P all h [] s [] [] t u g k = λ i. ([], (g ∙ sym k) i)
each_one P all h [] s (x ∷ xs) ys t u g k = absurd g
each_one P all h [] s [] (y ∷ ys) t u g k = absurd k
each_one P all h (r ∷ rs) s [] ys t u g k = absurd g
each_one P all h (r ∷ rs) s (x ∷ xs) [] t u g k = absurd k
each_one P all h (r ∷ rs) s (x ∷ xs) (y ∷ ys) t u g k =
    let e : Same x g.0 y k.0 = all (inner h (record_of r)) s (x, g.0) (y, k.0) g.1 k.1 in
    let more : Same xs t ys u = each_one P all h rs k.0 xs ys t u (subst (λ o. PerformsEach P h rs o.1 xs t) e g.2) k.2 in
    λ i. ((e i).0 ∷ (more i).0, (more i).1)

-- for each of some rows
abbrev Eaches : {A : Type 0} → Doing A → ScopeValues → List Row → WorldState A → Outcome A → Type 0
Eaches F h rs m o = (xs : List Data) × PerformsEach F h rs m xs o.1 × (o.0 ≡ for_all_of xs)

eaches_one : {A : Type 0} (F : Doing A) → DoesOne F → (h : ScopeValues) (rs : List Row) (m : WorldState A) → AtMostOne (Eaches F h rs m)
eaches_one F one h rs m v w g k =
    let e : Same g.0 v.1 k.0 w.1 = each_one F one h rs m g.0 k.0 v.1 w.1 g.1 k.1 in
    λ i. ((g.2 ∙ ap (λ o. for_all_of o.0) e ∙ sym k.2) i, (e i).1)

for_all_one : {A : Type 0} (Ps : List (Doing A)) → AllDoOne Ps → DoesOne (IsForAll Ps)
for_all_one [] all h s = λ v w g k. absurd g
for_all_one (P ∷ []) all h s = λ v w g k. absurd g
for_all_one (P ∷ F ∷ []) all h s =
    two_one (λ w m. P h s w m) (λ w m o. OrError w (Eaches F h (rows_in w) m o) m o.0 o.1) (all.0 h s)
    (λ w m. or_error_one w (Eaches F h (rows_in w) m) m (eaches_one F all.1.0 h (rows_in w) m))
for_all_one (P ∷ F ∷ Q ∷ Ps) all h s = λ v w g k. absurd g

over_all_one : {A : Type 0} (b : Bool) (Ps : List (Doing A)) → AllDoOne Ps → DoesOne (IsOverAll b Ps)
over_all_one true Ps all h s = for_all_one Ps all h s
over_all_one false Ps all h s = λ v w g k. absurd g

-- ---- values

of_one : {A : Type 0} (R : Data → Data → Type 0) → ((d : Data) → AtMostOne (R d)) → (Ps : List (Doing A)) → AllDoOne Ps → DoesOne (OfOnePart R Ps)
of_one R r [] all h s = λ v w g k. absurd g
of_one R r (P ∷ []) all h s = λ v w g k.
    let e : Same g.0 v.1 k.0 w.1 = all.0 h s (g.0, v.1) (k.0, w.1) g.1 k.1 in
    let x : v.0 ≡ w.0 = r k.0 v.0 w.0 (subst (λ o. R o.0 v.0) e g.2) k.2 in
    λ i. (x i, (e i).1)
of_one R r (P ∷ Q ∷ Ps) all h s = λ v w g k. absurd g

listed_one : {A : Type 0} (r : Shape) (Ps : List (Doing A)) → AllDoOne Ps → DoesOne (IsListed r Ps)
listed_one r Ps all h s v w g k =
    let e : Same g.0 v.1 k.0 w.1 = performed_one Ps all h s g.0 k.0 v.1 w.1 g.1 k.1 in
    λ i. ((g.2 ∙ ap (λ o. union_of (tables (row_columns r)) o.0) e ∙ sym k.2) i, (e i).1)

-- ---- deeds

-- the changes of some rows, and what they do
abbrev Changes : {A : Type 0} → Ground A → Target → Doing A → ScopeValues → List Row → WorldState A → Outcome A → Type 0
Changes {A} g p F h rs m z = (es : List Data) × (o : WorldState A) × PerformsEach F h rs m es o × IsUpdate g.frame p rs es o z.0 z.1

changes_one : {A : Type 0} (g : Ground A) (p : Target) (F : Doing A) → DoesOne F → (h : ScopeValues) (rs : List Row) (m : WorldState A) → AtMostOne (Changes g p F h rs m)
changes_one g p F one h rs m =
    two_one (λ es o. PerformsEach F h rs m es o) (λ es o z. IsUpdate g.frame p rs es o z.0 z.1) (λ v w i j. each_one F one h rs m v.0 w.0 v.1 w.1 i j) (λ es o. update_one g.frame p rs es o)

update_if_one : {A : Type 0} (g : Ground A) (p : Target) (Ps : List (Doing A)) → AllDoOne Ps → DoesOne (IsUpdateIf g p Ps)
update_if_one g p [] all h s = λ v w i j. absurd i
update_if_one g p (P ∷ []) all h s = λ v w i j. absurd i
update_if_one g p (P ∷ F ∷ []) all h s =
    two_one (λ w m. P h s w m) (λ w m o. OrError w (Changes g p F h (rows_in w) m o) m o.0 o.1) (all.0 h s)
    (λ w m. or_error_one w (Changes g p F h (rows_in w) m) m (changes_one g p F all.1.0 h (rows_in w) m))
update_if_one g p (P ∷ F ∷ Q ∷ Ps) all h s = λ v w i j. absurd i

-- a deed, once its parts have their values
abbrev Does : {A : Type 0} → Ground A → Deed → List (Doing A) → Doing A
Does {A} g d Ps h s x t = (ds : List Data) × (m : WorldState A) × ArePerformed Ps h s ds m × IsDeed g.frame d ds m x t

does_one : {A : Type 0} (g : Ground A) (d : Deed) (Ps : List (Doing A)) → AllDoOne Ps → DoesOne (Does g d Ps)
does_one g d Ps all h s =
    two_one (λ ds m. ArePerformed Ps h s ds m) (λ ds m o. IsDeed g.frame d ds m o.0 o.1) (λ v w i j. performed_one Ps all h s v.0 w.0 v.1 w.1 i j) (λ ds m. deed_once g.frame d ds m)

act_one : {A : Type 0} (g : Ground A) (d : Deed) (Ps : List (Doing A)) → AllDoOne Ps → DoesOne (IsAct g d Ps)
act_one g (deed.UpdateIf p) Ps all = update_if_one g p Ps all
act_one g (deed.Set k) Ps all = does_one g (deed.Set k) Ps all
act_one g (deed.UpdateContext ks) Ps all = does_one g (deed.UpdateContext ks) Ps all
act_one g (deed.Collect k) Ps all = does_one g (deed.Collect k) Ps all
act_one g (deed.Clear k) Ps all = does_one g (deed.Clear k) Ps all
act_one g (deed.ClearCollect k) Ps all = does_one g (deed.ClearCollect k) Ps all
act_one g (deed.Patch p) Ps all = does_one g (deed.Patch p) Ps all
act_one g (deed.Remove p) Ps all = does_one g (deed.Remove p) Ps all
act_one g (deed.RemoveIf p) Ps all = does_one g (deed.RemoveIf p) Ps all
act_one g (deed.Navigate k) Ps all = does_one g (deed.Navigate k) Ps all
act_one g deed.Notify Ps all = does_one g deed.Notify Ps all
act_one g (deed.Reset k) Ps all = does_one g (deed.Reset k) Ps all

-- ---- trees

acting_one : {A : Type 0} (g : Ground A) (k : Top) (Ps : List (Doing A)) → AllDoOne Ps → DoesOne (PerformsNode g k Ps)
acting_one g top.chain Ps all = chain_one Ps all
acting_one g (top.act d) Ps all = act_one g d Ps all
acting_one g (top.form form.If) Ps all = branched_one decision_of Ps all
acting_one g (top.form form.Switch) Ps all = switched_one Ps all
acting_one g (top.form form.IfError) Ps all = recovered_one (none_left form.IfError) Ps all
acting_one g top.within Ps all = within_one Ps all
acting_one g (top.over f) Ps all = over_all_one (is_for_all f) Ps all
acting_one g (top.dot n) Ps all = of_one (λ d x. x ≡ field_of n d) (λ d. equal_one (field_of n d)) Ps all
acting_one g (top.coerce to) Ps all = of_one (λ d x. IsCoerced d to x) (λ d. coerced_one d to) Ps all
acting_one g (top.list r) Ps all = listed_one r Ps all
acting_one g k Ps all = λ h s v w i j. absurd i

done_one : {A : Type 0} (g : Ground A) → Once → GivesOne g.gives → (b : Bool) (k : Top) (c : Term) (Ps : List (Doing A)) → AllDoOne Ps → DoesOne (NodeComesTo g b k (taken g c) Ps)
done_one g once one true k c Ps all = acting_one g k Ps all
done_one g once one false k c Ps all = λ h s v w i j.
    let x : v.0 ≡ w.0 = single (g.gives s) once (one s) (limited g.frame.schema.tables g.frame.limit (length h.rows) false c) h.rows h.item h.caught v.0 w.0 i.0 j.0 in
    λ n. (x n, (i.1 ∙ sym j.1) n)

mutual
  -- over sources that give one value each
  pub performs_one : {A : Type 0} (g : Ground A) → Once → GivesOne g.gives → (c : Term) → DoesOne (performing g c)
  performs_one g once one (of k ts) = done_one g once one (acts (of k ts)) k (of k ts) (performings g ts) (all_perform_one g once one ts)

  all_perform_one : {A : Type 0} (g : Ground A) → Once → GivesOne g.gives → (ts : Terms) → AllDoOne (performings g ts)
  all_perform_one g once one nil = tt
  all_perform_one g once one (cons t ts) = (performs_one g once one t, all_perform_one g once one ts)

-- A TREE HAS ONE PERFORMING AT MOST
pub one_performing : {A : Type 0} (g : Ground A) → Once → GivesOne g.gives → (c : Term) (h : ScopeValues) (s : WorldState A) (x y : Data) (t u : WorldState A) → performing g c h s x t → performing g c h s y u → Same x t y u
one_performing g once one c h s x y t u i j = performs_one g once one c h s (x, t) (y, u) i j
