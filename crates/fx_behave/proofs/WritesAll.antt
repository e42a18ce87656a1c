-- What a performing leaves as it was: all that it didn't write. By the tree.
use Rattle.std.proofs.Common.{◌≡◌, ℕ, List, [], ◌∷◌, Bool, true, false, sym, subst}
use Rattle.fx_types.specs.declared.faults.Kind.{Kind}
use Rattle.fx_types.specs.Values.{Data, blank, number, text, boolean, date, rec, tab, fault}
use Rattle.fx_eval.specs.Parts.{caught_in, inner}
use Rattle.fx_env.specs.Scopes.{ScopeValues}
use Rattle.fx_scalar.specs.declared.lazy_forms.Decision.{Decision}
use Rattle.fx_scalar.specs.declared.lazy_forms.Decision.TheVariants.{Met, Unmet, Error}
use Rattle.fx_scalar.specs.LazyForms.{CaughtOr, decision_of, none_left}
use Rattle.fx_semantics.specs.Around.{Meaning, record_of}
use Rattle.fx_semantics.specs.Fresh.{field_of}
use Rattle.fx_semantics.specs.Rows.{rows_in}
use Rattle.fx_tables.specs.RowCalls.{for_all_of}
use Rattle.fx_core.specs.declared.deeds.Deed.{Deed}
use Rattle.fx_core.specs.declared.deeds.Deed.TheVariants as deed
use Rattle.fx_core.specs.declared.deeds.Target.{Target}
use Rattle.fx_core.specs.declared.functions.Form.TheVariants as form
use Rattle.fx_core.specs.Term.{Term, Terms, of, nil, cons, Top}
use Rattle.fx_core.specs.Term as top
use Rattle.fx_typing.specs.Acts.{acts}
use Rattle.fx_value.specs.Coercion.{IsCoerced}
use Rattle.fx_value.specs.Columns.{Row}
use Rattle.fx_deeds.proofs.Passing.{within_nowhere, within_on}
use Rattle.fx_deeds.proofs.Writes as deeds
use Rattle.fx_deeds.specs.Done.{IsDeed, IsUpdate}
use Rattle.fx_semantics.specs.Places.{is_for_all}
use Rattle.fx_behave.specs.Perform.{PerformsEach, ArePerformed, Decides, Doing, IsAct, PerformsNode, IsBranched, IsChain, NodeComesTo, IsForAll, IsOverAll, PerformsIfError, PerformsSwitch, IsUpdateIf, PerformsWith, OfOnePart, Performs, switch_decision, performing, performings, taken}
use Rattle.fx_deeds.specs.State.{Ground, WorldState}
use Rattle.fx_deeds.specs.Within.{Within}

-- what it leaves is as it was, but for what it wrote
abbrev pub Writes : {A : Type 0} → Doing A → Type 0
Writes {A} P = (h : ScopeValues) (s : WorldState A) (x : Data) (u : WorldState A) → P h s x u → Within s u

abbrev pub AllWrite : {A : Type 0} → List (Doing A) → Type 0
AllWrite [] = Unit {0}
AllWrite (P ∷ Ps) = Writes P × AllWrite Ps

pub same_within : {A : Type 0} (s u : WorldState A) → u ≡ s → Within s u
same_within s u e = subst (λ z. Within s z) (sym e) (within_nowhere s)

pub performed : {A : Type 0} (Ps : List (Doing A)) → AllWrite Ps → (h : ScopeValues) (s : WorldState A) (xs : List Data) (u : WorldState A) → ArePerformed Ps h s xs u → Within s u
performed [] w h s [] u p = same_within s u p
performed [] w h s (x ∷ xs) u p = absurd p
performed (P ∷ Ps) w h s [] u p = absurd p
performed (P ∷ Ps) w h s (x ∷ xs) u p = within_on s p.0 u (w.0 h s x p.0 p.1) (performed Ps w.1 h p.0 xs u p.2)

pub in_chain : {A : Type 0} (Ps : List (Doing A)) → AllWrite Ps → Writes (IsChain Ps)
in_chain [] w h s x u p = absurd p
in_chain (P ∷ []) w h s x u p = w.0 h s x u p
in_chain (P ∷ Q ∷ Ps) w h s x u p = within_on s p.1 u (w.0 h s p.0 p.1 p.2) (in_chain (Q ∷ Ps) w.1 h p.1 x u p.3)

pub decided : {A : Type 0} (D : Decision) (P Q : Type 0) (s : WorldState A) (x : Data) (u : WorldState A) → (P → Within s u) → (Q → Within s u) → Decides D P Q s x u → Within s u
decided Met P Q s x u f g p = f p
decided Unmet P Q s x u f g p = g p
decided (Error e) P Q s x u f g p = same_within s u p.1

pub branched : {A : Type 0} (D : Data → Decision) (Ps : List (Doing A)) → AllWrite Ps → Writes (IsBranched D Ps)
branched D [] w h s x u p = same_within s u p.1
branched D (P ∷ []) w h s x u p = w.0 h s x u p
branched D (C ∷ P ∷ Ps) w h s x u p =
    within_on s p.1 u (w.0 h s p.0 p.1 p.2)
    (decided (D p.0) (P h p.1 x u) (IsBranched D Ps h p.1 x u) p.1 x u (λ q. w.1.0 h p.1 x u q) (λ q. branched D Ps w.1.1 h p.1 x u q) p.3)

switched : {A : Type 0} (Ps : List (Doing A)) → AllWrite Ps → Writes (PerformsSwitch Ps)
switched [] w h s x u p = absurd p
switched (P ∷ Ps) w h s x u p =
    within_on s p.1 u (w.0 h s p.0 p.1 p.2)
    (deeds.or_error p.0 (IsBranched (switch_decision p.0) Ps h p.1 x u) p.1 x u (λ q. branched (switch_decision p.0) Ps w.1 h p.1 x u q) p.3)

pub caught : {A : Type 0} (w : Data) (C : Kind → List ℕ → Type 0) (P : Type 0) (s u : WorldState A) → ((k : Kind) (cs : List ℕ) → C k cs → Within s u) → (P → Within s u) → CaughtOr w C P → Within s u
caught (fault k cs) C P s u f g p = f k cs p
caught blank C P s u f g p = g p
caught (number z) C P s u f g p = g p
caught (text cs) C P s u f g p = g p
caught (boolean b) C P s u f g p = g p
caught (date z) C P s u f g p = g p
caught (rec fs) C P s u f g p = g p
caught (tab rs) C P s u f g p = g p

pub recovered : {A : Type 0} (d : Data) (Ps : List (Doing A)) → AllWrite Ps → Writes (PerformsIfError d Ps)
recovered d [] w h s x u p = same_within s u p.1
recovered d (P ∷ []) w h s x u p = w.0 h s x u p
recovered d (P ∷ F ∷ Ps) w h s x u p =
    within_on s p.1 u (w.0 h s p.0 p.1 p.2)
    (caught p.0 (λ k cs. F (caught_in h k cs) p.1 x u) (PerformsIfError p.0 Ps h p.1 x u) p.1 u (λ k cs q. w.1.0 (caught_in h k cs) p.1 x u q) (λ q. recovered p.0 Ps w.1.1 h p.1 x u q) p.3)

in_record : {A : Type 0} (Ps : List (Doing A)) → AllWrite Ps → Writes (PerformsWith Ps)
in_record [] w h s x u p = absurd p
in_record (P ∷ []) w h s x u p = absurd p
in_record (P ∷ F ∷ []) w h s x u p =
    within_on s p.1 u (w.0 h s p.0 p.1 p.2) (deeds.or_error p.0 (F (inner h p.0) p.1 x u) p.1 x u (λ q. w.1.0 (inner h p.0) p.1 x u q) p.3)
in_record (P ∷ F ∷ Q ∷ Ps) w h s x u p = absurd p

pub for_each : {A : Type 0} (P : Doing A) → Writes P → (h : ScopeValues) (rs : List Row) (s : WorldState A) (xs : List Data) (u : WorldState A) → PerformsEach P h rs s xs u → Within s u
for_each P w h [] s [] u p = same_within s u p
for_each P w h [] s (x ∷ xs) u p = absurd p
for_each P w h (r ∷ rs) s [] u p = absurd p
for_each P w h (r ∷ rs) s (x ∷ xs) u p = within_on s p.0 u (w (inner h (record_of r)) s x p.0 p.1) (for_each P w h rs p.0 xs u p.2)

for_all : {A : Type 0} (Ps : List (Doing A)) → AllWrite Ps → Writes (IsForAll Ps)
for_all [] w h s x u p = absurd p
for_all (P ∷ []) w h s x u p = absurd p
for_all {A} (P ∷ F ∷ []) w h s x u p =
    within_on s p.1 u (w.0 h s p.0 p.1 p.2)
    (deeds.or_error p.0 ((xs : List Data) × PerformsEach F h (rows_in p.0) p.1 xs u × (x ≡ for_all_of xs)) p.1 x u (λ q. for_each F w.1.0 h (rows_in p.0) p.1 q.0 u q.1) p.3)
for_all (P ∷ F ∷ Q ∷ Ps) w h s x u p = absurd p

over_all : {A : Type 0} (b : Bool) (Ps : List (Doing A)) → AllWrite Ps → Writes (IsOverAll b Ps)
over_all true Ps w = for_all Ps w
over_all false Ps w = λ h s x u p. absurd p

of_one : {A : Type 0} (R : Data → Data → Type 0) (Ps : List (Doing A)) → AllWrite Ps → Writes (OfOnePart R Ps)
of_one R [] w h s x u p = absurd p
of_one R (P ∷ []) w h s x u p = w.0 h s p.0 u p.1
of_one R (P ∷ Q ∷ Ps) w h s x u p = absurd p

updating : {A : Type 0} (g : Ground A) (t : Target) (Ps : List (Doing A)) → AllWrite Ps → Writes (IsUpdateIf g t Ps)
updating g t [] w h s x u p = absurd p
updating g t (P ∷ []) w h s x u p = absurd p
updating {A} g t (P ∷ F ∷ []) w h s x u p =
    within_on s p.1 u (w.0 h s p.0 p.1 p.2)
    (deeds.or_error p.0 ((es : List Data) × (o : WorldState A) × PerformsEach F h (rows_in p.0) p.1 es o × IsUpdate g.frame t (rows_in p.0) es o x u) p.1 x u
    (λ q. within_on p.1 q.1 u (for_each F w.1.0 h (rows_in p.0) p.1 q.0 q.1 q.2) (deeds.update g.frame t (rows_in p.0) q.0 q.1 x u q.3)) p.3)
updating g t (P ∷ F ∷ Q ∷ Ps) w h s x u p = absurd p

-- all parts, and then the deed
abbrev Does : {A : Type 0} → Ground A → Deed → List (Doing A) → Doing A
Does {A} g d Ps h s x u = (ds : List Data) × (m : WorldState A) × ArePerformed Ps h s ds m × IsDeed g.frame d ds m x u

does : {A : Type 0} (g : Ground A) (d : Deed) (Ps : List (Doing A)) → AllWrite Ps → Writes (Does g d Ps)
does g d Ps w h s x u p = within_on s p.1 u (performed Ps w h s p.0 p.1 p.2) (deeds.done_by g.frame d p.0 p.1 x u p.3)

acted : {A : Type 0} (g : Ground A) (d : Deed) (Ps : List (Doing A)) → AllWrite Ps → Writes (IsAct g d Ps)
acted g (deed.UpdateIf t) Ps w = updating g t Ps w
acted g (deed.Set k) Ps w = does g (deed.Set k) Ps w
acted g (deed.UpdateContext ks) Ps w = does g (deed.UpdateContext ks) Ps w
acted g (deed.Collect k) Ps w = does g (deed.Collect k) Ps w
acted g (deed.Clear k) Ps w = does g (deed.Clear k) Ps w
acted g (deed.ClearCollect k) Ps w = does g (deed.ClearCollect k) Ps w
acted g (deed.Patch t) Ps w = does g (deed.Patch t) Ps w
acted g (deed.Remove t) Ps w = does g (deed.Remove t) Ps w
acted g (deed.RemoveIf t) Ps w = does g (deed.RemoveIf t) Ps w
acted g (deed.Navigate k) Ps w = does g (deed.Navigate k) Ps w
acted g deed.Notify Ps w = does g deed.Notify Ps w
acted g (deed.Reset k) Ps w = does g (deed.Reset k) Ps w

acting : {A : Type 0} (g : Ground A) (k : Top) (Ps : List (Doing A)) → AllWrite Ps → Writes (PerformsNode g k Ps)
acting g top.chain Ps w = in_chain Ps w
acting g (top.act d) Ps w = acted g d Ps w
acting g (top.form form.If) Ps w = branched decision_of Ps w
acting g (top.form form.Switch) Ps w = switched Ps w
acting g (top.form form.IfError) Ps w = recovered (none_left form.IfError) Ps w
acting g (top.form form.All) Ps w = λ h s x u p. absurd p
acting g (top.form form.Any) Ps w = λ h s x u p. absurd p
acting g top.within Ps w = in_record Ps w
acting g (top.over f) Ps w = over_all (is_for_all f) Ps w
acting g (top.dot n) Ps w = of_one (λ d x. x ≡ field_of n d) Ps w
acting g (top.coerce to) Ps w = of_one (λ d x. IsCoerced d to x) Ps w
acting g (top.list r) Ps w = λ h s x u p. performed Ps w h s p.0 u p.1
acting g (top.const d) Ps w = λ h s x u p. absurd p
acting g (top.read k) Ps w = λ h s x u p. absurd p
acting g (top.row k) Ps w = λ h s x u p. absurd p
acting g top.item Ps w = λ h s x u p. absurd p
acting g top.caught Ps w = λ h s x u p. absurd p
acting g (top.call f) Ps w = λ h s x u p. absurd p
acting g (top.user k) Ps w = λ h s x u p. absurd p
acting g (top.rec ns) Ps w = λ h s x u p. absurd p

done : {A : Type 0} (g : Ground A) (b : Bool) (k : Top) (M : Meaning) (Ps : List (Doing A)) → AllWrite Ps → Writes (NodeComesTo g b k M Ps)
done g true k M Ps w = acting g k Ps w
done g false k M Ps w = λ h s x u p. same_within s u p.1

mutual
  pub tree_writes : {A : Type 0} (g : Ground A) (t : Term) → Writes (performing g t)
  tree_writes g (of k ts) = done g (acts (of k ts)) k (taken g (of k ts)) (performings g ts) (trees_write g ts)

  trees_write : {A : Type 0} (g : Ground A) (ts : Terms) → AllWrite (performings g ts)
  trees_write g nil = tt
  trees_write g (cons t ts) = (tree_writes g t, trees_write g ts)

pub performing_writes : {A : Type 0} (g : Ground A) (t : Term) (h : ScopeValues) (x : Data) (s u : WorldState A) → Performs g t h x s u → Within s u
performing_writes g t h x s u p = tree_writes g t h s x u p
