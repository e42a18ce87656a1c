-- A performing goes on from where it was cut off. By the tree.
use Rattle.std.proofs.Common.{◌≡◌, ℕ, List, [], ◌∷◌, Bool, true, false, refl, ap, sym, subst, ◌∙◌, inl, inr}
use Rattle.std.specs.Prelude.{◌⊎◌}
use Rattle.fx_types.specs.declared.faults.Kind.{Kind}
use Rattle.fx_types.specs.Values.{Data, blank, number, text, boolean, date, rec, tab, fault}
use Rattle.fx_eval.specs.Parts.{caught_in, inner}
use Rattle.fx_env.specs.Scopes.{ScopeValues}
use Rattle.fx_scalar.specs.declared.lazy_forms.Decision.{Decision}
use Rattle.fx_scalar.specs.declared.lazy_forms.Decision.TheVariants.{Met, Unmet, Error}
use Rattle.fx_scalar.specs.LazyForms.{CaughtOr, decision_of, none_left}
use Rattle.fx_semantics.proofs.SingleRows.{Once}
use Rattle.fx_semantics.specs.Around.{record_of}
use Rattle.fx_semantics.specs.Fresh.{field_of}
use Rattle.fx_semantics.specs.Rows.{rows_in}
use Rattle.fx_tables.specs.RowCalls.{for_all_of}
use Rattle.fx_core.specs.declared.deeds.Deed.{Deed}
use Rattle.fx_core.specs.declared.deeds.Deed.TheVariants as deed
use Rattle.fx_core.specs.declared.deeds.Target.{Target}
use Rattle.fx_core.specs.declared.functions.Form.TheVariants as form
use Rattle.fx_core.specs.Term.{Term, Terms, of, nil, cons, Top}
use Rattle.fx_core.specs.Term as top
use Rattle.fx_typing.specs.Acts.{acts}
use Rattle.fx_value.specs.Coercion.{IsCoerced}
use Rattle.fx_value.specs.Columns.{Row}
use Rattle.fx_semantics.specs.Places.{is_for_all}
use Rattle.fx_deeds.proofs.CutOff.{deed_on, same_end, update_on}
use Rattle.fx_deeds.proofs.Passing.{within_nowhere, within_on}
use Rattle.fx_deeds.proofs.Single.{Same}
use Rattle.fx_deeds.proofs.Writes as deeds
use Rattle.fx_deeds.specs.CutOff.{CutDeed, CutUpdate}
use Rattle.fx_deeds.specs.Deeds.{OrError}
use Rattle.fx_deeds.specs.Done.{IsDeed, IsUpdate}
use Rattle.fx_deeds.specs.State.{Ground, WorldState}
use Rattle.fx_deeds.specs.Within.{Within}
use Rattle.fx_behave.proofs.SingleAll.{AllDoOne, DoesOne, each_one, performed_one, performs_one}
use Rattle.fx_behave.proofs.WritesAll.{AllWrite, Writes, branched, caught, decided, for_each, in_chain, performed, recovered, same_within, tree_writes}
use Rattle.fx_behave.specs.CutOff.{AreChangesCut, AreCut, AreEachCut, Chosen, CutOr, IsActCut, IsActingCut, IsBranchCut, IsCut, IsForAllCut, IsOverAllCut, IsRecoveryCut, IsSwitchCut, IsUpdateIfCut, IsWithinCut, CutPart, Unless, cutting, parts, wholes}
use Rattle.fx_behave.specs.Perform.{PerformsEach, ArePerformed, Decides, Doing, IsAct, PerformsNode, IsBranched, IsChain, NodeComesTo, IsForAll, IsListed, IsOverAll, PerformsIfError, PerformsSwitch, IsUpdateIf, PerformsWith, OfOnePart, switch_decision, performing, performings, taken}
use Rattle.fx_behave.specs.Unique.{GivesOne}

-- what a whole part leaves goes on from where the part was cut off
abbrev Leads : {A : Type 0} → CutPart A → Type 0
Leads {A} P = (h : ScopeValues) (s u : WorldState A) (x : Data) (v : WorldState A) → P.cut h s u → P.whole h s x v → Within u v

-- a part does one thing at most, writes what it changes, and goes on
abbrev GoesOn : {A : Type 0} → CutPart A → Type 0
GoesOn P = DoesOne P.whole × Writes P.whole × Leads P

abbrev AllGoOn : {A : Type 0} → List (CutPart A) → Type 0
AllGoOn [] = Unit {0}
AllGoOn (P ∷ Ps) = GoesOn P × AllGoOn Ps

all_one : {A : Type 0} (Ps : List (CutPart A)) → AllGoOn Ps → AllDoOne (wholes Ps)
all_one [] g = tt
all_one (P ∷ Ps) g = (g.0.0, all_one Ps g.1)

all_write : {A : Type 0} (Ps : List (CutPart A)) → AllGoOn Ps → AllWrite (wholes Ps)
all_write [] g = tt
all_write (P ∷ Ps) g = (g.0.1, all_write Ps g.1)

-- by a part that was cut off, or by what comes behind it
cut_or : {A : Type 0} (P : CutPart A) → GoesOn P → (K : Data → WorldState A → Type 0) (h : ScopeValues) (s u v : WorldState A) (w : Data) (m : WorldState A) →
    Within m v → (K w m → Within u v) → P.whole h s w m → CutOr P K h s u → Within u v
cut_or P g K h s u v w m first rest p (inl c) = within_on u m v (g.2 h s u w m c p) first
cut_or P g K h s u v w m first rest p (inr k) =
    let e : Same k.0 k.1 w m = g.0 h s (k.0, k.1) (w, m) k.2 p in
    rest (subst (λ o. K o.0 o.1) e k.3)

-- ---- parts in order

cut_on : {A : Type 0} (Ps : List (CutPart A)) → AllGoOn Ps → (h : ScopeValues) (s u v : WorldState A) (xs : List Data) → AreCut Ps h s u → ArePerformed (wholes Ps) h s xs v → Within u v
cut_on [] g h s u v [] c p = same_end u v (c ∙ sym p)
cut_on [] g h s u v (x ∷ xs) c p = absurd p
cut_on (P ∷ Ps) g h s u v [] c p = absurd p
cut_on (P ∷ Ps) g h s u v (x ∷ xs) c p =
    cut_or P g.0 (λ y m. AreCut Ps h m u) h s u v x p.0 (performed (wholes Ps) (all_write Ps g.1) h p.0 xs v p.2) (λ k. cut_on Ps g.1 h p.0 u v xs k p.2) p.1 c

chain_on : {A : Type 0} (Ps : List (CutPart A)) → AllGoOn Ps → (h : ScopeValues) (s u : WorldState A) (x : Data) (v : WorldState A) → AreCut Ps h s u → IsChain (wholes Ps) h s x v → Within u v
chain_on [] g h s u x v c p = absurd p
chain_on (P ∷ []) g h s u x v c p = cut_or P g.0 (λ y m. u ≡ m) h s u v x v (within_nowhere v) (λ e. same_end u v e) p c
chain_on (P ∷ Q ∷ Ps) g h s u x v c p =
    cut_or P g.0 (λ y m. AreCut (Q ∷ Ps) h m u) h s u v p.0 p.1 (in_chain (wholes (Q ∷ Ps)) (all_write (Q ∷ Ps) g.1) h p.1 x v p.3)
    (λ k. chain_on (Q ∷ Ps) g.1 h p.1 u x v k p.3) p.2 c

-- ---- branches

chosen_on : {A : Type 0} (d : Decision) (P Q R S : Type 0) (s : WorldState A) (x : Data) (u v : WorldState A) → (P → R → Within u v) → (Q → S → Within u v) → Chosen d P Q → Decides d R S s x v → Within u v
chosen_on Met P Q R S s x u v f k c p = f c p
chosen_on Unmet P Q R S s x u v f k c p = k c p
chosen_on (Error e) P Q R S s x u v f k c p = absurd c

branch_on : {A : Type 0} (D : Data → Decision) (Ps : List (CutPart A)) → AllGoOn Ps → (h : ScopeValues) (s u : WorldState A) (x : Data) (v : WorldState A) → IsBranchCut D Ps h s u → IsBranched D (wholes Ps) h s x v → Within u v
branch_on D [] g h s u x v c p = absurd c
branch_on D (P ∷ []) g h s u x v c p = g.0.2 h s u x v c p
branch_on D (C ∷ P ∷ Ps) g h s u x v c p =
    cut_or C g.0 (λ w m. Chosen (D w) (P.cut h m u) (IsBranchCut D Ps h m u)) h s u v p.0 p.1
    (decided (D p.0) (P.whole h p.1 x v) (IsBranched D (wholes Ps) h p.1 x v) p.1 x v (λ q. g.1.0.1 h p.1 x v q) (λ q. branched D (wholes Ps) (all_write Ps g.1.1) h p.1 x v q) p.3)
    (λ k. chosen_on (D p.0) (P.cut h p.1 u) (IsBranchCut D Ps h p.1 u) (P.whole h p.1 x v) (IsBranched D (wholes Ps) h p.1 x v) p.1 x u v
    (λ a b. g.1.0.2 h p.1 u x v a b) (λ a b. branch_on D Ps g.1.1 h p.1 u x v a b) k p.3)
    p.2 c

unless_on : {A : Type 0} (w : Data) (P Q : Type 0) (s : WorldState A) (x : Data) (u v : WorldState A) → (P → Q → Within u v) → Unless w P → OrError w Q s x v → Within u v
unless_on (fault k cs) P Q s x u v f c p = absurd c
unless_on blank P Q s x u v f c p = f c p
unless_on (number z) P Q s x u v f c p = f c p
unless_on (text cs) P Q s x u v f c p = f c p
unless_on (boolean b) P Q s x u v f c p = f c p
unless_on (date z) P Q s x u v f c p = f c p
unless_on (rec fs) P Q s x u v f c p = f c p
unless_on (tab rs) P Q s x u v f c p = f c p

switch_on : {A : Type 0} (Ps : List (CutPart A)) → AllGoOn Ps → (h : ScopeValues) (s u : WorldState A) (x : Data) (v : WorldState A) → IsSwitchCut Ps h s u → PerformsSwitch (wholes Ps) h s x v → Within u v
switch_on [] g h s u x v c p = absurd c
switch_on (P ∷ Ps) g h s u x v c p =
    cut_or P g.0 (λ w m. Unless w (IsBranchCut (switch_decision w) Ps h m u)) h s u v p.0 p.1
    (deeds.or_error p.0 (IsBranched (switch_decision p.0) (wholes Ps) h p.1 x v) p.1 x v (λ q. branched (switch_decision p.0) (wholes Ps) (all_write Ps g.1) h p.1 x v q) p.3)
    (λ k. unless_on p.0 (IsBranchCut (switch_decision p.0) Ps h p.1 u) (IsBranched (switch_decision p.0) (wholes Ps) h p.1 x v) p.1 x u v (λ a b. branch_on (switch_decision p.0) Ps g.1 h p.1 u x v a b) k p.3)
    p.2 c

caught_on : {A : Type 0} (w : Data) (C E : Kind → List ℕ → Type 0) (P Q : Type 0) (u v : WorldState A) → ((k : Kind) (cs : List ℕ) → C k cs → E k cs → Within u v) → (P → Q → Within u v) →
    CaughtOr w C P → CaughtOr w E Q → Within u v
caught_on (fault k cs) C E P Q u v f g c p = f k cs c p
caught_on blank C E P Q u v f g c p = g c p
caught_on (number z) C E P Q u v f g c p = g c p
caught_on (text cs) C E P Q u v f g c p = g c p
caught_on (boolean b) C E P Q u v f g c p = g c p
caught_on (date z) C E P Q u v f g c p = g c p
caught_on (rec fs) C E P Q u v f g c p = g c p
caught_on (tab rs) C E P Q u v f g c p = g c p

recovery_on : {A : Type 0} (d : Data) (Ps : List (CutPart A)) → AllGoOn Ps → (h : ScopeValues) (s u : WorldState A) (x : Data) (v : WorldState A) → IsRecoveryCut Ps h s u → PerformsIfError d (wholes Ps) h s x v → Within u v
recovery_on d [] g h s u x v c p = absurd c
recovery_on d (P ∷ []) g h s u x v c p = g.0.2 h s u x v c p
recovery_on d (P ∷ F ∷ Ps) g h s u x v c p =
    cut_or P g.0 (λ w m. CaughtOr w (λ k cs. F.cut (caught_in h k cs) m u) (IsRecoveryCut Ps h m u)) h s u v p.0 p.1
    (caught p.0 (λ k cs. F.whole (caught_in h k cs) p.1 x v) (PerformsIfError p.0 (wholes Ps) h p.1 x v) p.1 v (λ k cs q. g.1.0.1 (caught_in h k cs) p.1 x v q)
    (λ q. recovered p.0 (wholes Ps) (all_write Ps g.1.1) h p.1 x v q) p.3)
    (λ k. caught_on p.0 (λ k cs. F.cut (caught_in h k cs) p.1 u) (λ k cs. F.whole (caught_in h k cs) p.1 x v) (IsRecoveryCut Ps h p.1 u) (PerformsIfError p.0 (wholes Ps) h p.1 x v) u v
    (λ k cs a b. g.1.0.2 (caught_in h k cs) p.1 u x v a b) (λ a b. recovery_on p.0 Ps g.1.1 h p.1 u x v a b) k p.3)
    p.2 c

-- ---- scopes

within_cut_on : {A : Type 0} (Ps : List (CutPart A)) → AllGoOn Ps → (h : ScopeValues) (s u : WorldState A) (x : Data) (v : WorldState A) → IsWithinCut Ps h s u → PerformsWith (wholes Ps) h s x v → Within u v
within_cut_on [] g h s u x v c p = absurd c
within_cut_on (P ∷ []) g h s u x v c p = absurd c
within_cut_on (P ∷ F ∷ []) g h s u x v c p =
    cut_or P g.0 (λ w m. Unless w (F.cut (inner h w) m u)) h s u v p.0 p.1
    (deeds.or_error p.0 (F.whole (inner h p.0) p.1 x v) p.1 x v (λ q. g.1.0.1 (inner h p.0) p.1 x v q) p.3)
    (λ k. unless_on p.0 (F.cut (inner h p.0) p.1 u) (F.whole (inner h p.0) p.1 x v) p.1 x u v (λ a b. g.1.0.2 (inner h p.0) p.1 u x v a b) k p.3)
    p.2 c
within_cut_on (P ∷ F ∷ Q ∷ Ps) g h s u x v c p = absurd c

each_on : {A : Type 0} (P : CutPart A) → GoesOn P → (h : ScopeValues) (rs : List Row) (s u v : WorldState A) (xs : List Data) → AreEachCut P h rs s u → PerformsEach P.whole h rs s xs v → Within u v
each_on P g h [] s u v [] c p = same_end u v (c ∙ sym p)
each_on P g h [] s u v (x ∷ xs) c p = absurd p
each_on P g h (r ∷ rs) s u v [] c p = absurd p
each_on P g h (r ∷ rs) s u v (x ∷ xs) c p =
    cut_or P g (λ y m. AreEachCut P h rs m u) (inner h (record_of r)) s u v x p.0 (for_each P.whole g.1 h rs p.0 xs v p.2) (λ k. each_on P g h rs p.0 u v xs k p.2) p.1 c

for_all_on : {A : Type 0} (Ps : List (CutPart A)) → AllGoOn Ps → (h : ScopeValues) (s u : WorldState A) (x : Data) (v : WorldState A) → IsForAllCut Ps h s u → IsForAll (wholes Ps) h s x v → Within u v
for_all_on [] g h s u x v c p = absurd c
for_all_on (P ∷ []) g h s u x v c p = absurd c
for_all_on {A} (P ∷ F ∷ []) g h s u x v c p =
    let All : Type 0 = (xs : List Data) × PerformsEach F.whole h (rows_in p.0) p.1 xs v × (x ≡ for_all_of xs) in
    cut_or P g.0 (λ w m. Unless w (AreEachCut F h (rows_in w) m u)) h s u v p.0 p.1
    (deeds.or_error p.0 All p.1 x v (λ q. for_each F.whole g.1.0.1 h (rows_in p.0) p.1 q.0 v q.1) p.3)
    (λ k. unless_on p.0 (AreEachCut F h (rows_in p.0) p.1 u) All p.1 x u v (λ a b. each_on F g.1.0 h (rows_in p.0) p.1 u v b.0 a b.1) k p.3)
    p.2 c
for_all_on (P ∷ F ∷ Q ∷ Ps) g h s u x v c p = absurd c

over_all_on : {A : Type 0} (b : Bool) (Ps : List (CutPart A)) → AllGoOn Ps → (h : ScopeValues) (s u : WorldState A) (x : Data) (v : WorldState A) → IsOverAllCut b Ps h s u → IsOverAll b (wholes Ps) h s x v → Within u v
over_all_on true Ps g h s u x v c p = for_all_on Ps g h s u x v c p
over_all_on false Ps g h s u x v c p = absurd c

-- ---- values

of_one_on : {A : Type 0} (R : Data → Data → Type 0) (Ps : List (CutPart A)) → AllGoOn Ps → (h : ScopeValues) (s u : WorldState A) (x : Data) (v : WorldState A) → AreCut Ps h s u → OfOnePart R (wholes Ps) h s x v → Within u v
of_one_on R [] g h s u x v c p = absurd p
of_one_on R (P ∷ []) g h s u x v c p = cut_or P g.0 (λ y m. u ≡ m) h s u v p.0 v (within_nowhere v) (λ e. same_end u v e) p.1 c
of_one_on R (P ∷ Q ∷ Ps) g h s u x v c p = absurd p

-- ---- deeds

changes_on : {A : Type 0} (g : Ground A) (t : Target) (F : CutPart A) → GoesOn F → (h : ScopeValues) (rs : List Row) (s u : WorldState A) (x : Data) (v : WorldState A) (es : List Data) (o : WorldState A) →
    PerformsEach F.whole h rs s es o → IsUpdate g.frame t rs es o x v → AreChangesCut g t F h rs s u → Within u v
changes_on g t F f h rs s u x v es o p q (inl c) = within_on u o v (each_on F f h rs s u o es c p) (deeds.update g.frame t rs es o x v q)
changes_on g t F f h rs s u x v es o p q (inr c) =
    let e : Same c.0 c.1 es o = each_one F.whole f.0 h rs s c.0 es c.1 o c.2 p in
    update_on g.frame t rs es o x u v (subst (λ z. CutUpdate g.frame t rs z.0 z.1 u) e c.3) q

update_if_on : {A : Type 0} (g : Ground A) (t : Target) (Ps : List (CutPart A)) → AllGoOn Ps → (h : ScopeValues) (s u : WorldState A) (x : Data) (v : WorldState A) → IsUpdateIfCut g t Ps h s u → IsUpdateIf g t (wholes Ps) h s x v → Within u v
update_if_on g t [] f h s u x v c p = absurd c
update_if_on g t (P ∷ []) f h s u x v c p = absurd c
update_if_on {A} g t (P ∷ F ∷ []) f h s u x v c p =
    let All : Type 0 = (es : List Data) × (o : WorldState A) × PerformsEach F.whole h (rows_in p.0) p.1 es o × IsUpdate g.frame t (rows_in p.0) es o x v in
    cut_or P f.0 (λ w m. Unless w (AreChangesCut g t F h (rows_in w) m u)) h s u v p.0 p.1
    (deeds.or_error p.0 All p.1 x v (λ q. within_on p.1 q.1 v (for_each F.whole f.1.0.1 h (rows_in p.0) p.1 q.0 q.1 q.2) (deeds.update g.frame t (rows_in p.0) q.0 q.1 x v q.3)) p.3)
    (λ k. unless_on p.0 (AreChangesCut g t F h (rows_in p.0) p.1 u) All p.1 x u v (λ a b. changes_on g t F f.1.0 h (rows_in p.0) p.1 u x v b.0 b.1 b.2 b.3 a) k p.3)
    p.2 c
update_if_on g t (P ∷ F ∷ Q ∷ Ps) f h s u x v c p = absurd c

-- the parts were cut off, or the deed
abbrev DoesCut : {A : Type 0} → Ground A → Deed → List (CutPart A) → ScopeValues → WorldState A → WorldState A → Type 0
DoesCut {A} g d Ps h s u = AreCut Ps h s u ⊎ ((ds : List Data) × (m : WorldState A) × ArePerformed (wholes Ps) h s ds m × CutDeed g.frame d ds m u)

does_on : {A : Type 0} (g : Ground A) (d : Deed) (Ps : List (CutPart A)) → AllGoOn Ps → (h : ScopeValues) (s u : WorldState A) (x : Data) (v : WorldState A) → DoesCut g d Ps h s u →
    ((ds : List Data) × (m : WorldState A) × ArePerformed (wholes Ps) h s ds m × IsDeed g.frame d ds m x v) → Within u v
does_on g d Ps f h s u x v (inl c) p = within_on u p.1 v (cut_on Ps f h s u p.1 p.0 c p.2) (deeds.done_by g.frame d p.0 p.1 x v p.3)
does_on g d Ps f h s u x v (inr c) p =
    let e : Same c.0 c.1 p.0 p.1 = performed_one (wholes Ps) (all_one Ps f) h s c.0 p.0 c.1 p.1 c.2 p.2 in
    deed_on g.frame d p.0 p.1 x u v (subst (λ z. CutDeed g.frame d z.0 z.1 u) e c.3) p.3

act_on : {A : Type 0} (g : Ground A) (d : Deed) (Ps : List (CutPart A)) → AllGoOn Ps → (h : ScopeValues) (s u : WorldState A) (x : Data) (v : WorldState A) → IsActCut g d Ps h s u → IsAct g d (wholes Ps) h s x v → Within u v
act_on g (deed.UpdateIf t) Ps f h s u x v c p = update_if_on g t Ps f h s u x v c p
act_on g (deed.Set k) Ps f h s u x v c p = does_on g (deed.Set k) Ps f h s u x v c p
act_on g (deed.UpdateContext ks) Ps f h s u x v c p = does_on g (deed.UpdateContext ks) Ps f h s u x v c p
act_on g (deed.Collect k) Ps f h s u x v c p = does_on g (deed.Collect k) Ps f h s u x v c p
act_on g (deed.Clear k) Ps f h s u x v c p = does_on g (deed.Clear k) Ps f h s u x v c p
act_on g (deed.ClearCollect k) Ps f h s u x v c p = does_on g (deed.ClearCollect k) Ps f h s u x v c p
act_on g (deed.Patch t) Ps f h s u x v c p = does_on g (deed.Patch t) Ps f h s u x v c p
act_on g (deed.Remove t) Ps f h s u x v c p = does_on g (deed.Remove t) Ps f h s u x v c p
act_on g (deed.RemoveIf t) Ps f h s u x v c p = does_on g (deed.RemoveIf t) Ps f h s u x v c p
act_on g (deed.Navigate k) Ps f h s u x v c p = does_on g (deed.Navigate k) Ps f h s u x v c p
act_on g deed.Notify Ps f h s u x v c p = does_on g deed.Notify Ps f h s u x v c p
act_on g (deed.Reset k) Ps f h s u x v c p = does_on g (deed.Reset k) Ps f h s u x v c p

-- ---- trees

acting_on : {A : Type 0} (g : Ground A) (k : Top) (Ps : List (CutPart A)) → AllGoOn Ps → (h : ScopeValues) (s u : WorldState A) (x : Data) (v : WorldState A) → IsActingCut g k Ps h s u → PerformsNode g k (wholes Ps) h s x v → Within u v
acting_on g top.chain Ps f h s u x v c p = chain_on Ps f h s u x v c p
acting_on g (top.act d) Ps f h s u x v c p = act_on g d Ps f h s u x v c p
acting_on g (top.form form.If) Ps f h s u x v c p = branch_on decision_of Ps f h s u x v c p
acting_on g (top.form form.Switch) Ps f h s u x v c p = switch_on Ps f h s u x v c p
acting_on g (top.form form.IfError) Ps f h s u x v c p = recovery_on (none_left form.IfError) Ps f h s u x v c p
acting_on g (top.form form.All) Ps f h s u x v c p = absurd c
acting_on g (top.form form.Any) Ps f h s u x v c p = absurd c
acting_on g top.within Ps f h s u x v c p = within_cut_on Ps f h s u x v c p
acting_on g (top.over k) Ps f h s u x v c p = over_all_on (is_for_all k) Ps f h s u x v c p
acting_on g (top.dot n) Ps f h s u x v c p = of_one_on (λ d y. y ≡ field_of n d) Ps f h s u x v c p
acting_on g (top.coerce to) Ps f h s u x v c p = of_one_on (λ d y. IsCoerced d to y) Ps f h s u x v c p
acting_on g (top.list r) Ps f h s u x v c p = cut_on Ps f h s u v p.0 c p.1
acting_on g (top.const d) Ps f h s u x v c p = absurd c
acting_on g (top.read k) Ps f h s u x v c p = absurd c
acting_on g (top.row k) Ps f h s u x v c p = absurd c
acting_on g top.item Ps f h s u x v c p = absurd c
acting_on g top.caught Ps f h s u x v c p = absurd c
acting_on g (top.call k) Ps f h s u x v c p = absurd c
acting_on g (top.user k) Ps f h s u x v c p = absurd c
acting_on g (top.rec ns) Ps f h s u x v c p = absurd c

-- what was left as it was goes on as all does
from_start : {A : Type 0} (s u v : WorldState A) → u ≡ s → Within s v → Within u v
from_start s u v e w = subst (λ z. Within z v) (sym e) w

pub whole_parts : {A : Type 0} (g : Ground A) (ts : Terms) → wholes (parts g ts) ≡ performings g ts
whole_parts g nil = refl
whole_parts g (cons t ts) = ap (λ Ps. performing g t ∷ Ps) (whole_parts g ts)

done_on : {A : Type 0} (g : Ground A) (b : Bool) (k : Top) (c : Term) (Ps : List (CutPart A)) → AllGoOn Ps → (h : ScopeValues) (s u : WorldState A) (x : Data) (v : WorldState A) →
    Within s v → IsCut g b k Ps h s u → NodeComesTo g b k (taken g c) (wholes Ps) h s x v → Within u v
done_on g true k c Ps f h s u x v w (inl e) p = from_start s u v e w
done_on g true k c Ps f h s u x v w (inr q) p = acting_on g k Ps f h s u x v q p
done_on g false k c Ps f h s u x v w e p = from_start s u v e w

mutual
  tree_on : {A : Type 0} (g : Ground A) → Once → GivesOne g.gives → (t : Term) (h : ScopeValues) (s u : WorldState A) (x : Data) (v : WorldState A) → cutting g t h s u → performing g t h s x v → Within u v
  tree_on g once one (of k ts) h s u x v c p =
      done_on g (acts (of k ts)) k (of k ts) (parts g ts) (trees_on g once one ts) h s u x v (tree_writes g (of k ts) h s x v p) c
      (subst (λ Ps. NodeComesTo g (acts (of k ts)) k (taken g (of k ts)) Ps h s x v) (sym (whole_parts g ts)) p)

  trees_on : {A : Type 0} (g : Ground A) → Once → GivesOne g.gives → (ts : Terms) → AllGoOn (parts g ts)
  trees_on g once one nil = tt
  trees_on g once one (cons t ts) = ((performs_one g once one t, tree_writes g t, tree_on g once one t), trees_on g once one ts)

-- THE WHOLE PERFORMING GOES ON FROM WHERE IT WAS CUT OFF
pub performing_on : {A : Type 0} (g : Ground A) → Once → GivesOne g.gives → (t : Term) (h : ScopeValues) (x : Data) (s u v : WorldState A) → cutting g t h s u → performing g t h s x v → Within u v
performing_on g once one t h x s u v c p = tree_on g once one t h s u x v c p
