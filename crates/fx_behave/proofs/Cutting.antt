-- What was cut off on the way, step after step.
use Rattle.std.proofs.Common.{◌≡◌, ℕ, List, [], ◌∷◌, Bool, true, false, Option, Some, None, Result, Ok, Err, refl, ap, sym, subst, ◌∙◌, inl, inr}
use Rattle.std.specs.Prelude.{OnErr}
use Rattle.std.proofs.lemmas.Result.{on_err_weaker}
use Rattle.fx_base.proofs.Silences.{goes_two, goes_weaker, later_then}
use Rattle.fx_base.specs.Silence.{MayFallSilent, IsLater, SilenceCause, Marks}
use Rattle.fx_base.specs.Telling.{Stays}
use Rattle.fx_types.specs.declared.faults.Kind.{Kind}
use Rattle.fx_types.specs.declared.values.Value.{Value}
use Rattle.fx_types.specs.Values.{Data, fault}
use Rattle.fx_eval.specs.Parts.{caught_in, inner}
use Rattle.fx_env.specs.Scopes.{Fixed, ScopeValues}
use Rattle.fx_env.specs.declared.environment.Stop.{Stop}
use Rattle.fx_scalar.specs.declared.lazy_forms.Decision.{Decision}
use Rattle.fx_scalar.specs.declared.lazy_forms.Decision.TheVariants.{Met, Unmet, Error}
use Rattle.fx_scalar.specs.LazyForms.{CaughtOr, IsNoError}
use Rattle.fx_semantics.specs.Around.{record_of}
use Rattle.fx_semantics.specs.Rows.{rows_in}
use Rattle.fx_value.specs.Columns.{Row}
use Rattle.fx_core.specs.declared.deeds.Deed.{Deed}
use Rattle.fx_core.specs.declared.deeds.Deed.TheVariants as deed
use Rattle.fx_core.specs.declared.deeds.Target.{Target}
use Rattle.fx_core.specs.Term.{Term, Terms, of, nil, cons, all, Top}
use Rattle.fx_typing.specs.Acts.{acts}
use Rattle.fx_deeds.proofs.Passing.{same_state}
use Rattle.fx_deeds.specs.CutOff.{CutDeed, CutUpdate}
use Rattle.fx_deeds.specs.State.{Giving, Ground, WorldState, ground}
use Rattle.fx_behave.proofs.CutOff.{whole_parts}
use Rattle.fx_behave.proofs.DeedParts.{IsUpdating}
use Rattle.fx_behave.proofs.Sequences.{back, caught_or}
use Rattle.fx_behave.specs.CutOff.{AreChangesCut, AreCut, AreEachCut, Chosen, IsActCut, IsActingCut, IsBranchCut, IsCut, IsCutOff, IsForAllCut, IsRecoveryCut, IsSwitchCut, IsUpdateIfCut, IsWithinCut, CutPart, Unless, cutting, cut_part, parts, wholes}
use Rattle.fx_behave.specs.Perform.{PerformsEach, ArePerformed, Performs, switch_decision, performing, performings}

-- what may be left
abbrev pub Leaves : Type 0 → Type 1
Leaves A = WorldState A → WorldState A → Type 0

-- what is cut off of this is cut off of the whole
abbrev pub Carries : {A : Type 0} → Leaves A → Leaves A → WorldState A → WorldState A → Type 0
Carries {A} R W s m = (u : WorldState A) → R m u → W s u

-- ---- what is left of parts, of branches, of recoveries and of rows

abbrev pub parts_left : {A : Type 0} → Ground A → ScopeValues → List Term → Leaves A
parts_left g h ts = AreCut (parts g (all ts)) h

abbrev pub branches_left : {A : Type 0} → (Data → Decision) → Ground A → ScopeValues → List Term → Leaves A
branches_left D g h ts = IsBranchCut D (parts g (all ts)) h

abbrev pub recovery_left : {A : Type 0} → Ground A → ScopeValues → List Term → Leaves A
recovery_left g h ts = IsRecoveryCut (parts g (all ts)) h

abbrev pub each_left : {A : Type 0} → Ground A → ScopeValues → Term → List Row → Leaves A
each_left g h f rows = AreEachCut (cut_part g f) h rows

abbrev pub part_left : {A : Type 0} → Ground A → ScopeValues → Term → Leaves A
part_left g h t = IsCutOff g t h

-- ---- nothing was done yet

unbegun : {A : Type 0} (g : Ground A) (b : Bool) (k : Top) (Ps : List (CutPart A)) (h : ScopeValues) (s : WorldState A) → IsCut g b k Ps h s s
unbegun g true k Ps h s = inl refl
unbegun g false k Ps h s = refl

pub tree_unbegun : {A : Type 0} (g : Ground A) (t : Term) (h : ScopeValues) (s : WorldState A) → IsCutOff g t h s s
tree_unbegun g (of k ts) h s = unbegun g (acts (of k ts)) k (parts g ts) h s

pub parts_unbegun : {A : Type 0} (g : Ground A) (ts : List Term) (h : ScopeValues) (s : WorldState A) → parts_left g h ts s s
parts_unbegun g [] h s = refl
parts_unbegun g (t ∷ ts) h s = inl (tree_unbegun g t h s)

pub each_unbegun : {A : Type 0} (g : Ground A) (f : Term) (rows : List Row) (h : ScopeValues) (s : WorldState A) → each_left g h f rows s s
each_unbegun g f [] h s = refl
each_unbegun g f (r ∷ rows) h s = inl (tree_unbegun g f (inner h (record_of r)) s)

-- a call that leaves the state
pub cut_staying : {A : Type 0} (lost : Type 0) (g : Ground A) (t : Term) (h : ScopeValues) (x y : Option (WorldState A)) → MayFallSilent lost Stays x y → MayFallSilent lost (IsCutOff g t h) x y
cut_staying lost g t h x y = goes_weaker lost Stays (IsCutOff g t h) (λ s u e. subst (λ z. IsCutOff g t h s z) (sym e) (tree_unbegun g t h s)) x y

pub tree_nowhere : {A : Type 0} (lost : Type 0) (g : Ground A) (t : Term) (h : ScopeValues) (x : Option (WorldState A)) → MayFallSilent lost (IsCutOff g t h) x x
tree_nowhere lost g t h x = cut_staying lost g t h x x (same_state lost x)

-- ---- steps

pub cut_begins : {A : Type 0} (lost : Type 0) (x : Option (WorldState A)) (W : Leaves A) → MayFallSilent lost (Carries W W) x x
cut_begins lost None W = refl
cut_begins lost (Some s) W = λ u c. c

-- it was cut off here
pub cut_here : {A : Type 0} (lost : Type 0) (x y : Option (WorldState A)) (R W : Leaves A) → ((s : WorldState A) → R s s) → MayFallSilent lost (Carries R W) x y → MayFallSilent lost W x y
cut_here lost x y R W f = goes_weaker lost (Carries R W) W (λ s u c. c u (f u)) x y

module _ {A : Type 0} (k l m : Marks) (x y z : Option (WorldState A)) (before : IsLater k l) (later : IsLater l m) where
  -- one step more, which was cut off
  pub step_cut : (R W P : Leaves A) → ((n u : WorldState A) → P n u → R n u) → MayFallSilent (SilenceCause k l) (Carries R W) x y → MayFallSilent (SilenceCause l m) P y z → MayFallSilent (SilenceCause k m) W x z
  step_cut R W P f = goes_two (Carries R W) P W (λ s n u c p. c u (f n u p)) k l m before later x y z

  -- one step more, behind which less is left
  pub step_more : (R Q W P : Leaves A) → ((n t u : WorldState A) → P n t → Q t u → R n u) → MayFallSilent (SilenceCause k l) (Carries R W) x y → MayFallSilent (SilenceCause l m) P y z → MayFallSilent (SilenceCause k m) (Carries Q W) x z
  step_more R Q W P f = goes_two (Carries R W) P (Carries Q W) (λ s n t c p u q. c u (f n t u p q)) k l m before later x y z

-- ---- one part, behind which these stand

first_branch : {A : Type 0} (D : Data → Decision) (P : CutPart A) (Ps : List (CutPart A)) (h : ScopeValues) (s u : WorldState A) → P.cut h s u → IsBranchCut D (P ∷ Ps) h s u
first_branch D P [] h s u c = c
first_branch D P (Q ∷ Ps) h s u c = inl c

first_recovery : {A : Type 0} (P : CutPart A) (Ps : List (CutPart A)) (h : ScopeValues) (s u : WorldState A) → P.cut h s u → IsRecoveryCut (P ∷ Ps) h s u
first_recovery P [] h s u c = c
first_recovery P (Q ∷ Ps) h s u c = inl c

two_first : (t w : Term) (others beyond rest : List Term) → rest ≡ t ∷ others → others ≡ w ∷ beyond → rest ≡ t ∷ w ∷ beyond
two_first t w others beyond rest e f = e ∙ ap (λ (z : List Term). t ∷ z) f

module _ {A : Type 0} (gives : Giving A) (a b : Fixed) (h j : ScopeValues) (k l m : Marks) (x y z : Option (WorldState A)) (W : Leaves A) (t : Term) (others rest : List Term)
    (same : b ≡ a) (still : j ≡ h) (before : IsLater k l) (later : IsLater l m) (first : rest ≡ t ∷ others) where
  cut : MayFallSilent (SilenceCause l m) (IsCutOff (ground gives b) t j) y z → MayFallSilent (SilenceCause l m) (IsCutOff (ground gives a) t h) y z
  cut p = back (λ f w. MayFallSilent (SilenceCause l m) (IsCutOff (ground gives f) t w) y z) a b h j same still p

  -- the part was cut off
  pub parts_cut : MayFallSilent (SilenceCause k l) (Carries (parts_left (ground gives a) h rest) W) x y → MayFallSilent (SilenceCause l m) (IsCutOff (ground gives b) t j) y z → MayFallSilent (SilenceCause k m) W x z
  parts_cut c p =
      step_cut k l m x y z before later (parts_left (ground gives a) h rest) W (IsCutOff (ground gives a) t h) (λ n u q. subst (λ ts. parts_left (ground gives a) h ts n u) (sym first) (inl q)) c (cut p)

  pub branches_cut : (D : Data → Decision) → MayFallSilent (SilenceCause k l) (Carries (branches_left D (ground gives a) h rest) W) x y → MayFallSilent (SilenceCause l m) (IsCutOff (ground gives b) t j) y z → MayFallSilent (SilenceCause k m) W x z
  branches_cut D c p =
      step_cut k l m x y z before later (branches_left D (ground gives a) h rest) W (IsCutOff (ground gives a) t h)
      (λ n u q. subst (λ ts. branches_left D (ground gives a) h ts n u) (sym first) (first_branch D (cut_part (ground gives a) t) (parts (ground gives a) (all others)) h n u q)) c (cut p)

  pub recovery_cut : MayFallSilent (SilenceCause k l) (Carries (recovery_left (ground gives a) h rest) W) x y → MayFallSilent (SilenceCause l m) (IsCutOff (ground gives b) t j) y z → MayFallSilent (SilenceCause k m) W x z
  recovery_cut c p =
      step_cut k l m x y z before later (recovery_left (ground gives a) h rest) W (IsCutOff (ground gives a) t h)
      (λ n u q. subst (λ ts. recovery_left (ground gives a) h ts n u) (sym first) (first_recovery (cut_part (ground gives a) t) (parts (ground gives a) (all others)) h n u q)) c (cut p)

  -- the part has this value
  module _ (v : Data) where
    here : MayFallSilent (SilenceCause l m) (λ s u. Performs (ground gives b) t j v s u) y z → MayFallSilent (SilenceCause l m) (λ s u. Performs (ground gives a) t h v s u) y z
    here p = back (λ f w. MayFallSilent (SilenceCause l m) (λ s u. Performs (ground gives f) t w v s u) y z) a b h j same still p

    pub parts_go : MayFallSilent (SilenceCause k l) (Carries (parts_left (ground gives a) h rest) W) x y → MayFallSilent (SilenceCause l m) (λ s u. Performs (ground gives b) t j v s u) y z →
        MayFallSilent (SilenceCause k m) (Carries (parts_left (ground gives a) h others) W) x z
    parts_go c p =
        step_more k l m x y z before later (parts_left (ground gives a) h rest) (parts_left (ground gives a) h others) W (λ s u. Performs (ground gives a) t h v s u)
        (λ n i u q r. subst (λ ts. parts_left (ground gives a) h ts n u) (sym first) (inr (v, i, q, r))) c (here p)

    -- a condition, which its branch follows
    module _ (D : Data → Decision) (w : Term) (beyond : List Term) (second : others ≡ w ∷ beyond) where
      pub branch_met : D v ≡ Met → MayFallSilent (SilenceCause k l) (Carries (branches_left D (ground gives a) h rest) W) x y → MayFallSilent (SilenceCause l m) (λ s u. Performs (ground gives b) t j v s u) y z →
          MayFallSilent (SilenceCause k m) (Carries (part_left (ground gives a) h w) W) x z
      branch_met is c p =
          step_more k l m x y z before later (branches_left D (ground gives a) h rest) (part_left (ground gives a) h w) W (λ s u. Performs (ground gives a) t h v s u)
          (λ n i u q r. subst (λ ts. branches_left D (ground gives a) h ts n u) (sym (two_first t w others beyond rest first second))
          (inr (v, i, q, subst (λ o. Chosen o (IsCutOff (ground gives a) w h i u) (branches_left D (ground gives a) h beyond i u)) (sym is) r))) c (here p)

      pub branch_unmet : D v ≡ Unmet → MayFallSilent (SilenceCause k l) (Carries (branches_left D (ground gives a) h rest) W) x y → MayFallSilent (SilenceCause l m) (λ s u. Performs (ground gives b) t j v s u) y z →
          MayFallSilent (SilenceCause k m) (Carries (branches_left D (ground gives a) h beyond) W) x z
      branch_unmet is c p =
          step_more k l m x y z before later (branches_left D (ground gives a) h rest) (branches_left D (ground gives a) h beyond) W (λ s u. Performs (ground gives a) t h v s u)
          (λ n i u q r. subst (λ ts. branches_left D (ground gives a) h ts n u) (sym (two_first t w others beyond rest first second))
          (inr (v, i, q, subst (λ o. Chosen o (IsCutOff (ground gives a) w h i u) (branches_left D (ground gives a) h beyond i u)) (sym is) r))) c (here p)

    -- a value, which its fallback follows
    module _ (w : Term) (beyond : List Term) (second : others ≡ w ∷ beyond) where
      pub recovery_goes : IsNoError v → MayFallSilent (SilenceCause k l) (Carries (recovery_left (ground gives a) h rest) W) x y → MayFallSilent (SilenceCause l m) (λ s u. Performs (ground gives b) t j v s u) y z →
          MayFallSilent (SilenceCause k m) (Carries (recovery_left (ground gives a) h beyond) W) x z
      recovery_goes fine c p =
          step_more k l m x y z before later (recovery_left (ground gives a) h rest) (recovery_left (ground gives a) h beyond) W (λ s u. Performs (ground gives a) t h v s u)
          (λ n i u q r. subst (λ ts. recovery_left (ground gives a) h ts n u) (sym (two_first t w others beyond rest first second))
          (inr (v, i, q, caught_or v (λ e cs. IsCutOff (ground gives a) w (caught_in h e cs) i u) (recovery_left (ground gives a) h beyond i u) fine r))) c (here p)

      pub recovery_falls : (e : Kind) (cs : List ℕ) → v ≡ fault e cs → MayFallSilent (SilenceCause k l) (Carries (recovery_left (ground gives a) h rest) W) x y →
          MayFallSilent (SilenceCause l m) (λ s u. Performs (ground gives b) t j v s u) y z → MayFallSilent (SilenceCause k m) (Carries (part_left (ground gives a) (caught_in h e cs) w) W) x z
      recovery_falls e cs is c p =
          step_more k l m x y z before later (recovery_left (ground gives a) h rest) (part_left (ground gives a) (caught_in h e cs) w) W (λ s u. Performs (ground gives a) t h v s u)
          (λ n i u q r. subst (λ ts. recovery_left (ground gives a) h ts n u) (sym (two_first t w others beyond rest first second))
          (inr (v, i, q, subst (λ o. CaughtOr o (λ e cs. IsCutOff (ground gives a) w (caught_in h e cs) i u) (recovery_left (ground gives a) h beyond i u)) (sym is) r))) c (here p)

-- the branch that was chosen was cut off, or the fallback
pub branch_cut : {A : Type 0} (gives : Giving A) (a b : Fixed) (h j : ScopeValues) (k l m : Marks) (x y z : Option (WorldState A)) (W : Leaves A) (w : Term) → b ≡ a → j ≡ h → IsLater k l → IsLater l m →
    MayFallSilent (SilenceCause k l) (Carries (part_left (ground gives a) h w) W) x y → MayFallSilent (SilenceCause l m) (IsCutOff (ground gives b) w j) y z → MayFallSilent (SilenceCause k m) W x z
branch_cut gives a b h j k l m x y z W w same still before later c p =
    step_cut k l m x y z before later (part_left (ground gives a) h w) W (IsCutOff (ground gives a) w h) (λ n u q. q) c
    (back (λ f i. MayFallSilent (SilenceCause l m) (IsCutOff (ground gives f) w i) y z) a b h j same still p)

-- a formula for a row
module _ {A : Type 0} (gives : Giving A) (a b : Fixed) (h j : ScopeValues) (k l m : Marks) (x y z : Option (WorldState A)) (W : Leaves A) (f : Term) (r : Row) (q : Data) (others rest : List Row)
    (same : b ≡ a) (still : j ≡ h) (before : IsLater k l) (later : IsLater l m) (first : rest ≡ r ∷ others) (is : q ≡ record_of r) where
  pub each_cut : MayFallSilent (SilenceCause k l) (Carries (each_left (ground gives a) h f rest) W) x y → MayFallSilent (SilenceCause l m) (IsCutOff (ground gives b) f (inner j q)) y z → MayFallSilent (SilenceCause k m) W x z
  each_cut c p =
      step_cut k l m x y z before later (each_left (ground gives a) h f rest) W (IsCutOff (ground gives a) f (inner h (record_of r)))
      (λ n u i. subst (λ (rs : List Row). each_left (ground gives a) h f rs n u) (sym first) (inl i)) c
      (subst (λ (w : Data). MayFallSilent (SilenceCause l m) (IsCutOff (ground gives a) f (inner h w)) y z) is
      (back (λ e i. MayFallSilent (SilenceCause l m) (IsCutOff (ground gives e) f (inner i q)) y z) a b h j same still p))

  pub each_go : (v : Data) → MayFallSilent (SilenceCause k l) (Carries (each_left (ground gives a) h f rest) W) x y → MayFallSilent (SilenceCause l m) (λ s u. Performs (ground gives b) f (inner j q) v s u) y z →
      MayFallSilent (SilenceCause k m) (Carries (each_left (ground gives a) h f others) W) x z
  each_go v c p =
      step_more k l m x y z before later (each_left (ground gives a) h f rest) (each_left (ground gives a) h f others) W (λ s u. Performs (ground gives a) f (inner h (record_of r)) v s u)
      (λ n i u o e. subst (λ (rs : List Row). each_left (ground gives a) h f rs n u) (sym first) (inr (v, i, o, e))) c
      (subst (λ (w : Data). MayFallSilent (SilenceCause l m) (λ s u. Performs (ground gives a) f (inner h w) v s u) y z) is
      (back (λ e i. MayFallSilent (SilenceCause l m) (λ s u. Performs (ground gives e) f (inner i q) v s u) y z) a b h j same still p))

-- ---- one performing, and then what its value decides

-- the first part was cut off
module _ {A : Type 0} (g : Ground A) (h : ScopeValues) (lost : Type 0) (x y : Option (WorldState A)) (t : Term) (c : MayFallSilent lost (IsCutOff g t h) x y) where
  pub switch_first : (others : List Term) → MayFallSilent lost (IsSwitchCut (parts g (all (t ∷ others))) h) x y
  switch_first others = goes_weaker lost (IsCutOff g t h) (IsSwitchCut (parts g (all (t ∷ others))) h) (λ s u q. inl q) x y c

  pub within_first : (f : Term) → MayFallSilent lost (IsWithinCut (parts g (cons t (cons f nil))) h) x y
  within_first f = goes_weaker lost (IsCutOff g t h) (IsWithinCut (parts g (cons t (cons f nil))) h) (λ s u q. inl q) x y c

  pub for_all_first : (f : Term) → MayFallSilent lost (IsForAllCut (parts g (cons t (cons f nil))) h) x y
  for_all_first f = goes_weaker lost (IsCutOff g t h) (IsForAllCut (parts g (cons t (cons f nil))) h) (λ s u q. inl q) x y c

  pub update_first : (p : Target) (f : Term) → MayFallSilent lost (IsUpdateIfCut g p (parts g (cons t (cons f nil))) h) x y
  update_first p f = goes_weaker lost (IsCutOff g t h) (IsUpdateIfCut g p (parts g (cons t (cons f nil))) h) (λ s u q. inl q) x y c

unless : (w : Data) (P : Type 0) → IsNoError w → P → Unless w P
unless w P fine p = caught_or w (λ k cs. ⊥) P fine p

module _ {A : Type 0} (g : Ground A) (h : ScopeValues) (k l m : Marks) (x y z : Option (WorldState A)) (t : Term) (w : Data) (before : IsLater k l) (later : IsLater l m) (fine : IsNoError w)
    (p : MayFallSilent (SilenceCause k l) (λ s u. Performs g t h w s u) x y) where
  pub switch_then : (others : List Term) → MayFallSilent (SilenceCause l m) (IsBranchCut (switch_decision w) (parts g (all others)) h) y z → MayFallSilent (SilenceCause k m) (IsSwitchCut (parts g (all (t ∷ others))) h) x z
  switch_then others c =
      goes_two (λ s u. Performs g t h w s u) (IsBranchCut (switch_decision w) (parts g (all others)) h) (IsSwitchCut (parts g (all (t ∷ others))) h)
      (λ s n u q r. inr (w, n, q, unless w (IsBranchCut (switch_decision w) (parts g (all others)) h n u) fine r)) k l m before later x y z p c

  pub within_then : (f : Term) → MayFallSilent (SilenceCause l m) (IsCutOff g f (inner h w)) y z → MayFallSilent (SilenceCause k m) (IsWithinCut (parts g (cons t (cons f nil))) h) x z
  within_then f c =
      goes_two (λ s u. Performs g t h w s u) (IsCutOff g f (inner h w)) (IsWithinCut (parts g (cons t (cons f nil))) h)
      (λ s n u q r. inr (w, n, q, unless w (IsCutOff g f (inner h w) n u) fine r)) k l m before later x y z p c

  pub for_all_then : (f : Term) (rows : List Row) → rows ≡ rows_in w → MayFallSilent (SilenceCause l m) (each_left g h f rows) y z → MayFallSilent (SilenceCause k m) (IsForAllCut (parts g (cons t (cons f nil))) h) x z
  for_all_then f rows is c =
      goes_two (λ s u. Performs g t h w s u) (each_left g h f rows) (IsForAllCut (parts g (cons t (cons f nil))) h)
      (λ s n u q r. inr (w, n, q, unless w (each_left g h f (rows_in w) n u) fine (subst (λ (rs : List Row). each_left g h f rs n u) is r))) k l m before later x y z p c

  -- all rows were done, and then it was cut off
  pub for_all_behind : (f : Term) (rows : List Row) (ds : List Data) → rows ≡ rows_in w → MayFallSilent (SilenceCause l m) (λ s u. PerformsEach (performing g f) h rows s ds u) y z →
      MayFallSilent (SilenceCause k m) (IsForAllCut (parts g (cons t (cons f nil))) h) x z
  for_all_behind f rows ds is c = for_all_then f rows is (goes_weaker (SilenceCause l m) (λ s u. PerformsEach (performing g f) h rows s ds u) (each_left g h f rows) (λ s u q. all_done g f h rows ds s u q) y z c) where
    all_done : (g : Ground A) (f : Term) (h : ScopeValues) (rows : List Row) (ds : List Data) (s u : WorldState A) → PerformsEach (performing g f) h rows s ds u → each_left g h f rows s u
    all_done g f h [] [] s u q = q
    all_done g f h [] (d ∷ ds) s u q = absurd q
    all_done g f h (r ∷ rows) [] s u q = absurd q
    all_done g f h (r ∷ rows) (d ∷ ds) s u q = inr (d, q.0, q.1, all_done g f h rows ds q.0 u q.2)

  pub update_then : (p : Target) (f : Term) (rows : List Row) → rows ≡ rows_in w → MayFallSilent (SilenceCause l m) (AreChangesCut g p (cut_part g f) h rows) y z → MayFallSilent (SilenceCause k m) (IsUpdateIfCut g p (parts g (cons t (cons f nil))) h) x z
  update_then o f rows is c =
      goes_two (λ s u. Performs g t h w s u) (AreChangesCut g o (cut_part g f) h rows) (IsUpdateIfCut g o (parts g (cons t (cons f nil))) h)
      (λ s n u q r. inr (w, n, q, unless w (AreChangesCut g o (cut_part g f) h (rows_in w) n u) fine (subst (λ (rs : List Row). AreChangesCut g o (cut_part g f) h rs n u) is r))) k l m before later x y z p c

-- the changes of rows were cut off, or the update
pub changes_first : {A : Type 0} (lost : Type 0) (g : Ground A) (p : Target) (f : Term) (h : ScopeValues) (rows : List Row) (x y : Option (WorldState A)) → MayFallSilent lost (each_left g h f rows) x y → MayFallSilent lost (AreChangesCut g p (cut_part g f) h rows) x y
changes_first lost g p f h rows x y = goes_weaker lost (each_left g h f rows) (AreChangesCut g p (cut_part g f) h rows) (λ s u q. inl q) x y

pub changes_then : {A : Type 0} (g : Ground A) (p : Target) (f : Term) (h : ScopeValues) (rows : List Row) (es : List Data) (k l m : Marks) (x y z : Option (WorldState A)) → IsLater k l → IsLater l m →
    MayFallSilent (SilenceCause k l) (λ s u. PerformsEach (performing g f) h rows s es u) x y → MayFallSilent (SilenceCause l m) (CutUpdate g.frame p rows es) y z → MayFallSilent (SilenceCause k m) (AreChangesCut g p (cut_part g f) h rows) x z
changes_then g p f h rows es k l m x y z before later =
    goes_two (λ s u. PerformsEach (performing g f) h rows s es u) (CutUpdate g.frame p rows es) (AreChangesCut g p (cut_part g f) h rows) (λ s n u q r. inr (es, n, q, r)) k l m before later x y z

-- ---- deeds

-- all parts have been performed
pub all_parts : {A : Type 0} (g : Ground A) (ts : Terms) (h : ScopeValues) (s : WorldState A) (ds : List Data) (u : WorldState A) → ArePerformed (performings g ts) h s ds u → AreCut (parts g ts) h s u
all_parts g nil h s [] u p = p
all_parts g nil h s (d ∷ ds) u p = absurd p
all_parts g (cons t ts) h s [] u p = absurd p
all_parts g (cons t ts) h s (d ∷ ds) u p = inr (d, p.0, p.1, all_parts g ts h p.0 ds u p.2)

act_parts : {A : Type 0} (g : Ground A) (d : Deed) (Ps : List (CutPart A)) (h : ScopeValues) (s u : WorldState A) → (IsUpdating d → ⊥) → AreCut Ps h s u → IsActCut g d Ps h s u
act_parts g (deed.UpdateIf t) Ps h s u o c = absurd (o tt)
act_parts g (deed.Set k) Ps h s u o c = inl c
act_parts g (deed.UpdateContext ks) Ps h s u o c = inl c
act_parts g (deed.Collect k) Ps h s u o c = inl c
act_parts g (deed.Clear k) Ps h s u o c = inl c
act_parts g (deed.ClearCollect k) Ps h s u o c = inl c
act_parts g (deed.Patch t) Ps h s u o c = inl c
act_parts g (deed.Remove t) Ps h s u o c = inl c
act_parts g (deed.RemoveIf t) Ps h s u o c = inl c
act_parts g (deed.Navigate k) Ps h s u o c = inl c
act_parts g deed.Notify Ps h s u o c = inl c
act_parts g (deed.Reset k) Ps h s u o c = inl c

act_deed : {A : Type 0} (g : Ground A) (d : Deed) (Ps : List (CutPart A)) (h : ScopeValues) (s n : WorldState A) (ds : List Data) (u : WorldState A) → (IsUpdating d → ⊥) → ArePerformed (wholes Ps) h s ds n → CutDeed g.frame d ds n u → IsActCut g d Ps h s u
act_deed g (deed.UpdateIf t) Ps h s n ds u o p c = absurd (o tt)
act_deed g (deed.Set k) Ps h s n ds u o p c = inr (ds, n, p, c)
act_deed g (deed.UpdateContext ks) Ps h s n ds u o p c = inr (ds, n, p, c)
act_deed g (deed.Collect k) Ps h s n ds u o p c = inr (ds, n, p, c)
act_deed g (deed.Clear k) Ps h s n ds u o p c = inr (ds, n, p, c)
act_deed g (deed.ClearCollect k) Ps h s n ds u o p c = inr (ds, n, p, c)
act_deed g (deed.Patch t) Ps h s n ds u o p c = inr (ds, n, p, c)
act_deed g (deed.Remove t) Ps h s n ds u o p c = inr (ds, n, p, c)
act_deed g (deed.RemoveIf t) Ps h s n ds u o p c = inr (ds, n, p, c)
act_deed g (deed.Navigate k) Ps h s n ds u o p c = inr (ds, n, p, c)
act_deed g deed.Notify Ps h s n ds u o p c = inr (ds, n, p, c)
act_deed g (deed.Reset k) Ps h s n ds u o p c = inr (ds, n, p, c)

pub deed_first : {A : Type 0} (lost : Type 0) (g : Ground A) (d : Deed) (ts : List Term) (h : ScopeValues) (x y : Option (WorldState A)) → (IsUpdating d → ⊥) → MayFallSilent lost (parts_left g h ts) x y → MayFallSilent lost (IsActCut g d (parts g (all ts)) h) x y
deed_first lost g d ts h x y o = goes_weaker lost (parts_left g h ts) (IsActCut g d (parts g (all ts)) h) (λ s u c. act_parts g d (parts g (all ts)) h s u o c) x y

pub deed_then : {A : Type 0} (g : Ground A) (h : ScopeValues) (k l m : Marks) (x y z : Option (WorldState A)) (d : Deed) → (IsUpdating d → ⊥) → (ts : List Term) (ds : List Data) → IsLater k l → IsLater l m →
    MayFallSilent (SilenceCause k l) (λ s u. ArePerformed (performings g (all ts)) h s ds u) x y → MayFallSilent (SilenceCause l m) (CutDeed g.frame d ds) y z → MayFallSilent (SilenceCause k m) (IsActCut g d (parts g (all ts)) h) x z
deed_then g h k l m x y z d o ts ds before later =
    goes_two (λ s u. ArePerformed (performings g (all ts)) h s ds u) (CutDeed g.frame d ds) (IsActCut g d (parts g (all ts)) h)
    (λ s n u p c. act_deed g d (parts g (all ts)) h s n ds u o (subst (λ Ps. ArePerformed Ps h s ds n) (sym (whole_parts g (all ts))) p) c) k l m before later x y z

-- ---- a node by its head

acts_cut : {A : Type 0} (g : Ground A) (k : Top) (ts : Terms) (w : Term) (h : ScopeValues) (s u : WorldState A) → of k ts ≡ w → acts w ≡ true → IsActingCut g k (parts g ts) h s u → IsCutOff g w h s u
acts_cut g k ts w h s u e q r =
    subst (λ (z : Term). IsCutOff g z h s u) e (subst (λ b. IsCut g b k (parts g ts) h s u) (sym (ap acts e ∙ q)) (inr r))

pub node_cut : {A : Type 0} (lost : Type 0) (g : Ground A) (k : Top) (ts : Terms) (w : Term) (h : ScopeValues) (a b : Option (WorldState A)) → of k ts ≡ w → acts w ≡ true →
    MayFallSilent lost (IsActingCut g k (parts g ts) h) a b → MayFallSilent lost (IsCutOff g w h) a b
node_cut lost g k ts w h a b e q = goes_weaker lost (IsActingCut g k (parts g ts) h) (IsCutOff g w h) (λ s u r. acts_cut g k ts w h s u e q r) a b

-- the same of a call's answer
pub cut_as : {A : Type 0} (lost : Type 0) (g : Ground A) (k : Top) (ts xs : List Term) (w : Term) (h : ScopeValues) (result : Result Value Stop) (a b : Option (WorldState A)) → of k (all ts) ≡ w → xs ≡ ts → acts w ≡ true →
    OnErr result (MayFallSilent lost (IsActingCut g k (parts g (all xs)) h) a b) → OnErr result (MayFallSilent lost (IsCutOff g w h) a b)
cut_as lost g k ts xs w h result a b e p q =
    on_err_weaker result
    (λ c. node_cut lost g k (all ts) w h a b e q (subst (λ (ys : List Term). MayFallSilent lost (IsActingCut g k (parts g (all ys)) h) a b) p c))

-- its one part was cut off, or performed
pub one_cut : {A : Type 0} (lost : Type 0) (g : Ground A) (k : Top) (x t w : Term) (h : ScopeValues) (a b : Option (WorldState A)) → of k (cons x nil) ≡ w → t ≡ x → acts w ≡ true →
    ((s u : WorldState A) → AreCut (parts g (cons x nil)) h s u → IsActingCut g k (parts g (cons x nil)) h s u) → MayFallSilent lost (IsCutOff g t h) a b → MayFallSilent lost (IsCutOff g w h) a b
one_cut lost g k x t w h a b e p q f =
    goes_weaker lost (IsCutOff g t h) (IsCutOff g w h) (λ s u r. acts_cut g k (cons x nil) w h s u e q (f s u (inl (subst (λ z. IsCutOff g z h s u) p r)))) a b

pub one_behind : {A : Type 0} (lost : Type 0) (g : Ground A) (k : Top) (x t w : Term) (d : Data) (h : ScopeValues) (a b : Option (WorldState A)) → of k (cons x nil) ≡ w → t ≡ x → acts w ≡ true →
    ((s u : WorldState A) → AreCut (parts g (cons x nil)) h s u → IsActingCut g k (parts g (cons x nil)) h s u) → MayFallSilent lost (Performs g t h d) a b → MayFallSilent lost (IsCutOff g w h) a b
one_behind lost g k x t w d h a b e p q f =
    goes_weaker lost (Performs g t h d) (IsCutOff g w h) (λ s u r. acts_cut g k (cons x nil) w h s u e q (f s u (inr (d, u, subst (λ z. Performs g z h d s u) p r, refl)))) a b

-- all values of a list were there
pub list_behind : {A : Type 0} (lost : Type 0) (g : Ground A) (ts : List Term) (ds : List Data) (h : ScopeValues) (a b : Option (WorldState A)) → MayFallSilent lost (λ s u. ArePerformed (performings g (all ts)) h s ds u) a b → MayFallSilent lost (parts_left g h ts) a b
list_behind lost g ts ds h a b = goes_weaker lost (λ s u. ArePerformed (performings g (all ts)) h s ds u) (parts_left g h ts) (λ s u p. all_parts g (all ts) h s ds u p) a b

-- what holds at any end of a call
pub on_any : {T E : Type 0} (r : Result T E) {P : Type 0} → P → OnErr r P
on_any (Ok x) p = tt
on_any (Err e) p = p
