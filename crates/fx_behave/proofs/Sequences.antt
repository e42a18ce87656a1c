-- The parts of forms in which something acts, one after another.
use Rattle.std.proofs.Common.{◌≡◌, ℕ, List, [], ◌∷◌, ◌++◌, append_assoc, ◌+◌, ◌≤◌, true, false, Option, None, Some, Result, refl, ap, sym, subst, ◌∙◌, arith}
use Rattle.std.specs.Prelude.{IfOk, length, nat_eq}
use Rattle.std.proofs.lemmas.Bool.{eqb-true}
use Rattle.std.proofs.lemmas.List.{append-nil, nil_from_length}
use Rattle.std.proofs.lemmas.Result.{IfOk-weaker}
use Rattle.fx_base.proofs.Silences.{goes_two, goes_weaker}
use Rattle.fx_base.specs.Silence.{MayFallSilent, IsLater, SilenceCause, Marks}
use Rattle.fx_types.specs.declared.faults.Fault.{Fault}
use Rattle.fx_types.specs.declared.faults.Kind.{Kind}
use Rattle.fx_types.specs.declared.values.Value.{Value}
use Rattle.fx_types.specs.Values.{Data, blank, number, text, boolean, date, rec, tab, fault}
use Rattle.fx_types.specs.ValueView.{view}
use Rattle.fx_env.specs.declared.environment.Stop.{Stop}
use Rattle.fx_eval.specs.Parts.{caught_in, inner}
use Rattle.fx_env.specs.Scopes.{Fixed, ScopeValues}
use Rattle.fx_scalar.specs.declared.lazy_forms.Decision.{Decision}
use Rattle.fx_scalar.specs.declared.lazy_forms.Decision.TheVariants.{Met, Unmet, Error}
use Rattle.fx_scalar.specs.LazyForms.{CaughtOr, IsNoError}
use Rattle.fx_semantics.specs.Around.{record_of}
use Rattle.fx_semantics.specs.Rows.{rows_in}
use Rattle.fx_value.specs.Columns.{Row}
use Rattle.fx_tables.specs.RowCalls.{for_all_of}
use Rattle.fx_tables.specs.Unions.{is_fault}
use Rattle.fx_core.specs.Term.{Term, Terms, of, nil, cons, all, Top, term_size, terms_size}
use Rattle.fx_typing.specs.Acts.{acts}
use Rattle.fx_behave.proofs.Going.{Rest, end_here, end_on, step_on}
use Rattle.fx_deeds.specs.Deeds.{OrError}
use Rattle.fx_deeds.specs.RemainingRows.{RestDecides}
use Rattle.fx_deeds.specs.State.{Giving, Ground, WorldState, ground}
use Rattle.fx_behave.specs.Perform.{PerformsEach, ArePerformed, Decides as Decided, PerformsNode, IsBranched, IsChain, NodeComesTo, IsForAll, PerformsIfError, PerformsSwitch, PerformsWith, Performs, switch_decision, performing, performings, taken}

-- ---- what stays

-- what holds before calls that leave types and scope holds behind them
pub moved : (P : Fixed → ScopeValues → Type 0) (a b : Fixed) (h j : ScopeValues) → b ≡ a → j ≡ h → P a h → P b j
moved P a b h j e q r = subst (λ (f : Fixed). P f j) (sym e) (subst (λ (s : ScopeValues). P a s) (sym q) r)

-- and the other way
pub back : (P : Fixed → ScopeValues → Type 0) (a b : Fixed) (h j : ScopeValues) → b ≡ a → j ≡ h → P b j → P a h
back P a b h j e q r = subst (λ (s : ScopeValues). P a s) q (subst (λ (f : Fixed). P f j) e r)

-- ---- what is left of a list

pub none_left_is : {X : Type 0} (xs : List X) → nat_eq (length xs) 0 ≡ true → xs ≡ []
none_left_is xs e = nil_from_length xs (eqb-true (length xs) 0 e)

pub some_left : {X : Type 0} (xs : List X) → nat_eq (length xs) 0 ≡ false → xs ≡ [] → ⊥
some_left {X} xs e q = let wrong : true ≡ false = subst (λ (ys : List X). nat_eq (length ys) 0 ≡ false) q e in absurd cc

-- ---- sizes

pub refl_le : (n : ℕ) → n ≤ n
refl_le n = omega arith

-- the first part and the others are smaller than all
pub first_is_smaller : (rest : List Term) (t : Term) (others : List Term) (n : ℕ) → rest ≡ t ∷ others → terms_size (all rest) ≤ n → term_size t + terms_size (all others) + 1 ≤ n
first_is_smaller rest t others n e h =
    let k : terms_size (all (t ∷ others)) ≤ n = subst (λ (ts : List Term). terms_size (all ts) ≤ n) e h in omega (arith, k)

-- ---- values

pub is_no_error : (d : Data) → is_fault d ≡ false → IsNoError d
is_no_error blank e = tt
is_no_error (number z) e = tt
is_no_error (text cs) e = tt
is_no_error (boolean b) e = tt
is_no_error (date z) e = tt
is_no_error (rec fs) e = tt
is_no_error (tab rs) e = tt
is_no_error (fault k cs) e = let wrong : true ≡ false = e in absurd cc

pub or_value : {A : Type 0} (w : Data) (P : Type 0) (s : WorldState A) (x : Data) (t : WorldState A) → IsNoError w → P → OrError w P s x t
or_value blank P s x t n p = p
or_value (number z) P s x t n p = p
or_value (text cs) P s x t n p = p
or_value (boolean b) P s x t n p = p
or_value (date z) P s x t n p = p
or_value (rec fs) P s x t n p = p
or_value (tab rs) P s x t n p = p
or_value (fault k cs) P s x t n p = absurd n

pub caught_or : (w : Data) (C : Kind → List ℕ → Type 0) (P : Type 0) → IsNoError w → P → CaughtOr w C P
caught_or blank C P n p = p
caught_or (number z) C P n p = p
caught_or (text cs) C P n p = p
caught_or (boolean b) C P n p = p
caught_or (date z) C P n p = p
caught_or (rec fs) C P n p = p
caught_or (tab rs) C P n p = p
caught_or (fault k cs) C P n p = absurd n

-- ---- a node by its head

pub acts_as : {A : Type 0} (g : Ground A) (k : Top) (ts : Terms) (w : Term) (h : ScopeValues) (x : Data) (s u : WorldState A) → of k ts ≡ w → acts w ≡ true → PerformsNode g k (performings g ts) h s x u → Performs g w h x s u
acts_as g k ts w h x s u e q r =
    subst (λ (z : Term). Performs g z h x s u) e
    (subst (λ b. NodeComesTo g b k (taken g (of k ts)) (performings g ts) h s x u) (sym (ap acts e ∙ q)) r)

-- the same of a call's answer
pub performed_as : {A : Type 0} (lost : Type 0) (g : Ground A) (k : Top) (ts xs : List Term) (w : Term) (h : ScopeValues) (result : Result Value Stop) (a b : Option (WorldState A)) → of k (all ts) ≡ w → xs ≡ ts → acts w ≡ true →
    IfOk result (λ v. MayFallSilent lost (λ s u. PerformsNode g k (performings g (all xs)) h s (view v) u) a b) → IfOk result (λ v. MayFallSilent lost (λ s u. Performs g w h (view v) s u) a b)
performed_as {A} lost g k ts xs w h result a b e p q =
    IfOk-weaker result (λ v. MayFallSilent lost (λ s u. PerformsNode g k (performings g (all xs)) h s (view v) u) a b) (λ v. MayFallSilent lost (λ s u. Performs g w h (view v) s u) a b)
    (λ v. goes_weaker lost (λ s u. PerformsNode g k (performings g (all xs)) h s (view v) u) (λ s u. Performs g w h (view v) s u)
    (λ s u r. acts_as g k (all ts) w h (view v) s u e q (subst (λ (ys : List Term). PerformsNode g k (performings g (all ys)) h s (view v) u) p r)) a b)

-- ---- what is left

abbrev pub chain_of : {A : Type 0} → Ground A → ScopeValues → List Term → Rest A
chain_of g h ts = IsChain (performings g (all ts)) h

abbrev pub branches_of : {A : Type 0} → (Data → Decision) → Ground A → ScopeValues → List Term → Rest A
branches_of D g h ts = IsBranched D (performings g (all ts)) h

abbrev pub recovery_of : {A : Type 0} → Ground A → ScopeValues → Data → List Term → Rest A
recovery_of g h d ts = PerformsIfError d (performings g (all ts)) h

-- the performing of a part
abbrev pub part_of : {A : Type 0} → Ground A → ScopeValues → Term → Rest A
part_of g h t = performing g t h

-- some values, one after another
abbrev pub Many : Type 0 → Type 1
Many A = WorldState A → List Data → WorldState A → Type 0

-- more values decide of the whole behind these
abbrev pub DecideAll : {A : Type 0} → List Data → Many A → Many A → WorldState A → WorldState A → Type 0
DecideAll {A} ds R W s n = (es : List Data) (u : WorldState A) → R n es u → W s (ds ++ es) u

abbrev pub each_of : {A : Type 0} → Ground A → ScopeValues → Term → List Row → Many A
each_of g h f rows = PerformsEach (performing g f) h rows

abbrev pub parts_of : {A : Type 0} → Ground A → ScopeValues → List Term → Many A
parts_of g h ts = ArePerformed (performings g (all ts)) h

-- ---- chains and forms: one part, behind which these stand

two_first : (t w : Term) (others beyond rest : List Term) → rest ≡ t ∷ others → others ≡ w ∷ beyond → rest ≡ t ∷ w ∷ beyond
two_first t w others beyond rest e f = e ∙ ap (λ (z : List Term). t ∷ z) f

one_first : (t : Term) (others rest : List Term) → rest ≡ t ∷ others → others ≡ [] → rest ≡ t ∷ []
one_first t others rest e f = e ∙ ap (λ (z : List Term). t ∷ z) f

chain_more : {A : Type 0} (g : Ground A) (h : ScopeValues) (t : Term) (others : List Term) (v : Data) (s n : WorldState A) (d : Data) (u : WorldState A) → (others ≡ [] → ⊥) →
    Performs g t h v s n → chain_of g h others n d u → chain_of g h (t ∷ others) s d u
chain_more g h t [] v s n d u ne p r = absurd (ne refl)
chain_more g h t (w ∷ ws) v s n d u ne p r = (v, n, p, r)

module _ {A : Type 0} (gives : Giving A) (a b : Fixed) (h j : ScopeValues) (k l m : Marks) (x y z : Option (WorldState A)) (W : Rest A) (t : Term) (others rest : List Term) (v : Data)
    (same : b ≡ a) (still : j ≡ h) (before : IsLater k l) (later : IsLater l m) (first : rest ≡ t ∷ others) where
  here : MayFallSilent (SilenceCause l m) (λ s u. Performs (ground gives b) t j v s u) y z → MayFallSilent (SilenceCause l m) (λ s u. Performs (ground gives a) t h v s u) y z
  here p = back (λ f w. MayFallSilent (SilenceCause l m) (λ s u. Performs (ground gives f) t w v s u) y z) a b h j same still p

  -- the last part of a chain, and of conditions and branches, or of values and fallbacks
  pub chain_ends : others ≡ [] → MayFallSilent (SilenceCause k l) (RestDecides (chain_of (ground gives a) h rest) W) x y → MayFallSilent (SilenceCause l m) (λ s u. Performs (ground gives b) t j v s u) y z → MayFallSilent (SilenceCause k m) (λ s u. W s v u) x z
  chain_ends none d p =
      end_on k l m x y z (chain_of (ground gives a) h rest) W (λ s u. Performs (ground gives a) t h v s u) v before later
      (λ s u q. subst (λ (ts : List Term). chain_of (ground gives a) h ts s v u) (sym (one_first t others rest first none)) q) d (here p)

  pub branch_ends : (D : Data → Decision) → others ≡ [] → MayFallSilent (SilenceCause k l) (RestDecides (branches_of D (ground gives a) h rest) W) x y →
      MayFallSilent (SilenceCause l m) (λ s u. Performs (ground gives b) t j v s u) y z → MayFallSilent (SilenceCause k m) (λ s u. W s v u) x z
  branch_ends D none d p =
      end_on k l m x y z (branches_of D (ground gives a) h rest) W (λ s u. Performs (ground gives a) t h v s u) v before later
      (λ s u q. subst (λ (ts : List Term). branches_of D (ground gives a) h ts s v u) (sym (one_first t others rest first none)) q) d (here p)

  pub recovery_ends : (last : Data) → others ≡ [] → MayFallSilent (SilenceCause k l) (RestDecides (recovery_of (ground gives a) h last rest) W) x y →
      MayFallSilent (SilenceCause l m) (λ s u. Performs (ground gives b) t j v s u) y z → MayFallSilent (SilenceCause k m) (λ s u. W s v u) x z
  recovery_ends last none d p =
      end_on k l m x y z (recovery_of (ground gives a) h last rest) W (λ s u. Performs (ground gives a) t h v s u) v before later
      (λ s u q. subst (λ (ts : List Term). recovery_of (ground gives a) h last ts s v u) (sym (one_first t others rest first none)) q) d (here p)

  -- a part of a chain that isn't the last
  pub chain_goes : (others ≡ [] → ⊥) → MayFallSilent (SilenceCause k l) (RestDecides (chain_of (ground gives a) h rest) W) x y → MayFallSilent (SilenceCause l m) (λ s u. Performs (ground gives b) t j v s u) y z →
      MayFallSilent (SilenceCause k m) (RestDecides (chain_of (ground gives a) h others) W) x z
  chain_goes some d p =
      step_on k l m x y z (chain_of (ground gives a) h rest) (chain_of (ground gives a) h others) W (λ s u. Performs (ground gives a) t h v s u) before later
      (λ s n q e u r. subst (λ (ts : List Term). chain_of (ground gives a) h ts s e u) (sym first) (chain_more (ground gives a) h t others v s n e u some q r)) d (here p)

  -- a condition, which its branch follows
  module _ (D : Data → Decision) (w : Term) (beyond : List Term) (second : others ≡ w ∷ beyond) where
    decided : (s n : WorldState A) (d : Data) (u : WorldState A) → Performs (ground gives a) t h v s n →
        Decided (D v) (part_of (ground gives a) h w n d u) (branches_of D (ground gives a) h beyond n d u) n d u → branches_of D (ground gives a) h rest s d u
    decided s n d u p q = subst (λ (ts : List Term). branches_of D (ground gives a) h ts s d u) (sym (two_first t w others beyond rest first second)) (v, n, p, q)

    pub branch_met : D v ≡ Met → MayFallSilent (SilenceCause k l) (RestDecides (branches_of D (ground gives a) h rest) W) x y → MayFallSilent (SilenceCause l m) (λ s u. Performs (ground gives b) t j v s u) y z →
        MayFallSilent (SilenceCause k m) (RestDecides (part_of (ground gives a) h w) W) x z
    branch_met is d p =
        step_on k l m x y z (branches_of D (ground gives a) h rest) (part_of (ground gives a) h w) W (λ s u. Performs (ground gives a) t h v s u) before later
        (λ s n q e u r. decided s n e u q (subst (λ o. Decided o (part_of (ground gives a) h w n e u) (branches_of D (ground gives a) h beyond n e u) n e u) (sym is) r)) d (here p)

    pub branch_unmet : D v ≡ Unmet → MayFallSilent (SilenceCause k l) (RestDecides (branches_of D (ground gives a) h rest) W) x y → MayFallSilent (SilenceCause l m) (λ s u. Performs (ground gives b) t j v s u) y z →
        MayFallSilent (SilenceCause k m) (RestDecides (branches_of D (ground gives a) h beyond) W) x z
    branch_unmet is d p =
        step_on k l m x y z (branches_of D (ground gives a) h rest) (branches_of D (ground gives a) h beyond) W (λ s u. Performs (ground gives a) t h v s u) before later
        (λ s n q e u r. decided s n e u q (subst (λ o. Decided o (part_of (ground gives a) h w n e u) (branches_of D (ground gives a) h beyond n e u) n e u) (sym is) r)) d (here p)

    pub branch_fails : (f : Fault) → D v ≡ Error f → MayFallSilent (SilenceCause k l) (RestDecides (branches_of D (ground gives a) h rest) W) x y →
        MayFallSilent (SilenceCause l m) (λ s u. Performs (ground gives b) t j v s u) y z → MayFallSilent (SilenceCause k m) (λ s u. W s (fault f.kind f.message) u) x z
    branch_fails f is d p =
        end_on k l m x y z (branches_of D (ground gives a) h rest) W (λ s u. Performs (ground gives a) t h v s u) (fault f.kind f.message) before later
        (λ s n q. decided s n (fault f.kind f.message) n q
        (subst (λ o. Decided o (part_of (ground gives a) h w n (fault f.kind f.message) n) (branches_of D (ground gives a) h beyond n (fault f.kind f.message) n) n (fault f.kind f.message) n) (sym is) (refl, refl))) d (here p)

  -- a value, which its fallback follows
  module _ (last : Data) (w : Term) (beyond : List Term) (second : others ≡ w ∷ beyond) where
    recovered : (s n : WorldState A) (d : Data) (u : WorldState A) → Performs (ground gives a) t h v s n →
        CaughtOr v (λ c cs. part_of (ground gives a) (caught_in h c cs) w n d u) (recovery_of (ground gives a) h v beyond n d u) → recovery_of (ground gives a) h last rest s d u
    recovered s n d u p q = subst (λ (ts : List Term). recovery_of (ground gives a) h last ts s d u) (sym (two_first t w others beyond rest first second)) (v, n, p, q)

    pub recovery_goes : IsNoError v → MayFallSilent (SilenceCause k l) (RestDecides (recovery_of (ground gives a) h last rest) W) x y → MayFallSilent (SilenceCause l m) (λ s u. Performs (ground gives b) t j v s u) y z →
        MayFallSilent (SilenceCause k m) (RestDecides (recovery_of (ground gives a) h v beyond) W) x z
    recovery_goes fine d p =
        step_on k l m x y z (recovery_of (ground gives a) h last rest) (recovery_of (ground gives a) h v beyond) W (λ s u. Performs (ground gives a) t h v s u) before later
        (λ s n q e u r. recovered s n e u q (caught_or v (λ c cs. part_of (ground gives a) (caught_in h c cs) w n e u) (recovery_of (ground gives a) h v beyond n e u) fine r)) d (here p)

    pub recovery_falls : (c : Kind) (cs : List ℕ) → v ≡ fault c cs → MayFallSilent (SilenceCause k l) (RestDecides (recovery_of (ground gives a) h last rest) W) x y →
        MayFallSilent (SilenceCause l m) (λ s u. Performs (ground gives b) t j v s u) y z → MayFallSilent (SilenceCause k m) (RestDecides (part_of (ground gives a) (caught_in h c cs) w) W) x z
    recovery_falls c cs is d p =
        step_on k l m x y z (recovery_of (ground gives a) h last rest) (part_of (ground gives a) (caught_in h c cs) w) W (λ s u. Performs (ground gives a) t h v s u) before later
        (λ s n q e u r. recovered s n e u q
        (subst (λ o. CaughtOr o (λ c cs. part_of (ground gives a) (caught_in h c cs) w n e u) (recovery_of (ground gives a) h o beyond n e u)) (sym is) r)) d (here p)

-- the branch that was chosen, or the fallback
pub branch_done : {A : Type 0} (gives : Giving A) (a b : Fixed) (h j : ScopeValues) (k l m : Marks) (x y z : Option (WorldState A)) (W : Rest A) (w : Term) (v : Data) → b ≡ a → j ≡ h → IsLater k l → IsLater l m →
    MayFallSilent (SilenceCause k l) (RestDecides (part_of (ground gives a) h w) W) x y → MayFallSilent (SilenceCause l m) (λ s u. Performs (ground gives b) w j v s u) y z → MayFallSilent (SilenceCause k m) (λ s u. W s v u) x z
branch_done gives a b h j k l m x y z W w v same still before later d p =
    end_on k l m x y z (part_of (ground gives a) h w) W (λ s u. Performs (ground gives a) w h v s u) v before later (λ s n q. q) d
    (back (λ f i. MayFallSilent (SilenceCause l m) (λ s u. Performs (ground gives f) w i v s u) y z) a b h j same still p)

-- where no condition is left it is blank
pub branch_none : {A : Type 0} (D : Data → Decision) (g : Ground A) (h : ScopeValues) (lost : Type 0) (x y : Option (WorldState A)) (W : Rest A) (rest : List Term) → rest ≡ [] →
    MayFallSilent lost (RestDecides (branches_of D g h rest) W) x y → MayFallSilent lost (λ s u. W s blank u) x y
branch_none D g h lost x y W rest e =
    end_here lost x y (branches_of D g h rest) W blank (λ s. subst (λ (ts : List Term). branches_of D g h ts s blank s) (sym e) (refl, refl))

-- where no value is left it is the last one
pub recovery_none : {A : Type 0} (d : Data) (g : Ground A) (h : ScopeValues) (lost : Type 0) (x y : Option (WorldState A)) (W : Rest A) (rest : List Term) → rest ≡ [] →
    MayFallSilent lost (RestDecides (recovery_of g h d rest) W) x y → MayFallSilent lost (λ s u. W s d u) x y
recovery_none d g h lost x y W rest e =
    end_here lost x y (recovery_of g h d rest) W d (λ s. subst (λ (ts : List Term). recovery_of g h d ts s d s) (sym e) (refl, refl))

-- ---- one performing, and then what its value decides

module _ {A : Type 0} (g : Ground A) (h : ScopeValues) (k l m : Marks) (x y z : Option (WorldState A)) (t : Term) (w : Data) (before : IsLater k l) (later : IsLater l m) (fine : IsNoError w) where
  pub switch_goes : (others : List Term) (v : Data) → MayFallSilent (SilenceCause k l) (λ s u. Performs g t h w s u) x y → MayFallSilent (SilenceCause l m) (λ s u. IsBranched (switch_decision w) (performings g (all others)) h s v u) y z →
      MayFallSilent (SilenceCause k m) (λ s u. PerformsSwitch (performings g (all (t ∷ others))) h s v u) x z
  switch_goes others v =
      goes_two (λ s u. Performs g t h w s u) (λ s u. IsBranched (switch_decision w) (performings g (all others)) h s v u) (λ s u. PerformsSwitch (performings g (all (t ∷ others))) h s v u)
      (λ s n u p q. (w, n, p, or_value w (IsBranched (switch_decision w) (performings g (all others)) h n v u) n v u fine q)) k l m before later x y z

  pub within_goes : (f : Term) (v : Data) → MayFallSilent (SilenceCause k l) (λ s u. Performs g t h w s u) x y → MayFallSilent (SilenceCause l m) (λ s u. Performs g f (inner h w) v s u) y z →
      MayFallSilent (SilenceCause k m) (λ s u. PerformsWith (performings g (cons t (cons f nil))) h s v u) x z
  within_goes f v =
      goes_two (λ s u. Performs g t h w s u) (λ s u. Performs g f (inner h w) v s u) (λ s u. PerformsWith (performings g (cons t (cons f nil))) h s v u)
      (λ s n u p q. (w, n, p, or_value w (Performs g f (inner h w) v n u) n v u fine q)) k l m before later x y z

  pub for_all_goes : (f : Term) (rows taken : List Row) (ds : List Data) (v : Data) → rows ≡ rows_in w → taken ≡ rows → v ≡ for_all_of ds →
      MayFallSilent (SilenceCause k l) (λ s u. Performs g t h w s u) x y → MayFallSilent (SilenceCause l m) (λ s u. PerformsEach (performing g f) h taken s ds u) y z →
      MayFallSilent (SilenceCause k m) (λ s u. IsForAll (performing g t ∷ performing g f ∷ []) h s v u) x z
  for_all_goes f rows taken ds v are is made =
      goes_two (λ s u. Performs g t h w s u) (λ s u. PerformsEach (performing g f) h taken s ds u) (λ s u. IsForAll (performing g t ∷ performing g f ∷ []) h s v u)
      (λ s n u p q. (
        w,
        n,
        p,
        or_value w ((es : List Data) × PerformsEach (performing g f) h (rows_in w) n es u × (v ≡ for_all_of es)) n v u fine
            (ds, subst (λ (rs : List Row). PerformsEach (performing g f) h rs n ds u) (is ∙ are) q, made),
      )) k l m before later x y z

-- an error is the answer
module _ {A : Type 0} (g : Ground A) (h : ScopeValues) (lost : Type 0) (x y : Option (WorldState A)) (t : Term) (w : Data) (c : Kind) (cs : List ℕ) (is : w ≡ fault c cs) where
  pub switch_fails : (others : List Term) → MayFallSilent lost (λ s u. Performs g t h w s u) x y → MayFallSilent lost (λ s u. PerformsSwitch (performings g (all (t ∷ others))) h s (fault c cs) u) x y
  switch_fails others =
      goes_weaker lost (λ s u. Performs g t h w s u) (λ s u. PerformsSwitch (performings g (all (t ∷ others))) h s (fault c cs) u)
      (λ s n p. (w, n, p, subst (λ o. OrError o (IsBranched (switch_decision w) (performings g (all others)) h n (fault c cs) n) n (fault c cs) n) (sym is) (refl, refl))) x y

  pub within_fails : (f : Term) → MayFallSilent lost (λ s u. Performs g t h w s u) x y → MayFallSilent lost (λ s u. PerformsWith (performings g (cons t (cons f nil))) h s (fault c cs) u) x y
  within_fails f =
      goes_weaker lost (λ s u. Performs g t h w s u) (λ s u. PerformsWith (performings g (cons t (cons f nil))) h s (fault c cs) u)
      (λ s n p. (w, n, p, subst (λ o. OrError o (Performs g f (inner h w) (fault c cs) n n) n (fault c cs) n) (sym is) (refl, refl))) x y

  pub for_all_fails : (f : Term) → MayFallSilent lost (λ s u. Performs g t h w s u) x y → MayFallSilent lost (λ s u. IsForAll (performing g t ∷ performing g f ∷ []) h s (fault c cs) u) x y
  for_all_fails f =
      goes_weaker lost (λ s u. Performs g t h w s u) (λ s u. IsForAll (performing g t ∷ performing g f ∷ []) h s (fault c cs) u)
      (λ s n p. (w, n, p, subst (λ o. OrError o ((es : List Data) × PerformsEach (performing g f) h (rows_in w) n es n × (fault c cs ≡ for_all_of es)) n (fault c cs) n) (sym is) (refl, refl))) x y

-- ---- several values

all_left : {A : Type 0} (lost : Type 0) (x : Option (WorldState A)) (ds : List Data) (W : Many A) → ds ≡ [] → MayFallSilent lost (DecideAll ds W W) x x
all_left lost None ds W e = refl
all_left {A} lost (Some s) ds W e = λ es u r. subst (λ (vs : List Data). W s (vs ++ es) u) (sym e) r

pub performed_begins : {A : Type 0} (lost : Type 0) (x : Option (WorldState A)) (g : Ground A) (h : ScopeValues) (ts : List Term) (ds : List Data) → ds ≡ [] → MayFallSilent lost (DecideAll ds (parts_of g h ts) (parts_of g h ts)) x x
performed_begins lost x g h ts ds = all_left lost x ds (parts_of g h ts)

one_more : {A : Type 0} (W : Many A) (ds es : List Data) (v : Data) (vs : List Data) (s u : WorldState A) → es ≡ ds ++ v ∷ [] → W s (ds ++ v ∷ vs) u → W s (es ++ vs) u
one_more W ds es v vs s u e h = subst (λ (ws : List Data). W s (ws ++ vs) u) (sym e) (subst (λ (ws : List Data). W s ws u) (sym (append_assoc ds (v ∷ []) vs)) h)

no_more : {A : Type 0} (lost : Type 0) (x y : Option (WorldState A)) (R W : Many A) (ds : List Data) → ((s : WorldState A) → R s [] s) → MayFallSilent lost (DecideAll ds R W) x y → MayFallSilent lost (λ s u. W s ds u) x y
no_more lost x y R W ds f = goes_weaker lost (DecideAll ds R W) (λ s u. W s ds u) (λ s u d. subst (λ (vs : List Data). W s vs u) (append-nil ds) (d [] u (f u))) x y

pub each_ends : {A : Type 0} (lost : Type 0) (x y : Option (WorldState A)) (g : Ground A) (h : ScopeValues) (f : Term) (W : Many A) (ds : List Data) (rest : List Row) → rest ≡ [] →
    MayFallSilent lost (DecideAll ds (each_of g h f rest) W) x y → MayFallSilent lost (λ s u. W s ds u) x y
each_ends lost x y g h f W ds rest e = no_more lost x y (each_of g h f rest) W ds (λ s. subst (λ (rs : List Row). each_of g h f rs s [] s) (sym e) refl)

pub performed_ends : {A : Type 0} (lost : Type 0) (x y : Option (WorldState A)) (g : Ground A) (h : ScopeValues) (W : Many A) (ds : List Data) (rest : List Term) → rest ≡ [] →
    MayFallSilent lost (DecideAll ds (parts_of g h rest) W) x y → MayFallSilent lost (λ s u. W s ds u) x y
performed_ends lost x y g h W ds rest e = no_more lost x y (parts_of g h rest) W ds (λ s. subst (λ (ts : List Term). parts_of g h ts s [] s) (sym e) refl)

module _ {A : Type 0} (gives : Giving A) (a b : Fixed) (h j : ScopeValues) (k l m : Marks) (x y z : Option (WorldState A)) (W : Many A) (ds es : List Data) (v : Data)
    (same : b ≡ a) (still : j ≡ h) (before : IsLater k l) (later : IsLater l m) (made : es ≡ ds ++ v ∷ []) where
  pub each_goes : (f : Term) (r : Row) (q : Data) (others rest : List Row) → rest ≡ r ∷ others → q ≡ record_of r → MayFallSilent (SilenceCause k l) (DecideAll ds (each_of (ground gives a) h f rest) W) x y →
      MayFallSilent (SilenceCause l m) (λ s u. Performs (ground gives b) f (inner j q) v s u) y z → MayFallSilent (SilenceCause k m) (DecideAll es (each_of (ground gives a) h f others) W) x z
  each_goes f r q others rest first is d p =
      goes_two (DecideAll ds (each_of (ground gives a) h f rest) W) (λ s u. Performs (ground gives a) f (inner h (record_of r)) v s u) (DecideAll es (each_of (ground gives a) h f others) W)
      (λ s n t e i vs u o. one_more W ds es v vs s u made (e (v ∷ vs) u (subst (λ (rs : List Row). each_of (ground gives a) h f rs n (v ∷ vs) u) (sym first) (t, i, o)))) k l m before later x y z d
      (subst (λ (w : Data). MayFallSilent (SilenceCause l m) (λ s u. Performs (ground gives a) f (inner h w) v s u) y z) is
      (back (λ c i. MayFallSilent (SilenceCause l m) (λ s u. Performs (ground gives c) f (inner i q) v s u) y z) a b h j same still p))

  pub performed_goes : (t : Term) (others rest : List Term) → rest ≡ t ∷ others → MayFallSilent (SilenceCause k l) (DecideAll ds (parts_of (ground gives a) h rest) W) x y →
      MayFallSilent (SilenceCause l m) (λ s u. Performs (ground gives b) t j v s u) y z → MayFallSilent (SilenceCause k m) (DecideAll es (parts_of (ground gives a) h others) W) x z
  performed_goes t others rest first d p =
      goes_two (DecideAll ds (parts_of (ground gives a) h rest) W) (λ s u. Performs (ground gives a) t h v s u) (DecideAll es (parts_of (ground gives a) h others) W)
      (λ s n w e i vs u o. one_more W ds es v vs s u made (e (v ∷ vs) u (subst (λ (ts : List Term). parts_of (ground gives a) h ts n (v ∷ vs) u) (sym first) (w, i, o)))) k l m before later x y z d
      (back (λ c i. MayFallSilent (SilenceCause l m) (λ s u. Performs (ground gives c) t i v s u) y z) a b h j same still p)
