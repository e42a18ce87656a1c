-- The parts of a form that is ready are ready, each where it stands.
use Rattle.std.proofs.Common.{◌≡◌, ◌≢◌, ℕ, suc, ◌+◌, ◌%◌, List, [], ◌∷◌, ◌++◌, length, Bool, true, false, Option, refl, ap, subst, ◌∙◌, arith}
use Rattle.std.specs.Prelude.{nat_eq, if◌then◌else◌}
use Rattle.std.proofs.lemmas.List.{length-append}
use Rattle.std.proofs.lemmas.Bool.Decides.{Decides-eqb}
use Rattle.fx_types.specs.Types.{Shape, booleans}
use Rattle.fx_eval.specs.Parts.{AreConditions, AreBranches, AreMatches, AreRecoveries, AreFine, IsFallback, IsSwitched, caught_in, terms_of}
use Rattle.fx_env.specs.Scopes.{ScopeValues, Suits, IsTypedHere, CanEvaluate}
use Rattle.fx_eval.proofs.Ready.{AreCalm, Lawfully, calm_parts, calm_rest, part_ready}
use Rattle.fx_eval.proofs.CallHeads.{IsPlain}
use Rattle.fx_semantics.specs.Sound.{AreLawfulTypings}
use Rattle.fx_core.specs.declared.functions.Form.TheVariants as form
use Rattle.fx_core.specs.declared.functions.Fun.TheVariants as fun
use Rattle.fx_core.specs.declared.rows.Scalar.TheVariants.{Boolean}
use Rattle.fx_core.specs.declared.rows.Takes.{Takes}
use Rattle.fx_core.specs.declared.rows.Takes.TheVariants as takes
use Rattle.fx_core.specs.declared.sources.Source.{Source}
use Rattle.fx_core.specs.Rows.{form_row, takes_at, takes_count}
use Rattle.fx_core.specs.Term.{Term, Terms, of, nil, cons, all, term_field_names, field_terms, Top, call, form, rec}
use Rattle.fx_typing.specs.WellTyped.{Context, AreTyped, AllStand, Stands, PartScope, plain, standing_at, standing_of, context_for, first_type, parts_count}
use Rattle.fx_typing.specs.Ways.{is_comparable}

abbrev Types : Type 0
Types = Source → Option Shape

abbrev Condition : Takes
Condition = takes.Scalar Boolean

-- ---- places

not_equal : (x y : ℕ) → x ≢ y → nat_eq x y ≡ false
not_equal x y n = by (nat_eq x y) refl
  where
    by : (b : Bool) → nat_eq x y ≡ b → nat_eq x y ≡ false
    by true e = absurd (n ((Decides-eqb x y).0 e))
    by false e = e

-- what stands at one of four places, and behind
abbrev inner_of : Bool → Bool → Bool → Takes → Takes → Takes → Takes → Takes
inner_of a b c p q r s = if a then p else (if b then q else (if c then r else s))

same_inner : (a b c : Bool) (p : Takes) → inner_of a b c p p p p ≡ p
same_inner true b c p = refl
same_inner false true c p = refl
same_inner false false true p = refl
same_inner false false false p = refl

condition_at : (n i : ℕ) → takes_at (form_row form.All) n i ≡ Condition
condition_at n i = same_inner (nat_eq i 0) (nat_eq i 1) (nat_eq (i % 2) 0) Condition

any_condition_at : (n i : ℕ) → takes_at (form_row form.Any) n i ≡ Condition
any_condition_at n i = same_inner (nat_eq i 0) (nat_eq i 1) (nat_eq (i % 2) 0) Condition

even_inner : (a b c : Bool) (p q : Takes) → b ≡ false → c ≡ true → inner_of a b c p q p q ≡ p
even_inner true b c p q e f = refl
even_inner false true c p q e f = absurd cc
even_inner false false true p q e f = refl
even_inner false false false p q e f = absurd cc

odd_inner : (a b c : Bool) (p q r s : Takes) → a ≡ false → c ≡ false → q ≡ s → inner_of a b c p q r s ≡ s
odd_inner true b c p q r s e f g = absurd cc
odd_inner false true c p q r s e f g = g
odd_inner false false true p q r s e f g = absurd cc
odd_inner false false false p q r s e f g = refl

not_last : (a : Bool) (p q r : Takes) → a ≡ false → q ≡ r → (if a then p else q) ≡ r
not_last true p q r e f = absurd cc
not_last false p q r e f = f

even_is : (i : ℕ) → i % 2 ≡ 0 → nat_eq (i % 2) 0 ≡ true
even_is i e = ap (λ z. nat_eq z 0) e

odd_is : (i : ℕ) → i % 2 ≡ 1 → nat_eq (i % 2) 0 ≡ false
odd_is i e = ap (λ z. nat_eq z 0) e

-- at an even place that isn't the last a condition of `If` stands
if_condition : (n i : ℕ) → i % 2 ≡ 0 → suc i ≢ n → takes_at (form_row form.If) n i ≡ Condition
if_condition n i e l =
    let one : i ≢ 1 = λ p. omega arith in
    not_last (nat_eq (suc i) n) takes.Branch (inner_of (nat_eq i 0) (nat_eq i 1) (nat_eq (i % 2) 0) Condition takes.Branch Condition takes.Branch) Condition
    (not_equal (suc i) n l) (even_inner (nat_eq i 0) (nat_eq i 1) (nat_eq (i % 2) 0) Condition takes.Branch (not_equal i 1 one) (even_is i e))

-- at an odd place that isn't the last a match of `Switch` stands
switch_match : (n i : ℕ) → i % 2 ≡ 1 → suc i ≢ n → takes_at (form_row form.Switch) n i ≡ takes.Match
switch_match n i e l =
    let none : i ≢ 0 = λ p. omega arith in
    not_last (nat_eq (suc i) n) takes.Branch (inner_of (nat_eq i 0) (nat_eq i 1) (nat_eq (i % 2) 0) takes.Compared takes.Match takes.Branch takes.Match) takes.Match
    (not_equal (suc i) n l) (odd_inner (nat_eq i 0) (nat_eq i 1) (nat_eq (i % 2) 0) takes.Compared takes.Match takes.Branch takes.Match (not_equal i 0 none) (odd_is i e) refl)

-- at an even place a value of `IfError` stands, and at an odd one a fallback
value_at_even : (n i : ℕ) → i % 2 ≡ 0 → takes_at (form_row form.IfError) n i ≡ takes.Branch
value_at_even n i e =
    let one : i ≢ 1 = λ p. omega arith in
    even_inner (nat_eq i 0) (nat_eq i 1) (nat_eq (i % 2) 0) takes.Branch takes.Fallback (not_equal i 1 one) (even_is i e)

fallback_at_odd : (n i : ℕ) → i % 2 ≡ 1 → takes_at (form_row form.IfError) n i ≡ takes.Fallback
fallback_at_odd n i e =
    let none : i ≢ 0 = λ p. omega arith in
    odd_inner (nat_eq i 0) (nat_eq i 1) (nat_eq (i % 2) 0) takes.Branch takes.Fallback takes.Branch takes.Fallback (not_equal i 0 none) (odd_is i e) refl

plain_chosen : (b : Bool) (p q : Takes) → IsPlain p → IsPlain q → IsPlain (if b then p else q)
plain_chosen true p q e f = e
plain_chosen false p q e f = f

if_plain : (n i : ℕ) → IsPlain (takes_at (form_row form.If) n i)
if_plain n i =
    plain_chosen (nat_eq (suc i) n) takes.Branch (inner_of (nat_eq i 0) (nat_eq i 1) (nat_eq (i % 2) 0) Condition takes.Branch Condition takes.Branch) refl
    (plain_chosen (nat_eq i 0) Condition (if nat_eq i 1 then takes.Branch else (if nat_eq (i % 2) 0 then Condition else takes.Branch)) refl
    (plain_chosen (nat_eq i 1) takes.Branch (if nat_eq (i % 2) 0 then Condition else takes.Branch) refl
    (plain_chosen (nat_eq (i % 2) 0) Condition takes.Branch refl refl)))

switch_plain : (n i : ℕ) → IsPlain (takes_at (form_row form.Switch) n i)
switch_plain n i =
    plain_chosen (nat_eq (suc i) n) takes.Branch (inner_of (nat_eq i 0) (nat_eq i 1) (nat_eq (i % 2) 0) takes.Compared takes.Match takes.Branch takes.Match) refl
    (plain_chosen (nat_eq i 0) takes.Compared (if nat_eq i 1 then takes.Match else (if nat_eq (i % 2) 0 then takes.Branch else takes.Match)) refl
    (plain_chosen (nat_eq i 1) takes.Match (if nat_eq (i % 2) 0 then takes.Branch else takes.Match) refl
    (plain_chosen (nat_eq (i % 2) 0) takes.Branch takes.Match refl refl)))

-- ---- parts

-- a part of a form where the whole stands
plain_part : (types : Types) (s : ScopeValues) (c : Context) (k : Takes) (done : List Shape) (t : Term) (ts : Terms) (u : Shape) → IsPlain k → Suits types s c →
    Lawfully (context_for (standing_of k) c done) t u → AreCalm (cons t ts) → IsTypedHere types s t u
plain_part types s c k done t ts u p f h q =
    part_ready types s c t ts u f (subst (λ (z : PartScope). Lawfully (context_for z c done) t u) p h) q

fallback_part : (types : Types) (s : ScopeValues) (c : Context) (k : Takes) (done : List Shape) (t : Term) (ts : Terms) (u : Shape) → k ≡ takes.Fallback → Suits types s c →
    Lawfully (context_for (standing_of k) c done) t u → AreCalm (cons t ts) → IsFallback types s t
fallback_part types s c k done t ts u p f h q = λ j cs. (
  u,
  part_ready types (caught_in s j cs) (record c { caught = true }) t ts u
      (record { sources = f.sources; rows = f.rows; item = f.item; caught = λ e. refl; functions = f.functions })
      (subst (λ (z : Takes). Lawfully (context_for (standing_of z) c done) t u) p h) q,
)

-- what stands at a place
standing_there : (k j : Takes) (first common u : Shape) → k ≡ j → Stands k first common u → Stands j first common u
standing_there k j first common u e h = subst (λ (z : Takes). Stands z first common u) e h

conditions : (types : Types) (s : ScopeValues) (c : Context) (n m i : ℕ) (first common : Shape) → Suits types s c →
    (ts : List Term) (done us : List Shape) → (w : AreTyped c (form form.All) n done (all ts) us) → AreLawfulTypings c (form form.All) n done (all ts) us w →
    AllStand (form_row form.All) m i first common us → AreCalm (all ts) → AreConditions types s ts
conditions types s c n m i first common f [] done us h l k q = tt
conditions types s c n m i first common f (t ∷ ts) done us h l k q =
    let at : AllStand (form_row form.All) m i first common (h.0 ∷ h.1) = subst (AllStand (form_row form.All) m i first common) h.2 k in
    let is : h.0 ≡ booleans = standing_there (takes_at (form_row form.All) m i) Condition first common h.0 (condition_at m i) at.0 in
    let place = takes_at (form_row form.All) n (length done) in
    let plainly : IsPlain place = ap standing_of (condition_at n (length done)) in (
      subst (IsTypedHere types s t) is (plain_part types s c place done t (all ts) h.0 plainly f (h.3, l.0) q),
      conditions types s c n m (suc i) first common f ts (done ++ h.0 ∷ []) h.1 h.4 l.1 at.1 (calm_rest t (all ts) q),
    )

pub all_ready : (types : Types) (s : ScopeValues) (ts : List Term) → CanEvaluate types s (of (form form.All) (all ts)) → AreConditions types s ts
all_ready types s ts r =
    let h = r.1.typed in
    conditions types s r.1.context (parts_count (all ts)) (length h.0) 0 (first_type h.0) h.2.1 r.1.suits ts [] h.0 h.1 r.1.lawful.1 h.2.2
    (calm_parts types s (form form.All) (all ts) r.0 r.1)

any_conditions : (types : Types) (s : ScopeValues) (c : Context) (n m i : ℕ) (first common : Shape) → Suits types s c →
    (ts : List Term) (done us : List Shape) → (w : AreTyped c (form form.Any) n done (all ts) us) → AreLawfulTypings c (form form.Any) n done (all ts) us w →
    AllStand (form_row form.Any) m i first common us → AreCalm (all ts) → AreConditions types s ts
any_conditions types s c n m i first common f [] done us h l k q = tt
any_conditions types s c n m i first common f (t ∷ ts) done us h l k q =
    let at : AllStand (form_row form.Any) m i first common (h.0 ∷ h.1) = subst (AllStand (form_row form.Any) m i first common) h.2 k in
    let is : h.0 ≡ booleans = standing_there (takes_at (form_row form.Any) m i) Condition first common h.0 (any_condition_at m i) at.0 in
    let place = takes_at (form_row form.Any) n (length done) in
    let plainly : IsPlain place = ap standing_of (any_condition_at n (length done)) in (
      subst (IsTypedHere types s t) is (plain_part types s c place done t (all ts) h.0 plainly f (h.3, l.0) q),
      any_conditions types s c n m (suc i) first common f ts (done ++ h.0 ∷ []) h.1 h.4 l.1 at.1 (calm_rest t (all ts) q),
    )

pub any_ready : (types : Types) (s : ScopeValues) (ts : List Term) → CanEvaluate types s (of (form form.Any) (all ts)) → AreConditions types s ts
any_ready types s ts r =
    let h = r.1.typed in
    any_conditions types s r.1.context (parts_count (all ts)) (length h.0) 0 (first_type h.0) h.2.1 r.1.suits ts [] h.0 h.1 r.1.lawful.1 h.2.2
    (calm_parts types s (form form.Any) (all ts) r.0 r.1)

-- ---- If

branches : (types : Types) (s : ScopeValues) (c : Context) (n m i : ℕ) (first common : Shape) → Suits types s c →
    (ts : List Term) (done us : List Shape) → i % 2 ≡ 0 → m ≡ i + length us → (w : AreTyped c (form form.If) n done (all ts) us) → AreLawfulTypings c (form form.If) n done (all ts) us w →
    AllStand (form_row form.If) m i first common us → AreCalm (all ts) → AreBranches types s ts
branches types s c n m i first common f [] done us p w h l k q = tt
branches types s c n m i first common f (t ∷ []) done us p w h l k q =
    (h.0, plain_part types s c (takes_at (form_row form.If) n (length done)) done t nil h.0 (if_plain n (length done)) f (h.3, l.0) q)
branches types s c n m i first common f (t ∷ b ∷ ts) done us p w h l k q =
    let next = h.4 in
    let before = done ++ h.0 ∷ [] in
    let two : us ≡ h.0 ∷ (next.0 ∷ next.1) = h.2 ∙ ap (λ z. h.0 ∷ z) next.2 in
    let long : length us ≡ suc (suc (length next.1)) = ap length two in
    let at : AllStand (form_row form.If) m i first common (h.0 ∷ (next.0 ∷ next.1)) = subst (AllStand (form_row form.If) m i first common) two k in
    let more : suc i ≢ m = λ z. omega arith in
    let is : h.0 ≡ booleans = standing_there (takes_at (form_row form.If) m i) Condition first common h.0 (if_condition m i p more) at.0 in
    let calm = calm_rest t (cons b (all ts)) q in (
      subst (IsTypedHere types s t) is (plain_part types s c (takes_at (form_row form.If) n (length done)) done t (cons b (all ts)) h.0 (if_plain n (length done)) f (h.3, l.0) q),
      (next.0, plain_part types s c (takes_at (form_row form.If) n (length before)) before b (all ts) next.0 (if_plain n (length before)) f (next.3, l.1.0) calm),
      branches types s c n m (suc (suc i)) first common f ts (before ++ next.0 ∷ []) next.1 (omega arith) (omega arith) next.4 l.1.1 at.1.1 (calm_rest b (all ts) calm),
    )

pub if_ready : (types : Types) (s : ScopeValues) (ts : List Term) → CanEvaluate types s (of (form form.If) (all ts)) → AreBranches types s ts
if_ready types s ts r =
    let h = r.1.typed in
    branches types s r.1.context (parts_count (all ts)) (length h.0) 0 (first_type h.0) h.2.1 r.1.suits ts [] h.0 (omega arith) (omega arith) h.1 r.1.lawful.1 h.2.2
    (calm_parts types s (form form.If) (all ts) r.0 r.1)

-- ---- Switch

matches : (types : Types) (s : ScopeValues) (c : Context) (n m i : ℕ) (first common : Shape) → Suits types s c →
    (ts : List Term) (done us : List Shape) → i % 2 ≡ 1 → m ≡ i + length us → (w : AreTyped c (form form.Switch) n done (all ts) us) → AreLawfulTypings c (form form.Switch) n done (all ts) us w →
    AllStand (form_row form.Switch) m i first common us → AreCalm (all ts) → AreMatches types s first ts
matches types s c n m i first common f [] done us p w h l k q = tt
matches types s c n m i first common f (t ∷ []) done us p w h l k q =
    (h.0, plain_part types s c (takes_at (form_row form.Switch) n (length done)) done t nil h.0 (switch_plain n (length done)) f (h.3, l.0) q)
matches types s c n m i first common f (t ∷ b ∷ ts) done us p w h l k q =
    let next = h.4 in
    let before = done ++ h.0 ∷ [] in
    let two : us ≡ h.0 ∷ (next.0 ∷ next.1) = h.2 ∙ ap (λ z. h.0 ∷ z) next.2 in
    let long : length us ≡ suc (suc (length next.1)) = ap length two in
    let at : AllStand (form_row form.Switch) m i first common (h.0 ∷ (next.0 ∷ next.1)) = subst (AllStand (form_row form.Switch) m i first common) two k in
    let more : suc i ≢ m = λ z. omega arith in
    let is : is_comparable first h.0 ≡ true = standing_there (takes_at (form_row form.Switch) m i) takes.Match first common h.0 (switch_match m i p more) at.0 in
    let calm = calm_rest t (cons b (all ts)) q in (
      (h.0, plain_part types s c (takes_at (form_row form.Switch) n (length done)) done t (cons b (all ts)) h.0 (switch_plain n (length done)) f (h.3, l.0) q, is),
      (next.0, plain_part types s c (takes_at (form_row form.Switch) n (length before)) before b (all ts) next.0 (switch_plain n (length before)) f (next.3, l.1.0) calm),
      matches types s c n m (suc (suc i)) first common f ts (before ++ next.0 ∷ []) next.1 (omega arith) (omega arith) next.4 l.1.1 at.1.1 (calm_rest b (all ts) calm),
    )

pub switch_ready : (types : Types) (s : ScopeValues) (ts : List Term) → CanEvaluate types s (of (form form.Switch) (all ts)) → IsSwitched types s ts
switch_ready types s [] r =
    let h = r.1.typed in
    let few : takes_count (form_row form.Switch) 0 ≡ true = subst (λ (us : List Shape). takes_count (form_row form.Switch) (length us) ≡ true) h.1 h.2.0 in
    absurd cc
switch_ready types s (t ∷ ts) r =
    let h = r.1.typed in
    let part = h.1 in
    let q = calm_parts types s (form form.Switch) (cons t (all ts)) r.0 r.1 in
    let first : first_type h.0 ≡ part.0 = ap first_type part.2 in
    let n = parts_count (cons t (all ts)) in
    let m = length h.0 in
    let long : length h.0 ≡ suc (length part.1) = ap length part.2 in
    let at : AllStand (form_row form.Switch) m 0 (first_type h.0) h.2.1 (part.0 ∷ part.1) = subst (AllStand (form_row form.Switch) m 0 (first_type h.0) h.2.1) part.2 h.2.2 in (
      part.0,
      plain_part types s r.1.context (takes_at (form_row form.Switch) n 0) [] t (all ts) part.0 (switch_plain n 0) r.1.suits (part.3, r.1.lawful.1.0) q,
      subst (λ (u : Shape). AreMatches types s u ts) first
          (matches types s r.1.context n m 1 (first_type h.0) h.2.1 r.1.suits ts (part.0 ∷ []) part.1 refl (omega arith) part.4 r.1.lawful.1.1 at.1 (calm_rest t (all ts) q)),
    )

-- ---- IfError

recoveries : (types : Types) (s : ScopeValues) (c : Context) (n : ℕ) → Suits types s c →
    (ts : List Term) (done us : List Shape) → length done % 2 ≡ 0 → (w : AreTyped c (form form.IfError) n done (all ts) us) → AreLawfulTypings c (form form.IfError) n done (all ts) us w → AreCalm (all ts) → AreRecoveries types s ts
recoveries types s c n f [] done us p h l q = tt
recoveries types s c n f (t ∷ []) done us p h l q =
    let place = takes_at (form_row form.IfError) n (length done) in
    (h.0, plain_part types s c place done t nil h.0 (ap standing_of (value_at_even n (length done) p)) f (h.3, l.0) q)
recoveries types s c n f (t ∷ b ∷ ts) done us p h l q =
    let next = h.4 in
    let before = done ++ h.0 ∷ [] in
    let one : length before ≡ length done + 1 = length-append done (h.0 ∷ []) in
    let two : length (before ++ next.0 ∷ []) ≡ length before + 1 = length-append before (next.0 ∷ []) in
    let odd : length before % 2 ≡ 1 = omega arith in
    let even : length (before ++ next.0 ∷ []) % 2 ≡ 0 = omega arith in
    let calm = calm_rest t (cons b (all ts)) q in (
      (h.0, plain_part types s c (takes_at (form_row form.IfError) n (length done)) done t (cons b (all ts)) h.0 (ap standing_of (value_at_even n (length done) p)) f (h.3, l.0) q),
      fallback_part types s c (takes_at (form_row form.IfError) n (length before)) before b (all ts) next.0 (fallback_at_odd n (length before) odd) f (next.3, l.1.0) calm,
      recoveries types s c n f ts (before ++ next.0 ∷ []) next.1 even next.4 l.1.1 (calm_rest b (all ts) calm),
    )

pub recover_ready : (types : Types) (s : ScopeValues) (ts : List Term) → CanEvaluate types s (of (form form.IfError) (all ts)) → AreRecoveries types s ts
recover_ready types s ts r =
    let h = r.1.typed in
    recoveries types s r.1.context (parts_count (all ts)) r.1.suits ts [] h.0 refl h.1 r.1.lawful.1 (calm_parts types s (form form.IfError) (all ts) r.0 r.1)

-- ---- parts that all stand where the whole stands

fine : (types : Types) (s : ScopeValues) (c : Context) (h : Top) (n : ℕ) → ((m i : ℕ) → standing_at h m i ≡ plain) → Suits types s c →
    (ts : List Term) (done us : List Shape) → (w : AreTyped c h n done (all ts) us) → AreLawfulTypings c h n done (all ts) us w → AreCalm (all ts) → AreFine types s ts
fine types s c h n p f [] done us k l q = tt
fine types s c h n p f (t ∷ ts) done us k l q =
    let there : Lawfully (context_for (standing_at h n (length done)) c done) t k.0 = (k.3, l.0) in (
      (k.0, part_ready types s c t (all ts) k.0 f (subst (λ (z : PartScope). Lawfully (context_for z c done) t k.0) (p n (length done)) there) q),
      fine types s c h n p f ts (done ++ k.0 ∷ []) k.1 k.4 l.1 (calm_rest t (all ts) q),
    )

pub parts_fine : (types : Types) (s : ScopeValues) (h : Top) (ts : List Term) → ((m i : ℕ) → standing_at h m i ≡ plain) → CanEvaluate types s (of h (all ts)) → AreFine types s ts
parts_fine types s h ts p r =
    fine types s r.1.context h (parts_count (all ts)) p r.1.suits ts [] r.1.typed.0 r.1.typed.1 r.1.lawful.1 (calm_parts types s h (all ts) r.0 r.1)

pub coalesce_ready : (types : Types) (s : ScopeValues) (ts : List Term) → CanEvaluate types s (of (call fun.Coalesce) (all ts)) → AreFine types s ts
coalesce_ready types s ts r =
    parts_fine types s (call fun.Coalesce) ts (λ m i. ap standing_of (same_inner (nat_eq i 0) (nat_eq i 1) (nat_eq (i % 2) 0) takes.Choice)) r

pub all_parts : (fs : List (List ℕ × Term)) → field_terms fs ≡ all (terms_of fs)
all_parts [] = refl
all_parts (f ∷ fs) = ap (cons f.1) (all_parts fs)

pub fields_ready : (types : Types) (s : ScopeValues) (fs : List (List ℕ × Term)) → CanEvaluate types s (of (rec (term_field_names fs)) (field_terms fs)) → AreFine types s (terms_of fs)
fields_ready types s fs r =
    parts_fine types s (rec (term_field_names fs)) (terms_of fs) (λ m i. refl) (subst (λ (ts : Terms). CanEvaluate types s (of (rec (term_field_names fs)) ts)) (all_parts fs) r)
