-- Parts of a tree that can be performed can be performed where they stand.
use Rattle.std.proofs.Common.{◌≡◌, ℕ, suc, ◌+◌, ◌≤◌, ◌%◌, List, [], ◌∷◌, ◌++◌, length, Bool, true, false, None, Some, Result, Ok, refl, ap, sym, subst, ◌∙◌, arith}
use Rattle.std.specs.Prelude.{nat_eq, if◌then◌else◌}
use Rattle.std.proofs.lemmas.Bool.{eq-eqb}
use Rattle.std.proofs.lemmas.List.{length-append}
use Rattle.fx_types.specs.Types.{Shape, ColumnList, blanks, numbers, texts, booleans, dates, records, tables}
use Rattle.fx_types.specs.Values.{Data}
use Rattle.fx_eval.proofs.Places.{at_most}
use Rattle.fx_eval.specs.Parts.{caught_in, inner}
use Rattle.fx_env.specs.Scopes.{ScopeValues, IsTypedHere, Suits}
use Rattle.fx_semantics.proofs.Branches.{differs}
use Rattle.fx_semantics.proofs.Forms.{chosen_take, each_take}
use Rattle.fx_semantics.proofs.Parts.{rows_more}
use Rattle.fx_semantics.proofs.Tables.{RowsFit}
use Rattle.fx_semantics.specs.Around.{record_of}
use Rattle.fx_semantics.specs.Sound.{AreLawfulTypings, IsLawfulTyping}
use Rattle.fx_tables.specs.RowCalls.{CanBeRowType}
use Rattle.fx_core.specs.declared.functions.Form.TheVariants as form
use Rattle.fx_core.specs.declared.functions.Fun.TheVariants as fun
use Rattle.fx_core.specs.declared.rows.Row.{Row as Signature}
use Rattle.fx_core.specs.declared.rows.Takes.{Takes}
use Rattle.fx_core.specs.declared.rows.Takes.TheVariants as takes
use Rattle.fx_core.specs.Rows.{form_row, inner_at, row_of, takes_at, takes_count}
use Rattle.fx_core.specs.Term.{Term, Terms, of, nil, cons, all, Top, chain, form as form_head, over, within}
use Rattle.fx_typing.specs.Acts.{acts}
use Rattle.fx_core.specs.ColumnLists.{row_columns}
use Rattle.fx_typing.specs.WellTyped.{Context, AreTyped, AllStand, IsRuled, IsTyped, Stands, PartScope, catching, context_for, first_type, last_type, parts_count, plain, row_type, standing_at, standing_of}
use Rattle.fx_typing.specs.Ways.{is_comparable}
use Rattle.fx_value.specs.Columns.{Row}
use Rattle.fx_value.specs.Fits.{fits_in}
use Rattle.fx_semantics.specs.Places.{ArePlaced, IsPlaced}
use Rattle.fx_behave.specs.Actable.{AreActable, AreActingBranches, AreActingMatches, AreActingRecoveries, LastHasType, IsActable, IsActableInside, IsActingFallback, IsActingSwitch}
use Rattle.fx_deeds.specs.Fitting.{SourceTypes}

-- a typing in which the columns of all types rise
abbrev pub Lawfully : Context → Term → Shape → Type 0
Lawfully c t u = (w : IsTyped c t u) × IsLawfulTyping c t u w

pub part_there : (types : SourceTypes) (s : ScopeValues) (c : Context) (t : Term) (u : Shape) → Suits types s c → Lawfully c t u → IsPlaced t → IsActable types s t u
part_there types s c t u f h p = record { context = c; suits = f; typed = h.0; lawful = h.1; placed = p }

-- a tree that doesn't act is ready for the evaluator
pub quiet_ready : (types : SourceTypes) (s : ScopeValues) (t : Term) (u : Shape) → acts t ≡ false → IsActable types s t u → IsTypedHere types s t u
quiet_ready types s t u e r = record { context = r.context; suits = r.suits; typed = r.typed; lawful = r.lawful; quiet = e }

-- ---- parts that stand where the whole stands

plain_there : (types : SourceTypes) (s : ScopeValues) (c : Context) (k : PartScope) (done : List Shape) (t : Term) (u : Shape) → k ≡ plain → Suits types s c → Lawfully (context_for k c done) t u → IsPlaced t → IsActable types s t u
plain_there types s c k done t u e f h p = part_there types s c t u f (subst (λ (z : PartScope). Lawfully (context_for z c done) t u) e h) p

plain_parts : (types : SourceTypes) (s : ScopeValues) (c : Context) (h : Top) (n : ℕ) → ((m i : ℕ) → standing_at h m i ≡ plain) → Suits types s c →
    (ts : List Term) (done us : List Shape) → (w : AreTyped c h n done (all ts) us) → AreLawfulTypings c h n done (all ts) us w → ArePlaced (all ts) → AreActable types s us ts
plain_parts types s c h n p f [] done us w l q = subst (λ (vs : List Shape). AreActable types s vs []) (sym w) tt
plain_parts types s c h n p f (t ∷ ts) done us w l q =
    subst (λ (vs : List Shape). AreActable types s vs (t ∷ ts)) (sym w.2)
    (plain_there types s c (standing_at h n (length done)) done t w.0 (p n (length done)) f (w.3, l.0) q.0, plain_parts types s c h n p f ts (done ++ w.0 ∷ []) w.1 w.4 l.1 q.1)

pub all_actable : (types : SourceTypes) (s : ScopeValues) (h : Top) (ts : List Term) (u : Shape) → ((m i : ℕ) → standing_at h m i ≡ plain) → (r : IsActable types s (of h (all ts)) u) → AreActable types s r.typed.0 ts
all_actable types s h ts u p r = plain_parts types s r.context h (parts_count (all ts)) p r.suits ts [] r.typed.0 r.typed.1 r.lawful.1 r.placed.1

-- the one part
pub one_actable : (types : SourceTypes) (s : ScopeValues) (h : Top) (t : Term) (u : Shape) → standing_at h 1 0 ≡ plain → (r : IsActable types s (of h (cons t nil)) u) → IsActable types s t r.typed.1.0
one_actable types s h t u p r = plain_there types s r.context (standing_at h 1 0) [] t r.typed.1.0 p r.suits (r.typed.1.3, r.lawful.1.0) r.placed.1.0

-- ---- chains

ends_in : (types : SourceTypes) (s : ScopeValues) (us : List Shape) (ts : List Term) (u : Shape) → last_type us ≡ Some u → AreActable types s us ts → LastHasType types s u ts
ends_in types s [] [] u e r = let wrong : None ≡ Some u = e in absurd cc
ends_in types s [] (t ∷ ts) u e r = absurd r
ends_in types s (v ∷ us) [] u e r = absurd r
ends_in types s (v ∷ []) (t ∷ []) u e r = let same : v ≡ u = cc in subst (IsActable types s t) same r.0
ends_in types s (v ∷ []) (t ∷ k ∷ ts) u e r = absurd r.1
ends_in types s (v ∷ w ∷ us) (t ∷ []) u e r = absurd r.1
ends_in types s (v ∷ w ∷ us) (t ∷ k ∷ ts) u e r = ((v, r.0), ends_in types s (w ∷ us) (k ∷ ts) u e r.1)

pub chain_actable : (types : SourceTypes) (s : ScopeValues) (ts : List Term) (u : Shape) → IsActable types s (of chain (all ts)) u → LastHasType types s u ts
chain_actable types s ts u r = ends_in types s r.typed.0 ts u r.typed.2 (all_actable types s chain ts u (λ m i. refl) r)

-- ---- places of forms

by_parity : (Q : Takes → Type 0) (p q o x : Takes) (a b c : Bool) → (a ≡ true → Q p) → (b ≡ true → Q q) → (c ≡ true → Q o) → (c ≡ false → Q x) → Q (if a then p else (if b then q else (if c then o else x)))
by_parity Q p q o x true b c f g h k = f refl
by_parity Q p q o x false true c f g h k = g refl
by_parity Q p q o x false false true f g h k = h refl
by_parity Q p q o x false false false f g h k = k refl

not_both : (b : Bool) → b ≡ true → b ≡ false → ⊥
not_both true e f = let wrong : true ≡ false = f in absurd cc
not_both false e f = let wrong : false ≡ true = e in absurd cc

-- what stands at an odd place, and at an even one
odd_take : (Q : Takes → Type 0) (r : Signature) (i : ℕ) → i % 2 ≡ 1 → Q r.second → Q r.fourth → Q (inner_at r i)
odd_take Q r i e p q =
    by_parity Q r.first r.second r.third r.fourth (nat_eq i 0) (nat_eq i 1) (nat_eq (i % 2) 0)
    (λ h. absurd (not_both (nat_eq i 0) h (differs i 0 (λ z. omega (arith, e, z))))) (λ h. p)
    (λ h. absurd (not_both (nat_eq (i % 2) 0) h (differs (i % 2) 0 (λ z. omega (arith, e, z))))) (λ h. q)

even_take : (Q : Takes → Type 0) (r : Signature) (i : ℕ) → i % 2 ≡ 0 → Q r.first → Q r.third → Q (inner_at r i)
even_take Q r i e p q =
    by_parity Q r.first r.second r.third r.fourth (nat_eq i 0) (nat_eq i 1) (nat_eq (i % 2) 0)
    (λ h. p) (λ h. absurd (not_both (nat_eq i 1) h (differs i 1 (λ z. omega (arith, e, z))))) (λ h. q)
    (λ h. absurd (not_both (nat_eq (i % 2) 0) (eq-eqb (i % 2) 0 e) h))

-- at an even place that isn't the first
even_behind : (Q : Takes → Type 0) (r : Signature) (i : ℕ) → i % 2 ≡ 0 → 1 ≤ i → Q r.third → Q (inner_at r i)
even_behind Q r i e n q =
    by_parity Q r.first r.second r.third r.fourth (nat_eq i 0) (nat_eq i 1) (nat_eq (i % 2) 0)
    (λ h. absurd (not_both (nat_eq i 0) h (differs i 0 (λ z. omega (arith, n, z))))) (λ h. absurd (not_both (nat_eq i 1) h (differs i 1 (λ z. omega (arith, e, z))))) (λ h. q)
    (λ h. absurd (not_both (nat_eq (i % 2) 0) (eq-eqb (i % 2) 0 e) h))

-- the last place, and another one
last_take : (Q : Takes → Type 0) (b : Bool) (y : Takes) → b ≡ true → Q takes.Branch → Q (if b then takes.Branch else y)
last_take Q true y e p = p
last_take Q false y e p = let wrong : false ≡ true = e in absurd cc

other_take : (Q : Takes → Type 0) (b : Bool) (y : Takes) → b ≡ false → Q y → Q (if b then takes.Branch else y)
other_take Q true y e p = let wrong : true ≡ false = e in absurd cc
other_take Q false y e p = p

-- a type that stands there is the common one
abbrev IsCommon : Shape → Shape → Shape → Takes → Type 0
IsCommon first common u k = Stands k first common u → u ≡ common

abbrev IsPlainTake : Takes → Type 0
IsPlainTake k = standing_of k ≡ plain

if_plain : (n i : ℕ) → IsPlainTake (takes_at (form_row form.If) n i)
if_plain n i = each_take IsPlainTake (form_row form.If) n i refl refl refl refl refl

switch_plain : (n i : ℕ) → IsPlainTake (takes_at (form_row form.Switch) n i)
switch_plain n i = each_take IsPlainTake (form_row form.Switch) n i refl refl refl refl refl

-- ---- If

if_last : (first common u : Shape) (m i : ℕ) → suc i ≡ m → IsCommon first common u (takes_at (form_row form.If) m i)
if_last first common u m i e = last_take (IsCommon first common u) (nat_eq (suc i) m) (inner_at (form_row form.If) i) (eq-eqb (suc i) m e) (λ h. h)

if_branch : (first common u : Shape) (m i : ℕ) → i % 2 ≡ 1 → IsCommon first common u (takes_at (form_row form.If) m i)
if_branch first common u m i e =
    chosen_take (IsCommon first common u) (nat_eq (suc i) m) takes.Branch (inner_at (form_row form.If) i) (λ h. h) (odd_take (IsCommon first common u) (form_row form.If) i e (λ h. h) (λ h. h))

branches : (types : SourceTypes) (s : ScopeValues) (c : Context) (n m i : ℕ) (first common : Shape) → Suits types s c →
    (ts : List Term) (done us : List Shape) → i % 2 ≡ 0 → m ≡ i + length us → (w : AreTyped c (form_head form.If) n done (all ts) us) → AreLawfulTypings c (form_head form.If) n done (all ts) us w →
    AllStand (form_row form.If) m i first common us → ArePlaced (all ts) → AreActingBranches types s common ts
branches types s c n m i first common f [] done us e w h l k q = tt
branches types s c n m i first common f (t ∷ []) done us e w h l k q =
    let one : us ≡ h.0 ∷ [] = h.2 ∙ ap (λ (vs : List Shape). h.0 ∷ vs) h.4 in
    let long : length us ≡ 1 = ap length one in
    let at : AllStand (form_row form.If) m i first common (h.0 ∷ []) = subst (AllStand (form_row form.If) m i first common) one k in
    subst (IsActable types s t) (if_last first common h.0 m i (omega (arith, long, w)) at.0)
    (plain_there types s c (standing_of (takes_at (form_row form.If) n (length done))) done t h.0 (if_plain n (length done)) f (h.3, l.0) q.0)
branches types s c n m i first common f (t ∷ b ∷ ts) done us e w h l k q =
    let next = h.4 in
    let before = done ++ h.0 ∷ [] in
    let two : us ≡ h.0 ∷ (next.0 ∷ next.1) = h.2 ∙ ap (λ (vs : List Shape). h.0 ∷ vs) next.2 in
    let long : length us ≡ suc (suc (length next.1)) = ap length two in
    let at : AllStand (form_row form.If) m i first common (h.0 ∷ (next.0 ∷ next.1)) = subst (AllStand (form_row form.If) m i first common) two k in (
      (h.0, plain_there types s c (standing_of (takes_at (form_row form.If) n (length done))) done t h.0 (if_plain n (length done)) f (h.3, l.0) q.0),
      subst (IsActable types s b) (if_branch first common next.0 m (suc i) (omega (arith, e)) at.1.0)
          (plain_there types s c (standing_of (takes_at (form_row form.If) n (length before))) before b next.0 (if_plain n (length before)) f (next.3, l.1.0) q.1.0),
      branches types s c n m (suc (suc i)) first common f ts (before ++ next.0 ∷ []) next.1 (omega (arith, e)) (omega (arith, long, w)) next.4 l.1.1 at.1.1 q.1.1,
    )

-- the common type is the whole's
common_is : (common u : Shape) → ◌≡◌ {A = Result Shape ℕ} (Ok common) (Ok u) → common ≡ u
common_is common u e = cc

pub if_actable : (types : SourceTypes) (s : ScopeValues) (ts : List Term) (u : Shape) → IsActable types s (of (form_head form.If) (all ts)) u → AreActingBranches types s u ts
if_actable types s ts u r =
    let h = r.typed in
    subst (λ (z : Shape). AreActingBranches types s z ts) (common_is h.2.1 u h.2.3)
    (branches types s r.context (parts_count (all ts)) (length h.0) 0 (first_type h.0) h.2.1 r.suits ts [] h.0 refl (omega arith) h.1 r.lawful.1 h.2.2 r.placed.1)

-- ---- Switch

switch_last : (first common u : Shape) (m i : ℕ) → suc i ≡ m → IsCommon first common u (takes_at (form_row form.Switch) m i)
switch_last first common u m i e = last_take (IsCommon first common u) (nat_eq (suc i) m) (inner_at (form_row form.Switch) i) (eq-eqb (suc i) m e) (λ h. h)

switch_branch : (first common u : Shape) (m i : ℕ) → i % 2 ≡ 0 → 1 ≤ i → IsCommon first common u (takes_at (form_row form.Switch) m i)
switch_branch first common u m i e n =
    chosen_take (IsCommon first common u) (nat_eq (suc i) m) takes.Branch (inner_at (form_row form.Switch) i) (λ h. h) (even_behind (IsCommon first common u) (form_row form.Switch) i e n (λ h. h))

-- a type that stands there is compared with the first
abbrev IsCompared : Shape → Shape → Shape → Takes → Type 0
IsCompared first common u k = Stands k first common u → is_comparable first u ≡ true

switch_match : (first common u : Shape) (m i : ℕ) → i % 2 ≡ 1 → (suc i ≡ m → ⊥) → IsCompared first common u (takes_at (form_row form.Switch) m i)
switch_match first common u m i e n =
    other_take (IsCompared first common u) (nat_eq (suc i) m) (inner_at (form_row form.Switch) i) (differs (suc i) m n) (odd_take (IsCompared first common u) (form_row form.Switch) i e (λ h. h) (λ h. h))

matches : (types : SourceTypes) (s : ScopeValues) (c : Context) (n m i : ℕ) (first common : Shape) → Suits types s c →
    (ts : List Term) (done us : List Shape) → i % 2 ≡ 1 → m ≡ i + length us → (w : AreTyped c (form_head form.Switch) n done (all ts) us) → AreLawfulTypings c (form_head form.Switch) n done (all ts) us w →
    AllStand (form_row form.Switch) m i first common us → ArePlaced (all ts) → AreActingMatches types s first common ts
matches types s c n m i first common f [] done us e w h l k q = tt
matches types s c n m i first common f (t ∷ []) done us e w h l k q =
    let one : us ≡ h.0 ∷ [] = h.2 ∙ ap (λ (vs : List Shape). h.0 ∷ vs) h.4 in
    let long : length us ≡ 1 = ap length one in
    let at : AllStand (form_row form.Switch) m i first common (h.0 ∷ []) = subst (AllStand (form_row form.Switch) m i first common) one k in
    subst (IsActable types s t) (switch_last first common h.0 m i (omega (arith, long, w)) at.0)
    (plain_there types s c (standing_of (takes_at (form_row form.Switch) n (length done))) done t h.0 (switch_plain n (length done)) f (h.3, l.0) q.0)
matches types s c n m i first common f (t ∷ b ∷ ts) done us e w h l k q =
    let next = h.4 in
    let before = done ++ h.0 ∷ [] in
    let two : us ≡ h.0 ∷ (next.0 ∷ next.1) = h.2 ∙ ap (λ (vs : List Shape). h.0 ∷ vs) next.2 in
    let long : length us ≡ suc (suc (length next.1)) = ap length two in
    let at : AllStand (form_row form.Switch) m i first common (h.0 ∷ (next.0 ∷ next.1)) = subst (AllStand (form_row form.Switch) m i first common) two k in (
      (
        h.0,
        plain_there types s c (standing_of (takes_at (form_row form.Switch) n (length done))) done t h.0 (switch_plain n (length done)) f (h.3, l.0) q.0,
        switch_match first common h.0 m i e (λ z. omega (arith, long, w, z)) at.0,
      ),
      subst (IsActable types s b) (switch_branch first common next.0 m (suc i) (omega (arith, e)) (omega arith) at.1.0)
          (plain_there types s c (standing_of (takes_at (form_row form.Switch) n (length before))) before b next.0 (switch_plain n (length before)) f (next.3, l.1.0) q.1.0),
      matches types s c n m (suc (suc i)) first common f ts (before ++ next.0 ∷ []) next.1 (omega (arith, e)) (omega (arith, long, w)) next.4 l.1.1 at.1.1 q.1.1,
    )

pub switch_actable : (types : SourceTypes) (s : ScopeValues) (ts : List Term) (u : Shape) → IsActable types s (of (form_head form.Switch) (all ts)) u → IsActingSwitch types s u ts
switch_actable types s [] u r =
    let h = r.typed in
    let few : takes_count (form_row form.Switch) 0 ≡ true = subst (λ (us : List Shape). takes_count (form_row form.Switch) (length us) ≡ true) h.1 h.2.0 in
    absurd cc
switch_actable types s (t ∷ ts) u r =
    let h = r.typed in
    let part = h.1 in
    let n = parts_count (cons t (all ts)) in
    let m = length h.0 in
    let long : length h.0 ≡ suc (length part.1) = ap length part.2 in
    let first : first_type h.0 ≡ part.0 = ap first_type part.2 in
    let at : AllStand (form_row form.Switch) m 0 (first_type h.0) h.2.1 (part.0 ∷ part.1) = subst (AllStand (form_row form.Switch) m 0 (first_type h.0) h.2.1) part.2 h.2.2 in (
      part.0,
      plain_there types s r.context (standing_of (takes_at (form_row form.Switch) n 0)) [] t part.0 (switch_plain n 0) r.suits (part.3, r.lawful.1.0) r.placed.1.0,
      subst (λ (z : Shape). AreActingMatches types s part.0 z ts) (common_is h.2.1 u h.2.3)
          (subst (λ (z : Shape). AreActingMatches types s z h.2.1 ts) first
          (matches types s r.context n m 1 (first_type h.0) h.2.1 r.suits ts (part.0 ∷ []) part.1 refl (omega (arith, long)) part.4 r.lawful.1.1 at.1 r.placed.1.1)),
    )

-- ---- IfError

abbrev IsCatching : Takes → Type 0
IsCatching k = standing_of k ≡ catching

value_plain : (n i : ℕ) → i % 2 ≡ 0 → IsPlainTake (takes_at (form_row form.IfError) n i)
value_plain n i e = even_take IsPlainTake (form_row form.IfError) i e refl refl

fallback_catches : (n i : ℕ) → i % 2 ≡ 1 → IsCatching (takes_at (form_row form.IfError) n i)
fallback_catches n i e = odd_take IsCatching (form_row form.IfError) i e refl refl

recover_common : (first common u : Shape) (m i : ℕ) → IsCommon first common u (takes_at (form_row form.IfError) m i)
recover_common first common u m i = each_take (IsCommon first common u) (form_row form.IfError) m i (λ h. h) (λ h. h) (λ h. h) (λ h. h) (λ h. h)

fallback_there : (types : SourceTypes) (s : ScopeValues) (c : Context) (k : PartScope) (done : List Shape) (t : Term) (u : Shape) → k ≡ catching → Suits types s c → Lawfully (context_for k c done) t u → IsPlaced t → IsActingFallback types s u t
fallback_there types s c k done t u e f h p = λ j cs.
    part_there types (caught_in s j cs) (record c { caught = true }) t u
    (record { sources = f.sources; rows = f.rows; item = f.item; caught = λ z. refl; functions = f.functions })
    (subst (λ (z : PartScope). Lawfully (context_for z c done) t u) e h) p

recoveries : (types : SourceTypes) (s : ScopeValues) (c : Context) (n m i : ℕ) (first common : Shape) → Suits types s c →
    (ts : List Term) (done us : List Shape) → length done % 2 ≡ 0 → (w : AreTyped c (form_head form.IfError) n done (all ts) us) → AreLawfulTypings c (form_head form.IfError) n done (all ts) us w →
    AllStand (form_row form.IfError) m i first common us → ArePlaced (all ts) → AreActingRecoveries types s common ts
recoveries types s c n m i first common f [] done us e h l k q = tt
recoveries types s c n m i first common f (t ∷ []) done us e h l k q =
    let at : AllStand (form_row form.IfError) m i first common (h.0 ∷ h.1) = subst (AllStand (form_row form.IfError) m i first common) h.2 k in
    subst (IsActable types s t) (recover_common first common h.0 m i at.0)
    (plain_there types s c (standing_of (takes_at (form_row form.IfError) n (length done))) done t h.0 (value_plain n (length done) e) f (h.3, l.0) q.0)
recoveries types s c n m i first common f (t ∷ b ∷ ts) done us e h l k q =
    let next = h.4 in
    let before = done ++ h.0 ∷ [] in
    let one : length before ≡ length done + 1 = length-append done (h.0 ∷ []) in
    let more : length (before ++ next.0 ∷ []) ≡ length before + 1 = length-append before (next.0 ∷ []) in
    let odd : length before % 2 ≡ 1 = omega (arith, one, e) in
    let even : length (before ++ next.0 ∷ []) % 2 ≡ 0 = omega (arith, more, odd) in
    let two : us ≡ h.0 ∷ (next.0 ∷ next.1) = h.2 ∙ ap (λ (vs : List Shape). h.0 ∷ vs) next.2 in
    let at : AllStand (form_row form.IfError) m i first common (h.0 ∷ (next.0 ∷ next.1)) = subst (AllStand (form_row form.IfError) m i first common) two k in (
      subst (IsActable types s t) (recover_common first common h.0 m i at.0)
          (plain_there types s c (standing_of (takes_at (form_row form.IfError) n (length done))) done t h.0 (value_plain n (length done) e) f (h.3, l.0) q.0),
      subst (λ (z : Shape). IsActingFallback types s z b) (recover_common first common next.0 m (suc i) at.1.0)
          (fallback_there types s c (standing_of (takes_at (form_row form.IfError) n (length before))) before b next.0 (fallback_catches n (length before) odd) f (next.3, l.1.0) q.1.0),
      recoveries types s c n m (suc (suc i)) first common f ts (before ++ next.0 ∷ []) next.1 even next.4 l.1.1 at.1.1 q.1.1,
    )

pub recover_actable : (types : SourceTypes) (s : ScopeValues) (ts : List Term) (u : Shape) → IsActable types s (of (form_head form.IfError) (all ts)) u → AreActingRecoveries types s u ts
recover_actable types s ts u r =
    let h = r.typed in
    subst (λ (z : Shape). AreActingRecoveries types s z ts) (common_is h.2.1 u h.2.3)
    (recoveries types s r.context (parts_count (all ts)) (length h.0) 0 (first_type h.0) h.2.1 r.suits ts [] h.0 refl h.1 r.lawful.1 h.2.2 r.placed.1)

-- ---- scopes

pub suits_inside : (types : SourceTypes) (s : ScopeValues) (c : Context) (d : Data) (t : Shape) → Suits types s c → fits_in d t ≡ true → Suits types (inner s d) (record c { rows = c.rows ++ t ∷ [] })
suits_inside types s c d t f g = record { sources = f.sources; rows = rows_more s.rows c.rows d t f.rows g; item = f.item; caught = f.caught; functions = f.functions }

-- two parts have two types
pub two_types : (c : Context) (h : Top) (n : ℕ) (t f : Term) (us : List Shape) → (w : AreTyped c h n [] (cons t (cons f nil)) us) → us ≡ w.0 ∷ w.4.0 ∷ []
two_types c h n t f us w = w.2 ∙ ap (λ (vs : List Shape). w.0 ∷ vs) (w.4.2 ∙ ap (λ (vs : List Shape). w.4.0 ∷ vs) w.4.4)

pub record_actable : (types : SourceTypes) (s : ScopeValues) (t f : Term) (u : Shape) → (r : IsActable types s (of within (cons t (cons f nil))) u) → IsActable types s t r.typed.1.0
record_actable types s t f u r = part_there types s r.context t r.typed.1.0 r.suits (r.typed.1.3, r.lawful.1.0) r.placed.1.0

within_type : (c : Context) (ts : Terms) (a b u : Shape) → IsRuled c within ts (a ∷ b ∷ []) u → u ≡ b
within_type c ts (records cs) b u h = h
within_type c ts blanks b u h = absurd h
within_type c ts numbers b u h = absurd h
within_type c ts texts b u h = absurd h
within_type c ts booleans b u h = absurd h
within_type c ts dates b u h = absurd h
within_type c ts (tables cs) b u h = absurd h

pub formula_actable : (types : SourceTypes) (s : ScopeValues) (t f : Term) (u : Shape) → (r : IsActable types s (of within (cons t (cons f nil))) u) → (d : Data) →
    ((q : Shape) → IsActable types s t q → fits_in d q ≡ true) → IsActable types (inner s d) f u
formula_actable types s t f u r d fits =
    let a = r.typed.1.0 in
    let b = r.typed.1.4.0 in
    let ruled : IsRuled r.context within (cons t (cons f nil)) (a ∷ b ∷ []) u =
    subst (λ (us : List Shape). IsRuled r.context within (cons t (cons f nil)) us u) (two_types r.context within 2 t f r.typed.0 r.typed.1) r.typed.2 in
    subst (IsActable types (inner s d) f) (sym (within_type r.context (cons t (cons f nil)) a b u ruled))
    (part_there types (inner s d) (record (r.context) { rows = r.context.rows ++ a ∷ [] }) f b (suits_inside types s r.context d a r.suits (fits a (record_actable types s t f u r)))
    (r.typed.1.4.3, r.lawful.1.1.0) r.placed.1.1.0)

-- ---- ForAll

pub table_actable : (types : SourceTypes) (s : ScopeValues) (t f : Term) (u : Shape) → (r : IsActable types s (of (over fun.ForAll) (cons t (cons f nil))) u) → IsActable types s t r.typed.1.0
table_actable types s t f u r = part_there types s r.context t r.typed.1.0 r.suits (r.typed.1.3, r.lawful.1.0) r.placed.1.0

-- its formula gives rows
pub record IsForRows (a b u : Shape) : Type 0 where
  pub columns : ColumnList
  pub table : a ≡ tables columns
  pub rows : CanBeRowType b
  pub whole : u ≡ tables (row_columns b)

row_formula : (first common b : Shape) → Stands takes.RowFormula first common b → CanBeRowType b
row_formula first common blanks h = tt
row_formula first common numbers h = tt
row_formula first common texts h = tt
row_formula first common booleans h = tt
row_formula first common dates h = tt
row_formula first common (records cs) h = tt
row_formula first common (tables cs) h = absurd h

table_is : (a u : Shape) → ◌≡◌ {A = Result Shape ℕ} (Ok a) (Ok u) → u ≡ a
table_is a u e = cc

for_rows : (c : Context) (t f : Term) (a b u : Shape) → IsRuled c (over fun.ForAll) (cons t (cons f nil)) (a ∷ b ∷ []) u → IsForRows a b u
for_rows c t f a b u h = record {
  columns = h.1.2.0.0;
  table = h.1.2.0.1;
  rows = row_formula a h.1.1 b h.1.2.1.0;
  whole = table_is (tables (row_columns b)) u h.1.3;
}

pub each_of : (types : SourceTypes) (s : ScopeValues) (t f : Term) (u : Shape) → (r : IsActable types s (of (over fun.ForAll) (cons t (cons f nil))) u) → IsForRows r.typed.1.0 r.typed.1.4.0 u
each_of types s t f u r =
    for_rows r.context t f r.typed.1.0 r.typed.1.4.0 u
    (subst (λ (us : List Shape). IsRuled r.context (over fun.ForAll) (cons t (cons f nil)) us u) (two_types r.context (over fun.ForAll) 2 t f r.typed.0 r.typed.1) r.typed.2)

-- a formula stands in the scope of each row of a table that fits
pub inside_rows : (types : SourceTypes) (s : ScopeValues) (c : Context) (f : Term) (b : Shape) (cs : ColumnList) → Suits types s c → Lawfully (record c { rows = c.rows ++ records cs ∷ [] }) f b → IsPlaced f →
    (rows : List Row) → RowsFit cs rows → IsActableInside types s b f rows
inside_rows types s c f b cs g h p [] fit = tt
inside_rows types s c f b cs g h p (r ∷ rows) fit = (
  part_there types (inner s (record_of r)) (record c { rows = c.rows ++ records cs ∷ [] }) f b (suits_inside types s c (record_of r) (records cs) g fit.0) h p,
  inside_rows types s c f b cs g h p rows fit.1,
)

pub formula_inside : (types : SourceTypes) (s : ScopeValues) (t f : Term) (u : Shape) → (r : IsActable types s (of (over fun.ForAll) (cons t (cons f nil))) u) → (cs : ColumnList) → r.typed.1.0 ≡ tables cs →
    (rows : List Row) → RowsFit cs rows → IsActableInside types s r.typed.1.4.0 f rows
formula_inside types s t f u r cs e =
    inside_rows types s r.context f r.typed.1.4.0 cs r.suits
    (subst (λ (z : Shape). Lawfully (record (r.context) { rows = r.context.rows ++ row_type z ∷ [] }) f r.typed.1.4.0) e (r.typed.1.4.3, r.lawful.1.1.0)) r.placed.1.1.0

many_types : (c : Context) (h : Top) (n : ℕ) (done : List Shape) (ts : List Term) (us : List Shape) → AreTyped c h n done (all ts) us → length us ≡ length ts
many_types c h n done [] us w = ap length w
many_types c h n done (t ∷ ts) us w = ap length w.2 ∙ ap suc (many_types c h n (done ++ w.0 ∷ []) ts w.1 w.4)

-- its one formula
pub one_formula : (types : SourceTypes) (s : ScopeValues) (t : Term) (ts : List Term) (u : Shape) → IsActable types s (of (over fun.ForAll) (cons t (all ts))) u → (f : Term) × (ts ≡ f ∷ [])
one_formula types s t [] u r =
    let long : length r.typed.0 ≡ 1 = many_types r.context (over fun.ForAll) 1 [] (t ∷ []) r.typed.0 r.typed.1 in
    let few : takes_count (row_of fun.ForAll) 1 ≡ true = subst (λ n. takes_count (row_of fun.ForAll) n ≡ true) long r.typed.2.1.0 in
    absurd cc
one_formula types s t (f ∷ []) u r = (f, refl)
one_formula types s t (f ∷ k ∷ ts) u r =
    let long : length r.typed.0 ≡ suc (suc (suc (length ts))) = many_types r.context (over fun.ForAll) (parts_count (all (t ∷ f ∷ k ∷ ts))) [] (t ∷ f ∷ k ∷ ts) r.typed.0 r.typed.1 in
    let most : length r.typed.0 ≤ 2 = at_most (row_of fun.ForAll) (length r.typed.0) refl r.typed.2.1.0 in
    absurd (omega (arith, long, most))
