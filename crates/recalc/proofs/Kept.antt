-- Values that are kept one after another, in the order of leaning.
use Rattle.std.proofs.Common.{◌≡◌, ◌≢◌, ℕ, zero, suc, ◌+◌, ◌<◌, ◌≤◌, List, [], ◌∷◌, ◌++◌, length, get_or, take, Bool, true, false, Option, Some, None, refl, sym, subst, ap, ◌∙◌, arith, inl, inr, map, set, if◌then◌else◌}
use Rattle.std.proofs.lemmas.Bool.{cases_eq}
use Rattle.std.proofs.lemmas.List.{get_or_default, take_more}
use Rattle.std.proofs.lemmas.List.Sums.{count_by_more_no, count_by_more_yes}
use Rattle.std.proofs.lemmas.Option.{slice_get_within}
use Rattle.std.proofs.lemmas.List.Elements.{Contains-append_cases, Contains-append_left, Contains-append_right}
use Rattle.std.specs.List.{Contains, count_by, slice_get}
use Rattle.std.specs.Prelude.{replicate}
use Rattle.app_semantics.specs.app_cells.Leaning.{LeansOn, cell_behind, edges_of}
use Rattle.app_semantics.specs.app_cells.declared.app.App.{App}
use Rattle.app_semantics.specs.app_cells.declared.app.CellInfo.{CellInfo}
use Rattle.app_semantics.proofs.Freshness.{got, read_behind}
use Rattle.app_semantics.proofs.Given.{told_agrees}
use Rattle.app_semantics.proofs.Ordered.{earlier, leaning_edge}
use Rattle.app_semantics.specs.Fresh.{CanRead, IsByItself, IsCellValue, IsFresh, IsValueOf, IsWhere, is_told, formula_context}
use Rattle.app_semantics.specs.Needed.{stands_alone, stands_by}
use Rattle.app_semantics.specs.Present.{SourceGives, Present, present}
use Rattle.app_semantics.specs.Sound.{IsSoundApp}
use Rattle.fx_types.specs.TypeView.{shape}
use Rattle.fx_types.specs.ValueView.{view}
use Rattle.fx_types.specs.Values.{Data, blank}
use Rattle.fx_types.specs.declared.values.Value.{Value}
use Rattle.fx_semantics.proofs.Wider.{stays}
use Rattle.fx_scalar.specs.ScalarFunctions.{IsToday}
use Rattle.fx_env.specs.Telling.{IsHeard}
use Rattle.fx_eval.specs.fx_plan.Limited.{limited}
use Rattle.recalc.specs.Asking.{ToldRows}
use Rattle.fx_core.specs.declared.sources.Source.TheVariants as source
use Rattle.fx_core.specs.declared.sources.Source.{Source}
use Rattle.fx_value.specs.Fits.{fits_in}
use Rattle.recalc.specs.Reading.{cell_value}
use Rattle.recalc.specs.Values.{CellsFit}
use Rattle.session_state.specs.Sessions.{SessionState}
use Rattle.recalc.proofs.Emptying.{blank_at}

-- the cells of these numbers have their values, over what is heard of the rows of tables, and all others are blank so far
pub record AreKept (a : App) (s : SessionState) (told : ToldRows) (day : Data) (done : List ℕ) (values : ℕ → Data) : Type 0 where
  pub fits : CellsFit a values
  pub undone : (k : ℕ) → ¬ Contains done k → values k ≡ blank
  pub known : (moment : ℕ) (tables : ToldRows) (k : ℕ) (c : CellInfo) → IsToday moment day → IsHeard told tables → Contains done k → slice_get a.cells k ≡ Some c → IsCellValue (present a s tables moment) values c (values k)

-- what is heard of rows later was heard of them before
abbrev pub Hears : ToldRows → ToldRows → Type 0
Hears told later = (tables : ToldRows) → IsHeard later tables → IsHeard told tables

-- ---- blanks
pub none_kept : (a : App) (s : SessionState) (told : ToldRows) (day : Data) (n : ℕ) → AreKept a s told day [] (cell_value (replicate n blank))
none_kept a s told day n = record {
  fits = λ k c there. subst (λ d. fits_in d (shape c.ty) ≡ true) (sym (blank_at n k)) refl;
  undone = λ k h. blank_at n k;
  known = λ moment tables k c today heard h there. absurd (omega (arith, h.1));
}

-- ---- values of cells that aren't read
pub gives_agrees : (p : Present) (values others : ℕ → Data) (x : Source) (v : Data) → ((d : ℕ) → cell_behind p.app.names x ≡ Some d → values d ≡ others d) → SourceGives p values x v → SourceGives p others x v
gives_agrees p values others (source.Cell k) v h e = e ∙ told_agrees blank p.app.names p.session p.tables values others (source.Cell k) h
gives_agrees p values others (source.Global k) v h e = e
gives_agrees p values others (source.Context k) v h e = e
gives_agrees p values others (source.Gathered k) v h e = e
gives_agrees p values others (source.Input k) v h e = e ∙ told_agrees blank p.app.names p.session p.tables values others (source.Input k) h
gives_agrees p values others (source.Chosen k) v h e = e ∙ told_agrees blank p.app.names p.session p.tables values others (source.Chosen k) h
gives_agrees p values others (source.Table k) v h e = e
gives_agrees p values others source.Today v h e = e

pub where_map : {P P' : Type 0} (Q : Type 0) (b : Bool) → (P → P') → IsWhere b P Q → IsWhere b P' Q
where_map Q true f h = f h
where_map Q false f h = h

pub moved : (p : Present) (values others : ℕ → Data) (c : CellInfo) (v : Data) → ((d : ℕ) → LeansOn p.app.names c d → values d ≡ others d) → IsCellValue p values c v → IsCellValue p others c v
moved p values others c v h x = by c.cell.acts c.cell.item x
  where
    by : (b : Bool) (o : Option ℕ) → IsByItself b o (IsValueOf p values None c v) v → IsByItself b o (IsValueOf p others None c v) v
    by false None y =
        where_map _ (is_told p.tables c.reads)
        (stays (λ r d. CanRead c.reads r × SourceGives p others r d) (limited p.app.names.schema.tables p.app.limit 0 false c.core) (formula_context p values c.reads None) v
        (λ r d g. (g.0, gives_agrees p values others r d (λ e q. h e (r, read_behind p.app.names c.reads r e g.0 q, q)) g.1))) y
    by false (Some g) y = y
    by true o y = y

-- ---- one value more
-- no number before a place of the order is the one there
before_not : (a : App) (i j number : ℕ) → IsSoundApp a → i < length a.order → number ≡ get_or a.order i number → j < i → get_or a.order j 0 ≢ number
before_not a i j number s h e l q = s.order.once j i 0 l h (q ∙ e ∙ sym (get_or_default a.order i 0 number h))

pub new_here : (a : App) (i number : ℕ) → IsSoundApp a → i < length a.order → number ≡ get_or a.order i number → ¬ Contains (take i a.order) number
new_here a i number s h e there =
    let b = earlier a.order i number there in
    before_not a i b.0 number s h e b.1 b.3

-- what a cell at or before a place leans on isn't the one there
leans_before : (a : App) (i j number k : ℕ) (c : CellInfo) (d : ℕ) → IsSoundApp a → i < length a.order → number ≡ get_or a.order i number → j ≤ i → get_or a.order j 0 ≡ k → slice_get a.cells k ≡ Some c → LeansOn a.names c d → d ≢ number
leans_before a i j number k c d s h e l at there leans q =
    let edge : Contains (edges_of a.names a.cells) (k, d) = leaning_edge a.names a.cells k c d there leans in
    let b = earlier a.order j d (s.order.behind j d (omega (arith, l, h)) (subst (λ m. Contains (edges_of a.names a.cells) (m, d)) (sym at) edge)) in
    before_not a i b.0 number s h e (omega (arith, l, b.1)) (b.3 ∙ q)

at_head : (x : ℕ) → Contains (x ∷ []) x
at_head x = (0, omega arith, refl)

only : (x y : ℕ) → Contains (x ∷ []) y → y ≡ x
only x y (zero, l, e) = sym e
only x y (suc k, l, e) = absurd (omega (arith, l))

pub one_more : (a : App) (s : SessionState) (told later : ToldRows) (day : Data) (i number : ℕ) (old new : ℕ → Data) → IsSoundApp a → Hears told later → i < length a.order → number ≡ get_or a.order i number →
    AreKept a s told day (take i a.order) old → CellsFit a new → ((k : ℕ) → k ≢ number → new k ≡ old k) →
    ((moment : ℕ) (tables : ToldRows) (c : CellInfo) → IsToday moment day → IsHeard later tables → slice_get a.cells number ≡ Some c → IsCellValue (present a s tables moment) old c (new number)) →
    AreKept a s later day (take (i + 1) a.order) new
one_more a s told later day i number old new sound hears h e kept fits others value =
    let more : take (i + 1) a.order ≡ take i a.order ++ number ∷ [] = take_more a.order i number h ∙ ap (λ x. take i a.order ++ x ∷ []) (sym e) in
    subst (λ done. AreKept a s later day done new) (sym more) (record {
      fits = fits;
      undone = λ k apart.
          let other : k ≢ number = λ q. apart (Contains-append_right (take i a.order) (number ∷ []) k (subst (λ m. Contains (number ∷ []) m) (sym q) (at_head number))) in
          others k other ∙ kept.undone k (λ there. apart (Contains-append_left (take i a.order) (number ∷ []) k there));
      known = λ moment tables k c today heard there at. elim (Contains-append_cases (take i a.order) (number ∷ []) k there) [
        | inl before ↦
            let b = earlier a.order i k before in
            let other : k ≢ number = λ q. before_not a i b.0 number sound h e b.1 (b.3 ∙ q) in
            subst (IsCellValue (present a s tables moment) new c) (sym (others k other))
            (moved (present a s tables moment) old new c (old k) (λ d leans. sym (others d (leans_before a i b.0 number k c d sound h e (omega (arith, b.1)) b.3 at leans)))
            (kept.known moment tables k c today (hears tables heard) before at))
        | inr last ↦
            let same : k ≡ number = only number k last in
            let here : slice_get a.cells number ≡ Some c = subst (λ m. slice_get a.cells m ≡ Some c) same at in
            let place : get_or a.order i 0 ≡ number = get_or_default a.order i 0 number h ∙ sym e in
            subst (λ m. IsCellValue (present a s tables moment) new c (new m)) (sym same)
            (moved (present a s tables moment) old new c (new number) (λ d leans. sym (others d (leans_before a i i number number c d sound h e (omega arith) place here leans))) (value moment tables c today heard here))
      ];
    })

-- ---- formulas by themselves
alone_is : (b : Bool) (o : Option ℕ) → stands_by b o ≡ true → (b ≡ false) × (o ≡ None)
alone_is false None e = (refl, refl)
alone_is false (Some g) e = absurd cc
alone_is true o e = absurd cc

pub own_value : (p : Present) (values : ℕ → Data) (c : CellInfo) (v : Data) → stands_alone c ≡ true → IsValueOf p values None c v → IsCellValue p values c v
own_value p values c v e h =
    let alone = alone_is c.cell.acts c.cell.item e in
    subst (λ b. IsByItself b c.cell.item (IsValueOf p values None c v) v) (sym alone.0) (subst (λ o. IsByItself false o (IsValueOf p values None c v) v) (sym alone.1) h)

pub no_value : (p : Present) (values : ℕ → Data) (c : CellInfo) (v : Data) → stands_alone c ≡ false → v ≡ blank → IsCellValue p values c v
no_value p values c v e h = by c.cell.acts c.cell.item e
  where
    by : (b : Bool) (o : Option ℕ) → stands_by b o ≡ false → IsByItself b o (IsValueOf p values None c v) v
    by false None q = absurd cc
    by false (Some g) q = h
    by true o q = h

-- ---- a list in which one value is set
pub set_same : (xs : List Value) (k : ℕ) (v : Value) → k < length xs → cell_value (map view (set xs k v)) k ≡ view v
set_same [] k v h = absurd (omega (arith, h))
set_same (x ∷ xs) zero v h = refl
set_same (x ∷ xs) (suc k) v h = set_same xs k v (omega (arith, h))

pub set_other : (xs : List Value) (k j : ℕ) (v : Value) → j ≢ k → cell_value (map view (set xs k v)) j ≡ cell_value (map view xs) j
set_other [] k j v n = refl
set_other (x ∷ xs) zero zero v n = absurd (n refl)
set_other (x ∷ xs) zero (suc j) v n = refl
set_other (x ∷ xs) (suc k) zero v n = refl
set_other (x ∷ xs) (suc k) (suc j) v n = set_other xs k j v (λ e. n (ap suc e))

pub set_fits : (a : App) (xs : List Value) (k : ℕ) (v : Value) (info : CellInfo) → k < length xs → CellsFit a (cell_value (map view xs)) → slice_get a.cells k ≡ Some info → fits_in (view v) (shape info.ty) ≡ true →
    CellsFit a (cell_value (map view (set xs k v)))
set_fits a xs k v info h fits there fit j c at = elim (cases_eq j k) [
  | inl e ↦
      let same : info ≡ c = let q : Some info ≡ Some c = sym there ∙ subst (λ m. slice_get a.cells m ≡ Some c) e at in cc in
      let value : cell_value (map view (set xs k v)) j ≡ view v = ap (cell_value (map view (set xs k v))) e ∙ set_same xs k v h in
      subst (λ d. fits_in d (shape c.ty) ≡ true) (sym value) (subst (λ (i : CellInfo). fits_in (view v) (shape i.ty) ≡ true) same fit)
  | inr n ↦ subst (λ d. fits_in d (shape c.ty) ≡ true) (sym (set_other xs k j v n)) (fits j c at)
]

-- ---- the loop over the order
-- a number that stands in the order is one of a cell, and blank until its turn
placed : (xs ys : List ℕ) (i : ℕ) → xs ≡ ys → i < length xs → (i < length ys) × (get_or xs i 0 ≡ get_or ys i (get_or xs i 0))
placed xs ys i e l =
    let long : length xs ≡ length ys = ap length e in
    let here : i < length ys = omega (arith, l, long) in
    (here, ap (λ (zs : List ℕ). get_or zs i 0) e ∙ get_or_default ys i 0 (get_or xs i 0) here)

pub number_within : (a : App) (xs : List ℕ) (i : ℕ) → IsSoundApp a → xs ≡ a.order → i < length xs → get_or xs i 0 < length a.cells
number_within a xs i s e l = let at = placed xs a.order i e l in (s.order.all (get_or xs i 0)).0 (i, at.0, sym at.1)

pub number_blank : (a : App) (s : SessionState) (told : ToldRows) (day : Data) (xs : List ℕ) (i : ℕ) (values : ℕ → Data) → IsSoundApp a → xs ≡ a.order → i < length xs → AreKept a s told day (take i a.order) values → values (get_or xs i 0) ≡ blank
number_blank a s told day xs i values sound e l kept = let at = placed xs a.order i e l in kept.undone (get_or xs i 0) (new_here a i (get_or xs i 0) sound at.0 at.1)

pub more_kept : (a : App) (s : SessionState) (told later : ToldRows) (day : Data) (xs : List ℕ) (i : ℕ) (old new : ℕ → Data) → IsSoundApp a → Hears told later → xs ≡ a.order → i < length xs → AreKept a s told day (take i a.order) old → CellsFit a new →
    ((k : ℕ) → k ≢ get_or xs i 0 → new k ≡ old k) →
    ((moment : ℕ) (tables : ToldRows) (c : CellInfo) → IsToday moment day → IsHeard later tables → slice_get a.cells (get_or xs i 0) ≡ Some c → IsCellValue (present a s tables moment) old c (new (get_or xs i 0))) →
    AreKept a s later day (take (i + 1) a.order) new
more_kept a s told later day xs i old new sound hears e l kept fits others value = let at = placed xs a.order i e l in one_more a s told later day i (get_or xs i 0) old new sound hears at.0 at.1 kept fits others value

whole : (xs : List ℕ) (i : ℕ) → length xs ≤ i → take i xs ≡ xs
whole [] zero l = refl
whole [] (suc i) l = refl
whole (x ∷ xs) zero l = absurd (omega (arith, l))
whole (x ∷ xs) (suc i) l = ap (λ ys. x ∷ ys) (whole xs i (omega (arith, l)))

pub all_fresh : (a : App) (s : SessionState) (told : ToldRows) (day : Data) (xs : List ℕ) (i : ℕ) (values : ℕ → Data) → IsSoundApp a → xs ≡ a.order → length xs ≤ i → AreKept a s told day (take i a.order) values →
    (moment : ℕ) (tables : ToldRows) → IsToday moment day → IsHeard told tables → IsFresh (present a s tables moment) values
all_fresh a s told day xs i values sound e l kept moment tables today heard =
    let long : length xs ≡ length a.order = ap length e in
    let done : take i a.order ≡ a.order = whole a.order i (omega (arith, l, long)) in
    record {
      cells = λ k c there. kept.known moment tables k c today heard (subst (λ ys. Contains ys k) (sym done) ((sound.order.all k).1 (slice_get_within a.cells k c there))) there;
      beyond = λ k none. kept.undone k (λ there.
          let c = got a.cells k ((sound.order.all k).0 (subst (λ ys. Contains ys k) done there)) in
          let both : None ≡ Some c.0 = sym none ∙ c.1 in
          cc);
    }

pub steps_more : (p : ℕ → Bool) (xs ys : List ℕ) (i first old new : ℕ) → xs ≡ ys → i < length xs → new ≡ old + (if p (get_or xs i 0) then 1 else 0) → old ≡ first + count_by p (take i ys) → new ≡ first + count_by p (take (i + 1) ys)
steps_more p xs ys i first old new e l one all = subst (λ zs. new ≡ first + count_by p (take (i + 1) zs)) e (by (p (get_or xs i 0)) refl one)
  where
    before : old ≡ first + count_by p (take i xs)
    before = subst (λ zs. old ≡ first + count_by p (take i zs)) (sym e) all

    by : (b : Bool) → p (get_or xs i 0) ≡ b → new ≡ old + (if b then 1 else 0) → new ≡ first + count_by p (take (i + 1) xs)
    by true q h = let more = count_by_more_yes p xs i 0 l q in omega (arith, h, more, before)
    by false q h = let more = count_by_more_no p xs i 0 l q in omega (arith, h, more, before)

pub steps_all : (p : ℕ → Bool) (xs ys : List ℕ) (i first last : ℕ) → xs ≡ ys → length xs ≤ i → last ≡ first + count_by p (take i ys) → last ≡ first + count_by p ys
steps_all p xs ys i first last e l h =
    let long : length xs ≡ length ys = ap length e in
    subst (λ zs. last ≡ first + count_by p zs) (whole ys i (omega (arith, l, long))) h
