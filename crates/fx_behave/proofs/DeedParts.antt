-- The values of a deed's parts are such that it can be done.
use Rattle.std.proofs.Common.{◌≡◌, ℕ, List, [], ◌∷◌, ◌++◌, true, false, map, Option, Some, None, Result, Ok, refl, ap, sym, subst, ◌∙◌}
use Rattle.std.specs.Prelude.{IsSome, option_map}
use Rattle.fx_types.specs.Types.{Shape, ColumnList, blanks, numbers, texts, booleans, dates, records, tables}
use Rattle.fx_types.specs.Values.{Data}
use Rattle.fx_semantics.proofs.Tables.{RowsFit, rows_in_fit}
use Rattle.fx_semantics.specs.Rows.{rows_in}
use Rattle.fx_semantics.specs.Sound.{AreFit, AreLawfulTypes}
use Rattle.fx_core.specs.declared.deeds.Deed.{Deed}
use Rattle.fx_core.specs.declared.deeds.Deed.TheVariants as deed
use Rattle.fx_core.specs.declared.deeds.Target.{Target}
use Rattle.fx_core.specs.declared.deeds.Target.TheVariants as target
use Rattle.fx_core.specs.declared.functions.Fun.{Fun}
use Rattle.fx_core.specs.declared.functions.Fun.TheVariants as fun
use Rattle.fx_core.specs.declared.sources.Source.{Source}
use Rattle.fx_core.specs.declared.sources.Source.TheVariants as source
use Rattle.fx_core.specs.Rows.{row_of}
use Rattle.fx_core.specs.Term.{Term, Terms, of, nil, cons, all, act, over, read}
use Rattle.fx_typing.specs.LawfulTypes.{AreLawfulColumns, IsLawfulType}
use Rattle.fx_typing.specs.WellTyped.{Context, AreAllOfShape, AreChanges, AreTyped, IsByRow, IsChange, DeedHasType, IsFilterOf, IsNamedRow, IsTyped, target_source}
use Rattle.fx_value.specs.Columns.{Row}
use Rattle.fx_value.specs.Fits.{fits_in}
use Rattle.fx_value.specs.Join.{union}
use Rattle.fx_deeds.specs.Doable.{AnswersAs, CanDo, IsBase}
use Rattle.fx_deeds.specs.Fitting.{AreOf, AreOfSome, CanTakeAll, SourceTypes}
use Rattle.fx_deeds.specs.RowValues.{rows_among}
use Rattle.fx_semantics.specs.Places.{are_of_screen, part_may_act}

-- the one deed whose change has a value for each row
abbrev pub IsUpdating : Deed → Type 0
IsUpdating (deed.UpdateIf p) = Unit {0}
IsUpdating d = ⊥

pub there : (c : Context) (types : SourceTypes) → c.sources ≡ types → (x : Source) (o : Option Shape) → c.sources x ≡ o → types x ≡ o
there c types e x o h = sym (ap (λ (z : SourceTypes). z x) e) ∙ h

-- ---- values

same_head : {A : Type 0} (x y : A) (xs ys : List A) → (x ∷ xs) ≡ (y ∷ ys) → x ≡ y
same_head x y xs ys e = cc

same_tail : {A : Type 0} (x y : A) (xs ys : List A) → (x ∷ xs) ≡ (y ∷ ys) → xs ≡ ys
same_tail x y xs ys e = cc

all_of : (t : Shape) (ds : List Data) (us : List Shape) → AreAllOfShape t us → AreFit ds us → AreOf t ds
all_of t [] [] a f = tt
all_of t (d ∷ ds) (u ∷ us) a f = (subst (λ (z : Shape). fits_in d z ≡ true) a.0 f.0, all_of t ds us a.1 f.1)
all_of t [] (u ∷ us) a f = absurd f
all_of t (d ∷ ds) [] a f = absurd f

take_all : (c : Context) (types : SourceTypes) → c.sources ≡ types → (ks : List Source) (us : List Shape) (ds : List Data) → are_of_screen ks ≡ true → map c.sources ks ≡ map Some us → AreFit ds us → CanTakeAll types ks ds
take_all c types e [] [] [] p m f = tt
take_all c types e [] [] (d ∷ ds) p m f = absurd f
take_all c types e [] (u ∷ us) ds p m f = absurd cc
take_all c types e (source.Context k ∷ ks) [] ds p m f = absurd cc
take_all c types e (source.Context k ∷ ks) (u ∷ us) [] p m f = absurd f
take_all c types e (source.Context k ∷ ks) (u ∷ us) (d ∷ ds) p m f = (
  (u, there c types e (source.Context k) (Some u) (same_head (c.sources (source.Context k)) (Some u) (map c.sources ks) (map Some us) m), f.0),
  take_all c types e ks us ds p (same_tail (c.sources (source.Context k)) (Some u) (map c.sources ks) (map Some us) m) f.1,
)
take_all c types e (source.Cell k ∷ ks) us ds p m f = let wrong : false ≡ true = p in absurd cc
take_all c types e (source.Global k ∷ ks) us ds p m f = let wrong : false ≡ true = p in absurd cc
take_all c types e (source.Gathered k ∷ ks) us ds p m f = let wrong : false ≡ true = p in absurd cc
take_all c types e (source.Input k ∷ ks) us ds p m f = let wrong : false ≡ true = p in absurd cc
take_all c types e (source.Chosen k ∷ ks) us ds p m f = let wrong : false ≡ true = p in absurd cc
take_all c types e (source.Table k ∷ ks) us ds p m f = let wrong : false ≡ true = p in absurd cc
take_all c types e (source.Today ∷ ks) us ds p m f = let wrong : false ≡ true = p in absurd cc

-- ---- rows that are changed

base_is : (p : Target) (cs : ColumnList) (u : Shape) (b : Data) → IsNamedRow p cs u → fits_in b u ≡ true → IsBase p cs b
base_is (target.Table k) cs u b n f = tt
base_is (target.Gathered k) cs (records ds) b n f = subst (λ (z : ColumnList). fits_in b (records z) ≡ true) n f
base_is (target.Gathered k) cs blanks b n f = absurd n
base_is (target.Gathered k) cs numbers b n f = absurd n
base_is (target.Gathered k) cs texts b n f = absurd n
base_is (target.Gathered k) cs booleans b n f = absurd n
base_is (target.Gathered k) cs dates b n f = absurd n
base_is (target.Gathered k) cs (tables ds) b n f = absurd n

same_union : (o : Option ColumnList) (cs : ColumnList) → option_map records o ≡ Some (records cs) → o ≡ Some cs
same_union None cs e = absurd cc
same_union (Some ds) cs e = cc

some_more : (cs : ColumnList) (rs qs : List Row) → AreOfSome cs rs → AreOfSome cs qs → AreOfSome cs (rs ++ qs)
some_more cs [] qs h k = k
some_more cs (r ∷ rs) qs h k = (h.0, some_more cs rs qs h.1 k)

of_some : (cs ds : ColumnList) (rs : List Row) → AreLawfulColumns ds → union cs ds ≡ Some cs → RowsFit ds rs → AreOfSome cs rs
of_some cs ds [] l e h = tt
of_some cs ds (r ∷ rs) l e h = (record { columns = ds; lawful = l; takes = e; fits = h.0 }, of_some cs ds rs l e h.1)

-- the rows of a change
change_rows : (p : Target) (cs : ColumnList) (u : Shape) (d : Data) → IsLawfulType u → IsChange p cs u → fits_in d u ≡ true → AreOfSome cs (rows_in d)
change_rows p cs (tables ds) d l h f = of_some cs ds (rows_in d) l (same_union (union cs ds) cs h.0) (rows_in_fit d ds f)
change_rows p cs blanks d l h f = absurd h
change_rows p cs numbers d l h f = absurd h
change_rows p cs texts d l h f = absurd h
change_rows p cs booleans d l h f = absurd h
change_rows p cs dates d l h f = absurd h
change_rows p cs (records ds) d l h f = absurd h

changes_rows : (p : Target) (cs : ColumnList) (us : List Shape) (ds : List Data) → AreLawfulTypes us → AreChanges p cs us → AreFit ds us → AreOfSome cs (rows_among ds)
changes_rows p cs [] [] l h f = tt
changes_rows p cs (u ∷ us) (d ∷ ds) l h f = some_more cs (rows_in d) (rows_among ds) (change_rows p cs u d l.0 h.0 f.0) (changes_rows p cs us ds l.1 h.1 f.1)
changes_rows p cs [] (d ∷ ds) l h f = absurd f
changes_rows p cs (u ∷ us) [] l h f = absurd f

-- the rows of changes that all have one type
pub all_of_some : (p : Target) (cs : ColumnList) (u : Shape) (ds : List Data) → IsLawfulType u → IsChange p cs u → AreOf u ds → AreOfSome cs (rows_among ds)
all_of_some p cs u [] l h f = tt
all_of_some p cs u (d ∷ ds) l h f = some_more cs (rows_in d) (rows_among ds) (change_rows p cs u d l h f.0) (all_of_some p cs u ds l h f.1)

-- ---- filters

same_type : (a u : Shape) → ◌≡◌ {A = Result Shape ℕ} (Ok a) (Ok u) → u ≡ a
same_type a u e = cc

-- a filter has the columns of its source
filter_type : (c : Context) (s : Source) (conditions : Terms) (w : Shape) → IsTyped c (of (over fun.Filter) (cons (of (read s) nil) conditions)) w → (cs : ColumnList) × (w ≡ tables cs) × (c.sources s ≡ Some (tables cs))
filter_type c s conditions w ty =
    let part = ty.1 in
    let ruled : IsByRow (row_of fun.Filter) (cons (of (read s) nil) conditions) (part.0 ∷ part.1) w =
    subst (λ (us : List Shape). IsByRow (row_of fun.Filter) (cons (of (read s) nil) conditions) us w) part.2 ty.2.1 in
    (ruled.2.0.0, same_type part.0 w ruled.3 ∙ ruled.2.0.1, part.3.2 ∙ ap Some ruled.2.0.1)

pub filtered : (c : Context) (p : Target) (t : Term) (w : Shape) → IsFilterOf p t → IsTyped c t w → (cs : ColumnList) × (w ≡ tables cs) × (c.sources (target_source p) ≡ Some (tables cs))
filtered c p (of (over f) (cons (of (read s) nil) conditions)) w h ty =
    filter_type c (target_source p) conditions w
    (subst (λ (z : Source). IsTyped c (of (over fun.Filter) (cons (of (read z) nil) conditions)) w) h.1
    (subst (λ (z : Fun). IsTyped c (of (over z) (cons (of (read s) nil) conditions)) w) h.0 ty))
filtered c p t w h ty = absurd h

-- ---- deeds

only_text : (c : Context) (ts : Terms) (us : List Shape) (u : Shape) → DeedHasType c deed.Notify ts us u → us ≡ texts ∷ []
only_text c ts (texts ∷ []) u h = refl
only_text c ts us u h = absurd h

notified : (types : SourceTypes) (ds : List Data) (us : List Shape) → us ≡ texts ∷ [] → AreFit ds us → CanDo types deed.Notify ds
notified types ds us e f = by ds (subst (AreFit ds) e f)
  where
    by : (xs : List Data) → AreFit xs (texts ∷ []) → CanDo types deed.Notify xs
    by [] h = absurd h
    by (x ∷ []) h = tt
    by (x ∷ y ∷ xs) h = absurd h.1

module _ (c : Context) (types : SourceTypes) (e : c.sources ≡ types) where
  -- the columns of what a filter for a removal gives are the target's
  removed : (p : Target) (ts : List Term) (n : ℕ) (us : List Shape) (ds : List Data) (u : Shape) → AreTyped c (act (deed.RemoveIf p)) n [] (all ts) us → DeedHasType c (deed.RemoveIf p) (all ts) us u → AreFit ds us → CanDo types (deed.RemoveIf p) ds
  removed p [] n us ds u w h f = absurd h
  removed p (t ∷ k ∷ ts) n us ds u w h f = absurd h
  removed p (t ∷ []) n us ds u w h f = by ds (subst (AreFit ds) (w.2 ∙ ap (λ (vs : List Shape). w.0 ∷ vs) w.4) f)
    where
      k : (cs : ColumnList) × (w.0 ≡ tables cs) × (c.sources (target_source p) ≡ Some (tables cs))
      k = filtered c p t w.0 h.0 w.3

      by : (xs : List Data) → AreFit xs (w.0 ∷ []) → CanDo types (deed.RemoveIf p) xs
      by [] g = absurd g
      by (x ∷ []) g = (k.0, there c types e (target_source p) (Some (tables k.0)) k.2)
      by (x ∷ y ∷ xs) g = absurd g.1

  patched : (p : Target) (ts : Terms) (us : List Shape) (ds : List Data) (u : Shape) → IsLawfulType u → AreLawfulTypes us → DeedHasType c (deed.Patch p) ts us u → AreFit ds us → CanDo types (deed.Patch p) ds
  patched p ts [] ds u l ls h f = absurd h
  patched p ts (v ∷ us) [] u l ls h f = absurd f
  patched p ts (v ∷ us) (b ∷ ds) u l ls h f = (
    h.0,
    there c types e (target_source p) (Some (tables h.0)) h.1,
    subst IsLawfulType h.4 l,
    base_is p h.0 v b h.2 f.0,
    changes_rows p h.0 us ds ls.1 h.3 f.1,
  )

  set_one : (k : ℕ) (ts : Terms) (us : List Shape) (ds : List Data) (u : Shape) → DeedHasType c (deed.Set k) ts us u → AreFit ds us → CanDo types (deed.Set k) ds
  set_one k ts [] ds u h f = absurd h
  set_one k ts (v ∷ w ∷ us) ds u h f = absurd h
  set_one k ts (v ∷ []) [] u h f = absurd f
  set_one k ts (v ∷ []) (y ∷ z ∷ ds) u h f = absurd f.1
  set_one k ts (v ∷ []) (y ∷ []) u h f = (v, there c types e (source.Global k) (Some v) h.0, f.0)

  cleared : (k : ℕ) (ts : Terms) (us : List Shape) (ds : List Data) (u : Shape) → DeedHasType c (deed.Clear k) ts us u → AreFit ds us → CanDo types (deed.Clear k) ds
  cleared k ts [] [] u h f = (h.0, there c types e (source.Gathered k) (Some (tables h.0)) h.1)
  cleared k ts [] (y ∷ ds) u h f = absurd f
  cleared k ts (v ∷ us) ds u h f = absurd h

  shown : (k : ℕ) (ts : Terms) (us : List Shape) (ds : List Data) (u : Shape) → DeedHasType c (deed.Navigate k) ts us u → AreFit ds us → CanDo types (deed.Navigate k) ds
  shown k ts [] [] u h f = tt
  shown k ts [] (y ∷ ds) u h f = absurd f
  shown k ts (v ∷ us) ds u h f = absurd h

  reset : (k : ℕ) (ts : Terms) (us : List Shape) (ds : List Data) (u : Shape) → DeedHasType c (deed.Reset k) ts us u → AreFit ds us → CanDo types (deed.Reset k) ds
  reset k ts [] [] u h f = subst (λ (z : SourceTypes). IsSome (z (source.Input k))) e h.0
  reset k ts [] (y ∷ ds) u h f = absurd f
  reset k ts (v ∷ us) ds u h f = absurd h

  pub can_do : (d : Deed) (us : List Shape) (ds : List Data) (ts : List Term) (n : ℕ) (u : Shape) → (IsUpdating d → ⊥) → part_may_act (act d) ≡ true → IsLawfulType u → AreLawfulTypes us →
      AreTyped c (act d) n [] (all ts) us → DeedHasType c d (all ts) us u → AreFit ds us → CanDo types d ds
  can_do (deed.Set k) us ds ts n u o p l ls w h f = set_one k (all ts) us ds u h f
  can_do (deed.UpdateContext ks) us ds ts n u o p l ls w h f = take_all c types e ks us ds p h.0 f
  can_do (deed.Collect k) us ds ts n u o p l ls w h f = (h.0, there c types e (source.Gathered k) (Some (tables h.0)) h.1, all_of (tables h.0) ds us h.2 f)
  can_do (deed.Clear k) us ds ts n u o p l ls w h f = cleared k (all ts) us ds u h f
  can_do (deed.ClearCollect k) us ds ts n u o p l ls w h f = (h.0, there c types e (source.Gathered k) (Some (tables h.0)) h.1, all_of (tables h.0) ds us h.2 f)
  can_do (deed.Patch q) us ds ts n u o p l ls w h f = patched q (all ts) us ds u l ls h f
  can_do (deed.Remove q) us ds ts n u o p l ls w h f = (h.0, there c types e (target_source q) (Some (tables h.0)) h.1)
  can_do (deed.RemoveIf q) us ds ts n u o p l ls w h f = removed q ts n us ds u w h f
  can_do (deed.UpdateIf q) us ds ts n u o p l ls w h f = absurd (o tt)
  can_do (deed.Navigate k) us ds ts n u o p l ls w h f = shown k (all ts) us ds u h f
  can_do deed.Notify us ds ts n u o p l ls w h f = notified types ds us (only_text c (all ts) us u h) f
  can_do (deed.Reset k) us ds ts n u o p l ls w h f = reset k (all ts) us ds u h f

  -- ---- what is answered

  pub answers_as : (d : Deed) (us : List Shape) (ts : Terms) (u : Shape) → (IsUpdating d → ⊥) → DeedHasType c d ts us u → AnswersAs types d u
  answers_as (deed.Set k) [] ts u o h = absurd h
  answers_as (deed.Set k) (v ∷ []) ts u o h = h.1
  answers_as (deed.Set k) (v ∷ w ∷ us) ts u o h = absurd h
  answers_as (deed.UpdateContext ks) us ts u o h = h.1
  answers_as (deed.Collect k) us ts u o h = h.3
  answers_as (deed.Clear k) [] ts u o h = h.2
  answers_as (deed.Clear k) (v ∷ us) ts u o h = absurd h
  answers_as (deed.ClearCollect k) us ts u o h = h.3
  answers_as (deed.Patch p) [] ts u o h = absurd h
  answers_as (deed.Patch p) (v ∷ us) ts u o h = (h.0, there c types e (target_source p) (Some (tables h.0)) h.1, h.4)
  answers_as (deed.Remove p) us ts u o h = h.3
  answers_as (deed.RemoveIf p) us nil u o h = absurd h
  answers_as (deed.RemoveIf p) us (cons t nil) u o h = h.1
  answers_as (deed.RemoveIf p) us (cons t (cons k ts)) u o h = absurd h
  answers_as (deed.UpdateIf p) us ts u o h = absurd (o tt)
  answers_as (deed.Navigate k) [] ts u o h = h.1
  answers_as (deed.Navigate k) (v ∷ us) ts u o h = absurd h
  answers_as deed.Notify us ts u o h = notify_type us ts u h
    where
      notify_type : (us : List Shape) (ts : Terms) (u : Shape) → DeedHasType c deed.Notify ts us u → u ≡ booleans
      notify_type (texts ∷ []) ts u h = h
      notify_type us ts u h = absurd h
  answers_as (deed.Reset k) [] ts u o h = h.1
  answers_as (deed.Reset k) (v ∷ us) ts u o h = absurd h
