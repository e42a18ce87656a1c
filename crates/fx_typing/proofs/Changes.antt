-- Changes of rows, and what is told to the user, are well typed.
use Rattle.std.proofs.Common.{◌≡◌, ℕ, ◌<◌, List, [], ◌∷◌, Bool, true, false, ◌&&◌, not, is_some, length, codes, bytes_eq, option_and_then, Option, Some, None, Result, Ok, Err, refl, ap, sym, subst, ◌∙◌, if◌then◌else◌}
use Rattle.std.proofs.lemmas.Option.{slice_get_within}
use Rattle.std.proofs.lemmas.Bool.{and_parts}
use Rattle.fx_types.specs.Types.{Shape, blanks, numbers, texts, booleans, records, tables, ColumnList, no_columns, column}
use Rattle.fx_value.specs.Join.{join_of}
use Rattle.fx_core.specs.declared.deeds.Deed.TheVariants as deed
use Rattle.fx_core.specs.declared.deeds.Target.{Target}
use Rattle.fx_core.specs.declared.deeds.Target.TheVariants as rows
use Rattle.fx_core.specs.declared.sources.Source.TheVariants as source
use Rattle.fx_core.specs.Controls.{input_type}
use Rattle.fx_core.specs.declared.names.ControlName.{ControlName}
use Rattle.fx_core.specs.declared.names.Names.{Names}
use Rattle.fx_core.specs.Term.{Term, of, nil, cons, read, list, act}
use Rattle.fx_core.specs.ColumnLists.{field_in}
use Rattle.fx_typing.specs.Local.{coerced, by_way, firsts}
use Rattle.fx_typing.specs.WellTyped.{Context, context_for, inside, target_source, IsNumbered, IsNamedRow, AreNamedRows, LeavesId, IsChange, AreChanges, IsFilterOf, HasColumns, DeedHasType, IsTyped}
use Rattle.fx_typing.specs.Ways.{way}
use Rattle.fx_typing.proofs.Rules.{Typed}
use Rattle.fx_typing.proofs.Same.{shape_same}
use Rattle.fx_typing.specs.Builds.{types_of}
use Rattle.fx_typing.specs.Deeds.{done_by, is_type, joins_to, misfit, settable, when_columns, by_id, row_typed, rows_named_by, leaves_id, row_of_one, change_of, changes_of, patch_to, patch_of, remove_of, filter_of, remove_if, update_to, update_if, navigate_of, notify_of, reset_by, reset_of}
use Rattle.fx_typing.specs.Parts.{JudgedPart, target, values, pieces}
use Rattle.fx_typing.specs.Targets.{AreRows, some_table, no_table, screen_named, control_named, rows_named, columns_or_none, target_columns}
use Rattle.fx_typing.proofs.Deeds.{Of, if_known_ok, by_rows_ok, nothing_typed, rows_typed}
use Rattle.fx_typing.proofs.Filters.{in_row, filter_typed, filter_made}
use Rattle.fx_typing.proofs.Frame.{AllTyped}
use Rattle.fx_typing.proofs.Names.{found, read_typed}
use Rattle.fx_typing.proofs.Operators.{then_ok}
use Rattle.fx_typing.proofs.Steps.{lowest_ok, coerced_typed, came, EachTyped, values_typed, typed_by}
use Rattle.fx_typing.proofs.RelatedSteps.{ok_is}

-- a row that is named for a change
abbrev NamesRow : Context → Target → ColumnList → Term × Shape → Type 0
NamesRow c t cs y = Typed c y × IsNamedRow t cs y.1

type_is : (o : Option Shape) (t : Shape) → is_type o t ≡ true → o ≡ Some t
type_is (Some u) t e = ap (λ v. Some v) (shape_same u t e)
type_is None t e = absurd cc

when_columns_ok : (cs ds : ColumnList) (r : Result (Term × Shape) ℕ) (y : Term × Shape) → when_columns cs ds r ≡ Ok y →
    (join_of (records cs) (records ds) ≡ Some (records cs)) × (r ≡ Ok y)
when_columns_ok cs ds r y e = by_test (joins_to (records cs) (records ds)) refl e
  where
    by_test : (b : Bool) → joins_to (records cs) (records ds) ≡ b → (if b then r else Err (misfit cs ds)) ≡ Ok y →
        (join_of (records cs) (records ds) ≡ Some (records cs)) × (r ≡ Ok y)
    by_test true i j = (type_is (join_of (records cs) (records ds)) (records cs) i, j)
    by_test false i j = absurd cc

by_id_named : (c : Context) (k : ℕ) (cs : ColumnList) (m : Term) (ds : ColumnList) (o : Option Shape) (y : Term × Shape) → IsTyped c m (records ds) →
    field_in (codes "ID") ds ≡ o → by_id m ds o ≡ Ok y → NamesRow c (rows.Table k) cs y
by_id_named c k cs m ds (Some numbers) y h i e = subst (NamesRow c (rows.Table k) cs) (ok_is _ y e) (h, subst IsNumbered (sym i) tt)
by_id_named c k cs m ds (Some blanks) y h i e = subst (NamesRow c (rows.Table k) cs) (ok_is _ y e) (h, subst IsNumbered (sym i) tt)
by_id_named c k cs m ds o y h i e = absurd cc

row_named_typed : (c : Context) (t : Target) (cs : ColumnList) (m : Term) (u : Shape) (y : Term × Shape) → IsTyped c m u → row_typed t cs (m, u) ≡ Ok y → NamesRow c t cs y
row_named_typed c (rows.Table k) cs m (records ds) y h e = by_id_named c k cs m ds (field_in (codes "ID") ds) y h refl e
row_named_typed c (rows.Table k) cs m blanks y h e =
    subst (NamesRow c (rows.Table k) cs) (ok_is _ y e) (coerced_typed c m blanks (records (column (codes "ID") numbers no_columns)) refl h, tt)
row_named_typed c (rows.Gathered k) cs m (records ds) y h e =
    let w = when_columns_ok cs ds (by_way (way (records ds) (records cs)) m (records cs)) y e in
    let z = came c m (records ds) (records cs) y w.1 h in
    (z.0, subst (IsNamedRow (rows.Gathered k) cs) (sym z.1) refl)
row_named_typed c (rows.Gathered k) cs m blanks y h e =
    subst (NamesRow c (rows.Gathered k) cs) (ok_is _ y e) (coerced_typed c m blanks (records cs) refl h, refl)
row_named_typed c t cs m u y h e = absurd cc

rows_named_typed : (c : Context) (t : Target) (cs : ColumnList) (xs ys : List (Term × Shape)) → AllTyped c xs → rows_named_by t cs xs ≡ Ok ys →
    AllTyped c ys × AreNamedRows t cs (types_of ys)
rows_named_typed c t cs [] ys h e = let k : [] ≡ ys = cc in subst (λ (zs : List (Term × Shape)). AllTyped c zs × AreNamedRows t cs (types_of zs)) k (tt, tt)
rows_named_typed c t cs (x ∷ xs) ys h e =
    let a = lowest_ok _ (row_typed t cs x) (rows_named_by t cs xs) ys e in
    let one = row_named_typed c t cs x.0 x.1 a.0 h.0 a.1 in
    let more = rows_named_typed c t cs xs a.2 h.1 a.3 in
    subst (λ (zs : List (Term × Shape)). AllTyped c zs × AreNamedRows t cs (types_of zs)) a.4 ((one.0, more.0), (one.1, more.1))

-- a change
abbrev ChangesRow : Context → Target → ColumnList → Term × Shape → Type 0
ChangesRow c t cs y = Typed c y × IsChange t cs y.1

leaves : (t : Target) (ds : ColumnList) → leaves_id t ds ≡ true → LeavesId t ds
leaves (rows.Table k) ds e = by_field (field_in (codes "ID") ds) e
  where
    by_field : (o : Option Shape) → not (is_some o) ≡ true → o ≡ None
    by_field None i = refl
    by_field (Some u) i = absurd cc
leaves (rows.Gathered k) ds e = tt

leaves_none : (t : Target) → LeavesId t no_columns
leaves_none (rows.Table k) = refl
leaves_none (rows.Gathered k) = tt

row_of_one_typed : (c : Context) (m : Term) (ds : ColumnList) → IsTyped c m (records ds) → Typed c (row_of_one m ds)
row_of_one_typed c m ds h = typed_by c (list (records ds)) ((m, records ds) ∷ []) (tables ds) (λ n i. refl) (h, tt) ((refl, tt), refl)

change_typed : (c : Context) (t : Target) (cs : ColumnList) (m : Term) (u : Shape) (y : Term × Shape) → IsTyped c m u → change_of t cs (m, u) ≡ Ok y → ChangesRow c t cs y
change_typed c t cs m (records ds) y h e = by_test (joins_to (records cs) (records ds) && leaves_id t ds) refl e
  where
    by_test : (b : Bool) → (joins_to (records cs) (records ds) && leaves_id t ds) ≡ b →
        if◌then◌else◌ {A = Result (Term × Shape) ℕ} b (Ok (row_of_one m ds)) (Err (misfit (settable t cs) ds)) ≡ Ok y → ChangesRow c t cs y
    by_test true i k =
        let both = and_parts (joins_to (records cs) (records ds)) (leaves_id t ds) i in
        let joined = type_is (join_of (records cs) (records ds)) (records cs) both.0 in
        subst (ChangesRow c t cs) (ok_is _ y k) (row_of_one_typed c m ds h, (joined, leaves t ds both.1))
    by_test false i k = absurd cc
change_typed c t cs m blanks y h e =
    subst (ChangesRow c t cs) (ok_is _ y e) (
      row_of_one_typed c (coerced m (records no_columns)) no_columns (coerced_typed c m blanks (records no_columns) refl h),
      (refl, leaves_none t),
    )
change_typed c t cs m u y h e = absurd cc

changes_typed : (c : Context) (t : Target) (cs : ColumnList) (xs ys : List (Term × Shape)) → AllTyped c xs → changes_of t cs xs ≡ Ok ys →
    AllTyped c ys × AreChanges t cs (types_of ys)
changes_typed c t cs [] ys h e = let k : [] ≡ ys = cc in subst (λ (zs : List (Term × Shape)). AllTyped c zs × AreChanges t cs (types_of zs)) k (tt, tt)
changes_typed c t cs (x ∷ xs) ys h e =
    let a = lowest_ok _ (change_of t cs x) (changes_of t cs xs) ys e in
    let one = change_typed c t cs x.0 x.1 a.0 h.0 a.1 in
    let more = changes_typed c t cs xs a.2 h.1 a.3 in
    subst (λ (zs : List (Term × Shape)). AllTyped c zs × AreChanges t cs (types_of zs)) a.4 ((one.0, more.0), (one.1, more.1))

-- `Patch` and `Remove`
patch_to_typed : (c : Context) (t : Target) (cs : ColumnList) (xs : List (Term × Shape)) (y : Term × Shape) → HasColumns c t cs → AllTyped c xs → patch_to (t, cs) xs ≡ Ok y → Typed c y
patch_to_typed c t cs [] y has h e = absurd cc
patch_to_typed c t cs (base ∷ changes) y has h e =
    let a = lowest_ok _ (row_typed t cs base) (changes_of t cs changes) y e in
    let one = row_named_typed c t cs base.0 base.1 a.0 h.0 a.1 in
    let more = changes_typed c t cs changes a.2 h.1 a.3 in
    subst (Typed c) a.4 (
    typed_by c (act (deed.Patch t)) (a.0 ∷ a.2) (records cs) (λ n i. refl) (one.0, more.0) (cs, has, one.1, more.1, refl)
    )

pub patch_typed : (n : Names) (c : Context) (x : List ℕ) (qs : List JudgedPart) (y : Term × Shape) → Of n c → EachTyped c qs → patch_of n x qs ≡ Ok y → Typed c y
patch_typed n c x qs y here h e =
    let a = then_ok (values qs) _ y e in
    let r = by_rows_ok (rows_named n x) (λ r. patch_to r a.0) y a.2 in
    subst (Typed c) r.6 (rows_typed n c x r.0 r.1 r.2 r.3 here r.4 (λ has. patch_to_typed c r.0 r.1 a.0 r.3 has (values_typed c qs a.0 a.1 h) r.5))

pub remove_typed : (n : Names) (c : Context) (x : List ℕ) (qs : List JudgedPart) (y : Term × Shape) → Of n c → EachTyped c qs → remove_of n x qs ≡ Ok y → Typed c y
remove_typed n c x qs y here h e =
    let a = then_ok (values qs) _ y e in
    let r = by_rows_ok (rows_named n x) _ y a.2 in
    let b = then_ok (rows_named_by r.0 r.1 a.0) (λ ys. Ok (done_by (deed.Remove r.0) (firsts ys))) r.3 r.5 in
    let more = rows_named_typed c r.0 r.1 a.0 b.0 (values_typed c qs a.0 a.1 h) b.1 in
    subst (Typed c) r.6 (rows_typed n c x r.0 r.1 r.2 r.3 here r.4
    (λ has. subst (Typed c) (ok_is _ r.3 b.2) (typed_by c (act (deed.Remove r.0)) b.0 booleans (λ m i. refl) more.0 (r.1, has, more.1, refl))))

-- `RemoveIf` and `UpdateIf`: their conditions and changes stand inside a row of the target
abbrev Filtered : Context → Target → ColumnList → Term × Shape → Type 0
Filtered c t cs f = Typed c f × IsFilterOf t f.0 × (f.1 ≡ tables cs)

filter_of_typed : (c : Context) (t : Target) (cs : ColumnList) (a : Option (List ℕ)) (qs : List JudgedPart) (f : Term × Shape) → HasColumns c t cs → EachTyped (in_row c cs) qs →
    filter_of (t, cs) a qs ≡ Ok f → Filtered c t cs f
filter_of_typed c t cs a qs f has h e =
    let k = filter_made a (of (read (target_source t)) nil) cs (pieces qs) f e in (
      filter_typed c a (of (read (target_source t)) nil) cs qs f (read_typed c (target_source t) (tables cs) has) h e,
      subst (λ (z : Term × Shape). IsFilterOf t z.0) k.1 (refl, refl),
      sym (ap (λ (z : Term × Shape). z.1) k.1),
    )

columns_known : (n : Names) (x : List ℕ) (t : Target) (cs : ColumnList) (blank : Bool) → AreRows (rows_named n x) t cs blank → target_columns n x ≡ cs
columns_known n x t cs blank (some_table e) = ap columns_or_none e
columns_known n x t cs blank (no_table e) = ap columns_or_none e

pub remove_if_typed : (n : Names) (c : Context) (a : Option (List ℕ)) (x : List ℕ) (qs : List JudgedPart) (y : Term × Shape) → Of n c → EachTyped (in_row c (target_columns n x)) qs →
    remove_if n (target a x ∷ qs) ≡ Ok y → Typed c y
remove_if_typed n c a x qs y here h e =
    let r = by_rows_ok (rows_named n x) _ y e in
    let b = then_ok (filter_of (r.0, r.1) a qs) (λ f. Ok (done_by (deed.RemoveIf r.0) (f.0 ∷ []))) r.3 r.5 in
    let k = subst (λ cs. EachTyped (in_row c cs) qs) (columns_known n x r.0 r.1 r.2 r.4) h in
    subst (Typed c) r.6 (rows_typed n c x r.0 r.1 r.2 r.3 here r.4
    (λ has. let f = filter_of_typed c r.0 r.1 a qs b.0 has k b.1 in
    subst (Typed c) (ok_is _ r.3 b.2) (typed_by c (act (deed.RemoveIf r.0)) (b.0 ∷ []) booleans (λ m i. refl) (f.0, tt) (f.1, refl))))

update_to_typed : (c : Context) (t : Target) (cs : ColumnList) (a : Option (List ℕ)) (q : JudgedPart) (xs : List (Term × Shape)) (y : Term × Shape) → HasColumns c t cs →
    EachTyped (in_row c cs) (q ∷ []) → AllTyped (in_row c cs) xs → update_to (t, cs) a q xs ≡ Ok y → Typed c y
update_to_typed c t cs a q [] y has h k e = absurd cc
update_to_typed c t cs a q (x ∷ []) y has h k e =
    let b = then_ok (filter_of (t, cs) a (q ∷ [])) _ y e in
    let d = then_ok (change_of t cs x) (λ z. Ok (done_by (deed.UpdateIf t) (b.0.0 ∷ z.0 ∷ []))) y b.2 in
    let f = filter_of_typed c t cs a (q ∷ []) b.0 has h b.1 in
    let w = change_typed (in_row c cs) t cs x.0 x.1 d.0 k.0 d.1 in
    let place : in_row c cs ≡ context_for inside c (b.0.1 ∷ []) = ap (λ u. context_for inside c (u ∷ [])) (sym f.2) in
    let change : IsTyped (context_for inside c (b.0.1 ∷ [])) d.0.0 d.0.1 = subst (λ v. Typed v d.0) place w.0 in
    subst (Typed c) (ok_is _ y d.2) (
      b.0.1 ∷ d.0.1 ∷ [],
      (b.0.1, d.0.1 ∷ [], refl, f.0, (d.0.1, [], refl, change, refl)),
      (cs, f.1, has, w.1, refl),
    )
update_to_typed c t cs a q (x ∷ z ∷ xs) y has h k e = absurd cc

pub update_if_typed : (n : Names) (c : Context) (a : Option (List ℕ)) (x : List ℕ) (q : JudgedPart) (qs : List JudgedPart) (y : Term × Shape) → Of n c →
    EachTyped (in_row c (target_columns n x)) (q ∷ qs) → update_if n (target a x ∷ q ∷ qs) ≡ Ok y → Typed c y
update_if_typed n c a x q qs y here h e =
    let v = then_ok (values qs) _ y e in
    let r = by_rows_ok (rows_named n x) (λ r. update_to r a q v.0) y v.2 in
    let k = subst (λ cs. EachTyped (in_row c cs) (q ∷ qs)) (columns_known n x r.0 r.1 r.2 r.4) h in
    subst (Typed c) r.6 (rows_typed n c x r.0 r.1 r.2 r.3 here r.4
    (λ has. update_to_typed c r.0 r.1 a q v.0 r.3 has (k.0, tt) (values_typed (in_row c r.1) qs v.0 v.1 k.1) r.5))

pub navigate_typed : (n : Names) (c : Context) (x : List ℕ) (qs : List JudgedPart) (y : Term × Shape) → c.screens ≡ length n.screens → navigate_of n x qs ≡ Ok y → Typed c y
navigate_typed n c x qs y here e =
    let s = if_known_ok (screen_named n x) (λ (s : ℕ × List ℕ). Ok (done_by (deed.Navigate s.0) [])) y e in
    let f = found (λ (s : List ℕ). bytes_eq s x) n.screens s.0 s.1 in
    subst (Typed c) (ok_is _ y s.2) ([], refl, (subst (λ m. s.0.0 < m) (sym here) (slice_get_within n.screens s.0.0 s.0.1 f.0), refl))

pub notify_typed : (c : Context) (xs : List (Term × Shape)) (y : Term × Shape) → AllTyped c xs → notify_of xs ≡ Ok y → Typed c y
notify_typed c [] y h e = absurd cc
notify_typed c (x ∷ []) y h e =
    let a = then_ok (by_way (way x.1 texts) x.0 texts) (λ z. Ok (done_by deed.Notify (z.0 ∷ []))) y e in
    let w = came c x.0 x.1 texts a.0 a.1 h.0 in
    subst (Typed c) (ok_is _ y a.2) (
    typed_by c (act deed.Notify) (a.0 ∷ []) booleans (λ m i. refl) (w.0, tt) (subst (λ u. DeedHasType c deed.Notify (cons a.0.0 nil) (u ∷ []) booleans) (sym w.1) refl)
    )
notify_typed c (x ∷ z ∷ xs) y h e = absurd cc

reset_by_typed : (c : Context) (k : ℕ) (o : Option Shape) (y : Term × Shape) → c.sources (source.Input k) ≡ o → reset_by k o ≡ Ok y → Typed c y
reset_by_typed c k (Some t) y h e = subst (Typed c) (ok_is _ y e) ([], refl, (ap is_some h, refl))
reset_by_typed c k None y h e = subst (Typed c) (ok_is _ y e) (nothing_typed c)

pub reset_typed : (n : Names) (c : Context) (x : List ℕ) (qs : List JudgedPart) (y : Term × Shape) → Of n c → reset_of n x qs ≡ Ok y → Typed c y
reset_typed n c x qs y here e =
    let v = if_known_ok (control_named n x) (λ (v : ℕ × ControlName). reset_by v.0 (input_type v.1.kind)) y e in
    let f = found (λ (v : ControlName). bytes_eq v.name x) n.controls v.0 v.1 in
    reset_by_typed c v.0.0 (input_type v.0.1.kind) y (here (source.Input v.0.0) ∙ ap (option_and_then (λ (v : ControlName). input_type v.kind)) f.0) v.2
