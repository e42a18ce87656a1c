-- Acting calls are well typed.
use Rattle.std.proofs.Common.{◌≡◌, ℕ, List, [], ◌∷◌, Bool, true, false, map, Option, Some, None, Result, Ok, Err, refl, ap, sym, subst, ◌∙◌, inl, inr, if◌then◌else◌}
use Rattle.fx_types.specs.TypeView.{shape}
use Rattle.fx_types.specs.Types.{Shape, blanks, numbers, texts, booleans, dates, records, tables, ColumnList, no_columns}
use Rattle.fx_types.specs.Values.{rec, no_fields}
use Rattle.fx_core.specs.declared.deeds.Deed.{Deed}
use Rattle.fx_core.specs.declared.deeds.Deed.TheVariants as deed
use Rattle.fx_core.specs.declared.deeds.Target.{Target}
use Rattle.fx_core.specs.declared.deeds.Target.TheVariants as rows
use Rattle.fx_core.specs.declared.sources.Source.{Source}
use Rattle.fx_core.specs.declared.sources.Source.TheVariants as source
use Rattle.fx_core.specs.declared.names.Collection.{Collection}
use Rattle.fx_core.specs.declared.names.Names.{Names}
use Rattle.fx_core.specs.declared.names.Variable.{Variable}
use Rattle.fx_core.specs.declared.schema.TableShape.{TableShape}
use Rattle.fx_core.specs.SourceTypes.{columns_of, sources}
use Rattle.fx_core.specs.Term.{Term, of, nil, const, list, chain, act}
use Rattle.fx_core.specs.ColumnLists.{row_columns}
use Rattle.fx_typing.specs.Local.{by_way, firsts, put_first}
use Rattle.fx_typing.specs.WellTyped.{Context, AreAllOfShape, target_source, HasColumns, IsTyped}
use Rattle.fx_typing.specs.Ways.{way}
use Rattle.fx_typing.proofs.Rules.{Typed, put_ok}
use Rattle.fx_typing.specs.Builds.{types_of}
use Rattle.fx_typing.specs.Deeds.{as_rows, done_by, nothing_as, nothing_done, joins_to, given_variable, by_first_name, if_known, by_rows, by_columns, set_to, set_of, give_one, give_all, given_sources, given_terms, update_of, rows_collected, rows_given, collect_to, collect_of, clear_by, clear_of}
use Rattle.fx_typing.specs.Parts.{JudgedPart, target, assigned, values}
use Rattle.fx_typing.specs.Targets.{AreRows, some_table, no_table, global_variable, screen_variable, collection_named, table_named, rows_named}
use Rattle.fx_typing.proofs.Frame.{AllTyped}
use Rattle.fx_typing.proofs.Names.{or_cases, global_read, context_read, gathered_read, table_read}
use Rattle.fx_typing.proofs.Operators.{then_ok}
use Rattle.fx_typing.proofs.Steps.{lowest_ok, option_map_some, came, EachTyped, values_typed, typed_by}
use Rattle.fx_typing.proofs.RelatedSteps.{ok_is}

-- the surroundings of these names
abbrev pub Of : Names → Context → Type 0
Of n c = (s : Source) → c.sources s ≡ sources n s

-- the parts of an acting call
pub by_name_ok : (qs : List JudgedPart) (go : List ℕ → List JudgedPart → Result (Term × Shape) ℕ) (y : Term × Shape) → by_first_name qs go ≡ Ok y →
    (x : List ℕ) × (more : List JudgedPart) × (qs ≡ target None x ∷ more) × (go x more ≡ Ok y)
by_name_ok (target None x ∷ qs) go y e = (x, qs, refl, e)
by_name_ok qs go y e = absurd cc

pub if_known_ok : {A : Type 0} (o : Option A) (go : A → Result (Term × Shape) ℕ) (y : Term × Shape) → if_known o go ≡ Ok y → (a : A) × (o ≡ Some a) × (go a ≡ Ok y)
if_known_ok (Some a) go y e = (a, refl, e)
if_known_ok None go y e = absurd cc

-- the rows of a name, and what was made of them
abbrev pub IsRows : Option (Target × Shape) → (Target × ColumnList → Result (Term × Shape) ℕ) → Term × Shape → Type 0
IsRows o go y = (t : Target) × (cs : ColumnList) × (blank : Bool) × (z : Term × Shape) × AreRows o t cs blank × (go (t, cs) ≡ Ok z) × (as_rows blank z ≡ y)

by_rows_at : (t : Target) (u : Shape) (go : Target × ColumnList → Result (Term × Shape) ℕ) (y : Term × Shape) → by_rows (Some (t, u)) go ≡ Ok y → IsRows (Some (t, u)) go y
by_rows_at t (tables cs) go y e = (t, cs, false, y, some_table refl, e, refl)
by_rows_at t blanks go y e =
    let a = then_ok (go (t, no_columns)) (λ z. Ok (as_rows true z)) y e in
    (t, no_columns, true, a.0, no_table refl, a.1, ok_is (as_rows true a.0) y a.2)
by_rows_at t u go y e = absurd cc

pub by_rows_ok : (o : Option (Target × Shape)) (go : Target × ColumnList → Result (Term × Shape) ℕ) (y : Term × Shape) → by_rows o go ≡ Ok y → IsRows o go y
by_rows_ok (Some r) go y e = by_rows_at r.0 r.1 go y e
by_rows_ok None go y e = absurd cc

-- their columns, and what was made of these
abbrev pub HasRows : Option (Target × Shape) → (ColumnList → Result (Term × Shape) ℕ) → Term × Shape → Type 0
HasRows o go y = (t : Target) × (cs : ColumnList) × (blank : Bool) × AreRows o t cs blank × (go cs ≡ Ok y)

by_columns_at : (t : Target) (u : Shape) (go : ColumnList → Result (Term × Shape) ℕ) (y : Term × Shape) → by_columns (Some (t, u)) go ≡ Ok y → HasRows (Some (t, u)) go y
by_columns_at t (tables cs) go y e = (t, cs, false, some_table refl, e)
by_columns_at t blanks go y e = (t, no_columns, true, no_table refl, e)
by_columns_at t u go y e = absurd cc

pub by_columns_ok : (o : Option (Target × Shape)) (go : ColumnList → Result (Term × Shape) ℕ) (y : Term × Shape) → by_columns o go ≡ Ok y → HasRows o go y
by_columns_ok (Some r) go y e = by_columns_at r.0 r.1 go y e
by_columns_ok None go y e = absurd cc

pub has_columns : (n : Names) (x : List ℕ) (t : Target) (cs : ColumnList) → rows_named n x ≡ Some (t, tables cs) → sources n (target_source t) ≡ Some (tables cs)
has_columns n x t cs e =
    elim (or_cases _ _ (t, tables cs) e) [
      | inl i ↦ (let a = option_map_some (λ (t : ℕ × TableShape). (rows.Table t.0, tables (columns_of t.1))) (table_named n x) (t, tables cs) i in
          subst (λ (z : Target × Shape). sources n (target_source z.0) ≡ Some z.1) a.2 (table_read n x a.0 a.1))
      | inr i ↦ (let a = option_map_some (λ (c : ℕ × Collection). (rows.Gathered c.0, shape c.1.ty)) (collection_named n x) (t, tables cs) i in
          subst (λ (z : Target × Shape). sources n (target_source z.0) ≡ Some z.1) a.2 (gathered_read n x a.0 a.1))
    ]

-- a deed that changes nothing, and what is answered where rows are none
pub nothing_typed : (c : Context) → Typed c nothing_done
nothing_typed c = typed_by c (act (deed.UpdateContext [])) [] booleans (λ m k. refl) tt (refl, refl)

nothing_as_typed : (c : Context) (t : Shape) → Typed c (nothing_as t)
nothing_as_typed c (records ds) =
    let row : Typed c (of (const (rec no_fields)) nil, records no_columns) = ([], refl, (refl, inl tt)) in
    typed_by c chain (nothing_done ∷ (of (const (rec no_fields)) nil, records no_columns) ∷ []) (records no_columns) (λ m k. refl) (nothing_typed c, (row, tt)) refl
nothing_as_typed c t = nothing_typed c

-- what is made of rows is well typed, where it is so of rows that are there
pub rows_typed : (n : Names) (c : Context) (x : List ℕ) (t : Target) (cs : ColumnList) (blank : Bool) (z : Term × Shape) → Of n c → AreRows (rows_named n x) t cs blank →
    (HasColumns c t cs → Typed c z) → Typed c (as_rows blank z)
rows_typed n c x t cs blank z here (some_table i) typed = typed (here (target_source t) ∙ has_columns n x t cs i)
rows_typed n c x t cs blank z here (no_table i) typed = nothing_as_typed c z.1

-- a value that is given to a variable
if_joins : {A : Type 0} (b : Bool) (r q : Result A ℕ) (y : A) → (if b then r else q) ≡ Ok y → (b ≡ false → q ≡ Ok y → ⊥) → (b ≡ true) × (r ≡ Ok y)
if_joins true r q y e h = (refl, e)
if_joins false r q y e h = absurd (h refl e)

never_ok : {A : Type 0} (k : ℕ) (y : A) → ◌≡◌ {A = Result A ℕ} (Err k) (Ok y) → ⊥
never_ok k y e = cc

abbrev Given : Context → Shape → Term × Shape → Term × Shape → Type 0
Given c t x y = Typed c y × (y.1 ≡ t) × (joins_to t x.1 ≡ true)

given_typed : (c : Context) (t : Shape) (x y : Term × Shape) → Typed c x → given_variable t x ≡ Ok y → Given c t x y
given_typed c t x y h e =
    let j = if_joins (joins_to t x.1) (by_way (way x.1 t) x.0 t) (Err 11) y e (λ i k. never_ok 11 y k) in
    let w = came c x.0 x.1 t y j.1 h in
    (w.0, w.1, j.0)

pub set_typed : (n : Names) (c : Context) (x : List ℕ) (qs : List JudgedPart) (y : Term × Shape) → Of n c → EachTyped c qs → set_of n x qs ≡ Ok y → Typed c y
set_typed n c x qs y here h e =
    let a = then_ok (values qs) _ y e in
    let v = if_known_ok (global_variable n x) (λ v. set_to v a.0) y a.2 in
    by_values a.0 (values_typed c qs a.0 a.1 h) v.0 v.1 v.2
  where
    by_values : (xs : List (Term × Shape)) → AllTyped c xs → (v : ℕ × Variable) → global_variable n x ≡ Some v → set_to v xs ≡ Ok y → Typed c y
    by_values [] t v i j = absurd cc
    by_values (x1 ∷ []) t v i j =
        let g = then_ok (given_variable (shape v.1.ty) x1) (λ z. Ok (done_by (deed.Set v.0) (z.0 ∷ []))) y j in
        let w = given_typed c (shape v.1.ty) x1 g.0 t.0 g.1 in
        subst (Typed c) (ok_is _ y g.2) (
        typed_by c (act (deed.Set v.0)) (g.0 ∷ []) booleans (λ m k. refl) (w.0, tt) (here (source.Global v.0) ∙ global_read n x v i ∙ ap (λ u. Some u) (sym w.1), refl)
        )
    by_values (x1 ∷ x2 ∷ xs) t v i j = absurd cc

-- the variables of a screen
abbrev Gave : Context → List (Source × Term) → Type 0
Gave c gs =
    (ys : List (Term × Shape)) × (firsts ys ≡ given_terms gs) × AllTyped c ys × (map c.sources (given_sources gs) ≡ map (λ u. Some u) (types_of ys))

abbrev GaveOne : Context → Source × Term → Type 0
GaveOne c g = (y : Term × Shape) × (y.0 ≡ g.1) × Typed c y × (c.sources g.0 ≡ Some y.1)

all_given_typed : (n : Names) (c : Context) (s : Option ℕ) (ms : List (List ℕ)) (xs : List (Term × Shape)) (gs : List (Source × Term)) → Of n c → AllTyped c xs →
    give_all n s ms xs ≡ Ok gs → Gave c gs
all_given_typed n c s [] xs gs here h e = let k : [] ≡ gs = cc in subst (Gave c) k ([], refl, tt, refl)
all_given_typed n c s (m ∷ ms) [] gs here h e = let k : [] ≡ gs = cc in subst (Gave c) k ([], refl, tt, refl)
all_given_typed n c s (m ∷ ms) (x ∷ xs) gs here h e =
    let a = lowest_ok _ (give_one (screen_variable n s m) x) (give_all n s ms xs) gs e in
    let one = by_variable (screen_variable n s m) refl a.0 a.1 in
    let more = all_given_typed n c s ms xs a.2 here h.1 a.3 in
    subst (Gave c) a.4 (one.0 ∷ more.0, λ k. one.1 k ∷ more.1 k, (one.2, more.2), λ k. one.3 k ∷ more.3 k)
  where
    by_variable : (o : Option (ℕ × Variable)) → screen_variable n s m ≡ o → (g : Source × Term) → give_one o x ≡ Ok g → GaveOne c g
    by_variable (Some v) i g j =
        let r = then_ok (given_variable (shape v.1.ty) x) (λ y. Ok (source.Context v.0, y.0)) g j in
        let w = given_typed c (shape v.1.ty) x r.0 h.0 r.1 in
        subst (GaveOne c) (ok_is _ g r.2) (r.0, refl, w.0, here (source.Context v.0) ∙ context_read n s m v i ∙ ap (λ u. Some u) (sym w.1))
    by_variable None i g j = absurd cc

pub update_typed : (n : Names) (c : Context) (s : Option ℕ) (qs : List JudgedPart) (y : Term × Shape) → Of n c → EachTyped c qs → update_of n s qs ≡ Ok y → Typed c y
update_typed n c (Some s) (assigned ms xs ∷ []) y here h e =
    let a = then_ok (give_all n (Some s) ms xs) (λ gs. Ok (done_by (deed.UpdateContext (given_sources gs)) (given_terms gs))) y e in
    let g = all_given_typed n c (Some s) ms xs a.0 here h.0 a.1 in
    subst (Typed c) (ok_is _ y a.2) (
    subst (λ ts. Typed c (done_by (deed.UpdateContext (given_sources a.0)) ts)) g.1
    (typed_by c (act (deed.UpdateContext (given_sources a.0))) g.0 booleans (λ m k. refl) g.2 (g.3, refl))
    )
update_typed n c s qs y here h e = absurd cc

-- collected values as rows
one_row : (c : Context) (k : Term) (t : Shape) → IsTyped c k t → Typed c (rows_collected (k, t))
one_row c k (tables cs) h = h
one_row c k blanks h = typed_by c (list blanks) ((k, blanks) ∷ []) (tables (row_columns blanks)) (λ m i. refl) (h, tt) ((refl, tt), refl)
one_row c k numbers h = typed_by c (list numbers) ((k, numbers) ∷ []) (tables (row_columns numbers)) (λ m i. refl) (h, tt) ((refl, tt), refl)
one_row c k texts h = typed_by c (list texts) ((k, texts) ∷ []) (tables (row_columns texts)) (λ m i. refl) (h, tt) ((refl, tt), refl)
one_row c k booleans h = typed_by c (list booleans) ((k, booleans) ∷ []) (tables (row_columns booleans)) (λ m i. refl) (h, tt) ((refl, tt), refl)
one_row c k dates h = typed_by c (list dates) ((k, dates) ∷ []) (tables (row_columns dates)) (λ m i. refl) (h, tt) ((refl, tt), refl)
one_row c k (records cs) h = typed_by c (list (records cs)) ((k, records cs) ∷ []) (tables (row_columns (records cs))) (λ m i. refl) (h, tt) ((refl, tt), refl)

rows_are : (k : Term) (t : Shape) → (cs : ColumnList) × ((rows_collected (k, t)).1 ≡ tables cs)
rows_are k (tables cs) = (cs, refl)
rows_are k blanks = (row_columns blanks, refl)
rows_are k numbers = (row_columns numbers, refl)
rows_are k texts = (row_columns texts, refl)
rows_are k booleans = (row_columns booleans, refl)
rows_are k dates = (row_columns dates, refl)
rows_are k (records cs) = (row_columns (records cs), refl)

-- what rows join to is a table
pub joins_rows : (t : Shape) (ds : ColumnList) → joins_to t (tables ds) ≡ true → (cs : ColumnList) × (t ≡ tables cs)
joins_rows (tables cs) ds e = (cs, refl)
joins_rows blanks ds e = absurd cc
joins_rows numbers ds e = absurd cc
joins_rows texts ds e = absurd cc
joins_rows booleans ds e = absurd cc
joins_rows dates ds e = absurd cc
joins_rows (records cs) ds e = absurd cc

given_rows : (c : Context) (t : Shape) (xs ys : List (Term × Shape)) → AllTyped c xs → rows_given t xs ≡ Ok ys → AllTyped c ys × AreAllOfShape t (types_of ys)
given_rows c t [] ys h e = let k : [] ≡ ys = cc in subst (λ (zs : List (Term × Shape)). AllTyped c zs × AreAllOfShape t (types_of zs)) k (tt, tt)
given_rows c t (x ∷ xs) ys h e =
    let a = then_ok (given_variable t (rows_collected x)) (λ y. put_first y (rows_given t xs)) ys e in
    let b = put_ok a.0 (rows_given t xs) ys a.2 in
    let one = given_typed c t (rows_collected x) a.0 (one_row c x.0 x.1 h.0) a.1 in
    let more = given_rows c t xs b.0 h.1 b.1 in
    subst (λ (zs : List (Term × Shape)). AllTyped c zs × AreAllOfShape t (types_of zs)) (sym b.2) ((one.0, more.0), (one.1, more.1))

-- a deed of rows of a collection
abbrev pub Gathers : (ℕ → Deed) → Type 0
Gathers d = (c : Context) (k : ℕ) (ds : ColumnList) (ys : List (Term × Shape)) → HasColumns c (rows.Gathered k) ds → AllTyped c ys → AreAllOfShape (tables ds) (types_of ys) →
    Typed c (done_by (d k) (firsts ys))

pub collects : Gathers deed.Collect
collects c k ds ys h t a = typed_by c (act (deed.Collect k)) ys booleans (λ m i. refl) t (ds, h, a, refl)

pub clears_and_collects : Gathers deed.ClearCollect
clears_and_collects c k ds ys h t a = typed_by c (act (deed.ClearCollect k)) ys booleans (λ m i. refl) t (ds, h, a, refl)

pub collect_typed : (d : ℕ → Deed) → Gathers d → (n : Names) (c : Context) (x : List ℕ) (qs : List JudgedPart) (y : Term × Shape) → Of n c → EachTyped c qs →
    collect_of d n x qs ≡ Ok y → Typed c y
collect_typed d gathers n c x qs y here h e =
    let a = then_ok (values qs) _ y e in
    let v = if_known_ok (collection_named n x) (λ v. collect_to d v a.0) y a.2 in
    by_values a.0 (values_typed c qs a.0 a.1 h) v.0 v.1 v.2
  where
    by_values : (xs : List (Term × Shape)) → AllTyped c xs → (v : ℕ × Collection) → collection_named n x ≡ Some v → collect_to d v xs ≡ Ok y → Typed c y
    by_values [] t v i j = absurd cc
    by_values (x1 ∷ xs) t v i j =
        let g = then_ok (rows_given (shape v.1.ty) (x1 ∷ xs)) (λ ys. Ok (done_by (d v.0) (firsts ys))) y j in
        let first = then_ok (given_variable (shape v.1.ty) (rows_collected x1)) (λ y. put_first y (rows_given (shape v.1.ty) xs)) g.0 g.1 in
        let one = given_typed c (shape v.1.ty) (rows_collected x1) first.0 (one_row c x1.0 x1.1 t.0) first.1 in
        let r = rows_are x1.0 x1.1 in
        let ds = joins_rows (shape v.1.ty) r.0 (subst (λ u. joins_to (shape v.1.ty) u ≡ true) r.1 one.2) in
        let rows = given_rows c (shape v.1.ty) (x1 ∷ xs) g.0 t g.1 in
        subst (Typed c) (ok_is _ y g.2) (
        gathers c v.0 ds.0 g.0 (here (source.Gathered v.0) ∙ gathered_read n x v i ∙ ap (λ u. Some u) ds.1) rows.0
        (subst (λ u. AreAllOfShape u (types_of g.0)) ds.1 rows.1)
        )

clear_by_typed : (c : Context) (k : ℕ) (t : Shape) (y : Term × Shape) → c.sources (source.Gathered k) ≡ Some t → clear_by k t ≡ Ok y → Typed c y
clear_by_typed c k (tables cs) y h e = subst (Typed c) (ok_is _ y e) ([], refl, (cs, h, refl))
clear_by_typed c k blanks y h e = subst (Typed c) (ok_is _ y e) (nothing_typed c)
clear_by_typed c k numbers y h e = absurd cc
clear_by_typed c k texts y h e = absurd cc
clear_by_typed c k booleans y h e = absurd cc
clear_by_typed c k dates y h e = absurd cc
clear_by_typed c k (records cs) y h e = absurd cc

pub clear_typed : (n : Names) (c : Context) (x : List ℕ) (qs : List JudgedPart) (y : Term × Shape) → Of n c → clear_of n x qs ≡ Ok y → Typed c y
clear_typed n c x qs y here e =
    let v = if_known_ok (collection_named n x) (λ (v : ℕ × Collection). clear_by v.0 (shape v.1.ty)) y e in
    clear_by_typed c v.0.0 (shape v.0.1.ty) y (here (source.Gathered v.0.0) ∙ gathered_read n x v.0 v.1) v.2
