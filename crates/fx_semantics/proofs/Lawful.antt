-- The types of a typing have rising columns where those around, and those that the tree names, have.
use Rattle.std.proofs.Common.{◌≡◌, ℕ, zero, suc, List, [], ◌∷◌, ◌++◌, length, Bool, true, false, is_some, Option, Some, None, Result, Ok, Err, inl, inr, refl, sym, subst}
use Rattle.std.specs.Prelude.{bytes_eq, slice_get, if◌then◌else◌}
use Rattle.std.specs.Ordering.{nat_cmp, match_ordering}
use Rattle.std.specs.Cmp.Lexicographic.{slice_cmp}
use Rattle.std.specs.declared.cmp.Ordering.{Ordering}
use Rattle.std.specs.declared.cmp.Ordering.TheVariants.{Less, Equal, Greater}
use Rattle.fx_types.specs.Types.{Shape, blanks, numbers, texts, booleans, dates, records, tables, ColumnList, no_columns, column}
use Rattle.fx_core.specs.Rows.{form_row, row_of, shape_of, takes_count}
use Rattle.fx_core.specs.declared.functions.Form.{Form}
use Rattle.fx_core.specs.declared.functions.Form.TheVariants as form
use Rattle.fx_core.specs.declared.functions.Fun.{Fun}
use Rattle.fx_core.specs.declared.functions.Fun.TheVariants as fun
use Rattle.fx_core.specs.declared.rows.Answer.{Answer}
use Rattle.fx_core.specs.declared.rows.Answer.TheVariants as answer
use Rattle.fx_core.specs.declared.rows.Scalar.{Scalar}
use Rattle.fx_core.specs.declared.rows.Scalar.TheVariants.{Blank, Number, Text, Boolean, Date}
use Rattle.fx_core.specs.declared.rows.Takes.{Takes}
use Rattle.fx_core.specs.declared.sources.Source.{Source}
use Rattle.fx_core.specs.SourceTypes.{put_column}
use Rattle.fx_core.specs.Term.{Term, Terms, of, nil, cons, Top}
use Rattle.fx_core.specs.Term as top
use Rattle.fx_typing.specs.Columns.{added, are_keys, dropped, first_shared, grouped, grouped_by, label_of, last_label, names_there, out_of, columns_shown, ungrouped, with_group}
use Rattle.fx_core.specs.Rules as rules
use Rattle.fx_core.specs.ColumnLists.{and_then, before_last, field_in, if_free, if_there, is_one_of, row_columns, value_column, with_new, with_renamed}
use Rattle.fx_typing.specs.Columns as columns
use Rattle.fx_core.specs.ColumnLists as lists
use Rattle.fx_typing.specs.LawfulTypes.{AreLawfulColumns, IsLawfulType, IsBelowColumns}
use Rattle.fx_typing.specs.WellTyped.{Context, PartScope, plain, inside, bound, catching, Stands, AllStand, IsBelowNames, NamesRise, IsConstantType, IsRuled, IsTyped, AreTyped, answered_type, as_table, columns_by, context_for, first_type, typed_pairs, parts_count, row_type, standing_at, target_source}
use Rattle.fx_typing.proofs.Operators.{then_ok}
use Rattle.fx_value.proofs.Unions.{Under, Rises}
use Rattle.fx_semantics.specs.Sound.{AreLawfulTrees, AreLawfulTypes, AreLawfulTypings, IsLawfulContext, IsLawfulTree, IsLawfulTyping, NamesLawful, TypingsLawful}
use Rattle.fx_semantics.proofs.Branches.{if_branch, switch_branch}
use Rattle.fx_semantics.proofs.Columns.{fine, free_ok, label_ok, ok_is, rises_of, rises_without, there_ok}
use Rattle.fx_semantics.proofs.Over.{table_ok}
use Rattle.fx_semantics.proofs.Whole.{lawful_here}
use Rattle.fx_tables.proofs.FitColumns.{rises_put}

-- ---- columns

-- the types of columns are lawful
abbrev pub AreInner : ColumnList → Type 0
AreInner no_columns = Unit {0}
AreInner (column n t cs) = IsLawfulType t × AreInner cs

pub inner_of : (cs : ColumnList) → AreLawfulColumns cs → AreInner cs
inner_of no_columns l = tt
inner_of (column n t cs) l = (l.1, inner_of cs l.2)

pub is_under : (n : List ℕ) (cs : ColumnList) → Under n cs → IsBelowColumns n cs
is_under n no_columns u = tt
is_under n (column m t cs) u = (u.0, is_under n cs u.1)

pub lawful_by : (cs : ColumnList) → Rises cs → AreInner cs → AreLawfulColumns cs
lawful_by no_columns r i = tt
lawful_by (column n t cs) r i = (is_under n cs r.0, i.0, lawful_by cs r.1 i.1)

inner_put : (n : List ℕ) (u : Shape) (cs : ColumnList) → IsLawfulType u → AreInner cs → AreInner (put_column n u cs)
inner_put n u no_columns l i = (l, tt)
inner_put n u (column m t cs) l i = by (slice_cmp nat_cmp n m) (inner_put n u cs l i.1)
  where
    by : (o : Ordering) → AreInner (put_column n u cs) → AreInner (match_ordering o (column n u (column m t cs)) (column m u cs) (column m t (put_column n u cs)))
    by Less z = (l, i)
    by Equal z = (l, i.1)
    by Greater z = (i.0, z)

inner_without : (n : List ℕ) (cs : ColumnList) → AreInner cs → AreInner (lists.columns_without n cs)
inner_without n no_columns i = tt
inner_without n (column m t cs) i = by (bytes_eq m n) (inner_without n cs i.1)
  where
    by : (b : Bool) → AreInner (lists.columns_without n cs) → AreInner (if b then cs else column m t (lists.columns_without n cs))
    by true z = i.1
    by false z = (i.0, z)

inner_only : (ns : List (List ℕ)) (cs : ColumnList) → AreInner cs → AreInner (lists.columns_only ns cs)
inner_only ns no_columns i = tt
inner_only ns (column m t cs) i = by (is_one_of m ns) (inner_only ns cs i.1)
  where
    by : (b : Bool) → AreInner (lists.columns_only ns cs) → AreInner (if b then column m t (lists.columns_only ns cs) else lists.columns_only ns cs)
    by true z = (i.0, z)
    by false z = z

under_only : (k : List ℕ) (ns : List (List ℕ)) (cs : ColumnList) → Under k cs → Under k (lists.columns_only ns cs)
under_only k ns no_columns u = tt
under_only k ns (column m t cs) u = by (is_one_of m ns) (under_only k ns cs u.1)
  where
    by : (b : Bool) → Under k (lists.columns_only ns cs) → Under k (if b then column m t (lists.columns_only ns cs) else lists.columns_only ns cs)
    by true z = (u.0, z)
    by false z = z

rises_only : (ns : List (List ℕ)) (cs : ColumnList) → Rises cs → Rises (lists.columns_only ns cs)
rises_only ns no_columns r = tt
rises_only ns (column m t cs) r = by (is_one_of m ns) (rises_only ns cs r.1)
  where
    by : (b : Bool) → Rises (lists.columns_only ns cs) → Rises (if b then column m t (lists.columns_only ns cs) else lists.columns_only ns cs)
    by true z = (under_only m ns cs r.0, z)
    by false z = z

pub put_lawful : (n : List ℕ) (u : Shape) (cs : ColumnList) → IsLawfulType u → AreLawfulColumns cs → AreLawfulColumns (put_column n u cs)
put_lawful n u cs k l = lawful_by (put_column n u cs) (rises_put n u cs (rises_of cs l)) (inner_put n u cs k (inner_of cs l))

without_lawful : (n : List ℕ) (cs : ColumnList) → AreLawfulColumns cs → AreLawfulColumns (lists.columns_without n cs)
without_lawful n cs l = lawful_by (lists.columns_without n cs) (rises_without n cs (rises_of cs l)) (inner_without n cs (inner_of cs l))

only_lawful : (ns : List (List ℕ)) (cs : ColumnList) → AreLawfulColumns cs → AreLawfulColumns (lists.columns_only ns cs)
only_lawful ns cs l = lawful_by (lists.columns_only ns cs) (rises_only ns cs (rises_of cs l)) (inner_only ns cs (inner_of cs l))

field_lawful : (n : List ℕ) (cs : ColumnList) (t : Shape) → AreLawfulColumns cs → field_in n cs ≡ Some t → IsLawfulType t
field_lawful n no_columns t l e = absurd cc
field_lawful n (column m u cs) t l e = by (bytes_eq m n) (λ q. field_lawful n cs t l.2 q) e
  where
    by : (b : Bool) → (field_in n cs ≡ Some t → IsLawfulType t) → (if b then Some u else field_in n cs) ≡ Some t → IsLawfulType t
    by true k q = let same : u ≡ t = cc in subst IsLawfulType same l.1
    by false k q = k q

-- ---- what functions of columns make
abbrev pub ArePairsLawful : List (Term × Shape) → Type 0
ArePairsLawful [] = Unit {0}
ArePairsLawful (x ∷ xs) = IsLawfulType x.1 × ArePairsLawful xs

pairs_lawful : (ts : Terms) (us : List Shape) → AreLawfulTypes us → ArePairsLawful (typed_pairs ts us)
pairs_lawful nil us l = tt
pairs_lawful (cons t ts) [] l = tt
pairs_lawful (cons t ts) (u ∷ us) l = (l.0, pairs_lawful ts us l.1)

added_lawful : (xs : List (Term × Shape)) (cs es : ColumnList) → ArePairsLawful xs → AreLawfulColumns cs → added xs cs ≡ Ok es → AreLawfulColumns es
added_lawful [] cs es k l e = subst AreLawfulColumns (ok_is cs es e) l
added_lawful (x ∷ []) cs es k l e = subst AreLawfulColumns (ok_is cs es e) l
added_lawful (x ∷ f ∷ more) cs es k l e =
    let n = label_ok (label_of x.0) _ es e in
    let y = then_ok (with_new n.0 f.1 cs) _ es n.2 in
    let z = free_ok (field_in n.0 cs) (put_column n.0 f.1 cs) y.0 y.1 in
    added_lawful more y.0 es k.1.1 (subst AreLawfulColumns z.1 (put_lawful n.0 f.1 cs k.1.0 l)) y.2

without_all_lawful : (ns : List (List ℕ)) (cs : ColumnList) → AreLawfulColumns cs → AreLawfulColumns (lists.without_all ns cs)
without_all_lawful [] cs l = l
without_all_lawful (n ∷ ns) cs l = without_all_lawful ns (lists.columns_without n cs) (without_lawful n cs l)

dropped_lawful : (xs : List (Term × Shape)) (cs es : ColumnList) → AreLawfulColumns cs → dropped xs cs ≡ Ok es → AreLawfulColumns es
dropped_lawful xs cs es l e =
    let y = then_ok (names_there xs cs) _ es e in
    subst AreLawfulColumns (ok_is (lists.without_all y.0 cs) es y.2) (without_all_lawful y.0 cs l)

shown_lawful : (xs : List (Term × Shape)) (cs es : ColumnList) → AreLawfulColumns cs → columns_shown xs cs ≡ Ok es → AreLawfulColumns es
shown_lawful xs cs es l e =
    let y = then_ok (names_there xs cs) _ es e in
    subst AreLawfulColumns (ok_is (lists.columns_only y.0 cs) es y.2) (only_lawful y.0 cs l)

renamed_lawful : (xs : List (Term × Shape)) (cs es : ColumnList) → AreLawfulColumns cs → columns.columns_renamed xs cs ≡ Ok es → AreLawfulColumns es
renamed_lawful [] cs es l e = subst AreLawfulColumns (ok_is cs es e) l
renamed_lawful (x ∷ []) cs es l e = subst AreLawfulColumns (ok_is cs es e) l
renamed_lawful (x ∷ y ∷ more) cs es l e =
    let n = label_ok (label_of x.0) _ es e in
    let m = label_ok (label_of y.0) _ es n.2 in
    let d = then_ok (with_renamed n.0 m.0 cs) _ es m.2 in
    let t = then_ok (if_there (field_in n.0 cs)) _ d.0 d.1 in
    let w = free_ok (field_in m.0 cs) _ d.0 t.2 in
    let own = field_lawful n.0 cs t.0 l (there_ok (field_in n.0 cs) t.0 t.1) in
    renamed_lawful more d.0 es (subst AreLawfulColumns w.1 (put_lawful m.0 t.0 (lists.columns_without n.0 cs) own (without_lawful n.0 cs l))) d.2

-- groups beside their keys
grouped_lawful : (xs : List (Term × Shape)) (cs es : ColumnList) → AreLawfulColumns cs → grouped xs cs ≡ Ok es → AreLawfulColumns es
grouped_lawful xs cs es l e =
    let g = label_ok (last_label xs) _ es e in
    let y = then_ok (if_free (field_in g.0 cs) cs) (λ ds. grouped_by g.0 (before_last xs) ds) es g.2 in
    let z = free_ok (field_in g.0 cs) cs y.0 y.1 in
    by_test (are_keys (before_last xs) y.0) g.0 y.0 (subst AreLawfulColumns z.1 l) y.2
  where
    by_test : (b : Bool) (g : List ℕ) (ds : ColumnList) → AreLawfulColumns ds →
        (if b then and_then (names_there (before_last xs) ds) (λ ns. Ok (with_group g ns ds)) else Err 6) ≡ Ok es → AreLawfulColumns es
    by_test true g ds k q =
        let n = then_ok (names_there (before_last xs) ds) (λ ns. Ok (with_group g ns ds)) es q in
        subst AreLawfulColumns (ok_is (with_group g n.0 ds) es n.2)
        (put_lawful g (tables (lists.without_all n.0 ds)) (lists.columns_only n.0 ds) (without_all_lawful n.0 ds k) (only_lawful n.0 ds k))
    by_test false g ds k q = absurd cc

-- the columns of groups beside the others
joined_lawful : (ds cs : ColumnList) → AreInner ds → AreLawfulColumns cs → AreLawfulColumns (lists.joined_columns ds cs)
joined_lawful no_columns cs i l = l
joined_lawful (column n t ds) cs i l = joined_lawful ds (put_column n t cs) i.1 (put_lawful n t cs i.0 l)

out_lawful : (t : Shape) (cs es : ColumnList) → IsLawfulType t → AreLawfulColumns cs → out_of t cs ≡ Ok es → AreLawfulColumns es
out_lawful (tables ds) cs es k l e = by_shared (first_shared ds cs) e
  where
    by_shared : (o : Option (List ℕ)) → (if is_some o then Err rules.name_twice else Ok (lists.joined_columns ds cs)) ≡ Ok es → AreLawfulColumns es
    by_shared (Some n) q = absurd cc
    by_shared None q = subst AreLawfulColumns (ok_is (lists.joined_columns ds cs) es q) (joined_lawful ds cs (inner_of ds k) l)
out_lawful t cs es k l e = absurd cc

ungrouped_lawful : (xs : List (Term × Shape)) (cs es : ColumnList) → AreLawfulColumns cs → ungrouped xs cs ≡ Ok es → AreLawfulColumns es
ungrouped_lawful (x ∷ []) cs es l e =
    let g = label_ok (label_of x.0) _ es e in
    let t = then_ok (if_there (field_in g.0 cs)) _ es g.2 in
    out_lawful t.0 (lists.columns_without g.0 cs) es (field_lawful g.0 cs t.0 l (there_ok (field_in g.0 cs) t.0 t.1)) (without_lawful g.0 cs l) t.2
ungrouped_lawful xs cs es l e = absurd cc

-- ---- answers
scalar_lawful : (s : Scalar) → IsLawfulType (shape_of s)
scalar_lawful Blank = tt
scalar_lawful Number = tt
scalar_lawful Text = tt
scalar_lawful Boolean = tt
scalar_lawful Date = tt

row_lawful : (t : Shape) → IsLawfulType t → IsLawfulType (row_type t)
row_lawful (tables cs) l = l
row_lawful t l = tt

each_lawful : (t : Shape) → IsLawfulType t → AreLawfulColumns (row_columns t)
each_lawful (records cs) l = l
each_lawful t l = (tt, l, tt)

list_lawful : (t : Shape) → IsLawfulType t → IsLawfulType (tables (row_columns t))
list_lawful t l = each_lawful t l

abbrev IsCommon : Answer → Type 0
IsCommon answer.Common = Unit {0}
IsCommon a = ⊥

-- a type that is answered
is_lawful : (u t : Shape) → fine u ≡ fine t → IsLawfulType u → IsLawfulType t
is_lawful u t e l = subst IsLawfulType (ok_is u t e) l

table_lawful : (r : Result ColumnList ℕ) (t : Shape) → ((es : ColumnList) → r ≡ Ok es → AreLawfulColumns es) → as_table r ≡ Ok t → IsLawfulType t
table_lawful r t k e = let x = table_ok r t e in is_lawful (tables x.0) t x.2 (k x.0 x.1)

answer_lawful : (a : Answer) (common : Shape) (xs : List (Term × Shape)) (t : Shape) → (IsCommon a → IsLawfulType common) → ArePairsLawful xs →
    answered_type a common xs ≡ Ok t → IsLawfulType t
answer_lawful (answer.Scalar s) common xs t c l e = is_lawful (shape_of s) t e (scalar_lawful s)
answer_lawful answer.Same common [] t c l e = absurd cc
answer_lawful answer.Same common (x ∷ xs) t c l e = is_lawful x.1 t e l.0
answer_lawful answer.Row common [] t c l e = absurd cc
answer_lawful answer.Row common (x ∷ xs) t c l e = is_lawful (row_type x.1) t e (row_lawful x.1 l.0)
answer_lawful answer.Found common [] t c l e = absurd cc
answer_lawful answer.Found common (x ∷ []) t c l e = is_lawful (row_type x.1) t e (row_lawful x.1 l.0)
answer_lawful answer.Found common (x ∷ y ∷ []) t c l e = is_lawful (row_type x.1) t e (row_lawful x.1 l.0)
answer_lawful answer.Found common (x ∷ y ∷ z ∷ xs) t c l e = is_lawful z.1 t e l.1.1.0
answer_lawful answer.Common common xs t c l e = is_lawful common t e (c tt)
answer_lawful answer.Added common [] t c l e = absurd cc
answer_lawful answer.Added common ((x, tables cs) ∷ xs) t c l e = table_lawful (added xs cs) t (λ es q. added_lawful xs cs es l.1 l.0 q) e
answer_lawful answer.Added common ((x, u) ∷ xs) t c l e = absurd cc
answer_lawful answer.Dropped common [] t c l e = absurd cc
answer_lawful answer.Dropped common ((x, tables cs) ∷ xs) t c l e = table_lawful (dropped xs cs) t (λ es q. dropped_lawful xs cs es l.0 q) e
answer_lawful answer.Dropped common ((x, u) ∷ xs) t c l e = absurd cc
answer_lawful answer.Shown common [] t c l e = absurd cc
answer_lawful answer.Shown common ((x, tables cs) ∷ xs) t c l e = table_lawful (columns_shown xs cs) t (λ es q. shown_lawful xs cs es l.0 q) e
answer_lawful answer.Shown common ((x, u) ∷ xs) t c l e = absurd cc
answer_lawful answer.Renamed common [] t c l e = absurd cc
answer_lawful answer.Renamed common ((x, tables cs) ∷ xs) t c l e = table_lawful (columns.columns_renamed xs cs) t (λ es q. renamed_lawful xs cs es l.0 q) e
answer_lawful answer.Renamed common ((x, u) ∷ xs) t c l e = absurd cc
answer_lawful answer.Grouped common [] t c l e = absurd cc
answer_lawful answer.Grouped common ((x, tables cs) ∷ xs) t c l e = table_lawful (grouped xs cs) t (λ es q. grouped_lawful xs cs es l.0 q) e
answer_lawful answer.Grouped common ((x, u) ∷ xs) t c l e = absurd cc
answer_lawful answer.Ungrouped common [] t c l e = absurd cc
answer_lawful answer.Ungrouped common ((x, tables cs) ∷ xs) t c l e = table_lawful (ungrouped xs cs) t (λ es q. ungrouped_lawful xs cs es l.0 q) e
answer_lawful answer.Ungrouped common ((x, u) ∷ xs) t c l e = absurd cc
answer_lawful answer.Values common [] t c l e = absurd cc
answer_lawful answer.Values common (x ∷ []) t c l e = absurd cc
answer_lawful answer.Values common (x ∷ y ∷ xs) t c l e = is_lawful (tables (value_column y.1)) t e (tt, l.1.0, tt)
answer_lawful answer.Each common [] t c l e = absurd cc
answer_lawful answer.Each common (x ∷ []) t c l e = absurd cc
answer_lawful answer.Each common (x ∷ y ∷ xs) t c l e = is_lawful (tables (row_columns y.1)) t e (list_lawful y.1 l.1.0)

-- where branches have a common type, one of them stands
common_of : (f : Fun) (us : List Shape) (common : Shape) → takes_count (row_of f) (length us) ≡ true →
    AllStand (row_of f) (length us) 0 (first_type us) common us → AreLawfulTypes us → IsCommon (row_of f).answer → IsLawfulType common
common_of fun.Coalesce [] common n a l i = absurd cc
common_of fun.Coalesce (u ∷ us) common n a l i = subst IsLawfulType a.0 l.0
common_of f us common n a l i = absurd i

common_branch : (f : Form) (us : List Shape) (common : Shape) → takes_count (form_row f) (length us) ≡ true →
    AllStand (form_row f) (length us) 0 (first_type us) common us → AreLawfulTypes us → IsCommon (form_row f).answer → IsLawfulType common
common_branch form.All us common n a l i = absurd i
common_branch form.Any us common n a l i = absurd i
common_branch form.If [] common n a l i = absurd cc
common_branch form.If (u ∷ []) common n a l i = absurd cc
common_branch form.If (u ∷ v ∷ us) common n a l i =
    let P : Takes → Type 0 = λ k. Stands k u common v in
    let same : v ≡ common = subst P (if_branch (suc (suc (length us))) 0 refl) a.1.0 in
    subst IsLawfulType same l.1.0
common_branch form.Switch [] common n a l i = absurd cc
common_branch form.Switch (u ∷ []) common n a l i = absurd cc
common_branch form.Switch (u ∷ v ∷ []) common n a l i = absurd cc
common_branch form.Switch (u ∷ v ∷ w ∷ us) common n a l i =
    let P : Takes → Type 0 = λ k. Stands k u common w in
    let same : w ≡ common = subst P (switch_branch (suc (suc (suc (length us)))) 1 refl) a.1.1.0 in
    subst IsLawfulType same l.1.1.0
common_branch form.IfError [] common n a l i = absurd cc
common_branch form.IfError (u ∷ us) common n a l i = subst IsLawfulType a.0 l.0

-- ---- each node
pub constant_lawful : (c : Context) (t : Shape) → ((s : Source) (u : Shape) → c.sources s ≡ Some u → IsLawfulType u) → IsConstantType c t → IsLawfulType t
constant_lawful c t k (inl l) = l
constant_lawful c t k (inr r) = subst IsLawfulType (sym r.3) (k (target_source r.0) (tables r.1) r.2)

lawful_at : (ts : List Shape) (k : ℕ) (t : Shape) → AreLawfulTypes ts → slice_get ts k ≡ Some t → IsLawfulType t
lawful_at [] k t l e = absurd cc
lawful_at (u ∷ ts) zero t l e = let same : u ≡ t = cc in subst IsLawfulType same l.0
lawful_at (u ∷ ts) (suc k) t l e = lawful_at ts k t l.1 e

dot_lawful : (n : List ℕ) (us : List Shape) (c : Context) (ts : Terms) (t : Shape) → AreLawfulTypes us → IsRuled c (top.dot n) ts us t → IsLawfulType t
dot_lawful n [] c ts t l r = absurd r
dot_lawful n (records cs ∷ []) c ts t l r = field_lawful n cs t l.0 r
dot_lawful n (u ∷ []) c ts t l r = absurd cc
dot_lawful n (u ∷ v ∷ us) c ts t l r = absurd r

under_names : (n : List ℕ) (ns : List (List ℕ)) (us : List Shape) → IsBelowNames n ns → IsBelowColumns n (columns_by ns us)
under_names n [] us b = tt
under_names n (m ∷ ns) [] b = tt
under_names n (m ∷ ns) (u ∷ us) b = (b.0, under_names n ns us b.1)

record_lawful : (ns : List (List ℕ)) (us : List Shape) → NamesRise ns → AreLawfulTypes us → AreLawfulColumns (columns_by ns us)
record_lawful [] us r l = tt
record_lawful (n ∷ ns) [] r l = tt
record_lawful (n ∷ ns) (u ∷ us) r l = (under_names n ns us r.0, l.0, record_lawful ns us r.1 l.1)

within_lawful : (c : Context) (ts : Terms) (us : List Shape) (t : Shape) → AreLawfulTypes us → IsRuled c top.within ts us t → IsLawfulType t
within_lawful c ts (records ds ∷ u ∷ []) t l r = subst IsLawfulType (sym r) l.1.0
within_lawful c ts us t l r = absurd r

listed_lawful : (q : Shape) (c : Context) (ts : Terms) (us : List Shape) (t : Shape) → IsLawfulType q → IsRuled c (top.list q) ts us t → IsLawfulType t
listed_lawful (tables cs) c ts us t l r = absurd r
listed_lawful blanks c ts us t l r = subst IsLawfulType (sym r.1) (list_lawful blanks l)
listed_lawful numbers c ts us t l r = subst IsLawfulType (sym r.1) (list_lawful numbers l)
listed_lawful texts c ts us t l r = subst IsLawfulType (sym r.1) (list_lawful texts l)
listed_lawful booleans c ts us t l r = subst IsLawfulType (sym r.1) (list_lawful booleans l)
listed_lawful dates c ts us t l r = subst IsLawfulType (sym r.1) (list_lawful dates l)
listed_lawful (records cs) c ts us t l r = subst IsLawfulType (sym r.1) (list_lawful (records cs) l)

coerced_lawful : (q : Shape) (c : Context) (ts : Terms) (us : List Shape) (t : Shape) → IsLawfulType q → IsRuled c (top.coerce q) ts us t → IsLawfulType t
coerced_lawful blanks c ts (u ∷ []) t l r = subst IsLawfulType (sym r) l
coerced_lawful numbers c ts (u ∷ []) t l r = subst IsLawfulType (sym r.1) l
coerced_lawful texts c ts (u ∷ []) t l r = subst IsLawfulType (sym r.1) l
coerced_lawful booleans c ts (u ∷ []) t l r = subst IsLawfulType (sym r.1) l
coerced_lawful dates c ts (u ∷ []) t l r = subst IsLawfulType (sym r.1) l
coerced_lawful (records cs) c ts (u ∷ []) t l r = subst IsLawfulType (sym r.1) l
coerced_lawful (tables cs) c ts (u ∷ []) t l r = subst IsLawfulType (sym r.1) l
coerced_lawful q c ts us t l r = absurd r

node_lawful : (c : Context) (h : Top) (ts : Terms) (us : List Shape) (t : Shape) → IsLawfulContext c → NamesLawful h → AreLawfulTypes us → IsRuled c h ts us t → IsLawfulType t
node_lawful c (top.const d) ts us t k n l r = constant_lawful c t k.of_sources r.1
node_lawful c (top.read s) ts us t k n l r = k.of_sources s t r
node_lawful c (top.row i) ts us t k n l r = lawful_at c.rows i t k.of_scopes r
node_lawful c top.item ts us t k n l r = k.of_item t r
node_lawful c top.caught ts us t k n l r = subst IsLawfulType (sym r.1) ((refl, tt), tt, (tt, tt, tt))
node_lawful c (top.dot x) ts us t k n l r = dot_lawful x us c ts t l r
node_lawful c (top.call f) ts us t k n l r =
    answer_lawful (row_of f).answer r.1.1 (typed_pairs ts us) t (common_of f us r.1.1 r.1.0 r.1.2 l) (pairs_lawful ts us l) r.1.3
node_lawful c (top.over f) ts us t k n l r =
    answer_lawful (row_of f).answer r.1.1 (typed_pairs ts us) t (common_of f us r.1.1 r.1.0 r.1.2 l) (pairs_lawful ts us l) r.1.3
node_lawful c (top.user f) ts us t k n l r = k.of_functions f us t r
node_lawful c (top.form f) ts us t k n l r =
    answer_lawful (form_row f).answer r.1 (typed_pairs ts us) t (common_branch f us r.1 r.0 r.2 l) (pairs_lawful ts us l) r.3
node_lawful c top.within ts us t k n l r = within_lawful c ts us t l r
node_lawful c (top.rec ns) ts us t k n l r = subst IsLawfulType (sym r.2) (record_lawful ns us r.1 l)
node_lawful c (top.list q) ts us t k n l r = listed_lawful q c ts us t n r
node_lawful c (top.coerce q) ts us t k n l r = coerced_lawful q c ts us t n r
node_lawful c top.chain ts us t k n l r = absurd n
node_lawful c (top.act d) ts us t k n l r = absurd n

-- ---- whole trees
pub types_more : (ts : List Shape) (t : Shape) → AreLawfulTypes ts → IsLawfulType t → AreLawfulTypes (ts ++ t ∷ [])
types_more [] t l k = (k, tt)
types_more (u ∷ ts) t l k = (l.0, types_more ts t l.1 k)

pub context_lawful : (st : PartScope) (c : Context) (done : List Shape) → AreLawfulTypes done → IsLawfulContext c → IsLawfulContext (context_for st c done)
context_lawful inside c [] l k = k
context_lawful inside c (t ∷ ts) l k = record { of_sources = k.of_sources; of_scopes = types_more c.rows (row_type t) k.of_scopes (row_lawful t l.0); of_item = k.of_item; of_functions = k.of_functions }
context_lawful bound c [] l k = k
context_lawful bound c (t ∷ ts) l k = record { of_sources = k.of_sources; of_scopes = types_more c.rows t k.of_scopes l.0; of_item = k.of_item; of_functions = k.of_functions }
context_lawful catching c ts l k = record { of_sources = k.of_sources; of_scopes = k.of_scopes; of_item = k.of_item; of_functions = k.of_functions }
context_lawful plain c ts l k = k

own_types : (us : List Shape) (u : Shape) (vs : List Shape) → us ≡ u ∷ vs → IsLawfulType u → AreLawfulTypes vs → AreLawfulTypes us
own_types us u vs e l k = subst AreLawfulTypes (sym e) (l, k)

types_of : (c : Context) (h : Top) (n : ℕ) (done : List Shape) (ts : Terms) (us : List Shape) (w : AreTyped c h n done ts us) → AreLawfulTypings c h n done ts us w → AreLawfulTypes us
types_of c h n done nil us w l = subst AreLawfulTypes (sym w) tt
types_of c h n done (cons k ks) us w l =
    own_types us w.0 w.1 w.2 (lawful_here (context_for (standing_at h n (length done)) c done) k w.0 w.3 l.0)
    (types_of c h n (done ++ w.0 ∷ []) ks w.1 w.4 l.1)

mutual
  pub lawful : (c : Context) (t : Term) (s : Shape) (w : IsTyped c t s) → IsLawfulContext c → IsLawfulTree t → IsLawfulTyping c t s w
  lawful c (of h ts) s w k l =
      let parts = all_lawful c h (parts_count ts) [] ts w.0 w.1 tt k l.1 in
      (node_lawful c h ts w.0 s k l.0 (types_of c h (parts_count ts) [] ts w.0 w.1 parts) w.2, parts)

  pub all_lawful : (c : Context) (h : Top) (n : ℕ) (done : List Shape) (ts : Terms) (us : List Shape) (w : AreTyped c h n done ts us) → AreLawfulTypes done → IsLawfulContext c → AreLawfulTrees ts →
      AreLawfulTypings c h n done ts us w
  all_lawful c h n done nil us w d k l = tt
  all_lawful c h n done (cons t ts) us w d k l =
      let first = lawful (context_for (standing_at h n (length done)) c done) t w.0 w.3 (context_lawful (standing_at h n (length done)) c done d k) l.0 in (
        first,
        all_lawful c h n (done ++ w.0 ∷ []) ts w.1 w.4
            (types_more done w.0 d (lawful_here (context_for (standing_at h n (length done)) c done) t w.0 w.3 first)) k l.1,
      )

pub typings_lawful : TypingsLawful
typings_lawful c t s w k l = lawful c t s w k l
