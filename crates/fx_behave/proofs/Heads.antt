-- A tree that can be performed, by its head and as it is found.
use Rattle.std.proofs.Common.{◌≡◌, ℕ, List, [], ◌∷◌, true, Some, refl, ap, sym, subst, ◌∙◌}
use Rattle.fx_types.specs.Types.{Shape, blanks, numbers, texts, booleans, dates, records, tables}
use Rattle.fx_types.specs.Values.{Data}
use Rattle.fx_eval.proofs.Ways.{changed_coerces}
use Rattle.fx_env.specs.Scopes.{ScopeValues}
use Rattle.fx_semantics.specs.Sound.{IsLawfulType}
use Rattle.fx_tables.specs.RowCalls.{CanBeRowType}
use Rattle.fx_core.specs.Term.{Term, Terms, of, nil, cons, all, Top}
use Rattle.fx_core.specs.Term as top
use Rattle.fx_typing.specs.Columns.{field_shape}
use Rattle.fx_core.specs.ColumnLists.{row_columns}
use Rattle.fx_typing.specs.WellTyped.{AreAllOfShape, Context, IsRuled, plain, standing_at}
use Rattle.fx_value.specs.Coercion.{CanCoerce, HasCoercion}
use Rattle.fx_value.specs.Fits.{fits_in}
use Rattle.fx_deeds.specs.Fitting.{SourceTypes}
use Rattle.fx_behave.proofs.Actables.{all_actable, one_actable}
use Rattle.fx_behave.specs.Actable.{AreActable, CanAct, IsActable}

-- ---- as it is found

pub found : (types : SourceTypes) (s : ScopeValues) (t w : Term) → t ≡ w → (u : Shape) → IsActable types s w u → IsActable types s t u
found types s t w e u r = subst (λ (z : Term). IsActable types s z u) (sym e) r

pub found_at : (types : SourceTypes) (s : ScopeValues) (t w : Term) → t ≡ w → CanAct types s w → CanAct types s t
found_at types s t w e r = (r.0, found types s t w e r.0 r.1)

-- what the parts of a head can do, where they are found
pub parts_found : (P : Shape → List Term → Type 0) (types : SourceTypes) (s : ScopeValues) (k : Top) (ts xs : List Term) (w : Term) → ((u : Shape) → IsActable types s (of k (all ts)) u → P u ts) → of k (all ts) ≡ w → xs ≡ ts →
    (u : Shape) → IsActable types s w u → P u xs
parts_found P types s k ts xs w f e p u r = subst (λ (ys : List Term). P u ys) (sym p) (f u (found types s (of k (all ts)) w e u r))

-- ---- one part

one_found : (types : SourceTypes) (s : ScopeValues) (k : Top) (x t w : Term) → standing_at k 1 0 ≡ plain → of k (cons x nil) ≡ w → t ≡ x → (u : Shape) → (r : IsActable types s (of k (cons x nil)) u) → IsActable types s t r.typed.1.0
one_found types s k x t w p e q u r = subst (λ (z : Term). IsActable types s z r.typed.1.0) (sym q) (one_actable types s k x u p r)

-- the rule of a head, over the type of its one part
one_ruled : (types : SourceTypes) (s : ScopeValues) (k : Top) (x : Term) (u : Shape) → (r : IsActable types s (of k (cons x nil)) u) → IsRuled r.context k (cons x nil) (r.typed.1.0 ∷ []) u
one_ruled types s k x u r =
    subst (λ (us : List Shape). IsRuled r.context k (cons x nil) us u) (r.typed.1.2 ∙ ap (λ (us : List Shape). r.typed.1.0 ∷ us) r.typed.1.4) r.typed.2

pub dot_part : (types : SourceTypes) (s : ScopeValues) (n : List ℕ) (x t w : Term) → of (top.dot n) (cons x nil) ≡ w → t ≡ x → CanAct types s w → CanAct types s t
dot_part types s n x t w e p r = let k = found_at types s (of (top.dot n) (cons x nil)) w e r in (k.1.typed.1.0, one_found types s (top.dot n) x t w refl e p k.0 k.1)

pub dot_type : (types : SourceTypes) (s : ScopeValues) (n : List ℕ) (x t w : Term) → of (top.dot n) (cons x nil) ≡ w → t ≡ x → (u : Shape) → IsActable types s w u →
    (q : Shape) × IsActable types s t q × (field_shape n q ≡ Some u)
dot_type types s n x t w e p u r =
    let k = found types s (of (top.dot n) (cons x nil)) w e u r in
    (k.typed.1.0, one_found types s (top.dot n) x t w refl e p u k, one_ruled types s (top.dot n) x u k)

pub coerce_part : (types : SourceTypes) (s : ScopeValues) (to : Shape) (x t w : Term) → of (top.coerce to) (cons x nil) ≡ w → t ≡ x → CanAct types s w → CanAct types s t
coerce_part types s to x t w e p r = let k = found_at types s (of (top.coerce to) (cons x nil)) w e r in (k.1.typed.1.0, one_found types s (top.coerce to) x t w refl e p k.0 k.1)

coerces : (c : Context) (to : Shape) (ts : Terms) (u t : Shape) → IsRuled c (top.coerce to) ts (u ∷ []) t → HasCoercion u to
coerces c numbers ts u t h = changed_coerces u numbers h.0
coerces c texts ts u t h = changed_coerces u texts h.0
coerces c booleans ts u t h = changed_coerces u booleans h.0
coerces c dates ts u t h = changed_coerces u dates h.0
coerces c (records cs) ts u t h = changed_coerces u (records cs) h.0
coerces c (tables cs) ts u t h = changed_coerces u (tables cs) h.0
coerces c blanks ts blanks t h = tt
coerces c blanks ts numbers t h = tt
coerces c blanks ts texts t h = tt
coerces c blanks ts booleans t h = tt
coerces c blanks ts dates t h = tt
coerces c blanks ts (records cs) t h = tt
coerces c blanks ts (tables cs) t h = tt

coerced_type : (c : Context) (to : Shape) (ts : Terms) (u t : Shape) → IsRuled c (top.coerce to) ts (u ∷ []) t → t ≡ to
coerced_type c numbers ts u t h = h.1
coerced_type c texts ts u t h = h.1
coerced_type c booleans ts u t h = h.1
coerced_type c dates ts u t h = h.1
coerced_type c (records cs) ts u t h = h.1
coerced_type c (tables cs) ts u t h = h.1
coerced_type c blanks ts u t h = h

pub coerce_to : (types : SourceTypes) (s : ScopeValues) (to : Shape) (x t w : Term) → of (top.coerce to) (cons x nil) ≡ w → t ≡ x → (u : Shape) → IsActable types s w u → u ≡ to
coerce_to types s to x t w e p u r =
    let k = found types s (of (top.coerce to) (cons x nil)) w e u r in coerced_type k.context to (cons x nil) k.typed.1.0 u (one_ruled types s (top.coerce to) x u k)

pub coerce_can : (types : SourceTypes) (s : ScopeValues) (to : Shape) (x t w : Term) (d : Data) → of (top.coerce to) (cons x nil) ≡ w → t ≡ x → CanAct types s w → ((q : Shape) → IsActable types s t q → fits_in d q ≡ true) → CanCoerce d to
coerce_can types s to x t w d e p r fits =
    let k = found types s (of (top.coerce to) (cons x nil)) w e r.0 r.1 in
    record {
      from = k.typed.1.0;
      fitting = fits k.typed.1.0 (one_found types s (top.coerce to) x t w refl e p r.0 k);
      coercion = coerces k.context to (cons x nil) k.typed.1.0 r.0 (one_ruled types s (top.coerce to) x r.0 k);
    }

-- ---- lists

-- values of one type as rows
pub record IsListOf (types : SourceTypes) (s : ScopeValues) (q : Shape) (ts : List Term) (u : Shape) : Type 0 where
  pub types_of : List Shape
  pub rows : CanBeRowType q
  pub same : AreAllOfShape q types_of
  pub whole : u ≡ tables (row_columns q)
  pub parts : AreActable types s types_of ts

list_ruled : (c : Context) (q : Shape) (ts : Terms) (us : List Shape) (u : Shape) → IsRuled c (top.list q) ts us u → CanBeRowType q × AreAllOfShape q us × (u ≡ tables (row_columns q))
list_ruled c (tables cs) ts us u r = absurd r
list_ruled c blanks ts us u r = (tt, r.0, r.1)
list_ruled c numbers ts us u r = (tt, r.0, r.1)
list_ruled c texts ts us u r = (tt, r.0, r.1)
list_ruled c booleans ts us u r = (tt, r.0, r.1)
list_ruled c dates ts us u r = (tt, r.0, r.1)
list_ruled c (records cs) ts us u r = (tt, r.0, r.1)

pub list_there : (types : SourceTypes) (s : ScopeValues) (q : Shape) (ts xs : List Term) (w : Term) → of (top.list q) (all ts) ≡ w → xs ≡ ts → (u : Shape) → IsActable types s w u → IsListOf types s q xs u
list_there types s q ts xs w e p u r =
    let k = found types s (of (top.list q) (all ts)) w e u r in
    let h = list_ruled k.context q (all ts) k.typed.0 u k.typed.2 in
    record {
      types_of = k.typed.0;
      rows = h.0;
      same = h.1;
      whole = h.2;
      parts = subst (λ (ys : List Term). AreActable types s k.typed.0 ys) (sym p) (all_actable types s (top.list q) ts u (λ m i. refl) k);
    }

-- a type of rows whose table is lawful is so itself
pub row_lawful : (q : Shape) → CanBeRowType q → IsLawfulType (tables (row_columns q)) → IsLawfulType q
row_lawful blanks n l = tt
row_lawful numbers n l = tt
row_lawful texts n l = tt
row_lawful booleans n l = tt
row_lawful dates n l = tt
row_lawful (records cs) n l = l
row_lawful (tables cs) n l = absurd n

pub parts_are : (k : Top) (ts xs : List Term) (w : Term) → of k (all ts) ≡ w → xs ≡ ts → of k (all xs) ≡ w
parts_are k ts xs w e p = subst (λ (ys : List Term). of k (all ys) ≡ w) (sym p) e
