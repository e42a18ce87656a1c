-- The parts of `UpdateIf`: the filter, and the change in the scope of each row.
use Rattle.std.proofs.Common.{◌≡◌, ◌+◌, ◌≤◌, List, [], ◌∷◌, ◌++◌, true, Some, ap, sym, subst, ◌∙◌, arith}
use Rattle.fx_types.specs.Types.{Shape, ColumnList, booleans, tables}
use Rattle.fx_types.specs.Values.{Data}
use Rattle.fx_env.specs.Scopes.{ScopeValues}
use Rattle.fx_semantics.proofs.Tables.{RowsFit, rows_in_fit, table_fits}
use Rattle.fx_semantics.proofs.Whole.{lawful_here}
use Rattle.fx_semantics.specs.Rows.{rows_in, table_of}
use Rattle.fx_value.specs.Columns.{Row}
use Rattle.fx_core.specs.declared.deeds.Deed.TheVariants as deed
use Rattle.fx_core.specs.declared.deeds.Target.{Target}
use Rattle.fx_core.specs.Term.{Term, of, nil, cons, all, act, term_size, terms_size}
use Rattle.fx_typing.specs.LawfulTypes.{IsLawfulType}
use Rattle.fx_typing.specs.WellTyped.{Context, IsChange, DeedHasType, row_type, target_source}
use Rattle.fx_value.specs.Fits.{fits_in}
use Rattle.fx_deeds.specs.Doable.{CanUpdate}
use Rattle.fx_deeds.specs.Fitting.{AreOf, SourceTypes}
use Rattle.fx_behave.proofs.Actables.{Lawfully, inside_rows, part_there, two_types}
use Rattle.fx_behave.proofs.DeedParts.{all_of_some, filtered, there}
use Rattle.fx_behave.specs.Actable.{AreTwo, IsActable, IsActableInside}

-- the columns of the rows that change, and what the change and the whole are
record IsUpdating (c : Context) (p : Target) (w v u : Shape) : Type 0 where
  pub columns : ColumnList
  pub filter : w ≡ tables columns
  pub rows : c.sources (target_source p) ≡ Some (tables columns)
  pub change : IsChange p columns v
  pub whole : u ≡ booleans

same_columns : (x y : ColumnList) → ◌≡◌ {A = Shape} (tables x) (tables y) → x ≡ y
same_columns x y e = cc

same_shapes : (x y : Shape) → Some x ≡ Some y → x ≡ y
same_shapes x y e = cc

pub two_parts : (types : SourceTypes) (s : ScopeValues) (p : Target) (ts : List Term) (u : Shape) → IsActable types s (of (act (deed.UpdateIf p)) (all ts)) u → AreTwo ts
two_parts types s p [] u r = absurd r.typed.2
two_parts types s p (t ∷ []) u r = absurd r.typed.2
two_parts types s p (t ∷ f ∷ []) u r = tt
two_parts types s p (t ∷ f ∷ k ∷ ts) u r = absurd r.typed.2

module _ (types : SourceTypes) (s : ScopeValues) (p : Target) where
  -- ---- two parts

  updating : (t f : Term) (u : Shape) → (r : IsActable types s (of (act (deed.UpdateIf p)) (cons t (cons f nil))) u) → IsUpdating r.context p r.typed.1.0 r.typed.1.4.0 u
  updating t f u r =
      let w = r.typed.1.0 in
      let v = r.typed.1.4.0 in
      let h : DeedHasType r.context (deed.UpdateIf p) (cons t (cons f nil)) (w ∷ v ∷ []) u =
      subst (λ (us : List Shape). DeedHasType r.context (deed.UpdateIf p) (cons t (cons f nil)) us u) (two_types r.context (act (deed.UpdateIf p)) 2 t f r.typed.0 r.typed.1) r.typed.2 in
      let k = filtered r.context p t w h.1 r.typed.1.3 in
      let same : k.0 ≡ h.0 = same_columns k.0 h.0 (same_shapes (tables k.0) (tables h.0) (sym k.2 ∙ h.2)) in
      record { columns = h.0; filter = k.1 ∙ ap (λ (z : ColumnList). tables z) same; rows = h.2; change = h.3; whole = h.4 }

  filter_actable : (t f : Term) (u : Shape) → (r : IsActable types s (of (act (deed.UpdateIf p)) (cons t (cons f nil))) u) → IsActable types s t r.typed.1.0
  filter_actable t f u r = part_there types s r.context t r.typed.1.0 r.suits (r.typed.1.3, r.lawful.1.0) r.placed.1.0

  change_inside : (t f : Term) (u : Shape) → (r : IsActable types s (of (act (deed.UpdateIf p)) (cons t (cons f nil))) u) → (cs : ColumnList) → r.typed.1.0 ≡ tables cs →
      (rows : List Row) → RowsFit cs rows → IsActableInside types s r.typed.1.4.0 f rows
  change_inside t f u r cs e =
      inside_rows types s r.context f r.typed.1.4.0 cs r.suits
      (subst (λ (z : Shape). Lawfully (record (r.context) { rows = r.context.rows ++ row_type z ∷ [] }) f r.typed.1.4.0) e (r.typed.1.4.3, r.lawful.1.1.0)) r.placed.1.1.0

  can_update : (t f : Term) (u : Shape) → (r : IsActable types s (of (act (deed.UpdateIf p)) (cons t (cons f nil))) u) → (d : Data) → fits_in d r.typed.1.0 ≡ true →
      (taken : List Row) → taken ≡ rows_in d → (ds : List Data) → AreOf r.typed.1.4.0 ds → CanUpdate types p taken ds
  can_update t f u r d g taken q ds h =
      let k = updating t f u r in
      let fit : fits_in d (tables k.columns) ≡ true = subst (λ z. fits_in d z ≡ true) k.filter g in
      let lawful : IsLawfulType (tables k.columns) = subst IsLawfulType k.filter (lawful_here r.context t r.typed.1.0 r.typed.1.3 r.lawful.1.0) in (
        k.columns,
        there r.context types r.suits.sources (target_source p) (Some (tables k.columns)) k.rows,
        lawful,
        subst (λ z. fits_in (table_of z) (tables k.columns) ≡ true) (sym q) (table_fits k.columns (rows_in d) (rows_in_fit d k.columns fit)),
        all_of_some p k.columns r.typed.1.4.0 ds (lawful_here _ f r.typed.1.4.0 r.typed.1.4.3 r.lawful.1.1.0) k.change h,
      )

  -- ---- the parts as they are found

  pub with_two : (ts : List Term) (t f : Term) (u : Shape) → ts ≡ t ∷ f ∷ [] → IsActable types s (of (act (deed.UpdateIf p)) (all ts)) u → IsActable types s (of (act (deed.UpdateIf p)) (cons t (cons f nil))) u
  with_two ts t f u e r = subst (λ (z : List Term). IsActable types s (of (act (deed.UpdateIf p)) (all z)) u) e r

  pub whole_is : (ts : List Term) (u : Shape) → IsActable types s (of (act (deed.UpdateIf p)) (all ts)) u → u ≡ booleans
  whole_is [] u r = absurd r.typed.2
  whole_is (t ∷ []) u r = absurd r.typed.2
  whole_is (t ∷ f ∷ []) u r = (updating t f u r).whole
  whole_is (t ∷ f ∷ k ∷ ts) u r = absurd r.typed.2

  -- the filter
  pub filter_can : (ts : List Term) (t f : Term) (u : Shape) → ts ≡ t ∷ f ∷ [] → IsActable types s (of (act (deed.UpdateIf p)) (all ts)) u → (q : Shape) × IsActable types s t q
  filter_can ts t f u e r = let k = with_two ts t f u e r in (k.typed.1.0, filter_actable t f u k)

  -- its rows, in whose scopes the change stands, and the update that follows
  pub record IsChanging (t f : Term) (d : Data) (rows : List Row) : Type 0 where
    pub type : Shape
    pub inside : IsActableInside types s type f rows
    pub follows : (ds : List Data) → AreOf type ds → CanUpdate types p rows ds

  pub changing : (ts : List Term) (t f : Term) (u : Shape) → ts ≡ t ∷ f ∷ [] → IsActable types s (of (act (deed.UpdateIf p)) (all ts)) u → (d : Data) → ((q : Shape) → IsActable types s t q → fits_in d q ≡ true) →
      (rows taken : List Row) → rows ≡ rows_in d → taken ≡ rows → IsChanging t f d taken
  changing ts t f u e r d fits rows taken a b =
      let k = with_two ts t f u e r in
      let j = updating t f u k in
      let g : fits_in d k.typed.1.0 ≡ true = fits k.typed.1.0 (filter_actable t f u k) in
      let h : fits_in d (tables j.columns) ≡ true = subst (λ z. fits_in d z ≡ true) j.filter g in
      record {
        type = k.typed.1.4.0;
        inside = subst (λ z. IsActableInside types s k.typed.1.4.0 f z) (sym (b ∙ a)) (change_inside t f u k j.columns j.filter (rows_in d) (rows_in_fit d j.columns h));
        follows = λ ds q. can_update t f u k d g taken (b ∙ a) ds q;
      }

pub two_sizes : (ts : List Term) (t f : Term) → ts ≡ t ∷ f ∷ [] → term_size t + term_size f + 2 ≤ terms_size (all ts)
two_sizes ts t f e = let k : terms_size (all ts) ≡ terms_size (all (t ∷ f ∷ [])) = ap (λ (z : List Term). terms_size (all z)) e in omega (arith, k)
