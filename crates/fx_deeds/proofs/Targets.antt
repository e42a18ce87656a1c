-- What can be done to tables, by the types that they have as sources.
use Rattle.std.proofs.Common.{◌≡◌, ℕ, List, ◌∷◌, true, Some, None, Result, ap, sym, subst, ◌∙◌}
use Rattle.std.specs.Prelude.{IfOk, IsSomeAnd}
use Rattle.std.specs.List.{find}
use Rattle.fx_types.specs.declared.values.Value.{Value}
use Rattle.fx_types.specs.Types.{Shape, ColumnList, records, tables}
use Rattle.fx_types.specs.Values.{Data}
use Rattle.fx_types.specs.ValueView.{view}
use Rattle.fx_env.specs.Scopes.{Fixed}
use Rattle.fx_tables.specs.Unions.{is_fault}
use Rattle.fx_core.specs.declared.deeds.Deed.TheVariants as deed
use Rattle.fx_core.specs.declared.deeds.Target.TheVariants as target
use Rattle.fx_core.specs.declared.names.Names.{Names}
use Rattle.fx_core.specs.declared.schema.TableShape.{TableShape}
use Rattle.fx_core.specs.declared.sources.Source.{Source}
use Rattle.fx_core.specs.SourceTypes.{columns_of, sources}
use Rattle.fx_typing.specs.LawfulTypes.{AreLawfulColumns}
use Rattle.fx_value.specs.Columns.{Row}
use Rattle.fx_value.specs.Fits.{fits_in}
use Rattle.fx_deeds.proofs.Deeding.{table_named}
use Rattle.fx_deeds.proofs.Patching.{can_each}
use Rattle.fx_deeds.specs.Deeds.{OfTable}
use Rattle.fx_deeds.specs.Doable.{AnswersAs, CanDo, CanUpdate}
use Rattle.fx_deeds.specs.Done.{errors_in}
use Rattle.fx_deeds.specs.Finding.{CanChangeEach, CanPatchRows}
use Rattle.fx_deeds.specs.Fitting.{AreOfSome}
use Rattle.fx_deeds.specs.RowValues.{columns_of_rows, rows_among}

module _ (f : Fixed) (n : Names) (k : ℕ) (typed : (x : Source) → f.types x ≡ sources n x) (shaped : f.schema ≡ n.schema) where
  -- what holds of the columns of the type holds of those of the table
  by_columns : (cs : ColumnList) (P : ColumnList → Type 0) → f.types (Rattle.fx_typing.specs.WellTyped.target_source (target.Table k)) ≡ Some (tables cs) → P cs → OfTable f.schema k (λ p. P (columns_of p))
  by_columns cs P h p =
      let t = table_named f n k cs typed shaped h in
      let same : columns_of t.0 ≡ cs = ap (λ z. columns_of_rows (Some z)) t.2 in
      subst (λ o. IsSomeAnd o (λ (q : TableShape). P (columns_of q))) (sym t.1) (subst P (sym same) p)

  pub can_patch : (b : Data) (ds : List Data) → CanDo f.types (deed.Patch (target.Table k)) (b ∷ ds) → OfTable f.schema k (λ p. CanPatchRows p (rows_among ds))
  can_patch b ds h = by_columns h.0 (λ cs. AreLawfulColumns cs × AreOfSome cs (rows_among ds)) h.1 (h.2, h.4)

  -- the answer of `Patch` is a row of the table
  pub patched_fits : {E : Type 0} (r : Result Value E) (u : Shape) → AnswersAs f.types (deed.Patch (target.Table k)) u → OfTable f.schema k (λ p. IfOk r (λ x. fits_in (view x) (records (columns_of p)) ≡ true)) →
      IfOk r (λ x. fits_in (view x) u ≡ true)
  patched_fits r u h j =
      let t = table_named f n k h.0 typed shaped h.1 in
      let same : columns_of t.0 ≡ h.0 = ap (λ z. columns_of_rows (Some z)) t.2 in
      let here = subst (λ o. IsSomeAnd o (λ (q : TableShape). IfOk r (λ x. fits_in (view x) (records (columns_of q)) ≡ true))) t.1 j in
      subst (λ z. IfOk r (λ x. fits_in (view x) z ≡ true)) (ap records same ∙ sym h.2) here

  pub can_update : (rows : List Row) (ds : List Data) → find is_fault (errors_in ds) ≡ None → CanUpdate f.types (target.Table k) rows ds → OfTable f.schema k (λ p. CanChangeEach p ds)
  can_update rows ds e h =
      let t = table_named f n k h.0 typed shaped h.1 in
      let same : columns_of t.0 ≡ h.0 = ap (λ z. columns_of_rows (Some z)) t.2 in
      subst (λ o. IsSomeAnd o (λ p. CanChangeEach p ds)) (sym t.1) (can_each t.0 (subst AreLawfulColumns (sym same) h.2) ds (subst (λ cs. AreOfSome cs (rows_among ds)) (sym same) h.4) e)
