-- Which deeds can be done with which values, and what type their answers have.
use Rattle.std.specs.Prelude.{◌≡◌, true, List, [], ◌∷◌, Some, IsSome}
use Rattle.fx_types.specs.Types.{Shape, ColumnList, booleans, records, tables}
use Rattle.fx_types.specs.Values.{Data}
use Rattle.fx_semantics.specs.Rows.{table_of}
use Rattle.fx_value.specs.Columns.{Row}
use Rattle.fx_core.specs.declared.deeds.Deed.{Deed}
use Rattle.fx_core.specs.declared.deeds.Deed.TheVariants as deed
use Rattle.fx_core.specs.declared.deeds.Target.{Target}
use Rattle.fx_core.specs.declared.deeds.Target.TheVariants as target
use Rattle.fx_core.specs.declared.sources.Source.TheVariants as source
use Rattle.fx_typing.specs.LawfulTypes.{AreLawfulColumns}
use Rattle.fx_typing.specs.WellTyped.{target_source}
use Rattle.fx_value.specs.Fits.{fits_in}
use Rattle.fx_deeds.specs.Fitting.{AreOfSome, CollectionCanTake, SourceCanTake, CanTakeAll}
use Rattle.fx_deeds.specs.Fitting.{IsOfColumns, SourceTypes}
use Rattle.fx_deeds.specs.RowValues.{rows_among}

-- the rows that change have these columns
abbrev pub RowsHaveColumns : SourceTypes → Target → ColumnList → Type 0
RowsHaveColumns types p cs = types (target_source p) ≡ Some (tables cs)

-- the base of `Patch`: on a table any record, in a collection one of its rows
abbrev pub IsBase : Target → ColumnList → Data → Type 0
IsBase (target.Table k) cs b = Unit {0}
IsBase (target.Gathered k) cs b = fits_in b (records cs) ≡ true

-- a deed with these values
abbrev pub CanDo : SourceTypes → Deed → List Data → Type 0
CanDo types (deed.Set k) (y ∷ []) = SourceCanTake types (source.Global k) y
CanDo types (deed.UpdateContext ks) ys = CanTakeAll types ks ys
CanDo types (deed.Collect k) ys = CollectionCanTake types k ys
CanDo types (deed.Clear k) [] = (cs : ColumnList) × IsOfColumns types k cs
CanDo types (deed.ClearCollect k) ys = CollectionCanTake types k ys
CanDo types (deed.Patch p) (b ∷ ys) = (cs : ColumnList) × RowsHaveColumns types p cs
    × AreLawfulColumns cs × IsBase p cs b × AreOfSome cs (rows_among ys)
CanDo types (deed.Remove p) ys = (cs : ColumnList) × RowsHaveColumns types p cs
CanDo types (deed.RemoveIf p) (y ∷ []) = (cs : ColumnList) × RowsHaveColumns types p cs
CanDo types (deed.Navigate k) [] = Unit {0}
CanDo types deed.Notify (y ∷ []) = Unit {0}
CanDo types (deed.Reset k) [] = IsSome (types (source.Input k))
CanDo types d ys = ⊥

-- `UpdateIf` with these rows of its filter, and a change of each
abbrev pub CanUpdate : SourceTypes → Target → List Row → List Data → Type 0
CanUpdate types p rows changes =
    (cs : ColumnList) × RowsHaveColumns types p cs × AreLawfulColumns cs
    × (fits_in (table_of rows) (tables cs) ≡ true) × AreOfSome cs (rows_among changes)

-- `Patch` answers a row, and all else true
abbrev pub AnswersAs : SourceTypes → Deed → Shape → Type 0
AnswersAs types (deed.Patch p) u = (cs : ColumnList) × RowsHaveColumns types p cs × (u ≡ records cs)
AnswersAs types d u = u ≡ booleans
