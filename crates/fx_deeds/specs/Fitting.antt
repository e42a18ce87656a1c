-- Which values deeds can take.
use Rattle.std.specs.Prelude.{◌≡◌, ℕ, true, List, [], ◌∷◌, Option, Some, slice_get, unwrap_or}
use Rattle.fx_types.specs.Lookup.{item_named}
use Rattle.fx_types.specs.Types.{Shape, ColumnList, no_columns, column, tables}
use Rattle.fx_types.specs.Values.{Data, blank, field_list}
use Rattle.fx_env.specs.Scopes.{Fixed}
use Rattle.fx_core.specs.declared.schema.TableShape.{TableShape}
use Rattle.fx_core.specs.declared.sources.Source.{Source}
use Rattle.fx_core.specs.declared.sources.Source.TheVariants as source
use Rattle.fx_core.specs.SourceTypes.{columns_of}
use Rattle.fx_semantics.specs.Rows.{rows_in}
use Rattle.fx_value.specs.Columns.{Row}
use Rattle.fx_typing.specs.LawfulTypes.{AreLawfulColumns}
use Rattle.fx_value.specs.Coercion.{CanWiden}
use Rattle.fx_value.specs.Fits.{fields_fit, fits_in}
use Rattle.fx_value.specs.Join.{union}
use Rattle.fx_deeds.specs.RowValues.{changed_value}

-- the types of sources
abbrev pub SourceTypes : Type 0
SourceTypes = Source → Option Shape

-- each table may be read, at its type
abbrev pub WorldReadsTables : Fixed → Type 0
WorldReadsTables fixed = (n : ℕ) (t : TableShape) → slice_get fixed.schema.tables n ≡ Some t
    → fixed.types (source.Table n) ≡ Some (tables (columns_of t))

-- a value of the source's type
abbrev pub SourceCanTake : SourceTypes → Source → Data → Type 0
SourceCanTake types x d = (t : Shape) × (types x ≡ Some t) × (fits_in d t ≡ true)

-- values for variables of a screen, one for each
abbrev pub CanTakeAll : SourceTypes → List Source → List Data → Type 0
CanTakeAll types [] [] = Unit {0}
CanTakeAll types (source.Context k ∷ ks) (d ∷ ds)
    = SourceCanTake types (source.Context k) d × CanTakeAll types ks ds
CanTakeAll types ks ds = ⊥

-- the first of these is a variable of a screen
abbrev pub IsOfScreen : List Source → Type 0
IsOfScreen (source.Context k ∷ ks) = Unit {0}
IsOfScreen ks = ⊥

-- a collection of rows of these columns
abbrev pub IsOfColumns : SourceTypes → ℕ → ColumnList → Type 0
IsOfColumns types k cs = types (source.Gathered k) ≡ Some (tables cs)

-- values of one type
abbrev pub AreOf : Shape → List Data → Type 0
AreOf t [] = Unit {0}
AreOf t (d ∷ ds) = (fits_in d t ≡ true) × AreOf t ds

-- each value of a row of these columns after changes can be one of its column's type
abbrev pub CanChange : ColumnList → List Row → Row → Type 0
CanChange no_columns changes r = Unit {0}
CanChange (column n t cs) changes r = CanWiden
    (changed_value n changes (unwrap_or (item_named n r) blank)) t × CanChange cs changes r

-- rows for a collection
abbrev pub CollectionCanTake : SourceTypes → ℕ → List Data → Type 0
CollectionCanTake types k ds = (cs : ColumnList) × IsOfColumns types k cs × AreOf (tables cs) ds

-- a record of some of these columns, whose types take its own
pub record IsOfSome (cs : ColumnList) (q : Row) : Type 0 where
  pub columns : ColumnList
  pub lawful : AreLawfulColumns columns
  pub takes : union cs columns ≡ Some cs
  pub fits : fields_fit (field_list q) columns ≡ true

abbrev pub AreOfSome : ColumnList → List Row → Type 0
AreOfSome cs [] = Unit {0}
AreOfSome cs (q ∷ qs) = IsOfSome cs q × AreOfSome cs qs

-- each of these rows can be changed by its change
abbrev pub CanChangeAll : ColumnList → List Row → List Data → Type 0
CanChangeAll cs [] ds = Unit {0}
CanChangeAll cs (r ∷ rs) [] = Unit {0}
CanChangeAll cs (r ∷ rs) (d ∷ ds) = CanChange cs (rows_in d) r × CanChangeAll cs rs ds
