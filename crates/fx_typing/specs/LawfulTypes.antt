-- Which types are lawful: those whose columns have rising names.
use Rattle.std.specs.Prelude.{ℕ, List}
use Rattle.fx_types.specs.Rising.{IsBelow}
use Rattle.fx_types.specs.Types.{Shape, records, tables, ColumnList, no_columns, column}

-- the name is below that of each of these columns
abbrev pub IsBelowColumns : List ℕ → ColumnList → Type 0
IsBelowColumns n no_columns = Unit {0}
IsBelowColumns n (column m t cs) = IsBelow n m × IsBelowColumns n cs

-- a type whose columns have rising names, at every depth
abbrev mutual
  pub IsLawfulType : Shape → Type 0
  IsLawfulType (records cs) = AreLawfulColumns cs
  IsLawfulType (tables cs) = AreLawfulColumns cs
  IsLawfulType t = Unit {0}

  pub AreLawfulColumns : ColumnList → Type 0
  AreLawfulColumns no_columns = Unit {0}
  AreLawfulColumns (column n t cs) = IsBelowColumns n cs × IsLawfulType t × AreLawfulColumns cs
