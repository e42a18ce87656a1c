-- What is answered for rows, in its parts.
use Rattle.std.proofs.Common.{◌≡◌, ℕ, zero, suc, ◌≤◌, arith, length, List, [], ◌∷◌, Some, refl, ap, sym, ◌∙◌}
use Rattle.std.specs.Prelude.{slice_get}
use Rattle.fx_types.specs.Values.{Data}
use Rattle.fx_semantics.proofs.RowsBack.{rows_back}
use Rattle.fx_semantics.specs.Rows.{rows_in, table_of}
use Rattle.fx_core.specs.declared.schema.Column.{Column}
use Rattle.fx_value.specs.Columns.{Row}
use Rattle.fx_deeds.specs.Finding.{first_cells}
use Rattle.fx_deeds.specs.RowValues.{cells_in, column_name}

-- ---- the names of columns

pub name_there : (cs : List Column) (k : ℕ) (c : Column) → slice_get cs k ≡ Some c → c.name ≡ column_name cs (Some (suc k))
name_there [] k c e = absurd cc
name_there (d ∷ cs) zero c e = let same : d ≡ c = cc in ap (λ (z : Column). z.name) (sym same)
name_there (d ∷ cs) (suc k) c e = name_there cs k c e

pub name_missing : (cs : List Column) (k : ℕ) → length cs ≤ k → [] ≡ column_name cs (Some (suc k))
name_missing [] k h = refl
name_missing (c ∷ cs) zero h = absurd (omega (arith, h))
name_missing (c ∷ cs) (suc k) h = name_missing cs k (omega (arith, h))

-- ---- the one record of a table

-- ---- the cells of the first record of a table

pub first_there : (cs : List Column) (d : Data) (rows all others : List Row) (q : Row) (cells : List Data) → d ≡ table_of rows → all ≡ rows → all ≡ q ∷ others → cells ≡ cells_in cs q → Some cells ≡ first_cells cs (rows_in d)
first_there cs d rows all others q cells e f g h =
    ap Some h ∙ ap (first_cells cs) (sym g ∙ f ∙ rows_back rows ∙ ap rows_in (sym e))
