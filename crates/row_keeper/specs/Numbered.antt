-- The query of the row of a number.
use Rattle.std.specs.Prelude.{ℕ, [], ◌∷◌, None}
use Rattle.fx_types.specs.declared.comparisons.Cmp.TheVariants.{Eq}
use Rattle.fx_value.specs.Keys.{key_bytes}
use Rattle.row_queries.specs.Conditions.{compares}
use Rattle.row_queries.specs.TableRows.{id_value}
use Rattle.row_queries.specs.declared.queries.Query.{Query}
use Rattle.row_keeper.specs.Rules.{only_key}

-- the row of a number
abbrev pub one_row : ℕ → ℕ → Query
one_row table id = record {
  table = table;
  column = 0;
  ranges = only_key (key_bytes (id_value id)) ∷ [];
  test = compares Eq 0 (id_value id);
  order = None;
  take = None;
}
