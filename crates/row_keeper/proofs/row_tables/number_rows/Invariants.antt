use Rattle.std.proofs.Common.{◌≡◌, [], ◌∷◌, map, take}
use Rattle.fx_core.specs.Lawful.{id_name}
use Rattle.row_queries.specs.declared.rows.Row.{Row}
use Rattle.row_queries.specs.TableRows.{id_value}
use Rattle.row_keeper.proofs.row_tables.number_rows.Given as goal

abbrev pub invariant-loop-row : goal.invariant-loop-row
invariant-loop-row l = l.records.items ≡ map (λ (r : Row). (id_name, id_value r.id) ∷ []) (take l.row-index l.rows)
