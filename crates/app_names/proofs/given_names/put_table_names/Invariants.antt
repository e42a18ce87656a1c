use Rattle.std.proofs.Common.{◌≡◌, ◌++◌, drop, map}
use Rattle.fx_core.specs.declared.schema.TableShape.{TableShape}
use Rattle.app_names.proofs.given_names.put_table_names.Given as goal

abbrev pub invariant-loop-table : goal.invariant-loop-table
invariant-loop-table l = l.names.items ++ map (λ (t : TableShape). t.name) (drop l.table-index l.frame.schema.tables) ≡ l.fn.names.items ++ map (λ (t : TableShape). t.name) l.frame.schema.tables
