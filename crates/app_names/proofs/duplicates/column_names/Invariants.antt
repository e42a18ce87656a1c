use Rattle.std.proofs.Common.{◌≡◌, ◌++◌, drop, map}
use Rattle.fx_core.specs.declared.schema.Column.{Column}
use Rattle.app_names.proofs.duplicates.column_names.Given as goal

abbrev pub invariant-loop-column : goal.invariant-loop-column
invariant-loop-column l = l.names.items ++ map (λ (c : Column). c.name) (drop l.column-index l.columns) ≡ map (λ (c : Column). c.name) l.columns
