use Rattle.std.proofs.Common.{◌≡◌, ◌++◌, drop, length, map}
use Rattle.fx_core.specs.declared.schema.Column.{Column}
use Rattle.app_file.proofs.limits.put_table_names.Given as goal

abbrev pub invariant-loop-column : goal.invariant-loop-column
invariant-loop-column l =
    l.counts.items ++ map length (map (λ (c : Column). c.name) (drop l.column-index l.column-items))
    ≡ l.initial.counts.items ++ map length (map (λ (c : Column). c.name) l.column-items)
