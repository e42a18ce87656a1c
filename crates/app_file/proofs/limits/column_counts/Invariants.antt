use Rattle.std.proofs.Common.{◌≡◌, ◌++◌, drop, length, map}
use Rattle.fx_core.specs.declared.schema.TableShape.{TableShape}
use Rattle.app_file.proofs.limits.column_counts.Given as goal

abbrev pub invariant-loop-shape : goal.invariant-loop-shape
invariant-loop-shape l =
    l.counts.items ++ map (λ (t : TableShape). length t.columns) (drop l.shape-index l.shape-items) ≡ map (λ (t : TableShape). length t.columns) l.shape-items
