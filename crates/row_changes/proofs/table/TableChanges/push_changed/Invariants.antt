use Rattle.std.proofs.Common.{◌≡◌, ◌++◌, filter, map}
use Rattle.std.specs.Map.Iter.{deref_pair}
use Rattle.sql_meanings.specs.Lines.{is_within}
use Rattle.row_changes.specs.Overlay.{lines_of_changes, shown_lines}
use Rattle.row_changes.proofs.table.TableChanges.push_changed.Given as goal

abbrev pub invariant-loop-id : goal.invariant-loop-id
invariant-loop-id l = shown_lines l.lines.items ≡ shown_lines l.initial.lines.items ++ filter (is_within l.low l.high) (lines_of_changes (map deref_pair l.yielded))
