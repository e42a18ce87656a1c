use Rattle.std.proofs.Common.{◌≡◌, ◌+◌, ◌++◌, filter, suc, take}
use Rattle.sql_meanings.specs.Lines.{is_within}
use Rattle.row_changes.specs.Overlay.{lines_from, shown_lines}
use Rattle.row_changes.proofs.table.TableChanges.push_added.Given as goal

abbrev pub invariant-loop-body : goal.invariant-loop-body
invariant-loop-body l = record {
  counted : l.last ≡ l.self.first + l.body-index;
  written : shown_lines l.lines.items ≡ shown_lines l.initial.lines.items ++ filter (is_within l.low l.high) (lines_from (suc l.self.first) (take l.body-index l.self.added.items));
}
