use Rattle.std.proofs.Common.{◌≡◌, ◌++◌, length, map}
use Rattle.fx_tables.specs.NewColumn.{renaming_seen}
use Rattle.fx_eval.specs.Given.{argument_values, pairs_in}
use Rattle.fx_eval.specs.TableCalls.{AreNamePairs}
use Rattle.fx_eval.proofs.columns.renamings.Given as goal

abbrev pub invariant-loop-from : goal.invariant-loop-from
invariant-loop-from l = record {
  value : map renaming_seen l.renamings.items ++ pairs_in (map argument_values l.left.rest.items) ≡ pairs_in (map argument_values l.fn.answers.items);
  fine : AreNamePairs (map argument_values l.left.rest.items);
}

abbrev pub decreases-loop-from : goal.decreases-loop-from
decreases-loop-from l = length l.left.rest.items
