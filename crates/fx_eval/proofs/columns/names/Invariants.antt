use Rattle.std.proofs.Common.{◌≡◌, ◌++◌, map}
use Rattle.fx_eval.specs.Given.{argument_values, column_names_in}
use Rattle.fx_eval.specs.TableCalls.{AreColumnNames}
use Rattle.fx_eval.proofs.columns.names.Given as goal

abbrev pub invariant-loop-answer : goal.invariant-loop-answer
invariant-loop-answer l = record {
  value : l.names.items ++ column_names_in (map argument_values l.answer-iterator.rest.items) ≡ column_names_in (map argument_values l.fn.answers.items);
  fine : AreColumnNames (map argument_values l.answer-iterator.rest.items);
}
